-- The parts of a run put together, call by call: from a fresh session on, whatever the system answers, what was read and what was
-- handed over stand to each other as `Stands` says.
use Rattle.std.specs.Prelude.{ℕ, zero, suc, ◌+◌, ◌<◌, ◌≤◌, min, ◌≡◌, ◌⊎◌, Bool, T, Option as Optional, Some, None, length, take, drop}
use Rattle.std.proofs.Common.{arith, sym, ◌∙◌, subst, inl, inr, ⊎_elim, lt→ltb, length-append, take_at, length-take-le}
use Rattle.std.proofs.Math.Path.{refl, ap}
use Rattle.std.proofs.Math.Bool.{true, false, not}
use mathlib.Core.List.{List, [], ◌++◌, append_assoc, append-nil}
use Rattle.std.proofs.lemmas.List.Edits.{sets-eq}
use Rattle.lists.specs.Tests.{both, at_most}
use Rattle.lists.specs.TestLaws.{at_most_true, at_most_false, cases, clash}
use Rattle.lists.specs.Texts.{Wrote}
use Rattle.lists.specs.TextLaws.{wrote_length}
use Rattle.map.specs.Views.{Lent}
use Rattle.transactions.specs.Views.{Logs, state_of, core_of}
use Rattle.console.specs.declared.session.Session.{Session}
use Rattle.console.specs.Program.{output}
use Rattle.console.specs.Sessions.{Standing, session_of, Started, due, Begins, with_places, Continues, Told, Runs}
use Rattle.console.specs.Finishes.{Finishes}
use Rattle.console.specs.WholeRuns.{told_start, told_fed, told_taken, told_piece, told_end, told_stopped}
use Rattle.shell.specs.declared.Work.{Work}
use Rattle.shell.specs.declared.system.Calls.{Calls}
use Rattle.shell.specs.Works.{bytes_moved, brought, broken, no_calls, write_answer, with_read, with_write, after_read, after_write, with_session, Stands, Rests, Reads, Owed, ReadMade, WriteMade, ReadDone, WriteDone, Turns, Closes, most_turns, Ran}

-- ---- texts

-- a text written at the start of the bytes is what stands there
text_there : {old new text : List ℕ} {next : ℕ} → Wrote old 0 text new next → take next new ≡ text
text_there {old} {new} {text} {next} h =
    ap (λ (n : ℕ). take n new) (let p : next ≡ length text = let q = h.place in omega arith in p)
    ∙ ap (take (length text)) (h.written ∙ sets-eq text old 0 h.within)
    ∙ take_at text (drop (0 + length text) old) (length text) refl

-- ---- the work after a call

pub read_done : {w r : Work} {c : Calls} {size : ℕ} → ReadMade w.calls size c → r ≡ with_read w c size → ReadDone w size r
read_done {w} {size = size} m e = record { got = m.got; moved = m.moved; after = e ∙ ap (λ (c : Calls). with_read w c size) m.after }

pub write_done : {w r : Work} {c : Calls} → WriteMade w.calls w.session.at c → r ≡ with_write w c → WriteDone w r
write_done {w} m e = record { written = m.written; after = e ∙ ap (with_write w) m.after }

-- ---- a fresh session

pub rests_start : {l : Lent} {g : Logs} {ws : List ℕ} {x : Session} {c : Calls} (input : List ℕ) → Begins l g (session_of ws x) → c ≡ no_calls
    → Rests l g ws input (record { session = x; count = 0; going = true; failed = false; calls = c })
rests_start {l} {g} {ws} {x} input b e =
    subst (λ (c : Calls). Rests l g ws input (record { session = x; count = 0; going = true; failed = false; calls = c })) (sym e)
    (record {
      stands =
          record {
            ready = b.fresh.ready;
            started = record { seen = []; after = b.after; opening = λ f. b.fresh.state };
            waits = sym b.at_is;
            count_fits = omega arith;
            fed = [];
            told = [];
            fed_count = refl;
            told_count = refl;
            line = [];
            tells = λ future. told_start future b;
          };
      goes = λ f. b.goes;
      ends = λ f. clash refl f;
      fails = refl;
    })

-- ---- a read

module _ {l : Lent} {g : Logs} {ws input : List ℕ} {w : Work} (h : Reads l g ws input w) where
  abbrev before : Stands l g ws input [] w
  before = h.rests.stands

  -- all of the piece before it was run
  all_run : length (take w.count input) ≤ w.session.next
  all_run = let e : length (take w.count input) ≡ w.count = length-take-le _ _ before.count_fits in let u = h.used in omega arith

  -- the bytes that it brought come next
  told_next : (more future : List ℕ) → Told ((before.fed ++ more) ++ future) l g (session_of ws (with_places w.session 0 0)) before.line more future (before.told ++ [])
  told_next more future =
      subst (λ (whole : List ℕ). Told whole l g (session_of ws (with_places w.session 0 0)) before.line more future (before.told ++ []))
      (sym (append_assoc before.fed more future))
      (told_piece ws w.session more 0 (before.tells (more ++ future)) all_run)

  stands_read : (new : List ℕ) (got : Optional ℕ) → Stands l g ws new [] (after_read w got (length new))
  stands_read new got =
      let n = bytes_moved got (length new) in
      let few : n ≤ length new = omega arith in
      record {
        ready = before.ready;
        started = record { seen = before.started.seen; after = before.started.after; opening = before.started.opening };
        waits = refl;
        count_fits = few;
        fed = before.fed ++ take n new;
        told = before.told;
        fed_count =
            let a : length (before.fed ++ take n new) ≡ length before.fed + length (take n new) = length-append before.fed (take n new) in
            let b : length (take n new) ≡ n = length-take-le n new few in
            let c = before.fed_count in
            omega arith;
        told_count = before.told_count;
        line = before.line;
        tells = told_next (take n new);
      }

  -- at the end of the input it brought none, and only the end is missing
  end_read : (new : List ℕ) (got : Optional ℕ) → brought got ≡ false → broken got ≡ false
      → before.told ++ due (state_of l g (core_of ws w.session.globals)) w.session.first before.line w.session.stopped [] 0 []
      ≡ output (before.fed ++ take (bytes_moved got (length new)) new)
  end_read new (Some zero) e f =
      ap (λ (t : List ℕ). t ++ due (state_of l g (core_of ws w.session.globals)) w.session.first before.line w.session.stopped [] 0 []) (sym (append-nil before.told))
      ∙ told_end (before.tells []) all_run
      ∙ ap (λ (n : ℕ). output (before.fed ++ take n new)) (let e : 0 ≡ min 0 (length new) = omega arith in e)
  end_read new (Some (suc k)) e f = absurd (subst T e (lt→ltb 0 (suc k) (omega arith)))
  end_read new None e f = clash refl f

  rests_read : (new : List ℕ) (got : Optional ℕ) → Rests l g ws new (after_read w got (length new))
  unfolding stands_read
  rests_read new got = record { stands = stands_read new got; goes = λ e. h.rests.goes h.goes; ends = end_read new got; fails = refl }

-- ---- lines

-- a text waits in the output: that of the lines run
pub stands_run : {l l' : Lent} {g g' : Logs} {ws ws' input old new : List ℕ} {w : Work} {y : Session} → Stands l g ws input [] w
    → Runs l g (session_of ws w.session) (take w.count input) old l' g' (session_of ws' y) new
    → Stands l' g' ws' input (take y.at new) (with_session w y)
stands_run {l} {l'} {g} {g'} {ws} {ws'} {input} {old} {new} {w} {y} h r =
    let c : Continues l g (session_of ws w.session) (take w.count input) old l' g' (session_of ws' y) new h.line
    = r.feeds.continues h.line (h.tells []).after in
    let t : Wrote old 0 c.text new y.at = subst (λ (n : ℕ). Wrote old n c.text new y.at) (sym h.waits) c.wrote in
    record {
      ready = r.feeds.ready;
      started = r.feeds.started;
      waits = length-take-le y.at new r.feeds.room;
      count_fits = h.count_fits;
      fed = h.fed;
      told = h.told;
      fed_count = h.fed_count;
      told_count = h.told_count;
      line = c.line;
      tells = λ future.
          subst (Told (h.fed ++ future) l' g' (session_of ws' y) c.line (take w.count input) future)
          (ap (λ (a : List ℕ). a ++ c.text) (append-nil h.told) ∙ ap (λ (a : List ℕ). h.told ++ a) (sym (text_there t)))
          (told_fed (h.tells future) c);
    }

-- ---- a write

module _ {l : Lent} {g : Logs} {ws input waiting : List ℕ} {w : Work} (h : Stands l g ws input waiting w) where
  stands_written : (written : Bool) → Stands l g ws input [] (after_write w written)
  stands_written written =
      record {
        ready = h.ready;
        started = record { seen = h.started.seen; after = h.started.after; opening = h.started.opening };
        waits = refl;
        count_fits = h.count_fits;
        fed = h.fed;
        told = h.told ++ waiting;
        fed_count = h.fed_count;
        told_count = length-append h.told waiting ∙ (let a = h.told_count in let b = h.waits in omega arith);
        line = h.line;
        tells = λ future.
            subst (Told (h.fed ++ future) l g (session_of ws (with_places w.session w.session.next 0)) h.line (take w.count input) future)
            (sym (append-nil (h.told ++ waiting)))
            (told_taken ws w.session 0 (h.tells future));
      }

  -- after a malformed line nothing is missing
  end_written : (written : Bool) → both (not (broken (write_answer written))) (not w.session.stopped) ≡ false → broken (write_answer written) ≡ false
      → (h.told ++ waiting) ++ due (state_of l g (core_of ws w.session.globals)) w.session.first h.line w.session.stopped [] 0 [] ≡ output h.fed
  unfolding due
  end_written false e f = clash refl f
  end_written true e f =
      let s : w.session.stopped ≡ true = not-false w.session.stopped e in
      ap (λ (b : Bool). (h.told ++ waiting) ++ due (state_of l g (core_of ws w.session.globals)) w.session.first h.line b [] 0 []) s
      ∙ append-nil (h.told ++ waiting)
      ∙ told_stopped (h.tells []) s
      ∙ ap output (append-nil h.fed)
    where
      not-false : (b : Bool) → not b ≡ false → b ≡ true
      not-false true q = refl
      not-false false q = clash refl q

  rests_written : (written : Bool) → Rests l g ws input (after_write w written)
  unfolding stands_written
  rests_written written = record { stands = stands_written written; goes = goes written; ends = end_written written; fails = refl }
    where
      open_still : (b : Bool) → not b ≡ true → b ≡ false
      open_still true q = clash refl (sym q)
      open_still false q = refl

      goes : (written : Bool) → both (not (broken (write_answer written))) (not w.session.stopped) ≡ true → w.session.stopped ≡ false
      goes true e = open_still w.session.stopped e
      goes false e = clash e refl

-- ---- what a write asks

-- what waits is due
pub owed_waiting : {l : Lent} {g : Logs} {ws input text : List ℕ} {w : Work} → Stands l g ws input text w → w.going ≡ true → Owed l g ws input w text
owed_waiting {text = text} h e = record { waiting = text; stands = h; between = λ q. refl; last = λ q. clash e q }

-- at the end, the rest
pub owed_last : {l : Lent} {g : Logs} {ws input old new : List ℕ} {w : Work} {next : ℕ} → Rests l g ws input w → w.going ≡ false → w.failed ≡ false
    → Finishes l g (session_of ws w.session) old new next → Owed l g ws input w (take next new)
owed_last {l} {g} {ws} {input} {old} {new} {w} {next} h e f q =
    let s = h.stands in
    let text : List ℕ = due (state_of l g (core_of ws w.session.globals)) w.session.first s.line w.session.stopped [] 0 [] in
    let t : Wrote old 0 text new next = subst (λ (n : ℕ). Wrote old n text new next) (sym s.waits) (q.wrote s.line (s.tells []).after) in
    record {
      waiting = [];
      stands = s;
      between = λ b. clash b e;
      last = λ b. ap (λ (a : List ℕ). s.told ++ a) (text_there t) ∙ h.ends e f;
    }

-- the last line lies in the output
pub finish_within : {l : Lent} {g : Logs} {x : Standing} {old new : List ℕ} {next : ℕ} → Started l g x → Finishes l g x old new next → next ≤ length new
finish_within {l} {g} {x} {old} {new} {next} s f =
    let w = f.wrote s.seen s.after in
    let a = w.within in
    let b = w.place in
    let c : length new ≡ length old = wrote_length w in
    omega arith

-- ---- a turn

pub turn_read : {l : Lent} {g : Logs} {ws input out input' : List ℕ} {w r : Work} → w.count ≤ w.session.next → ReadDone w (length input') r
    → Turns l g ws input out w l g ws input' out r
turn_read u d = record { reads = λ v. (refl, refl, refl, d); runs = λ v. absurd (omega arith) }

pub turn_run : {l l' : Lent} {g g' : Logs} {ws ws' input out input' out' : List ℕ} {w r : Work} {x : Session} → w.session.next < w.count
    → Runs l g (session_of ws w.session) (take w.count input) out l' g' (session_of ws' x) out' → WriteDone (with_session w x) r
    → Turns l g ws input out w l' g' ws' input' out' r
turn_run {x = x} u h d = record { reads = λ v. absurd (omega arith); runs = λ v. (x, h, d) }

pub rests_turned : {l : Lent} {g : Logs} {ws input : List ℕ} {w r : Work} (new : List ℕ) → Reads l g ws input w → ReadDone w (length new) r → Rests l g ws new r
rests_turned {l} {g} {ws} new h d = subst (Rests l g ws new) (sym d.after) (rests_read h new d.got)

pub rests_settled : {l : Lent} {g : Logs} {ws input waiting : List ℕ} {w r : Work} → Stands l g ws input waiting w → WriteDone w r → Rests l g ws input r
rests_settled {l} {g} {ws} {input} h d = subst (Rests l g ws input) (sym d.after) (rests_written h d.written)

-- a turn makes one call, which reads or hands over at most what the buffers hold
pub record Grows (w : Work) (size room : ℕ) (r : Work) : Type 0 where
  pub made : r.calls.made ≡ w.calls.made + 1
  pub fed : r.calls.fed ≤ w.calls.fed + size
  pub told : r.calls.told ≤ w.calls.told + room

grown_read : {w r : Work} (size room : ℕ) → ReadDone w size r → Grows w size room r
grown_read {w} {r} size room d = subst (Grows w size room) (sym d.after) (record { made = refl; fed = omega arith; told = omega arith })

grown_write : {w r : Work} (size room : ℕ) → w.session.at ≤ room → WriteDone w r → Grows w size room r
grown_write {w} size room h d = subst (Grows w size room) (sym d.after) (record { made = refl; fed = omega arith; told = omega arith })

pub turn_grows : {l l' : Lent} {g g' : Logs} {ws ws' input out input' out' : List ℕ} {w r : Work} → Turns l g ws input out w l' g' ws' input' out' r
    → Grows w (length input') (length out) r
turn_grows {l} {l'} {g} {g'} {ws} {ws'} {input} {out} {input'} {out'} {w} {r} t =
    ⊎_elim
    (λ e. grown_read (length input') (length out) (t.reads (at_most_true w.count w.session.next e)).3)
    (λ e. ran (t.runs (at_most_false w.count w.session.next e)))
    (cases (at_most w.count w.session.next))
  where
    ran : (x : Session) × Runs l g (session_of ws w.session) (take w.count input) out l' g' (session_of ws' x) out' × WriteDone (with_session w x) r
        → Grows w (length input') (length out) r
    ran (x, h, d) =
        let a = h.feeds.room in
        let b = h.feeds.size in
        let e : Grows (with_session w x) (length input') (length out) r = grown_write (length input') (length out) (omega arith) d in
        record { made = e.made; fed = e.fed; told = e.told }

-- ---- the end, and a whole run

pub closes_failed : {l : Lent} {g : Logs} {ws input : List ℕ} {w : Work} → w.failed ≡ true → Closes l g ws input w w.calls
closes_failed e = record { failed = λ f. refl; goes = λ f. refl; ends = λ f q. clash e q }

pub closes_going : {l : Lent} {g : Logs} {ws input : List ℕ} {w : Work} → w.going ≡ true → Closes l g ws input w w.calls
closes_going e = record { failed = λ f. refl; goes = λ f. refl; ends = λ f. clash e f }

pub closes_ended : {l : Lent} {g : Logs} {ws input old new : List ℕ} {w : Work} {next : ℕ} {c : Calls} → Rests l g ws input w → w.going ≡ false → w.failed ≡ false
    → Finishes l g (session_of ws w.session) old new next → WriteMade w.calls next c → Closes l g ws input w c
unfolding owed_last
closes_ended {new = new} {w = w} {next = next} {c = c} h e f q m =
    let fits : length (take next new) ≡ next = length-take-le next new (finish_within h.stands.started q) in
    record {
      failed = λ t. clash t f;
      goes = λ t. clash t e;
      ends = λ t u s. (take next new, subst (λ (n : ℕ). WriteMade w.calls n c) (sym fits) m, (owed_last s e f q).last e);
    }

-- a run that ended without its last line
ran_short : {l : Lent} {g : Logs} {ws input : List ℕ} {w : Work} → Rests l g ws input w → (broken w.calls.answer ≡ true) ⊎ (most_turns ≤ w.calls.made) → Ran w.calls
ran_short {l} {g} {ws} {input} {w} h short =
    let s = h.stands in
    let rest : List ℕ = due (state_of l g (core_of ws w.session.globals)) w.session.first s.line w.session.stopped (take w.count input) w.session.next [] in
    record {
      fed = s.fed;
      told = s.told;
      fed_count = s.fed_count;
      told_count = s.told_count;
      begins = (rest, ap (λ (t : List ℕ). t ++ rest) (sym (append-nil s.told)) ∙ sym (s.tells []).is ∙ ap output (append-nil s.fed));
      whole = λ e m. ⊎_elim (λ f. clash f e) (λ k. absurd (omega arith)) short;
    }

pub ran : {l : Lent} {g : Logs} {ws input : List ℕ} {w : Work} {c : Calls} → Rests l g ws input w → Closes l g ws input w c
    → (w.going ≡ true → most_turns ≤ w.calls.made) → Ran c
ran {l} {g} {ws} {input} {w} {c} h d most =
    ⊎_elim
    (λ e. subst Ran (sym (d.failed e)) (ran_short h (inl (sym h.fails ∙ e))))
    (λ e. ⊎_elim (λ f. subst Ran (sym (d.goes f)) (ran_short h (inr (most f)))) (λ f. ended (d.ends f e h)) (cases w.going))
    (cases w.failed)
  where
    ended : (text : List ℕ) × WriteMade w.calls (length text) c × (h.stands.told ++ text ≡ output h.stands.fed) → Ran c
    ended (text, m, e) =
        let s = h.stands in
        subst Ran (sym m.after)
        (record {
          fed = s.fed;
          told = s.told ++ text;
          fed_count = s.fed_count;
          told_count = length-append s.told text ∙ (let a = s.told_count in omega arith);
          begins = ([], append-nil (s.told ++ text) ∙ e);
          whole = λ q k. e;
        })
