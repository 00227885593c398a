-- What each event of the parser makes of a session.
use Rattle.std.specs.Prelude.{ℕ, ◌-◌, ◌<◌, ◌≤◌, ◌≡◌, refl, Bool, true, false, drop}
use native.Mathlib.Omega.{arith}
use Rattle.std.proofs.Math.Path.{sym, ap, subst}
use Rattle.std.proofs.Common.{◌∙◌}
use Rattle.std.proofs.Math.Logic.{⊎_elim}
use mathlib.Core.List.{List, [], ◌∷◌, ◌++◌, append_assoc, append-nil}
use Rattle.std.proofs.Math.ListN.{length, length-drop}
use Rattle.lists.specs.Tests.{pick}
use Rattle.lists.specs.TestLaws.{cases, clash, same_refl}
use Rattle.lists.specs.Rows.{has}
use Rattle.lists.specs.Counting.{has_cons, has_append}
use Rattle.lists.specs.Texts.{Wrote}
use Rattle.lists.specs.TextLaws.{wrote_length}
use Rattle.spec.specs.Records.{standard_map}
use Rattle.spec.specs.Steps.{State, fresh, answer, next}
use Rattle.map.specs.Views.{Lent}
use Rattle.transactions.specs.Cores.{Core}
use Rattle.transactions.specs.Views.{Logs, state_of}
use Rattle.transactions.specs.Ready.{Ready}
use Rattle.buffers.specs.Buffers.{Buffers, buffers}
use Rattle.engine.specs.declared.steps.Op.{Op}
use Rattle.engine.specs.Performs.{Performed, Performs}
use Rattle.script.specs.declared.Line.{Line}
use Rattle.script.specs.declared.Parser.{Parser}
use Rattle.script.specs.declared.Parser.TheVariants.{Start}
use Rattle.script.specs.declared.Event.{Event}
use Rattle.script.specs.declared.Event.TheVariants as event
use Rattle.script.specs.declared.Parsed.{Parsed}
use Rattle.script.specs.Grammar.{letter_of, step_of, guard_line}
use Rattle.script.specs.Parsing.{After, Whole, Says, Parses}
use Rattle.script.specs.Tokens.{after_fresh}
use Rattle.answers.specs.Output.{answer_text, guarded_answer, malformed_line}
use Rattle.console.specs.Program.{places, answer_line, written_from}
use Rattle.console.specs.ProgramLaws.{clear_last}
use Rattle.console.specs.Replies.{Asks, reply_text, Replies}
use Rattle.transactions.specs.Starts.{guarded_core}
use Rattle.console.specs.Sessions.{Standing, Started, due_for, due, RunsLine, EndsMalformed, BeginsGuarded, RunsGuard}
use Rattle.console.specs.DueLaws.{due_clear, due_line, due_malformed, due_spoiled, due_guarded, due_misplaced}
use Rattle.console.specs.Places.{step_is}

fresh_line : {p : Parser} → p ≡ Start → After [] p
fresh_line e = subst (After []) (sym e) after_fresh

-- a session at the start of a line, some line having been read through
line_started : {l : Lent} {g : Logs} {c : Core} {p : Parser} {n at : ℕ} {s : Bool} → p ≡ Start
    → Started l g (record { core = c; parser = p; next = n; at = at; stopped = s; first = false })
line_started e = record { seen = []; after = fresh_line e; opening = λ q. clash q refl }

-- bytes after those seen are read
taken_some : (seen taken l : List ℕ) → has 10 seen ≡ false → Whole l (seen ++ taken) → 0 < length taken
taken_some seen [] l h w =
    clash
    (ap (has 10) (sym (append-nil seen) ∙ w.fed) ∙ has_append 10 l (10 ∷ []) ∙ (rw w.unbroken (has_cons 10 10 [] ∙ (rw (same_refl 10)))))
    h
taken_some seen (b ∷ taken) l h w = omega arith

module _ (l : Lent) (g : Logs) (x : Standing) (input old : List ℕ) (t : Parsed) (f : x.stopped ≡ false) (n : x.next < length input)
    (k : Started l g x) (p : (seen : List ℕ) → After seen x.parser → Parses seen input x.next t) where
  -- what is due, in terms of the bytes taken
  due_is : (seen : List ℕ) (a : After seen x.parser) (future : List ℕ)
      → due (state_of l g x.core) x.first seen x.stopped input x.next future
      ≡ due_for (state_of l g x.core) x.first seen ((p seen a).taken ++ (drop t.next input ++ future))
  unfolding due
  due_is seen a future =
      ap (λ (b : Bool). pick b [] (due_for (state_of l g x.core) x.first seen (drop x.next input ++ future))) f
      ∙ ap (λ (z : List ℕ). due_for (state_of l g x.core) x.first seen (z ++ future)) (p seen a).cut.rest
      ∙ ap (due_for (state_of l g x.core) x.first seen) (append_assoc (p seen a).taken (drop t.next input) future)

  says_as : (e : Event) → t.event ≡ e → (seen : List ℕ) (a : After seen x.parser) → Says e t.parser (seen ++ (p seen a).taken)
  says_as e q seen a = subst (λ (z : Event). Says z t.parser (seen ++ (p seen a).taken)) q (p seen a).says

  still : pick {A = ℕ} x.stopped 0 1 ≡ 1
  still = ap (λ (b : Bool). pick {A = ℕ} b 0 1) f

  -- the end of the input
  pub turn_ended : Ready l g x.core → x.at ≤ length old → t.event ≡ event.SliceEnd
      → RunsLine l g x input old l g (record { core = x.core; parser = t.parser; next = t.next; at = x.at; stopped = false; first = x.first }) old
  unfolding Says due
  turn_ended r h e =
      record {
        feeds =
            record {
              ready = r;
              started =
                  record {
                    seen = k.seen ++ (p k.seen k.after).taken;
                    after = says_as event.SliceEnd e k.seen k.after;
                    opening = k.opening;
                  };
              size = refl;
              room = h;
              continues = λ seen a.
                  record {
                    text = [];
                    wrote = record { written = refl; within = omega arith; place = omega arith };
                    line = seen ++ (p seen a).taken;
                    after = says_as event.SliceEnd e seen a;
                    rest = λ future.
                        due_is seen a future
                        ∙ due_clear (state_of l g x.core) x.first seen (p seen a).taken (drop t.next input ++ future)
                        (clear_last seen (p seen a).taken (says_as event.SliceEnd e seen a).unbroken);
                  };
            };
        fewer =
            let q : length (drop t.next input) ≡ 0 = ap length ((p k.seen k.after).whole e) in
            let w : length (drop t.next input) ≡ length input - t.next = length-drop t.next input in
            let z = still in
            omega arith;
      }

  -- `?` is due
  ends_malformed : {new : List ℕ} {y : Standing} → Ready l g x.core → EndsMalformed x t.parser t.next old new y → t.parser ≡ Start
      → ((seen : List ℕ) (a : After seen x.parser) (rest : List ℕ) → due_for (state_of l g x.core) x.first seen ((p seen a).taken ++ rest) ≡ malformed_line)
      → RunsLine l g x input old l g y new
  unfolding due
  ends_malformed {new} {y} r m e d =
      subst (λ (z : Standing). RunsLine l g x input old l g z new) (sym m.after)
      (record {
        feeds =
            record {
              ready = r;
              started = line_started e;
              size = wrote_length w;
              room = let a = w.within in let b = w.place in let z : length new ≡ length old = wrote_length w in omega arith;
              continues = λ seen a.
                  record {
                    text = malformed_line;
                    wrote = w;
                    line = [];
                    after = fresh_line e;
                    rest = λ future. due_is seen a future ∙ d seen a (drop t.next input ++ future) ∙ sym (append-nil malformed_line);
                  };
            };
        fewer =
            let c = (p k.seen k.after).cut.place in
            let z = still in
            omega arith;
      })
    where
      w : Wrote old x.at malformed_line new y.at
      w = m.wrote

  -- a malformed line
  pub turn_malformed : {new : List ℕ} {y : Standing} → Ready l g x.core → t.event ≡ event.Malformed
      → EndsMalformed x t.parser t.next old new y → RunsLine l g x input old l g y new
  unfolding Says
  turn_malformed r e m = ends_malformed r m (says_as event.Malformed e k.seen k.after).1 nothing
    where
      nothing : (seen : List ℕ) (a : After seen x.parser) (rest : List ℕ)
          → due_for (state_of l g x.core) x.first seen ((p seen a).taken ++ rest) ≡ malformed_line
      nothing seen a rest =
          ⊎_elim
          (λ z. due_malformed (state_of l g x.core) x.first k.opening seen (p seen a).taken a.unbroken z.0 rest z.1 z.2)
          (λ z. due_spoiled (state_of l g x.core) x.first k.opening seen (p seen a).taken a.unbroken rest z.0 z.1)
          (says_as event.Malformed e seen a).0

  -- the first line is G
  turn_opening : {new : List ℕ} {y : Standing} → Ready l g (guarded_core x.core) → state_of l g (guarded_core x.core) ≡ fresh (standard_map true)
      → x.first ≡ true → t.event ≡ event.Guard → BeginsGuarded x t.parser t.next old new y → RunsLine l g x input old l g y new
  unfolding Says due due_for
  turn_opening {new} {y} r q b e m =
      subst (λ (z : Standing). RunsLine l g x input old l g z new) (sym m.after)
      (record {
        feeds =
            record {
              ready = r;
              started = line_started (says_as event.Guard e k.seen k.after).1;
              size = wrote_length w;
              room = let a = w.within in let c = w.place in let z : length new ≡ length old = wrote_length w in omega arith;
              continues = λ seen a.
                  record {
                    text = guarded_answer;
                    wrote = w;
                    line = [];
                    after = fresh_line (says_as event.Guard e seen a).1;
                    rest = λ future.
                        due_is seen a future
                        ∙ due_guarded (state_of l g x.core) x.first seen (p seen a).taken (drop t.next input ++ future) b (says_as event.Guard e seen a).0
                        ∙ ap (λ (σ : State). guarded_answer ++ written_from σ [] (drop t.next input ++ future)) (sym q);
                  };
            };
        fewer =
            let c = p k.seen k.after in
            let d = c.cut.place in
            let v : 0 < length c.taken = taken_some k.seen c.taken guard_line k.after.unbroken (says_as event.Guard e k.seen k.after).0 in
            let z = still in
            omega arith;
      })
    where
      w : Wrote old x.at guarded_answer new y.at
      w = m.wrote

  -- a line G, the first or another one
  pub turn_guard : {new : List ℕ} {y : Standing} → Ready l g x.core
      → (x.first ≡ true → Ready l g (guarded_core x.core) × (state_of l g (guarded_core x.core) ≡ fresh (standard_map true)))
      → t.event ≡ event.Guard → RunsGuard x t.parser t.next old new y → RunsLine l g x input old l g y new
  unfolding Says
  turn_guard r o e m =
      ⊎_elim
      (λ b. turn_opening (o b).0 (o b).1 b e (m.begins b))
      (λ b.
      ends_malformed r (m.ends b) (says_as event.Guard e k.seen k.after).1
      (λ seen a rest.
      due_misplaced (state_of l g x.core) x.first seen (p seen a).taken rest b a.unbroken (says_as event.Guard e seen a).0))
      (cases x.first)

  -- a line
  pub turn_line : {u : Line} {o : Op} {ks vs os : List ℕ} {b' : Buffers} {l' : Lent} {g' : Logs} {d : Performed} {c : ℕ} {new : List ℕ} {at : ℕ}
      → t.event ≡ event.Line u → Asks u o → length ks ≡ places → length vs ≡ places → length os ≡ places
      → Performs l g x.core o (buffers ks vs os) l' g' b' d
      → c ≡ letter_of u → Replies c d.reply b' old x.at new at
      → RunsLine l g x input old l' g' (record { core = d.core; parser = t.parser; next = t.next; at = at; stopped = false; first = false }) new
  unfolding Says due due_for
  turn_line {u} {o} {ks} {vs} {os} {b'} {l'} {g'} {d} {c} {new} {at} e a m m' m'' q j w =
      record {
        feeds =
            record {
              ready = q.refines.ready;
              started = line_started (says_as (event.Line u) e k.seen k.after).3;
              size = wrote_length w.wrote;
              room = let y = w.wrote.within in let z = w.wrote.place in let v : length new ≡ length old = wrote_length w.wrote in omega arith;
              continues = λ seen s.
                  record {
                    text = reply_text c d.reply b';
                    wrote = w.wrote;
                    line = [];
                    after = fresh_line (says_as (event.Line u) e seen s).3;
                    rest = λ future. due_is seen s future ∙ line_told seen s (drop t.next input ++ future);
                  };
            };
        fewer =
            let r = p k.seen k.after in
            let y = r.cut.place in
            let m = says_as (event.Line u) e k.seen k.after in
            let v : 0 < length r.taken = taken_some k.seen r.taken m.0 k.after.unbroken m.1 in
            let z = still in
            omega arith;
      }
    where
      σ : State
      σ = state_of l g x.core

      text_is : answer_line u (answer σ (step_of places u)) ≡ reply_text c d.reply b'
      text_is =
          unfold answer_line reply_text in
          (λ i. sym j i ∷ answer_text ((ap (answer σ) (sym (step_is ks vs os a m m' m'')) ∙ sym q.refines.says) i) ++ (10 ∷ []))

      state_is : next σ (step_of places u) ≡ state_of l' g' d.core
      state_is = ap (next σ) (sym (step_is ks vs os a m m' m'')) ∙ sym q.refines.state

      line_told : (seen : List ℕ) (s : After seen x.parser) (rest : List ℕ)
          → due_for σ x.first seen ((p seen s).taken ++ rest) ≡ reply_text c d.reply b' ++ written_from (state_of l' g' d.core) [] rest
      line_told seen s rest =
          let m = says_as (event.Line u) e seen s in
          due_line σ x.first k.opening seen (p seen s).taken s.unbroken u m.0 rest m.1 m.2
          ∙ (λ i. text_is i ++ written_from (state_is i) [] rest)
