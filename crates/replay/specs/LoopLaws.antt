-- The loop over all codes: what stands after i of them, and the promise at its end.
use Rattle.std.specs.Prelude.{◌⊎◌, ℕ, ◌+◌, ◌-◌, ◌*◌, ◌/◌, ◌%◌, ◌<◌, ◌≤◌, ◌≡◌, refl, Option as Optional, List, [], ◌∷◌, ◌++◌, length, drop}
use Rattle.std.proofs.Common.{le_antisymm, ⊎_elim, zero-le, arith, sym, ap, ◌∙◌, subst, append-nil, append_assoc, length-append, length-drop}
use Rattle.std.proofs.Math.Option.{none}
use Rattle.std.proofs.Math.Seq.{length-sets}
use Rattle.lists.specs.Tests.{pick, same}
use Rattle.lists.specs.Texts.{Wrote}
use Rattle.lists.specs.TextLaws.{wrote_join, wrote_length}
use Rattle.spec.specs.Records.{Made}
use Rattle.spec.specs.Maps.{MapState, contents}
use Rattle.spec.specs.Steps.{Places, State, fresh}
use Rattle.spec.specs.Claim.{SerialRun}
use Rattle.spec.specs.Exports.{Exporting, Exchange, starting_at, job_events}
use Rattle.calls.proofs.CallLaws.{map_in, reached_good}
use Rattle.map.specs.Views.{Lent, map_of}
use Rattle.buffers.specs.Buffers.{places_of}
use Rattle.exports.specs.declared.Export.{Export}
use Rattle.exports.specs.Exporting.{ExportedRows, export_in, ExportHeld, Space}
use Rattle.transactions.specs.Cores.{Core}
use Rattle.transactions.specs.Views.{Logs, made_of, state_of}
use Rattle.transactions.specs.Starts.{Fresh}
use Rattle.codes.specs.declared.Code.{Code}
use Rattle.replay.specs.declared.stops.Stop.{Stop}
use Rattle.replay.specs.declared.stops.Stop.TheVariants as stop
use Rattle.replay.specs.Replays.{ReplayEnd, Ran, ended, step_words, told_words, ran, all_words, left_in, addresses_by, values_by, owners_by, filed_by, FilesFit, SpaceBecomes, Whole, whole, exporting_in, WholeReady, run_of, Replays}
use Rattle.replay.specs.ToldExports.{Tells, nothing_told}
use Rattle.replay.specs.ToldLaws.{tells_join, tells_serial, tells_state}
use Rattle.replay.specs.RunLaws.{code_at, words_from, drop_code, ran_with, all_followed_by, chained, tally, TakesCode}

-- ---- the words that make no whole code

abbrev pub rest_stop : ℕ → Stop
rest_stop n = pick (same n 0) stop.Complete stop.Meaningless

ran_rest : (m : Places) (n : ℕ) (ξ : Exporting) (room : ℕ) (ws : List ℕ) → length ws < step_words → ran m n ξ room ws ≡ ended (rest_stop (length ws)) ξ
unfolding ran same
ran_rest m n ξ room [] h = refl
ran_rest m n ξ room (k ∷ []) h = refl
ran_rest m n ξ room (k ∷ a ∷ []) h = refl
ran_rest m n ξ room (k ∷ a ∷ b ∷ []) h = refl
ran_rest m n ξ room (k ∷ a ∷ b ∷ c ∷ []) h = refl
ran_rest m n ξ room (k ∷ a ∷ b ∷ c ∷ d ∷ []) h = refl
ran_rest m n ξ room (k ∷ a ∷ b ∷ c ∷ d ∷ e ∷ []) h = refl
ran_rest m n ξ room (k ∷ a ∷ b ∷ c ∷ d ∷ e ∷ f ∷ ws) h = absurd (let z : ⊥ = omega arith in z)

-- ---- buffers

pub left_length : (f : Exchange → List ℕ) (es : List Exchange) (ks : List ℕ) → length (left_in f es ks) ≡ length ks
unfolding left_in
left_length f [] ks = refl
left_length f (e ∷ es) ks = left_length f es _ ∙ length-sets ks 0 (f e)

pub left_append : (f : Exchange → List ℕ) (es fs : List Exchange) (ks : List ℕ) → left_in f fs (left_in f es ks) ≡ left_in f (es ++ fs) ks
unfolding left_in
left_append f [] fs ks = refl
left_append f (e ∷ es) fs ks = left_append f es fs _

-- as many as before
module _ {es : List Exchange} {s s' : Space} (h : SpaceBecomes es s s') where
  left_places : places_of s'.portion ≡ places_of s.portion
  left_places =
      λ i. record {
        addresses = (ap length h.addresses ∙ left_length addresses_by es s.portion.addresses) i;
        values = (ap length h.values ∙ left_length values_by es s.portion.values) i;
        owners = (ap length h.owners ∙ left_length owners_by es s.portion.owners) i;
      }

  left_bytes : length s'.bytes ≡ length s.bytes
  left_bytes = ap length h.bytes ∙ left_length filed_by es s.bytes

fits_append : (n : ℕ) (es fs : List Exchange) → FilesFit n es → FilesFit n fs → FilesFit n (es ++ fs)
unfolding FilesFit
fits_append n [] fs h k = k
fits_append n (e ∷ es) fs h k = (h.0, fits_append n es fs h.1 k)

left_on : {es fs : List Exchange} {s s' s'' : Space} → SpaceBecomes es s s' → SpaceBecomes fs s' s'' → SpaceBecomes (es ++ fs) s s''
left_on {es} {fs} {s} h k =
    record {
      addresses = k.addresses ∙ ap (left_in addresses_by fs) h.addresses ∙ left_append addresses_by es fs s.portion.addresses;
      values = k.values ∙ ap (left_in values_by fs) h.values ∙ left_append values_by es fs s.portion.values;
      owners = k.owners ∙ ap (left_in owners_by fs) h.owners ∙ left_append owners_by es fs s.portion.owners;
      bytes = k.bytes ∙ ap (left_in filed_by fs) h.bytes ∙ left_append filed_by es fs s.bytes;
      fits = fits_append (length s.bytes) es fs h.fits (subst (λ (n : ℕ). FilesFit n fs) (left_bytes h) k.fits);
    }

words_append : (es fs : List Exchange) → all_words (es ++ fs) ≡ all_words es ++ all_words fs
unfolding all_words
words_append [] fs = refl
words_append (e ∷ es) fs =
    ap (λ (ws : List ℕ). told_words e ++ ws) (words_append es fs) ∙ sym (append_assoc (told_words e) (all_words es) (all_words fs))

-- ---- the promise, once the run is known

ends : {x : Made} {words : List ℕ} {s₀ : Space} {out₀ : List ℕ} {h : Whole} {s : Space} {out : List ℕ} {at i : ℕ} {y : Stop} {es : List Exchange} → WholeReady h
    → run_of x words s₀ out₀ ≡ record { told = es; stop = y; after = exporting_in h } → i ≡ length es → Wrote out₀ 0 (all_words es) out at → SpaceBecomes es s₀ s
    → Tells (starting_at (fresh x)) es (exporting_in h)
    → Replays x words s₀ out₀ h.map h.logs h.exported s out (record { core = h.core; export = h.export; taken = i; written = at; stop = y })
ends {x} {words} {s₀} {out₀} {h} {s} {out} {at} {i} {y} {es} r e n w a k =
    let f : (run_of x words s₀ out₀).told ≡ es = ap (λ (z : Ran). z.told) e in
    record {
      ready = r;
      after = sym (ap (λ (z : Ran). z.after) e);
      stop = sym (ap (λ (z : Ran). z.stop) e);
      taken = n ∙ ap length (sym f);
      answers = subst (λ (fs : List Exchange). Wrote out₀ 0 (all_words fs) out at) (sym f) w;
      space = subst (λ (fs : List Exchange). SpaceBecomes fs s₀ s) (sym f) a;
      tells = subst (λ (fs : List Exchange). Tells (starting_at (fresh x)) fs (exporting_in h)) (sym f) k;
      serial =
          subst (λ (fs : List Exchange). SerialRun (job_events fs) (contents (map_of h.map h.core.sizes))) (sym f)
          (subst (λ (m : MapState). SerialRun (job_events es) (contents m)) (map_in h.map h.logs h.core) (tells_serial x (reached_good h.map h.logs h.core x _ (tells_state k) r.engine) k));
    }

no_steps : (es : List Exchange) → length es ≡ 0 → es ≡ []
no_steps [] q = refl
no_steps (y ∷ ys) q = absurd (let b : ⊥ = omega arith in b)

-- ---- after i codes

pub record Replaying (x : Made) (words : List ℕ) (s₀ : Space) (out₀ : List ℕ) (h : Whole) (s : Space) (out : List ℕ) (at i : ℕ) : Type 0 where
  pub told : List Exchange
  pub ready : WholeReady h
  pub wrote : Wrote out₀ 0 (all_words told) out at
  pub run : run_of x words s₀ out₀ ≡ all_followed_by told (ran_with s₀ (exporting_in h) (length out₀ - at) (drop (step_words * i) words))
  pub count : i ≡ length told
  pub inside : i ≤ length words / step_words
  pub space : SpaceBecomes told s₀ s
  pub tells : Tells (starting_at (fresh x)) told (exporting_in h)

-- a fresh map, and no export open
fresh_whole : {l : Lent} {g : Logs} {x : Made} {c : Core} (xs : ExportedRows) (e : Optional Export) → Fresh l g x c → export_in xs e ≡ none
    → starting_at (fresh x) ≡ exporting_in (whole l g c xs e)
fresh_whole xs e f o = λ i. record { state = sym f.state i; export = sym o i }

pub replaying_start : {l : Lent} {g : Logs} {c : Core} {xs : ExportedRows} {e : Optional Export} (x : Made) (words : List ℕ) (s : Space) (out : List ℕ) → Fresh l g x c
    → (export_in xs e ≡ none) × ExportHeld e → Replaying x words s out (whole l g c xs e) s out 0 0
unfolding all_words left_in FilesFit
replaying_start {l} {g} {c} {xs} {e} x words s out f o =
    record {
      told = [];
      ready = record { engine = f.ready; export = o.1 };
      wrote = record { written = refl; within = omega arith; place = refl };
      run =
          ap (λ (ξ : Exporting). ran_with s ξ (length out) words) (fresh_whole xs e f o.0)
          ∙ ap (λ (n : ℕ). ran_with s (exporting_in (whole l g c xs e)) n words) (let z : length out ≡ length out - 0 = omega arith in z);
      count = refl;
      inside = zero-le;
      space = record { addresses = refl; values = refl; owners = refl; bytes = refl; fits = tt };
      tells = subst (Tells (starting_at (fresh x)) []) (fresh_whole xs e f o.0) nothing_told;
    }

-- a fresh start tells what the map is made with
core_made : {l : Lent} {g : Logs} {x : Made} {c : Core} → Fresh l g x c → made_of c ≡ x
unfolding state_of
core_made f = ap (λ (σ : State). σ.made) f.state

pub fresh_as : {l : Lent} {g : Logs} {x : Made} {c : Core} → Fresh l g x c → Fresh l g (made_of c) c
fresh_as {l} {g} {c = c} f = subst (λ (y : Made). Fresh l g y c) (sym (core_made f)) f

pub replays_as : {l l' : Lent} {g g' : Logs} {xs : ExportedRows} {x : Made} {c : Core} {words : List ℕ} {s s' : Space} {out out' : List ℕ} {r : ReplayEnd} → Fresh l g x c
    → Replays (made_of c) words s out l' g' xs s' out' r → Replays x words s out l' g' xs s' out' r
replays_as {l' = l'} {g' = g'} {xs = xs} {words = words} {s} {s'} {out} {out'} {r} f =
    subst (λ (y : Made). Replays y words s out l' g' xs s' out' r) (core_made f)

-- the buffers keep their lengths, and the place is in the answer buffer
module _ {x : Made} {words : List ℕ} {s₀ : Space} {out₀ : List ℕ} {h : Whole} {s : Space} {out : List ℕ} {at i : ℕ} (p : Replaying x words s₀ out₀ h s out at i) where
  pub replaying_places : places_of s.portion ≡ places_of s₀.portion
  replaying_places = left_places p.space

  pub replaying_bytes : length s.bytes ≡ length s₀.bytes
  replaying_bytes = left_bytes p.space

  pub replaying_out : length out ≡ length out₀
  replaying_out = wrote_length p.wrote

  pub replaying_at : at ≤ length out
  replaying_at =
      let a : at ≡ 0 + length (all_words p.told) = p.wrote.place in
      let b : 0 + length (all_words p.told) ≤ length out₀ = p.wrote.within in
      let o : length out ≡ length out₀ = replaying_out in
      omega arith

module _ {h h' : Whole} {k : Code} {s s' : Space} {out out' : List ℕ} {at next : ℕ} {t : Stop} (u : TakesCode h k s out at h' s' out' next t) where
  pub code_places : places_of s'.portion ≡ places_of s.portion
  code_places = left_places u.space

  pub code_bytes : length s'.bytes ≡ length s.bytes
  code_bytes = left_bytes u.space

  pub code_out : length out' ≡ length out
  code_out = wrote_length u.wrote

  pub takes_as : {j : Code} → k ≡ j → TakesCode h j s out at h' s' out' next t
  takes_as e = subst (λ (x : Code). TakesCode h x s out at h' s' out' next t) e u

module _ {x : Made} {words : List ℕ} {s₀ : Space} {out₀ : List ℕ} {h h' : Whole} {s s' : Space} {out out' : List ℕ} {at next i : ℕ} {t : Stop}
    (p : Replaying x words s₀ out₀ h s out at i) (u : TakesCode h (code_at words i) s out at h' s' out' next t)
    (inside : step_words * i + step_words ≤ length words)
  where
    -- the rest of the run
    abbrev rest : Ran
    rest = ran_with s₀ (exporting_in h') (length out₀ - next) (drop (step_words * (i + 1)) words)

    -- the run after the code
    run_on : run_of x words s₀ out₀ ≡ all_followed_by p.told (chained u.told t (exporting_in h') rest)
    run_on =
        let m : places_of s.portion ≡ places_of s₀.portion = replaying_places p in
        let n : length s.bytes ≡ length s₀.bytes = replaying_bytes p in
        let o : length out ≡ length out₀ = replaying_out p in
        let ws = drop (step_words * (i + 1)) words in
        p.run
        ∙ ap (λ (vs : List ℕ). all_followed_by p.told (ran_with s₀ (exporting_in h) (length out₀ - at) vs)) (drop_code words i inside)
        ∙ ap (all_followed_by p.told)
        ((λ j. ran (sym m j) (sym n j) (exporting_in h) (sym o j - at) (words_from (code_at words i) ws))
        ∙ u.run ws
        ∙ ap (chained u.told t (exporting_in h')) (λ j. ran (m j) (n j) (exporting_in h') (o j - next) ws))

    all_wrote : Wrote out₀ 0 (all_words (p.told ++ u.told)) out' next
    all_wrote = subst (λ (ws : List ℕ). Wrote out₀ 0 ws out' next) (sym (words_append p.told u.told)) (wrote_join p.wrote u.wrote)

    pub replaying_on : t ≡ stop.Complete → Replaying x words s₀ out₀ h' s' out' next (i + 1)
    replaying_on e =
        let one : length u.told ≡ 1 = u.count ∙ ap tally e in
        let many : length (p.told ++ u.told) ≡ length p.told + length u.told = length-append p.told u.told in
        let had : i ≡ length p.told = p.count in
        record {
          told = p.told ++ u.told;
          ready = u.ready;
          wrote = all_wrote;
          run =
              run_on
              ∙ ap (λ (y : Stop). all_followed_by p.told (chained u.told y (exporting_in h') rest)) e
              ∙ ap (λ (es : List Exchange). record { told = es; stop = rest.stop; after = rest.after }) (sym (append_assoc p.told u.told rest.told));
          count = omega arith;
          inside = omega arith;
          space = left_on p.space u.space;
          tells = tells_join p.tells u.tells;
        }

    -- a code at which the run stops takes no step
    stopped : (y : Stop) → t ≡ y → tally y ≡ 0 → u.told ≡ []
    stopped y e z = no_steps u.told (u.count ∙ ap tally e ∙ z)

    replays_stop : (y : Stop) → t ≡ y → tally y ≡ 0 → ((r : Ran) (ξ : Exporting) → chained [] y ξ r ≡ ended y ξ)
        → Replays x words s₀ out₀ h'.map h'.logs h'.exported s' out' (record { core = h'.core; export = h'.export; taken = i; written = next; stop = y })
    replays_stop y e z q =
        let none : u.told ≡ [] = stopped y e z in
        let all : p.told ++ u.told ≡ p.told = ap (λ (es : List Exchange). p.told ++ es) none ∙ append-nil p.told in
        ends {h = h'} u.ready
        (run_on
        ∙ ap (λ (s : Stop). all_followed_by p.told (chained u.told s (exporting_in h') rest)) e
        ∙ ap (λ (es : List Exchange). all_followed_by p.told (chained es y (exporting_in h') rest)) none
        ∙ ap (all_followed_by p.told) (q rest (exporting_in h'))
        ∙ ap (λ (es : List Exchange). record { told = es; stop = y; after = exporting_in h' }) (append-nil p.told))
        p.count
        (subst (λ (es : List Exchange). Wrote out₀ 0 (all_words es) out' next) all all_wrote)
        (subst (λ (es : List Exchange). SpaceBecomes es s₀ s') all (left_on p.space u.space))
        (subst (λ (es : List Exchange). Tells (starting_at (fresh x)) es (exporting_in h')) all (tells_join p.tells u.tells))

    -- it has no meaning, or no room for its answer
    pub replays_halt : (t ≡ stop.Meaningless) ⊎ (t ≡ stop.Full)
        → Replays x words s₀ out₀ h'.map h'.logs h'.exported s' out' (record { core = h'.core; export = h'.export; taken = i; written = next; stop = t })
    replays_halt = ⊎_elim (λ e. told e (replays_stop stop.Meaningless e refl (λ r ξ. refl))) (λ e. told e (replays_stop stop.Full e refl (λ r ξ. refl)))
      where
        Halts : Stop → Type 0
        Halts y = Replays x words s₀ out₀ h'.map h'.logs h'.exported s' out' (record { core = h'.core; export = h'.export; taken = i; written = next; stop = y })

        told : {y : Stop} → t ≡ y → Halts y → Halts t
        told e = subst Halts (sym e)

-- no code is left
pub replays_end : {x : Made} {words : List ℕ} {s₀ : Space} {out₀ : List ℕ} {h : Whole} {s : Space} {out : List ℕ} {at : ℕ} {y : Stop} (i : ℕ)
    → Replaying x words s₀ out₀ h s out at i → length words / step_words ≤ i → y ≡ rest_stop (length words % step_words)
    → Replays x words s₀ out₀ h.map h.logs h.exported s out (record { core = h.core; export = h.export; taken = length words / step_words; written = at; stop = y })
replays_end {x} {words} {s₀} {out₀} {h} {s} {out} {at} {y} i p z e =
    subst (λ (j : ℕ). Replays x words s₀ out₀ h.map h.logs h.exported s out (record { core = h.core; export = h.export; taken = j; written = at; stop = y }))
    (le_antisymm p.inside z) (
    let a : i ≤ length words / step_words = p.inside in
    let d : length (drop (step_words * i) words) ≡ length words - step_words * i = length-drop (step_words * i) words in
    let n : length (drop (step_words * i) words) ≡ length words % step_words = d ∙ (let z : length words - step_words * i ≡ length words % step_words = omega arith in z) in
    let ξ = exporting_in h in
    ends {h = h} p.ready
    (p.run
    ∙ ap (all_followed_by p.told)
    (ran_rest (places_of s₀.portion) (length s₀.bytes) ξ (length out₀ - at) (drop (step_words * i) words) (let z : length (drop (step_words * i) words) < step_words = omega arith in z)
    ∙ ap (λ (k : ℕ). ended (rest_stop k) ξ) n
    ∙ ap (λ (s : Stop). ended s ξ) (sym e))
    ∙ ap (λ (es : List Exchange). record { told = es; stop = y; after = ξ }) (append-nil p.told))
    p.count p.wrote p.space p.tells)
