-- The laws of any step's promise.
use Rattle.std.specs.Prelude.{ℕ, ◌≡◌, refl, Result, Ok, Err}
use Rattle.std.proofs.Common.{sym, subst}
use Rattle.spec.specs.declared.Refusal.{Refusal}
use Rattle.spec.specs.Steps as model
use Rattle.spec.specs.Steps.{Places, Step, Answer}
use Rattle.map.specs.Views.{Lent}
use Rattle.transactions.specs.Cores.{Core}
use Rattle.engine.specs.declared.steps.Access.TheVariants as access
use Rattle.engine.specs.declared.steps.Op.{Op}
use Rattle.engine.specs.declared.steps.Op.TheVariants as op
use Rattle.engine.specs.declared.steps.Told.{Told}
use Rattle.engine.specs.declared.steps.Told.TheVariants as told
use Rattle.buffers.specs.Buffers.{Buffers, places_of, Beyond}
use Rattle.buffers.specs.BufferLaws.{beyond_refl}
use Rattle.transactions.specs.Views.{Logs}
use Rattle.transactions.specs.Ready.{Refines}
use Rattle.engine.specs.Performs.{Performed, Performs, Quiet, places_in, reply_in, step_in}

-- ---- as it goes

-- an entry's promise, under the names that the code has for the operation and the reply
quiet : {l l' : Lent} {g g' : Logs} {c k : Core} {o : Op} (s : Op) (t : Step) (p : Result Told Refusal) (a : Answer)
    → ((b : Places) → step_in s b ≡ t) → o ≡ s → Refines l g c t l' g' k a
    → ((b : Buffers) → reply_in p b ≡ a) → places_in p ≡ 0 → Quiet l g c o l' g' (record { core = k; reply = p })
quiet {l} {l'} {g} {g'} {c} {k} {o} s t p a i e h q z =
    subst (λ (x : Op). Quiet l g c x l' g' (record { core = k; reply = p })) (sym e)
    (record {
      refines =
          λ b. subst (λ (x : Answer). Refines l g c (step_in s (places_of b)) l' g' k x) (sym (q b))
          (subst (λ (u : Step). Refines l g c u l' g' k a) (sym (i (places_of b))) h);
      places = z;
    })

module _ {l l' : Lent} {g g' : Logs} {c k : Core} {o : Op} {t : Step} (s : Op) (i : (b : Places) → step_in s b ≡ t) (e : o ≡ s) where
  pub quiet_done : Refines l g c t l' g' k model.done → Quiet l g c o l' g' (record { core = k; reply = Ok told.Nothing })
  quiet_done h = quiet s t (Ok told.Nothing) model.done i e h (λ b. refl) refl

  pub quiet_refused : (r : Refusal) → Refines l g c t l' g' k (model.refused r) → Quiet l g c o l' g' (record { core = k; reply = Err r })
  quiet_refused r h = quiet s t (Err r) (model.refused r) i e h (λ b. refl) refl

-- a step that looks at no buffer leaves them
pub performs_quiet : {l l' : Lent} {g g' : Logs} {c : Core} {o : Op} {r : Performed} (b : Buffers) → Quiet l g c o l' g' r
    → Performs l g c o b l' g' b r
performs_quiet b h =
    record {
      refines = h.refines b;
      beyond = subst (λ (n : ℕ). Beyond n b b) (sym h.places) (beyond_refl 0 b);
    }
