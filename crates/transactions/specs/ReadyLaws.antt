-- The laws of `Refines`: it follows from the model's answer and next state; a refusal leaves everything.
use Rattle.std.specs.Prelude.{◌≡◌, refl, false}
use Rattle.std.proofs.Common.{sym, ◌∙◌, subst}
use Rattle.std.proofs.Math.Option.{some}
use Rattle.spec.specs.declared.Refusal.{Refusal}
use Rattle.spec.specs.Refusals.{ends}
use Rattle.spec.specs.Steps.{State, Step, Answer, refused, refusal, next}
use Rattle.limits.specs.Invariant.{Kept}
use Rattle.limits.specs.Keeping.{next_kept}
use Rattle.limits.specs.LoggedVersions.{LoggedOld, next_logged}
use Rattle.map.specs.Views.{Lent}
use Rattle.transactions.specs.Cores.{Core}
use Rattle.transactions.specs.Views.{Logs, state_of}
use Rattle.transactions.specs.Answering.{Yields, yields_refused}
use Rattle.transactions.specs.Ready.{Ready, Refines, Stored}

pub refines : {l l' : Lent} {g g' : Logs} {c c' : Core} {s : Step} {a : Answer} {σ' : State}
    → Ready l g c → Yields (state_of l g c) s a σ' → state_of l' g' c' ≡ σ' → Stored l' g' c' → Refines l g c s l' g' c' a
refines {l} {l'} {g} {g'} {c} {c'} {s} h k e t =
    let q : state_of l' g' c' ≡ next (state_of l g c) s = e ∙ sym k.leaves in
    record {
      ready =
          record {
            stored = t;
            kept = subst Kept (sym q) (next_kept h.kept s);
            logged = subst LoggedOld (sym q) (next_logged h.kept h.logged s);
          };
      state = q;
      says = sym k.answers;
    }

-- a refusal leaves everything
pub refines_refused : {l : Lent} {g : Logs} {c : Core} {s : Step} {r : Refusal}
    → Ready l g c → refusal (state_of l g c) s ≡ some r → ends r ≡ false → Refines l g c s l g c (refused r)
refines_refused {l} {g} {c} {s} {r} h e t = refines h (yields_refused (state_of l g c) s r e t) refl h.stored
