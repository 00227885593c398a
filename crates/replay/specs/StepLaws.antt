-- A coded step by what its code means.
use Rattle.std.specs.Prelude.{◌≡◌, refl, Some, None}
use Rattle.std.proofs.Common.{sym, ◌∙◌, subst}
use Rattle.spec.specs.Steps.{Places}
use Rattle.map.specs.Views.{Lent}
use Rattle.buffers.specs.Buffers.{Buffers, places_of, counted_places}
use Rattle.transactions.specs.Cores.{Core}
use Rattle.transactions.specs.Views.{Logs}
use Rattle.engine.specs.declared.steps.Op.{Op}
use Rattle.engine.specs.Performs.{Performed}
use Rattle.codes.specs.declared.Code.{Code}
use Rattle.codes.specs.declared.Coded.{Coded}
use Rattle.buffers.specs.declared.Places.{Places as PlaceCounts}
use Rattle.codes.specs.Codes.{Decoded, meant_with, decoded, coded_of, no_meaning}
use Rattle.replay.specs.CodedSteps.{PerformsFirst, CodedStep}

abbrev TheSame : Op → Places → Decoded → Type 0
TheSame o w (Some (o', p)) = (o ≡ o') × (w ≡ counted_places p)
TheSame o w None = ⊥

meant_same : {o o' : Op} {w w' : Places} → meant_with o w ≡ meant_with o' w' → (o ≡ o') × (w ≡ w')
meant_same {o} {w = w} e = subst (TheSame o w) e (refl, refl)

meant_not : {o : Op} {w : Places} → meant_with o w ≡ None → ⊥
meant_not {o} {w} e = subst (TheSame o w) e (refl, refl)

pub step_meant : {l l' : Lent} {g g' : Logs} {c : Core} {k : Code} {b b' : Buffers} {d : Decoded} {o : Op} {w : PlaceCounts} (p : Performed) {a : Coded}
    → d ≡ decoded (places_of b) k → d ≡ Some (o, w) → PerformsFirst l g c o (counted_places w) b l' g' b' p → a ≡ coded_of p.reply
    → CodedStep l g c k b l' g' b' (record { core = p.core; answer = a })
step_meant {l} {l'} {g} {g'} {c} {k} {b} {b'} {d} {o} {w = wanted} p e f h r =
    record {
      meant =
          λ o' w j. let s = meant_same {w = counted_places wanted} (sym f ∙ e ∙ j) in
          record {
            reply = p.reply;
            performs =
                subst (λ (x : Op). PerformsFirst l g c x w b l' g' b' p) s.0
                (subst (λ (x : Places). PerformsFirst l g c o x b l' g' b' p) s.1 h);
            answer = r;
          };
      meaningless = λ j. absurd (meant_not {w = counted_places wanted} (sym f ∙ e ∙ j));
    }

pub step_meaningless : {l : Lent} {g : Logs} {c : Core} {k : Code} {b : Buffers} {d : Decoded} {a : Coded} → d ≡ decoded (places_of b) k → d ≡ None
    → a ≡ no_meaning → CodedStep l g c k b l g b (record { core = c; answer = a })
step_meaningless {c = c} e f h =
    record {
      meant = λ o w j. absurd (meant_not {w = w} (sym j ∙ sym e ∙ f));
      meaningless = λ j. record { map = refl; logs = refl; buffers = refl; outcome = λ i. record { core = c; answer = h i } };
    }
