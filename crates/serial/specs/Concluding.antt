-- From the invariant to the claim of demand 3.
use Rattle.std.specs.Prelude.{ℕ, suc, ◌≡◌, List}
use Rattle.std.proofs.Common.{zero-le, suc-le-suc, le_trans, le_of_eq, arith, sym, ap, ◌∙◌, subst}
use Rattle.std.proofs.Math.Option.{some}
use Rattle.lists.specs.Rows.{Row, row, look, Rising}
use Rattle.lists.specs.RowLaws.{rows_equal}
use Rattle.spec.specs.Records.{Record}
use Rattle.spec.specs.Sequential.{AllAgree}
use Rattle.spec.specs.Claim.{Transaction, Reading, list_after, Serial}
use Rattle.serial.specs.Feeding.{look_member, rising_list_after}
use Rattle.serial.specs.Invariant.{Facts, Matches, Done, Invariant}

module _ {F : Facts} {ρ : Reading} (i : Invariant F ρ) where
  agree : (n : ℕ) (t : Transaction) → look ρ.installed (suc n) ≡ some t → AllAgree (suc n) (list_after ρ.installed n) t.events
  agree n t e =
      d.explains (suc n) (list_after ρ.installed n) (rising_list_after ρ.installed n)
      (subst (λ (j : ℕ). Matches d.os (list_after ρ.installed j)) same_number d.valid.before)
    where
      d : Done F ρ.installed (row (suc n) t)
      d = i.done (row (suc n) t) (look_member ρ.installed (suc n) t e)

      same_number : d.m ≡ n
      same_number = let q : suc n ≡ suc d.m = d.number in omega arith

  -- `contents` are the current records by rising address
  pub serial : (contents : List (Row Record)) → Rising contents → ((k : ℕ) → look contents k ≡ F.current k) → Serial ρ contents
  serial contents r h =
      record {
        answers = agree;
        same_contents =
            rows_equal (list_after ρ.installed ρ.given) contents (rising_list_after ρ.installed ρ.given) r
            (λ k.
            ap (λ (n : ℕ). look (list_after ρ.installed n) k) i.numbers ∙ sym (i.current k) ∙ sym (h k));
        first_number = λ q m. le_trans (suc-le-suc zero-le) (le_of_eq (sym (i.done q m).number));
        last_number_lem =
            λ q m.
            le_trans (le_of_eq (i.done q m).number) (le_trans (i.done q m).given (le_of_eq (sym i.numbers)));
        one_each = i.different;
        real_time =
            λ q p mq mp l.
            le_trans (suc-le-suc ((i.done p mp).past q mq l)) (le_of_eq (sym (i.done p mp).number));
      }
