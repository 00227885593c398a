-- What stands in a list of rows, and what a look-up finds.
use Rattle.std.specs.Prelude.{ℕ, ◌≡◌, refl, true}
use Rattle.std.proofs.Common.{sym, ◌∙◌, ⊎_elim}
use mathlib.Core.List.{List, [], ◌∷◌, Memᴰ}
use Rattle.std.proofs.Math.Option.{some}
use Rattle.lists.specs.Tests.{same}
use Rattle.lists.specs.TestLaws.{cases, same_true, same_false}
use Rattle.lists.specs.Rows.{Row, row, look}
use Rattle.lists.specs.RowLaws.{look_here, look_there}
use Rattle.lists.specs.Options.{both_options, some_same}

-- what a look-up finds is one of the rows
pub look_member : {A : Type 0} (rs : List (Row A)) (k : ℕ) (a : A) → look rs k ≡ some a → Memᴰ (row k a) rs
unfolding look
look_member [] k a q = both_options q refl
look_member (r ∷ rs) k a q =
    ⊎_elim
    (λ t. Memᴰ.head (here t))
    (λ t. Memᴰ.tail (look_member rs k a (sym (look_there r rs k (same_false r.key k t)) ∙ q)))
    (cases (same r.key k))
  where
    here : same r.key k ≡ true → row k a ≡ r
    here t =
        let key : r.key ≡ k = same_true r.key k t in
        let item : r.item ≡ a = some_same (sym (look_here r rs k key) ∙ q) in
        λ i. record { key = sym key i; item = sym item i }
