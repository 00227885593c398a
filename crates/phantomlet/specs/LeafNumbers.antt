-- The numbers of leaves, when leaves come and go: those of some places are cleared.
use Rattle.std.specs.Prelude.{◌≡◌, ℕ, ◌+◌, ◌<◌, ◌≤◌, ◌⊎◌, List, length, slice_index, slice_set, refl}
use Rattle.std.proofs.Common.{arith, ap, ◌∙◌, inl, inr, ⊎_elim, length-set, get_or-set_same, get_or-set_other}
use Rattle.lists.specs.Tests.{same}
use Rattle.lists.specs.TestLaws.{cases, same_true, same_false}

-- ---- clearing

-- the places from `from` up to `to` are 0, the others as they were
pub record Clearing (xs cur : List ℕ) (from to : ℕ) : Type 0 where
  pub size : length cur ≡ length xs
  pub zeros : (j : ℕ) → from ≤ j → j < to → slice_index cur j ≡ 0
  pub others : (j : ℕ) → (j < from) ⊎ (to ≤ j) → slice_index cur j ≡ slice_index xs j

pub clear_start : (xs : List ℕ) (from : ℕ) → Clearing xs xs from from
clear_start xs from = record { size = refl; zeros = λ j a b. absurd (let q : ⊥ = omega arith in q); others = λ j h. refl }

pub clear_on : {xs cur : List ℕ} {from x : ℕ} (cur' : List ℕ) → Clearing xs cur from x → from ≤ x → x < length xs → cur' ≡ slice_set cur x 0 → Clearing xs cur' from (x + 1)
clear_on {xs} {cur} {from} {x} cur' r f h e =
    let s : length cur ≡ length xs = r.size in
    record {
      size = ap length e ∙ length-set cur x 0 ∙ r.size;
      zeros =
          λ j a b.
          ⊎_elim
          (λ t. let q : j ≡ x = same_true j x t in
          ap (λ (zs : List ℕ). slice_index zs j) e ∙ ap (λ (n : ℕ). slice_index (slice_set cur x 0) n) q ∙ get_or-set_same cur x 0 0 (omega arith))
          (λ t. let q : j ≡ x → ⊥ = same_false j x t in
          ap (λ (zs : List ℕ). slice_index zs j) e ∙ get_or-set_other cur x j 0 0 q ∙ r.zeros j a (omega arith))
          (cases (same j x));
      others =
          λ j b.
          ap (λ (zs : List ℕ). slice_index zs j) e
          ∙ get_or-set_other cur x j 0 0 (λ q. ⊎_elim (λ w. let u : ⊥ = omega arith in u) (λ w. let u : ⊥ = omega arith in u) b)
          ∙ r.others j (⊎_elim (λ w. inl w) (λ w. inr (omega arith)) b);
    }
