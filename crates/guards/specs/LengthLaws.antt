-- The laws of lengths: what makes a section unfit, and what is known of one that is not.
use Rattle.std.specs.Prelude.{ℕ, ◌-◌, ◌<◌, ◌≤◌, ◌≡◌, refl, Bool, false, not, ltb}
use Rattle.std.proofs.Common.{arith, ◌∙◌}
use Rattle.std.proofs.Math.Path.{sym}
use Rattle.std.proofs.Math.Logic.{⊎_elim}
use Rattle.std.proofs.Math.Bool.{true}
use Rattle.lists.specs.Tests.{both, either, less, at_most, within}
use Rattle.lists.specs.TestLaws.{cases, clash, less_yes, less_no, less_true, less_false, at_most_yes, at_most_no, at_most_true}
use Rattle.spec.specs.Widths.{addresses}
use Rattle.spec.specs.Records.{limits}
use Rattle.spec.specs.Guards.{last_byte, unfit}

-- by the two tests of the length
by_length : (k n : ℕ) (a b : Bool) → at_most 1 n ≡ a → at_most n limits.longest ≡ b
    → unfit k n ≡ either (not (both a b)) (less limits.highest (last_byte k n))
unfolding unfit within
by_length k n a b e f = λ i. either (not (both (e i) (f i))) (less limits.highest (last_byte k n))

module _ (k n : ℕ) where
  pub unfit_empty : n ≡ 0 → true ≡ unfit k n
  unfit_empty e = sym (by_length k n false (at_most n limits.longest) (at_most_no {m = 1} {n = n} (omega arith)) refl)

  pub unfit_long : limits.longest < n → true ≡ unfit k n
  unfit_long h = sym (by_length k n true false (at_most_yes {m = 1} {n = n} (omega arith)) (at_most_no {m = n} {n = limits.longest} h))

  -- the last byte lies above the highest address where fewer addresses follow than bytes
  above : (n ≡ 0 → ⊥) → k < addresses → less (limits.highest - k) (n - 1) ≡ less limits.highest (last_byte k n)
  unfolding last_byte
  above z a =
      ⊎_elim
      (λ e. e ∙ sym (less_yes (let l = less_true (limits.highest - k) (n - 1) e in omega (arith, z))))
      (λ e. e ∙ sym (less_no (let l = less_false (limits.highest - k) (n - 1) e in omega (arith, z))))
      (cases (less (limits.highest - k) (n - 1)))

  pub unfit_end : (n ≡ 0 → ⊥) → n ≤ limits.longest → k < addresses → ltb (limits.highest - k) (n - 1) ≡ unfit k n
  unfolding less
  unfit_end z h a =
      above z a ∙ sym (by_length k n true true (at_most_yes {m = 1} {n = n} (omega arith)) (at_most_yes {m = n} {n = limits.longest} h))

-- the length of a section
pub record Sized (n : ℕ) : Type 0 where
  pub least : 1 ≤ n
  pub most : n ≤ limits.longest

pub fit_sized : (k n : ℕ) → unfit k n ≡ false → Sized n
fit_sized k n e =
    ⊎_elim
    (λ t. ⊎_elim (λ u. record { least = at_most_true 1 n t; most = at_most_true n limits.longest u }) (λ u. clash (by_length k n true false t u) e) (cases (at_most n limits.longest)))
    (λ t. clash (by_length k n false (at_most n limits.longest) t refl) e)
    (cases (at_most 1 n))
