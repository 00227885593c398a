-- The laws of the tests.
use Rattle.std.specs.Prelude.{ℕ, ◌<◌, ◌≤◌, Bool, true, false, ◌⊎◌}
use mathlib.Core.Path.{◌≡◌, refl, sym, ◌∙◌}
use Rattle.std.proofs.Common.{inl, inr, ltb-true, ltb-false, leb-true, leb-false, eqb-true, lt-ltb, le-ltb, le-leb, eq-eqb, ne_eqb}
use Rattle.std.proofs.lemmas.Bool.{eqb-false, lt-leb}
use Rattle.lists.specs.Tests.{at_most, less, same}

pub same_yes : {m n : ℕ} → m ≡ n → same m n ≡ true
unfolding same
same_yes {m} {n} e = eq-eqb m n e

pub same_refl : (n : ℕ) → same n n ≡ true
same_refl n = same_yes refl

pub same_no : {m n : ℕ} → (m ≡ n → ⊥) → same m n ≡ false
unfolding same
same_no {m} {n} h = ne_eqb m n h

pub same_true : (m n : ℕ) → same m n ≡ true → m ≡ n
unfolding same
same_true m n e = eqb-true m n e

pub same_false : (m n : ℕ) → same m n ≡ false → m ≡ n → ⊥
unfolding same
same_false m n e = eqb-false m n e

pub less_yes : {m n : ℕ} → m < n → less m n ≡ true
unfolding less
less_yes {m} {n} h = lt-ltb m n h

pub less_no : {m n : ℕ} → n ≤ m → less m n ≡ false
unfolding less
less_no {m} {n} h = le-ltb m n h

pub less_true : (m n : ℕ) → less m n ≡ true → m < n
unfolding less
less_true m n e = ltb-true m n e

pub less_false : (m n : ℕ) → less m n ≡ false → n ≤ m
unfolding less
less_false m n e = ltb-false m n e

pub at_most_yes : {m n : ℕ} → m ≤ n → at_most m n ≡ true
unfolding at_most
at_most_yes {m} {n} h = le-leb m n h

pub at_most_no : {m n : ℕ} → n < m → at_most m n ≡ false
unfolding at_most
at_most_no {m} {n} h = lt-leb m n h

pub at_most_true : (m n : ℕ) → at_most m n ≡ true → m ≤ n
unfolding at_most
at_most_true m n e = leb-true m n e

pub at_most_false : (m n : ℕ) → at_most m n ≡ false → n < m
unfolding at_most
at_most_false m n e = leb-false m n e

-- a Bool is true or false
pub cases : (b : Bool) → (b ≡ true) ⊎ (b ≡ false)
cases true = inl refl
cases false = inr refl

true_not_false : true ≡ false → ⊥
true_not_false e = let z : ◌≡◌ {A = Bool} true false = e in elim_false z
  where
    is_true : Bool → Type 0
    is_true true = Unit {0}
    is_true false = ⊥

    elim_false : true ≡ false → ⊥
    elim_false p = mathlib.Core.Path.subst is_true p tt

-- the two values of a test cannot both be had
pub clash {ℓ} : {A : Type ℓ} {b : Bool} → b ≡ true → b ≡ false → A
clash p q = absurd (true_not_false (sym p ∙ q))
