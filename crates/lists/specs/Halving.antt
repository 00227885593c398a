-- Search by halving steps: from a base, a step is taken or not, and the next step is half as long.
use Rattle.std.specs.Prelude.{ℕ, zero, suc, ◌+◌, ◌-◌, ◌/◌, ◌<◌, ◌≤◌, ◌≡◌, refl}
use Rattle.std.proofs.Common.{zero-le, le_refl, arith, ap, ◌∙◌}

-- 2 to the e
unfoldable pub width : ℕ → ℕ
width zero = 1
width (suc e) = width e + width e

-- the step with e steps left, this one included
unfoldable pub step_of : ℕ → ℕ
step_of zero = 0
step_of (suc e) = width e

-- the answer p lies in the 2^e places from the base on
pub record Narrowing (p base step : ℕ) : Type 0 where
  pub left : ℕ
  pub size : step ≡ step_of left
  pub small : step ≤ 1024
  pub from : base ≤ p
  pub to : p < base + width left

pub narrow_start : (p : ℕ) → p < 2048 → Narrowing p 0 1024
unfolding width step_of
narrow_start p h = record { left = 11; size = refl; small = le_refl 1024; from = zero-le; to = h }

-- one of the first 2^e places
pub narrow_first : (e p : ℕ) → step_of e ≤ 1024 → p < width e → Narrowing p 0 (step_of e)
narrow_first e p s h = record { left = e; size = refl; small = s; from = zero-le; to = omega arith }

half : (e : ℕ) → width e / 2 ≡ step_of e
unfolding width step_of
half zero = refl
half (suc e) = omega arith

halves : (e step : ℕ) → step ≡ width e → step / 2 ≡ step_of e
halves e step q = ap (λ (n : ℕ). n / 2) q ∙ half e

pub narrow_on : {p base step : ℕ} → 0 < step → Narrowing p base step → base + step ≤ p → Narrowing p (base + step) (step / 2)
unfolding width step_of
narrow_on {p} {base} {step} h n l = go n.left n.size n.to
  where
    go : (e : ℕ) → step ≡ step_of e → p < base + width e → Narrowing p (base + step) (step / 2)
    go zero q t = absurd (omega arith)
    go (suc e) q t = record { left = e; size = halves e step q; small = (let s : step ≤ 1024 = n.small in omega arith); from = l; to = omega arith }

pub narrow_stay : {p base step : ℕ} → 0 < step → Narrowing p base step → p < base + step → Narrowing p base (step / 2)
unfolding width step_of
narrow_stay {p} {base} {step} h n l = go n.left n.size n.to
  where
    go : (e : ℕ) → step ≡ step_of e → p < base + width e → Narrowing p base (step / 2)
    go zero q t = absurd (omega arith)
    go (suc e) q t = record { left = e; size = halves e step q; small = (let s : step ≤ 1024 = n.small in omega arith); from = n.from; to = omega arith }

width_some : (e : ℕ) → 1 ≤ width e
unfolding width
width_some zero = le_refl 1
width_some (suc e) = let h : 1 ≤ width e = width_some e in omega arith

pub narrow_end : {p base step : ℕ} → Narrowing p base step → step ≤ 0 → base ≡ p
unfolding width step_of
narrow_end {p} {base} {step} n h = go n.left n.size n.to
  where
    go : (e : ℕ) → step ≡ step_of e → p < base + width e → base ≡ p
    go zero q t = let f : base ≤ p = n.from in omega arith
    go (suc e) q t = absurd (let w : 1 ≤ width e = width_some e in omega arith)
