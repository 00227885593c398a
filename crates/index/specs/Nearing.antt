-- A search by halving steps that looks at no place past the last: that one is tried first, then steps from half of all on.
use Rattle.std.specs.Prelude.{ℕ, ◌+◌, ◌/◌, ◌<◌, ◌≤◌, ◌≡◌, ◌⊎◌, Bool, true, false}
use Rattle.std.proofs.Common.{le_refl, arith, sym, subst, ⊎_elim}
use Rattle.lists.specs.Halving.{width, step_of, Narrowing, narrow_start, narrow_first, narrow_on, narrow_stay, narrow_end}
use Rattle.index.specs.Views.{record_places}

-- so many records or leaves take 3, 5, 7 or 9 steps
abbrev pub least : ℕ
least = 8

abbrev pub fewer : ℕ
fewer = 32

abbrev pub few : ℕ
few = 128

abbrev pub half : ℕ
half = 512

-- r is where a step from the base leads in the search for p: on if it does not pass p
pub record Took (p base step r : ℕ) : Type 0 where
  pub led : ((r ≡ base + step) × (base + step ≤ p)) ⊎ ((r ≡ base) × (p < base + step))

-- the place p is found by the steps that are left, and none of them leads past the last place
pub record Nearing (p base step : ℕ) : Type 0 where
  pub near : Narrowing p base step
  pub inside : base + step + step ≤ record_places

-- the place is none but the last
pub near_all : {p : ℕ} → p < record_places → Nearing p 0 (record_places / 2)
near_all {p} h = record { near = narrow_stay (omega arith) (narrow_start p (omega arith)) h; inside = le_refl record_places }

-- the place is one of the first
pub near_least : {p : ℕ} → p < least → Nearing p 0 (least / 2)
unfolding width step_of
near_least {p} h = record { near = narrow_first 3 p (omega arith) h; inside = omega arith }

pub near_fewer : {p : ℕ} → p < fewer → Nearing p 0 (fewer / 2)
unfolding width step_of
near_fewer {p} h = record { near = narrow_first 5 p (omega arith) h; inside = omega arith }

pub near_few : {p : ℕ} → p < few → Nearing p 0 (few / 2)
unfolding width step_of
near_few {p} h = record { near = narrow_first 7 p (omega arith) h; inside = omega arith }

pub near_half : {p : ℕ} → p < half → Nearing p 0 (half / 2)
unfolding width step_of
near_half {p} h = record { near = narrow_first 9 p (omega arith) h; inside = omega arith }

pub near_on : {p base step r : ℕ} → 0 < step → Nearing p base step → Took p base step r → Nearing p r (step / 2)
near_on {p} {base} {step} {r} h n t =
    let i : base + step + step ≤ record_places = n.inside in
    ⊎_elim
    (λ (b : (r ≡ base + step) × (base + step ≤ p)). subst (λ (x : ℕ). Nearing p x (step / 2)) (sym b.0) (record { near = narrow_on h n.near b.1; inside = omega arith }))
    (λ (b : (r ≡ base) × (p < base + step)). subst (λ (x : ℕ). Nearing p x (step / 2)) (sym b.0) (record { near = narrow_stay h n.near b.1; inside = omega arith }))
    t.led

-- two steps, the second half as long
near_two : {p base step r q : ℕ} → 1 < step → Nearing p base step → Took p base step r → Took p r (step / 2) q → Nearing p q (step / 4)
near_two {p} {base} {step} {r} {q} h n t u =
    let a : Nearing p r (step / 2) = near_on (omega arith) n t in
    subst (Nearing p q) (let e : step / 2 / 2 ≡ step / 4 = omega arith in e) (near_on (omega arith) a u)

pub near_end : {p base step : ℕ} → Nearing p base step → step ≤ 0 → base ≡ p
near_end n h = narrow_end n.near h

-- ---- what tells of a step whether it passes the place

-- t says whether p is i or behind it
pub record Leads (p i : ℕ) (t : Bool) : Type 0 where
  pub on : t ≡ true → i ≤ p
  pub past : t ≡ false → p < i

-- it may be asked of each place but the first
abbrev pub Asked : (ℕ → Type 0) → Type 0
Asked pre = (i : ℕ) → 0 < i → i ≤ record_places → pre i

-- and its answers lead to p
abbrev pub Steers : (ℕ → Bool → Type 0) → ℕ → Type 0
Steers post p = (i : ℕ) (t : Bool) → 0 < i → i ≤ record_places → post i t → Leads p i t

pub leads_no : {p i : ℕ} {t : Bool} → t ≡ false → p < i → Leads p i t
leads_no {p} {i} {t} e l = record { on = λ y. absurd (cc (e, y)); past = λ y. l }

-- what is tried from both ends of a step is tried from where it leads
pub near_high : {p base step r q : ℕ} → 1 < step → Nearing p base step → Took p base step r → base < r → Took p (base + step) (step / 2) q → Nearing p q (step / 4)
near_high {p} {base} {step} {r} {q} h n t l u =
    near_two h n t (subst (λ x. Took p x (step / 2) q) (sym (⊎_elim (λ (b : (r ≡ base + step) × (base + step ≤ p)). b.0) (λ (b : (r ≡ base) × (p < base + step)). absurd (let e = b.0 in omega arith)) t.led)) u)

pub near_low : {p base step r q : ℕ} → 1 < step → Nearing p base step → Took p base step r → r ≤ base → Took p base (step / 2) q → Nearing p q (step / 4)
near_low {p} {base} {step} {r} {q} h n t l u =
    near_two h n t (subst (λ x. Took p x (step / 2) q) (sym (⊎_elim (λ (b : (r ≡ base + step) × (base + step ≤ p)). absurd (let e = b.0 in omega arith)) (λ (b : (r ≡ base) × (p < base + step)). b.0) t.led)) u)
