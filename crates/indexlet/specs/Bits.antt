-- The digits of a number in base 2, lowest first: one that is set or cleared, the lowest that is set, and the rest without it.
use Prim.Native.Nat.{ℕ, zero, suc, ◌+◌, ◌-◌, ◌*◌, ◌/◌, ◌%◌, ◌^◌, ◌<◌, ◌≤◌, min}
use Rattle.std.proofs.Common.{pow-suc, arith, sym, ap, ap₂, ◌∙◌, shl_exact, shr-shr}
use Rattle.std.proofs.Math.Nat.{min-zero, zero-min}
use Rattle.std.specs.Prelude.{◌≡◌}
use Rattle.std.proofs.Math.Path.{refl}
use Rattle.std.specs.Int.Bits.{bit_and, and_step, and_self, and_zero_l}
use Rattle.std.proofs.lemmas.Nat.{and_le_r}
use Rattle.std.specs.Int.Count.{count_trailing_zeros, under}

-- digit i of n
unfoldable pub bit : ℕ → ℕ → ℕ
bit zero n = n % 2
bit (suc i) n = bit i (n / 2)

pub bit_zero : (i : ℕ) → bit i 0 ≡ 0
unfolding bit
bit_zero zero = refl
bit_zero (suc i) = bit_zero i

-- the digits above b
pub bit_above : (b i n : ℕ) → bit i (n / 2 ^ b) ≡ bit (i + b) n
unfolding bit
bit_above zero i n = ap₂ bit (let e : i ≡ i + 0 = omega arith in e) (let e : n / 1 ≡ n = omega arith in e)
bit_above (suc b) i n =
    ap (bit i) (ap (λ (m : ℕ). n / 2 ^ m) (let e : suc b ≡ 1 + b = omega arith in e) ∙ sym (shr-shr n 1 b))
    ∙ bit_above b i (n / 2)
    ∙ ap (λ (m : ℕ). bit m n) (let e : suc (i + b) ≡ i + suc b = omega arith in e)

-- one digit, as a shift makes it
pub power_of : (b : ℕ) → b < 64 → (1 * 2 ^ b) % 2 ^ 64 ≡ 2 ^ b
power_of b h = shl_exact 1 b 64 (omega arith) (omega arith) ∙ (let e : 1 * 2 ^ b ≡ 2 ^ b = omega arith in e)

-- no digit beyond a number's length is set
pub bit_inside : (k i n : ℕ) → n < 2 ^ k → bit i n ≡ 1 → i < k
unfolding bit
bit_inside zero i n h e = absurd (let z : bit i n ≡ 0 = ap (bit i) (let q : n ≡ 0 = omega arith in q) ∙ bit_zero i in omega arith)
bit_inside (suc k) zero n h e = omega arith
bit_inside (suc k) (suc i) n h e =
    let p : 2 ^ suc k ≡ 2 ^ k * 2 = pow-suc 2 k in
    let r : i < k = bit_inside k i (n / 2) (omega arith) e in
    omega arith

-- the digits of the complement
pub bit_not : (k i n : ℕ) → i < k → n < 2 ^ k → bit i ((2 ^ k - 1) - n) + bit i n ≡ 1
unfolding bit
bit_not zero i n l h = absurd (omega arith)
bit_not (suc k) zero n l h = let p : 2 ^ suc k ≡ 2 ^ k * 2 = pow-suc 2 k in omega arith
bit_not (suc k) (suc i) n l h =
    let p : 2 ^ suc k ≡ 2 ^ k * 2 = pow-suc 2 k in
    ap (λ (m : ℕ). bit i m + bit i (n / 2)) (let e : ((2 ^ suc k - 1) - n) / 2 ≡ (2 ^ k - 1) - n / 2 = omega arith in e)
    ∙ bit_not k i (n / 2) (omega arith) (omega arith)

-- ---- a digit is set

half_set : (b n : ℕ) → (n + 2 ^ suc b) / 2 ≡ n / 2 + 2 ^ b
half_set b n = let p : 2 ^ suc b ≡ 2 ^ b * 2 = pow-suc 2 b in omega arith

pub set_there : (b n : ℕ) → bit b n ≡ 0 → bit b (n + 2 ^ b) ≡ 1
unfolding bit
set_there zero n h = omega arith
set_there (suc b) n h = ap (bit b) (half_set b n) ∙ set_there b (n / 2) h

pub set_other : (b i n : ℕ) → (i ≡ b → ⊥) → bit b n ≡ 0 → bit i (n + 2 ^ b) ≡ bit i n
unfolding bit
set_other zero zero n d h = absurd (d refl)
set_other zero (suc i) n d h = ap (bit i) (let e : (n + 1) / 2 ≡ n / 2 = omega arith in e)
set_other (suc b) zero n d h = let p : 2 ^ suc b ≡ 2 ^ b * 2 = pow-suc 2 b in omega arith
set_other (suc b) (suc i) n d h = ap (bit i) (half_set b n) ∙ set_other b i (n / 2) (λ e. d (ap suc e)) h

pub set_fits : (k b n : ℕ) → b < k → n < 2 ^ k → bit b n ≡ 0 → n + 2 ^ b < 2 ^ k
unfolding bit
set_fits zero b n l m h = absurd (omega arith)
set_fits (suc k) zero n l m h = let p : 2 ^ suc k ≡ 2 ^ k * 2 = pow-suc 2 k in omega arith
set_fits (suc k) (suc b) n l m h =
    let p : 2 ^ suc k ≡ 2 ^ k * 2 = pow-suc 2 k in
    let q : 2 ^ suc b ≡ 2 ^ b * 2 = pow-suc 2 b in
    let r : n / 2 + 2 ^ b < 2 ^ k = set_fits k b (n / 2) (omega arith) (omega arith) h in
    omega arith

-- ---- a digit is cleared

pub clear_fits : (b n : ℕ) → bit b n ≡ 1 → 2 ^ b ≤ n
unfolding bit
clear_fits zero n h = omega arith
clear_fits (suc b) n h =
    let p : 2 ^ suc b ≡ 2 ^ b * 2 = pow-suc 2 b in
    let r : 2 ^ b ≤ n / 2 = clear_fits b (n / 2) h in
    omega arith

half_clear : (b n : ℕ) → 2 ^ b ≤ n / 2 → (n - 2 ^ suc b) / 2 ≡ n / 2 - 2 ^ b
half_clear b n h = let p : 2 ^ suc b ≡ 2 ^ b * 2 = pow-suc 2 b in omega arith

pub clear_there : (b n : ℕ) → bit b n ≡ 1 → bit b (n - 2 ^ b) ≡ 0
unfolding bit
clear_there zero n h = omega arith
clear_there (suc b) n h = ap (bit b) (half_clear b n (clear_fits b (n / 2) h)) ∙ clear_there b (n / 2) h

pub clear_other : (b i n : ℕ) → (i ≡ b → ⊥) → bit b n ≡ 1 → bit i (n - 2 ^ b) ≡ bit i n
unfolding bit
clear_other zero zero n d h = absurd (d refl)
clear_other zero (suc i) n d h = ap (bit i) (let e : (n - 1) / 2 ≡ n / 2 = omega arith in e)
clear_other (suc b) zero n d h =
    let p : 2 ^ suc b ≡ 2 ^ b * 2 = pow-suc 2 b in
    let r : 2 ^ b ≤ n / 2 = clear_fits b (n / 2) h in
    omega arith
clear_other (suc b) (suc i) n d h =
    ap (bit i) (half_clear b n (clear_fits b (n / 2) h)) ∙ clear_other b i (n / 2) (λ e. d (ap suc e)) h

-- ---- the lowest digit that is set

-- the lowest digit decides
module _ (P : ℕ → Type 0) (k n : ℕ) where
  lowest_by : (n % 2 ≡ 0 → P (suc (count_trailing_zeros k (n / 2)))) → (n % 2 ≡ 1 → P 0) → P (count_trailing_zeros (suc k) n)
  unfolding count_trailing_zeros
  lowest_by even odd = go (n % 2) refl
    where
      go : (d : ℕ) → n % 2 ≡ d → P (under d (count_trailing_zeros k (n / 2)))
      go zero e = even e
      go (suc zero) e = odd e
      go (suc (suc d)) e = absurd (omega arith)

pub lowest_set : (k n : ℕ) → 0 < n → n < 2 ^ k → bit (count_trailing_zeros k n) n ≡ 1
unfolding bit
lowest_set zero n h l = absurd (omega arith)
lowest_set (suc k) n h l =
    let p : 2 ^ suc k ≡ 2 ^ k * 2 = pow-suc 2 k in
    lowest_by (λ (t : ℕ). bit t n ≡ 1) k n (λ e. lowest_set k (n / 2) (omega arith) (omega arith)) (λ e. e)

none_below : (n i : ℕ) → i < count_trailing_zeros zero n → ⊥
unfolding count_trailing_zeros
none_below n i l = omega arith

pub lowest_first : (k n i : ℕ) → i < count_trailing_zeros k n → bit i n ≡ 0
unfolding bit
lowest_first zero n i l = absurd (none_below n i l)
lowest_first (suc k) n i l = lowest_by (λ (t : ℕ). i < t → bit i n ≡ 0) k n (λ e q. below i e q (λ j. lowest_first k (n / 2) j)) (λ e q. absurd (omega arith)) l
  where
    below : (i : ℕ) → n % 2 ≡ 0 → i < suc (count_trailing_zeros k (n / 2)) → ((j : ℕ) → j < count_trailing_zeros k (n / 2) → bit j (n / 2) ≡ 0) → bit i n ≡ 0
    below zero e q f = e
    below (suc i) e q f = f i (omega arith)

-- ---- the rest, without its lowest digit

abbrev pub rest : ℕ → ℕ
rest n = bit_and n (n - 1)

pub rest_less : (n : ℕ) → 0 < n → rest n < n
rest_less n h = let r : rest n ≤ n - 1 = and_le_r n (n - 1) in omega arith

rest_odd : (n : ℕ) → n % 2 ≡ 1 → rest n ≡ n / 2 * 2
rest_odd n e =
    let f : (n - 1) / 2 ≡ n / 2 = omega arith in
    let g : (n - 1) % 2 ≡ 0 = omega arith in
    and_step n (n - 1)
    ∙ ap₂ (λ (x y : ℕ). bit_and (n / 2) x * 2 + min (n % 2) y) f g
    ∙ ap₂ (λ (x y : ℕ). x * 2 + y) (and_self (n / 2)) (min-zero (n % 2))
    ∙ (let h : n / 2 * 2 + 0 ≡ n / 2 * 2 = omega arith in h)

rest_even : (n : ℕ) → n % 2 ≡ 0 → rest n ≡ rest (n / 2) * 2
rest_even n e =
    ap (λ (x : ℕ). bit_and n x) refl
    ∙ and_step n (n - 1)
    ∙ ap₂ (λ (x y : ℕ). bit_and (n / 2) x * 2 + min y ((n - 1) % 2)) (let f : (n - 1) / 2 ≡ n / 2 - 1 = omega arith in f) e
    ∙ ap (λ (x : ℕ). rest (n / 2) * 2 + x) (zero-min ((n - 1) % 2))
    ∙ (let h : rest (n / 2) * 2 + 0 ≡ rest (n / 2) * 2 = omega arith in h)

twice_half : (m : ℕ) → m * 2 / 2 ≡ m
twice_half m = omega arith

pub rest_other : (k n i : ℕ) → n < 2 ^ k → (i ≡ count_trailing_zeros k n → ⊥) → bit i (rest n) ≡ bit i n
unfolding bit
rest_other zero n i l d = ap (bit i) (ap rest (let e : n ≡ 0 = omega arith in e) ∙ and_zero_l (0 - 1) ∙ (let e : 0 ≡ n = omega arith in e))
rest_other (suc k) n i l d = lowest_by (λ (t : ℕ). (i ≡ t → ⊥) → bit i (rest n) ≡ bit i n) k n (λ e q. even i e q (λ j. rest_other k (n / 2) j half)) (λ e q. odd i e q) d
  where
    half : n / 2 < 2 ^ k
    half = let p : 2 ^ suc k ≡ 2 ^ k * 2 = pow-suc 2 k in omega arith

    even : (i : ℕ) → n % 2 ≡ 0 → (i ≡ suc (count_trailing_zeros k (n / 2)) → ⊥) → ((j : ℕ) → (j ≡ count_trailing_zeros k (n / 2) → ⊥) → bit j (rest (n / 2)) ≡ bit j (n / 2)) → bit i (rest n) ≡ bit i n
    even zero e q g = let r : rest n ≡ rest (n / 2) * 2 = rest_even n e in omega arith
    even (suc i) e q g = ap (λ (x : ℕ). bit i (x / 2)) (rest_even n e) ∙ ap (bit i) (twice_half (rest (n / 2))) ∙ g i (λ f. q (ap suc f))

    odd : (i : ℕ) → n % 2 ≡ 1 → (i ≡ 0 → ⊥) → bit i (rest n) ≡ bit i n
    odd zero e q = absurd (q refl)
    odd (suc i) e q = ap (λ (x : ℕ). bit i (x / 2)) (rest_odd n e) ∙ ap (bit i) (twice_half (n / 2))
