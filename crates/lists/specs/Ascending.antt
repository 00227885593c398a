-- Strictly rising numbers: what stands at a place, what is left after a cut, membership; the keys of rising rows.
use Rattle.std.specs.Prelude.{ℕ, zero, suc, ◌+◌, ◌<◌, ◌≤◌, ◌≡◌, refl, Bool, true, length, drop, get_or}
use Rattle.std.proofs.Common.{le_refl, not-suc-le-zero, arith, sym, ap, ◌∙◌, ⊎_elim}
use Rattle.std.proofs.Math.Nat.{le_step}
use mathlib.Core.List.Memᴰ
use mathlib.Core.List.{List, [], ◌∷◌, Memᴰ}
use Rattle.lists.specs.TestLaws.{cases}
use Rattle.lists.specs.Rows.{Row, From, Rising, keys, filter}
use Rattle.lists.specs.RowLaws.{from_weaken}

-- numbers rise strictly, from lo on
unfoldable pub Ascends : ℕ → List ℕ → Type 0
Ascends lo [] = Unit {0}
Ascends lo (k ∷ ks) = (lo ≤ k) × Ascends (suc k) ks

pub ascends_mem : {k lo : ℕ} {ks : List ℕ} → Ascends lo ks → Memᴰ k ks → lo ≤ k
unfolding Ascends
ascends_mem {k} {lo} f (Memᴰ.head {x = x} e) = let g : lo ≤ x = f.0 in omega arith
ascends_mem {k} {lo} f (Memᴰ.tail {x = x} m) =
    let g : lo ≤ x = f.0 in let i : suc x ≤ k = ascends_mem f.1 m in omega arith

-- the number at place n is at least n above the first bound
pub ascends_at : (lo : ℕ) (ks : List ℕ) (n : ℕ) → Ascends lo ks → n < length ks → lo + n ≤ get_or ks n 0
unfolding Ascends
ascends_at lo [] n f h = absurd (not-suc-le-zero h)
ascends_at lo (k ∷ ks) zero f h = let g : lo ≤ k = f.0 in omega arith
ascends_at lo (k ∷ ks) (suc n) f h =
    let g : lo ≤ k = f.0 in let i : suc k + n ≤ get_or ks n 0 = ascends_at (suc k) ks n f.1 (omega arith) in omega arith

pub ascends_drop : (lo : ℕ) (ks : List ℕ) (n : ℕ) → Ascends lo ks → n < length ks → Ascends (get_or ks n 0) (drop n ks)
unfolding Ascends
ascends_drop lo [] n f h = absurd (not-suc-le-zero h)
ascends_drop lo (k ∷ ks) zero f h = (le_refl k, f.1)
ascends_drop lo (k ∷ ks) (suc n) f h = ascends_drop (suc k) ks n f.1 (omega arith)

pub mem_get_or : {A : Type 0} (xs : List A) (n : ℕ) (d : A) → n < length xs → Memᴰ (get_or xs n d) xs
mem_get_or [] n d h = absurd (not-suc-le-zero h)
mem_get_or (x ∷ xs) zero d h = Memᴰ.head refl
mem_get_or (x ∷ xs) (suc n) d h = Memᴰ.tail (mem_get_or xs n d (omega arith))

pub mem_drop : {A : Type 0} {x : A} (xs : List A) (n : ℕ) → Memᴰ x (drop n xs) → Memᴰ x xs
mem_drop [] zero m = m
mem_drop [] (suc n) m = m
mem_drop (y ∷ ys) zero m = m
mem_drop (y ∷ ys) (suc n) m = Memᴰ.tail (mem_drop ys n m)

-- ---- rows

keys_ascend : {A : Type 0} (lo : ℕ) (rs : List (Row A)) → From lo rs → Ascends lo (keys rs)
unfolding Ascends From keys
keys_ascend lo [] f = tt
keys_ascend lo (r ∷ rs) f = (f.0, keys_ascend (suc r.key) rs f.1)

from_filter : {A : Type 0} (p : Row A → Bool) (rs : List (Row A)) (lo : ℕ) → From lo rs → From lo (filter p rs)
unfolding From filter
from_filter p [] lo f = tt
from_filter p (r ∷ rs) lo f =
    ⊎_elim
    (λ e. rw e (f.0, from_filter p rs _ f.1))
    (λ e. rw e (from_weaken (filter p rs) (le_step f.0) (from_filter p rs _ f.1)))
    (cases (p r))

pub rising_filter : {A : Type 0} (p : Row A → Bool) (rs : List (Row A)) → Rising rs → Rising (filter p rs)
unfolding Rising
rising_filter p rs f = from_filter p rs 0 f

pub rising_keys : {A : Type 0} (rs : List (Row A)) → Rising rs → Ascends 0 (keys rs)
unfolding Rising
rising_keys rs f = keys_ascend 0 rs f

pub mem_filter : {A : Type 0} {x : A} (p : A → Bool) (xs : List A) → Memᴰ x (filter p xs) → Memᴰ x xs × (p x ≡ true)
unfolding filter
mem_filter p [] m = absurd (Memᴰ.not-nil m)
mem_filter {A} {x} p (y ∷ ys) m =
    ⊎_elim
    (λ e. ⊎_elim (λ q. (Memᴰ.head q, ap p q ∙ e)) (λ n. later (mem_filter p ys n)) (Memᴰ.cases_cons {b = y} (rw e at m)))
    (λ e. later (mem_filter p ys (rw e at m)))
    (cases (p y))
  where
    later : Memᴰ x ys × (p x ≡ true) → Memᴰ x (y ∷ ys) × (p x ≡ true)
    later r = (Memᴰ.tail r.0, r.1)

pub filter_mem : {A : Type 0} {x : A} (p : A → Bool) (xs : List A) → Memᴰ x xs → p x ≡ true → Memᴰ x (filter p xs)
unfolding filter
filter_mem {A = A} p [] x3 t = elim x3 [ ]
filter_mem p (y ∷ ys) (Memᴰ.head q) t = rw (sym (ap p q) ∙ t) (Memᴰ.head q)
filter_mem p (y ∷ ys) (Memᴰ.tail m) t =
    ⊎_elim (λ e. rw e (Memᴰ.tail (filter_mem p ys m t))) (λ e. rw e (filter_mem p ys m t)) (cases (p y))

-- a key of the rows is the key of one of them
pub mem_keys : {A : Type 0} {k : ℕ} (rs : List (Row A)) → Memᴰ k (keys rs) → (r : Row A) × Memᴰ r rs × (r.key ≡ k)
unfolding keys
mem_keys [] m = absurd (Memᴰ.not-nil m)
mem_keys (r ∷ rs) (Memᴰ.head q) = (r, Memᴰ.head refl, sym q)
mem_keys (r ∷ rs) (Memᴰ.tail m) = let t = mem_keys rs m in (t.0, Memᴰ.tail t.1, t.2)

pub keys_mem : {A : Type 0} (r : Row A) (rs : List (Row A)) → Memᴰ r rs → Memᴰ r.key (keys rs)
unfolding keys
keys_mem {A = A} r [] x' = elim x' [ ]
keys_mem r (s ∷ rs) (Memᴰ.head q) = Memᴰ.head (ap (λ (x : Row _). x.key) q)
keys_mem r (s ∷ rs) (Memᴰ.tail m) = Memᴰ.tail (keys_mem r rs m)
