-- The write that has waited longest: ages are a total order, and the oldest of a list is one of it and none of it is older.
use Rattle.std.specs.Prelude.{ℕ, ◌<◌, ◌≤◌, ◌≡◌, refl, ◌⊎◌, Bool, true, false}
use Rattle.std.proofs.Common.{arith, sym, ap, ◌∙◌, subst, inl, inr, ⊎_elim}
use mathlib.Core.List.{List, [], ◌∷◌, Memᴰ}
use Rattle.std.proofs.Math.Option.{Option, none, some}
use Rattle.lists.specs.Tests.{pick, both, either, maybe, same, less}
use Rattle.lists.specs.TestLaws.{cases, clash, same_true, same_false, same_yes, same_no, less_true, less_false, less_yes, less_no}
use Rattle.lists.specs.Rows.{Row, row}
use Rattle.spec.specs.Slots.{Pending, Content}
use Rattle.spec.specs.Maps.{ages, older, oldest_of}

-- ---- the order

-- b has not waited longer than a
abbrev pub AtLeastAsOld : Row ℕ → Row ℕ → Type 0
AtLeastAsOld a b = older b a ≡ false

abbrev Before : Row ℕ → Row ℕ → Type 0
Before a b = (a.item < b.item) ⊎ ((a.item ≡ b.item) × (a.key < b.key))

abbrev NotAfter : Row ℕ → Row ℕ → Type 0
NotAfter a b = (a.item < b.item) ⊎ ((a.item ≡ b.item) × (a.key ≤ b.key))

either_cases : (x y z : Bool) → either x (both y z) ≡ true → (x ≡ true) ⊎ ((y ≡ true) × (z ≡ true))
either_cases true y z e = inl refl
either_cases false true z e = inr (refl, e)
either_cases false false z e = clash e refl

pub older_true : (a b : Row ℕ) → older a b ≡ true → Before a b
unfolding older
older_true a b e =
    ⊎_elim
    (λ t. inl (less_true a.item b.item t))
    (λ t. inr (same_true a.item b.item t.0, less_true a.key b.key t.1))
    (either_cases (less a.item b.item) (same a.item b.item) (less a.key b.key) e)

older_yes : (a b : Row ℕ) → Before a b → older a b ≡ true
unfolding older
older_yes a b h =
    ⊎_elim
    (λ l. rw (less_yes {m = a.item} {n = b.item} l))
    (λ p.
    let i : a.item ≡ b.item = p.0 in
    rw (less_no {m = a.item} {n = b.item} (omega arith), same_yes {m = a.item} {n = b.item} i, less_yes {m = a.key} {n = b.key} p.1))
    h

older_false : (a b : Row ℕ) → older b a ≡ false → NotAfter a b
older_false a b e =
    ⊎_elim
    (λ t. inl (less_true a.item b.item t))
    (λ t.
    let i : b.item ≤ a.item = less_false a.item b.item t in
    ⊎_elim
    (λ q. let j : b.item < a.item = less_true b.item a.item q in clash (older_yes b a (inl j)) e)
    (λ q.
    let j : a.item ≤ b.item = less_false b.item a.item q in
    let k : a.item ≡ b.item = omega arith in
    inr (k, ⊎_elim (λ r. clash (older_yes b a (inr (sym k, less_true b.key a.key r))) e) (λ r. less_false b.key a.key r) (cases (less b.key a.key))))
    (cases (less b.item a.item)))
    (cases (less a.item b.item))

older_no : (a b : Row ℕ) → NotAfter a b → older b a ≡ false
older_no a b h = ⊎_elim (λ t. absurd (both_ways (older_true b a t) h)) (λ t. t) (cases (older b a))
  where
    both_ways : Before b a → NotAfter a b → ⊥
    both_ways x y =
        ⊎_elim
        (λ l. ⊎_elim (λ m. let z : ⊥ = omega arith in z) (λ m. let i : a.item ≡ b.item = m.0 in let z : ⊥ = omega arith in z) y)
        (λ l. let i : b.item ≡ a.item = l.0 in let j : b.key < a.key = l.1 in
        ⊎_elim (λ m. let z : ⊥ = omega arith in z) (λ m. let k : a.key ≤ b.key = m.1 in let z : ⊥ = omega arith in z) y)
        x

pub old_refl : (a : Row ℕ) → AtLeastAsOld a a
old_refl a = older_no a a (inr (refl, omega arith))

old_trans : (a b c : Row ℕ) → AtLeastAsOld a b → AtLeastAsOld b c → AtLeastAsOld a c
old_trans a b c h k = older_no a c (go (older_false a b h) (older_false b c k))
  where
    go : NotAfter a b → NotAfter b c → NotAfter a c
    go (inl x) (inl y) = inl (omega arith)
    go (inl x) (inr y) = let i : b.item ≡ c.item = y.0 in inl (omega arith)
    go (inr x) (inl y) = let i : a.item ≡ b.item = x.0 in inl (omega arith)
    go (inr x) (inr y) =
        let i : a.item ≡ b.item = x.0 in
        let j : b.item ≡ c.item = y.0 in
        let k : a.key ≤ b.key = x.1 in
        let l : b.key ≤ c.key = y.1 in
        inr (i ∙ j, omega arith)

older_old : (a b : Row ℕ) → older a b ≡ true → AtLeastAsOld a b
older_old a b e = older_no a b (go (older_true a b e))
  where
    go : Before a b → NotAfter a b
    go (inl x) = inl x
    go (inr x) = let k : a.key < b.key = x.1 in inr (x.0, omega arith)

-- of two at different addresses one is older
pub strictly_older : (a b : Row ℕ) → AtLeastAsOld a b → (a.key ≡ b.key → ⊥) → older a b ≡ true
strictly_older a b h d = older_yes a b (go (older_false a b h))
  where
    go : NotAfter a b → Before a b
    go (inl x) = inl x
    go (inr x) = let k : a.key ≤ b.key = x.1 in ⊎_elim (λ t. absurd (d (same_true a.key b.key t))) (λ t. let n : a.key ≡ b.key → ⊥ = same_false a.key b.key t in inr (x.0, less_than k n)) (cases (same a.key b.key))
      where
        less_than : a.key ≤ b.key → (a.key ≡ b.key → ⊥) → a.key < b.key
        less_than k n = ⊎_elim (λ t. less_true a.key b.key t) (λ t. let l : b.key ≤ a.key = less_false a.key b.key t in absurd (n (omega arith))) (cases (less a.key b.key))

-- ---- the oldest of a list

pub oldest_one : (a : Row ℕ) (bs : List (Row ℕ)) → Memᴰ (oldest_of a bs) (a ∷ bs)
unfolding oldest_of
oldest_one a [] = Memᴰ.head refl
oldest_one a (b ∷ bs) = ⊎_elim (λ e. rw e (later (oldest_one b bs))) (λ e. rw e (first (oldest_one a bs))) (cases (older b a))
  where
    later : {x : Row ℕ} → Memᴰ x (b ∷ bs) → Memᴰ x (a ∷ b ∷ bs)
    later m = Memᴰ.tail m

    first : {x : Row ℕ} → Memᴰ x (a ∷ bs) → Memᴰ x (a ∷ b ∷ bs)
    first (Memᴰ.head e) = Memᴰ.head e
    first (Memᴰ.tail m) = Memᴰ.tail (Memᴰ.tail m)

pub oldest_least : (a : Row ℕ) (bs : List (Row ℕ)) (x : Row ℕ) → Memᴰ x (a ∷ bs) → AtLeastAsOld (oldest_of a bs) x
unfolding oldest_of
oldest_least a [] x (mathlib.Core.List.Memᴰ.tail x7) = elim x7 [ ]
oldest_least a [] x (Memᴰ.head e) = subst (AtLeastAsOld a) (sym e) (old_refl a)
oldest_least a (b ∷ bs) x m =
    ⊎_elim
    (λ e. rw e (younger e (oldest_least b bs) m))
    (λ e. rw e (elder e (oldest_least a bs) m))
    (cases (older b a))
  where
    younger : older b a ≡ true → ((y : Row ℕ) → Memᴰ y (b ∷ bs) → AtLeastAsOld (oldest_of b bs) y) → Memᴰ x (a ∷ b ∷ bs) → AtLeastAsOld (oldest_of b bs) x
    younger e ih (Memᴰ.head q) =
        subst (AtLeastAsOld (oldest_of b bs)) (sym q) (old_trans (oldest_of b bs) b a (ih b (Memᴰ.head refl)) (older_old b a e))
    younger e ih (Memᴰ.tail m) = ih x m

    elder : older b a ≡ false → ((y : Row ℕ) → Memᴰ y (a ∷ bs) → AtLeastAsOld (oldest_of a bs) y) → Memᴰ x (a ∷ b ∷ bs) → AtLeastAsOld (oldest_of a bs) x
    elder e ih (Memᴰ.head q) = ih x (Memᴰ.head q)
    elder e ih (Memᴰ.tail (Memᴰ.head q)) =
        subst (AtLeastAsOld (oldest_of a bs)) (sym q) (old_trans (oldest_of a bs) a b (ih a (Memᴰ.head refl)) e)
    elder e ih (Memᴰ.tail (Memᴰ.tail m)) = ih x (Memᴰ.tail m)

-- ---- the ages of entries

-- An entry at which a write is pending since that install.
pub record AgedEntry (es : List (Row Content)) (r : Row ℕ) : Type 0 where
  pub entry : Row Content
  pub pending : Pending
  pub member : Memᴰ entry es
  pub own : entry.key ≡ r.key
  pub waits : entry.item.pending ≡ some pending
  pub since : pending.since ≡ r.item

pub ages_from_lem : (es : List (Row Content)) (r : Row ℕ) → Memᴰ r (ages es) → AgedEntry es r
unfolding ages
ages_from_lem [] r m = elim m [ ]
ages_from_lem (e ∷ es) r m = go e.item.pending refl (ages_from_lem es r) m
  where
    more : AgedEntry es r → AgedEntry (e ∷ es) r
    more a = record { entry = a.entry; pending = a.pending; member = Memᴰ.tail a.member; own = a.own; waits = a.waits; since = a.since }

    go : (o : Option Pending) → e.item.pending ≡ o → (Memᴰ r (ages es) → AgedEntry es r)
        → Memᴰ r (maybe o (ages es) (λ (p : Pending). row e.key p.since ∷ ages es)) → AgedEntry (e ∷ es) r
    go none q ih m = more (ih m)
    go (some p) q ih (Memᴰ.head x) =
        record { entry = e; pending = p; member = Memᴰ.head refl; own = sym (ap (λ (y : Row ℕ). y.key) x); waits = q; since = sym (ap (λ (y : Row ℕ). y.item) x) }
    go (some p) q ih (Memᴰ.tail m) = more (ih m)

pub ages_to : (es : List (Row Content)) (e : Row Content) (p : Pending) → Memᴰ e es → e.item.pending ≡ some p
    → Memᴰ (row e.key p.since) (ages es)
unfolding ages
ages_to [] e p x'' q = elim x'' [ ]
ages_to (x ∷ es) e p (Memᴰ.head h) q = go x.item.pending (sym (ap (λ (y : Row Content). y.item.pending) h) ∙ q)
  where
    go : (o : Option Pending) → o ≡ some p → Memᴰ (row e.key p.since) (maybe o (ages es) (λ (p : Pending). row x.key p.since ∷ ages es))
    go o f = subst (λ (o : Option Pending). Memᴰ (row e.key p.since) (maybe o (ages es) (λ (p : Pending). row x.key p.since ∷ ages es))) (sym f) (Memᴰ.head (λ i. row (h i).key p.since))
ages_to (x ∷ es) e p (Memᴰ.tail m) q = go x.item.pending (ages_to es e p m q)
  where
    go : (o : Option Pending) → Memᴰ (row e.key p.since) (ages es)
        → Memᴰ (row e.key p.since) (maybe o (ages es) (λ (p : Pending). row x.key p.since ∷ ages es))
    go none m = m
    go (some y) m = Memᴰ.tail m
