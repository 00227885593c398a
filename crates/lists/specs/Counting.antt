-- How many different numbers stand in a list: at most as many as in a list that has them all.
use Prim.Native.Nat.{ℕ, suc, ◌≤◌, zero-le, suc-le-suc}
use Rattle.std.proofs.Common.{le_trans, le_of_eq, sym, ap, ◌∙◌, ⊎_elim}
use Rattle.std.specs.Prelude.{◌≡◌, Bool, true, false, List, [], ◌∷◌, ◌++◌, length}
use Rattle.std.proofs.Math.Path.{refl}
use Rattle.lists.specs.Tests.{pick, either, same}
use Rattle.lists.specs.TestLaws.{cases, clash, same_true, same_false, same_no, same_refl}
use Rattle.lists.specs.Rows.{any, has, distinct, Different}

pub has_nil : (k : ℕ) → has k [] ≡ false
unfolding has any
has_nil k = refl

pub has_cons : (k x : ℕ) (xs : List ℕ) → has k (x ∷ xs) ≡ pick (same k x) true (has k xs)
unfolding has any
has_cons k x xs = refl

pub has_here : (x : ℕ) (xs : List ℕ) → has x (x ∷ xs) ≡ true
has_here x xs = has_cons x x xs ∙ (rw (same_refl x))

pub has_there : (k x : ℕ) (xs : List ℕ) → has k xs ≡ true → has k (x ∷ xs) ≡ true
has_there k x xs h = has_cons k x xs ∙ ⊎_elim (λ e. rw e) (λ e. rw e h) (cases (same k x))

pub has_append : (k : ℕ) (xs ys : List ℕ) → has k (xs ++ ys) ≡ either (has k xs) (has k ys)
has_append k [] ys = sym (ap (λ (b : Bool). either b (has k ys)) (has_nil k))
has_append k (x ∷ xs) ys =
    has_cons k x (xs ++ ys)
    ∙ ⊎_elim (λ e. rw e) (λ e. rw e (has_append k xs ys)) (cases (same k x))
    ∙ sym (ap (λ (b : Bool). either b (has k ys)) (has_cons k x xs))

-- all numbers of the one stand in the other
abbrev pub Within : List ℕ → List ℕ → Type 0
Within xs ys = (k : ℕ) → has k xs ≡ true → has k ys ≡ true

-- ---- the list without a number

without : ℕ → List ℕ → List ℕ
without x [] = []
without x (y ∷ ys) = pick (same x y) (without x ys) (y ∷ without x ys)

has_without : (k x : ℕ) (ys : List ℕ) → (k ≡ x → ⊥) → has k (without x ys) ≡ has k ys
unfolding without
has_without k x [] d = refl
has_without k x (y ∷ ys) d =
    ⊎_elim
    (λ e. rw e (has_without k x ys d ∙ sym (has_cons k y ys ∙ (rw (same_no {m = k} {n = y} (λ q. d (q ∙ sym (same_true x y e))))))))
    (λ e. rw e (has_cons k y (without x ys) ∙ ap (pick (same k y) true) (has_without k x ys d) ∙ sym (has_cons k y ys)))
    (cases (same x y))

without_absent : (x : ℕ) (ys : List ℕ) → has x ys ≡ false → without x ys ≡ ys
unfolding without
without_absent x [] h = refl
without_absent x (y ∷ ys) h =
    ⊎_elim
    (λ e. clash (has_cons x y ys ∙ (rw e)) h)
    (λ e. rw e (ap (λ (zs : List ℕ). y ∷ zs) (without_absent x ys (sym (skip e) ∙ h))))
    (cases (same x y))
  where
    skip : same x y ≡ false → has x (y ∷ ys) ≡ has x ys
    skip e = has_cons x y ys ∙ (rw e)

distinct_cons : (y : ℕ) (ys : List ℕ) → distinct (y ∷ ys) ≡ pick (has y ys) (distinct ys) (suc (distinct ys))
unfolding distinct
distinct_cons y ys = refl

distinct_new : (y : ℕ) (ys : List ℕ) → has y ys ≡ false → distinct (y ∷ ys) ≡ suc (distinct ys)
distinct_new y ys e = distinct_cons y ys ∙ (rw e)

distinct_old : (y : ℕ) (ys : List ℕ) → has y ys ≡ true → distinct (y ∷ ys) ≡ distinct ys
distinct_old y ys e = distinct_cons y ys ∙ (rw e)

distinct_without : (x : ℕ) (ys : List ℕ) → has x ys ≡ true → distinct ys ≡ suc (distinct (without x ys))
unfolding without
distinct_without x [] h = clash h (has_nil x)
distinct_without x (y ∷ ys) h = ⊎_elim (here (distinct_without x ys)) (there (distinct_without x ys)) (cases (same x y))
  where
    here : (has x ys ≡ true → distinct ys ≡ suc (distinct (without x ys))) → same x y ≡ true → distinct (y ∷ ys) ≡ suc (distinct (without x (y ∷ ys)))
    here ih e =
        rw e
        (⊎_elim
        (λ g. distinct_old y ys (ap (λ (z : ℕ). has z ys) (sym (same_true x y e)) ∙ g) ∙ ih g)
        (λ g.
        distinct_new y ys (ap (λ (z : ℕ). has z ys) (sym (same_true x y e)) ∙ g)
        ∙ ap (λ (zs : List ℕ). suc (distinct zs)) (sym (without_absent x ys g)))
        (cases (has x ys)))

    there : (has x ys ≡ true → distinct ys ≡ suc (distinct (without x ys))) → same x y ≡ false → distinct (y ∷ ys) ≡ suc (distinct (without x (y ∷ ys)))
    there ih e =
        let g : has x ys ≡ true = sym (has_cons x y ys ∙ (rw e)) ∙ h in
        let s : has y (without x ys) ≡ has y ys = has_without y x ys (λ q. same_false x y e (sym q)) in
        rw e
        (⊎_elim
        (λ b. distinct_old y ys b ∙ ih g ∙ ap suc (sym (distinct_old y (without x ys) (s ∙ b))))
        (λ b. distinct_new y ys b ∙ ap suc (ih g) ∙ ap suc (sym (distinct_new y (without x ys) (s ∙ b))))
        (cases (has y ys)))

-- ---- counts

pub distinct_within : (xs ys : List ℕ) → Within xs ys → distinct xs ≤ distinct ys
distinct_within [] ys h = unfold distinct in zero-le
distinct_within (x ∷ xs) ys h =
    ⊎_elim
    (λ e. le_trans (le_of_eq (distinct_old x xs e)) (distinct_within xs ys (λ k p. h k (has_there k x xs p))))
    (λ e.
    le_trans (le_of_eq (distinct_new x xs e))
    (le_trans (suc-le-suc (distinct_within xs (without x ys) (λ k p. has_without k x ys (λ q. other k p e q) ∙ h k (has_there k x xs p))))
    (le_of_eq (sym (distinct_without x ys (h x (has_here x xs)))))))
    (cases (has x xs))
  where
    other : (k : ℕ) → has k xs ≡ true → has x xs ≡ false → k ≡ x → ⊥
    other k p e q = clash (ap (λ (z : ℕ). has z xs) (sym q) ∙ p) e

pub different_count : (xs : List ℕ) → Different xs → distinct xs ≡ length xs
unfolding Different
different_count [] h = unfold distinct in refl
different_count (x ∷ xs) h = distinct_new x xs h.0 ∙ ap suc (different_count xs h.1)

-- a list without repeats whose numbers all stand in the other is no longer than that has different numbers
pub different_within : (xs ys : List ℕ) → Different xs → Within xs ys → length xs ≤ distinct ys
different_within xs ys d h = le_trans (le_of_eq (sym (different_count xs d))) (distinct_within xs ys h)
