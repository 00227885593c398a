-- Numbers that stand in a list, as a test and as membership; lists put together; how long rows get by an insertion.
use Rattle.std.specs.Prelude.{ℕ, suc, ◌≤◌, ◌≡◌, ◌⊎◌, Bool, true, length}
use Rattle.std.proofs.Common.{zero-le, suc-le-suc, le_trans, le_of_eq, sym, ap, ◌∙◌, subst, inl, inr, ⊎_elim}
use Rattle.std.proofs.Math.Nat.{le_step}
use mathlib.Core.List.{List, [], ◌∷◌, ◌++◌, Memᴰ}
use Rattle.std.proofs.Math.Option.{some}
use Rattle.lists.specs.Tests.{pick, either, present, same}
use Rattle.lists.specs.TestLaws.{cases, clash, same_true, same_false, same_yes, same_no}
use Rattle.lists.specs.Rows.{Row, look, insert, assign, keys, filter, has, distinct, Rising, Different}
use Rattle.lists.specs.RowLaws.{look_insert, has_keys, length_keys, rising_assign, rising_different}
use Rattle.lists.specs.Counting.{has_nil, has_cons, has_here, has_there, has_append, Within, different_within}

pub same_sym : (m n : ℕ) → same m n ≡ same n m
same_sym m n =
    ⊎_elim
    (λ e. e ∙ sym (same_yes {m = n} {n = m} (sym (same_true m n e))))
    (λ e. e ∙ sym (same_no {m = n} {n = m} (λ q. same_false m n e (sym q))))
    (cases (same m n))

-- ---- the test and the membership

pub member_has : {k : ℕ} {ks : List ℕ} → Memᴰ k ks → has k ks ≡ true
member_has {k} (Memᴰ.head {x = x} {xs = xs} e) = has_cons k x xs ∙ rw (same_yes {m = k} {n = x} e)
member_has {k} (Memᴰ.tail {x = x} {xs = xs} m) = has_there k x xs (member_has m)

pub has_member : (k : ℕ) (ks : List ℕ) → has k ks ≡ true → Memᴰ k ks
has_member k [] e = clash e (has_nil k)
has_member k (x ∷ xs) e =
    ⊎_elim
    (λ t. Memᴰ.head (same_true k x t))
    (λ t. Memᴰ.tail (has_member k xs (sym (has_cons k x xs ∙ (rw t)) ∙ e)))
    (cases (same k x))

-- ---- lists put together

pub has_left : (k : ℕ) (xs ys : List ℕ) → has k xs ≡ true → has k (xs ++ ys) ≡ true
has_left k xs ys e = has_append k xs ys ∙ (rw e)

pub has_right : (k : ℕ) (xs ys : List ℕ) → has k ys ≡ true → has k (xs ++ ys) ≡ true
has_right k xs ys e = has_append k xs ys ∙ ⊎_elim (λ t. rw t) (λ t. rw t e) (cases (has k xs))

pub has_parts : (k : ℕ) (xs ys : List ℕ) → has k (xs ++ ys) ≡ true → (has k xs ≡ true) ⊎ (has k ys ≡ true)
has_parts k xs ys e =
    ⊎_elim
    (λ t. inl t)
    (λ t. inr (sym (ap (λ (b : Bool). either b (has k ys)) t) ∙ sym (has_append k xs ys) ∙ e))
    (cases (has k xs))

-- ---- counts

distinct_length : (xs : List ℕ) → distinct xs ≤ length xs
unfolding distinct
distinct_length [] = zero-le
distinct_length (x ∷ xs) =
    ⊎_elim (λ e. rw e (le_step (distinct_length xs))) (λ e. rw e (suc-le-suc (distinct_length xs))) (cases (has x xs))

-- a list without repeats whose numbers all stand in the other is no longer
pub different_length : (xs ys : List ℕ) → Different xs → Within xs ys → length xs ≤ length ys
different_length xs ys d h = le_trans (different_within xs ys d h) (distinct_length ys)

pub filter_shorter : {A : Type 0} (p : A → Bool) (xs : List A) → length (filter p xs) ≤ length xs
unfolding filter
filter_shorter p [] = zero-le
filter_shorter p (x ∷ xs) =
    ⊎_elim (λ e. rw e (suc-le-suc (filter_shorter p xs))) (λ e. rw e (le_step (filter_shorter p xs))) (cases (p x))

-- ---- insertions

has_insert : {A : Type 0} (k : ℕ) (a : A) (rs : List (Row A)) (j : ℕ)
    → has j (keys (insert k a rs)) ≡ present (pick (same k j) (some a) (look rs j))
has_insert k a rs j = has_keys (insert k a rs) j ∙ ap present (look_insert k a rs j)

pub rising_insert : {A : Type 0} (k : ℕ) (a : A) (rs : List (Row A)) → Rising rs → Rising (insert k a rs)
rising_insert k a rs f = unfold assign in rising_assign k (some a) rs f

module _ {A : Type 0} (k : ℕ) (a : A) (rs : List (Row A)) (f : Rising rs) where
  insert_within : (ks : List ℕ) → has k ks ≡ true → Within (keys rs) ks → length (insert k a rs) ≤ length ks
  insert_within ks e h =
      le_trans (le_of_eq (sym (length_keys (insert k a rs))))
      (different_length (keys (insert k a rs)) ks (rising_different (insert k a rs) (rising_insert k a rs f)) inside)
    where
      inside : Within (keys (insert k a rs)) ks
      inside j t =
          ⊎_elim
          (λ q. subst (λ (x : ℕ). has x ks ≡ true) (same_true k j q) e)
          (λ q. h j (has_keys rs j ∙ sym (has_insert k a rs j ∙ (rw q)) ∙ t))
          (cases (same k j))

  -- an insertion adds at most one row
  pub insert_longer : length (insert k a rs) ≤ suc (length rs)
  insert_longer =
      le_trans (insert_within (k ∷ keys rs) (has_here k (keys rs)) (λ j t. has_there j k (keys rs) t)) (le_of_eq (ap suc (length_keys rs)))

  -- and none where one stands already
  pub insert_replaces : present (look rs k) ≡ true → length (insert k a rs) ≤ length rs
  insert_replaces e = le_trans (insert_within (keys rs) (has_keys rs k ∙ e) (λ j t. t)) (le_of_eq (length_keys rs))
