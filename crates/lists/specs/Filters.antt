-- What is left of a list by a test: which numbers and keys stand in it, and that none stands twice.
use Rattle.std.specs.Prelude.{ℕ, ◌≡◌, refl, Bool, true, false, List, [], ◌∷◌}
use Rattle.std.proofs.Common.{sym, ap, ◌∙◌, ⊎_elim}
use Rattle.std.proofs.Math.Option.{Option, some}
use Rattle.lists.specs.Tests.{pick, both, same}
use Rattle.lists.specs.TestLaws.{cases, clash, same_true, same_yes}
use Rattle.lists.specs.Options.{both_options, some_same}
use Rattle.lists.specs.Rows.{Row, row, look, keys, filter, has, Different}
use Rattle.lists.specs.Counting.{has_nil, has_cons, has_there}

-- a number is left if it was there and passes the test
pub has_filter : (p : ℕ → Bool) (xs : List ℕ) (j : ℕ) → has j (filter p xs) ≡ both (has j xs) (p j)
unfolding filter
has_filter p [] j = has_nil j ∙ sym (ap (λ (b : Bool). both b (p j)) (has_nil j))
has_filter p (x ∷ xs) j =
    ⊎_elim
    (λ e. ap (λ (b : Bool). has j (pick b (x ∷ filter p xs) (filter p xs))) e ∙ has_cons j x (filter p xs) ∙ taken (has_filter p xs j) e)
    (λ e. ap (λ (b : Bool). has j (pick b (x ∷ filter p xs) (filter p xs))) e ∙ has_filter p xs j ∙ left e)
    (cases (p x))
    ∙ sym (ap (λ (b : Bool). both b (p j)) (has_cons j x xs))
  where
    taken : has j (filter p xs) ≡ both (has j xs) (p j) → p x ≡ true → pick (same j x) true (has j (filter p xs)) ≡ both (pick (same j x) true (has j xs)) (p j)
    taken rest e = ⊎_elim (λ q. rw q (sym (ap p (same_true j x q) ∙ e))) (λ q. rw q rest) (cases (same j x))

    left : p x ≡ false → both (has j xs) (p j) ≡ both (pick (same j x) true (has j xs)) (p j)
    left e = ⊎_elim (λ q. rw q (gone (ap p (same_true j x q) ∙ e))) (λ q. rw q) (cases (same j x))
      where
        gone : p j ≡ false → both (has j xs) (p j) ≡ p j
        gone f = ⊎_elim (λ q. rw q) (λ q. (rw q) ∙ sym f) (cases (has j xs))

pub different_filter : (p : ℕ → Bool) (xs : List ℕ) → Different xs → Different (filter p xs)
unfolding filter Different
different_filter p [] d = tt
different_filter p (x ∷ xs) d =
    ⊎_elim
    (λ e. rw e (has_filter p xs x ∙ ap (λ (b : Bool). both b (p x)) d.0, different_filter p xs d.1))
    (λ e. rw e (different_filter p xs d.1))
    (cases (p x))

-- the first row of a key is left if it passes the test
pub filter_has : {A : Type 0} (p : Row A → Bool) (rs : List (Row A)) (k : ℕ) (a : A) → look rs k ≡ some a → p (row k a) ≡ true
    → has k (keys (filter p rs)) ≡ true
unfolding look filter keys
filter_has p [] k a e t = both_options e refl
filter_has p (r ∷ rs) k a e t =
    ⊎_elim here (λ q. there q (filter_has p rs k a (sym (rw q) ∙ e) t)) (cases (same r.key k))
  where
    here : same r.key k ≡ true → has k (keys (pick (p r) (r ∷ filter p rs) (filter p rs))) ≡ true
    here q = rw passes (has_cons k r.key (keys (filter p rs)) ∙ (rw (same_yes {m = k} {n = r.key} (sym is_key))))
      where
        is_key : r.key ≡ k
        is_key = same_true r.key k q

        is_item : r.item ≡ a
        is_item = some_same (sym (ap (λ (b : Bool). pick b (some r.item) (look rs k)) q) ∙ e)

        passes : p r ≡ true
        passes = ap2 ∙ t
          where
            ap2 : p r ≡ p (row k a)
            ap2 = λ i. p (row (is_key i) (is_item i))

    there : same r.key k ≡ false → has k (keys (filter p rs)) ≡ true → has k (keys (pick (p r) (r ∷ filter p rs) (filter p rs))) ≡ true
    there q h = ⊎_elim (λ f. rw f (has_there k r.key (keys (filter p rs)) h)) (λ f. rw f h) (cases (p r))
