-- The laws of what buffers hold.
use Rattle.std.specs.Prelude.{ℕ, ◌+◌, ◌<◌, ◌≤◌, ◌≡◌, List, [], ◌∷◌, ◌++◌, length, set}
use Rattle.std.proofs.Common.{le_trans, add-one, arith, ap, ◌∙◌, length-set, get_or-set_same, get_or-set_other}
use Rattle.std.proofs.Math.Path.{refl}
use Rattle.lists.specs.Rows.{Row, row}
use Rattle.lists.specs.Tabulation.{tab}
use Rattle.lists.specs.Shifts.{tab_same, tab_snoc, length_tab}
use Rattle.spec.specs.Records.{Payload}
use Rattle.buffers.specs.Buffers.{Buffers, buffers, row_in, rows_in, Unmoved, Beyond}

pub length_rows : (n : ℕ) (b : Buffers) → length (rows_in n b) ≡ n
unfolding rows_in
length_rows n b = length_tab (row_in b) n

pub unmoved_refl : (n : ℕ) (ks : List ℕ) → Unmoved n ks ks
unmoved_refl n ks = record { size = refl; same = λ p l. refl }

pub beyond_refl : (n : ℕ) (b : Buffers) → Beyond n b b
beyond_refl n b =
    record { addresses = unmoved_refl n b.addresses; values = unmoved_refl n b.values; owners = unmoved_refl n b.owners }

unmoved_on : {n m : ℕ} {ks ls us : List ℕ} → n ≤ m → Unmoved n ks ls → Unmoved m ls us → Unmoved m ks us
unmoved_on l a b = record { size = b.size ∙ a.size; same = λ p k. b.same p k ∙ a.same p (le_trans l k) }

pub beyond_on : {n m : ℕ} {b c d : Buffers} → n ≤ m → Beyond n b c → Beyond m c d → Beyond m b d
beyond_on l x y =
    record {
      addresses = unmoved_on l x.addresses y.addresses;
      values = unmoved_on l x.values y.values;
      owners = unmoved_on l x.owners y.owners;
    }

unmoved_set : (ks : List ℕ) (at x : ℕ) → Unmoved (at + 1) ks (set ks at x)
unmoved_set ks at x =
    record { size = length-set ks at x; same = λ p l. get_or-set_other ks at p x 0 (λ e. let z : ⊥ = omega arith in z) }

-- the buffers with a row behind the first `at` places
abbrev pub row_put : Buffers → ℕ → Row Payload → Buffers
row_put b at r = buffers (set b.addresses at r.key) (set b.values at r.item.value) (set b.owners at r.item.owner)

module _ (b : Buffers) (at : ℕ) (r : Row Payload) where
  pub beyond_put : Beyond (at + 1) b (row_put b at r)
  beyond_put =
      record {
        addresses = unmoved_set b.addresses at r.key;
        values = unmoved_set b.values at r.item.value;
        owners = unmoved_set b.owners at r.item.owner;
      }

  pub rows_put : at < length b.addresses → at < length b.values → at < length b.owners
      → rows_in (at + 1) (row_put b at r) ≡ rows_in at b ++ (r ∷ [])
  rows_put l k m =
      whole
      ∙ ap (tab (row_in c)) (add-one at)
      ∙ tab_snoc (row_in c) at
      ∙ ap (λ (zs : List (Row Payload)). zs ++ (row_in c at ∷ [])) earlier
      ∙ ap (λ (r : Row Payload). rows_in at b ++ (r ∷ [])) last
    where
      c : Buffers
      c = row_put b at r

      apart : (i : ℕ) → i < at → i ≡ at → ⊥
      apart i b q = let z : ⊥ = omega arith in z

      made : {a a' v v' o o' : ℕ} → a ≡ a' → v ≡ v' → o ≡ o'
          → row {A = Payload} a (record { value = v; owner = o }) ≡ row {A = Payload} a' (record { value = v'; owner = o' })
      made p q r = λ i. row {A = Payload} (p i) (record { value = q i; owner = r i })

      earlier : tab (row_in c) at ≡ rows_in at b
      earlier = unfold rows_in in
          tab_same (row_in c) (row_in b) at
          (λ i l. made
          (get_or-set_other b.addresses at i r.key 0 (apart i l))
          (get_or-set_other b.values at i r.item.value 0 (apart i l))
          (get_or-set_other b.owners at i r.item.owner 0 (apart i l)))

      last : row_in c at ≡ r
      last =
          made (get_or-set_same b.addresses at r.key 0 l) (get_or-set_same b.values at r.item.value 0 k)
          (get_or-set_same b.owners at r.item.owner 0 m)

      whole : rows_in (at + 1) c ≡ tab (row_in c) (at + 1)
      whole = unfold rows_in in refl
