-- A write set, one write after the other.
use Rattle.std.specs.Prelude.{ℕ, ◌+◌, ◌<◌, ◌≤◌, ◌≡◌, refl, List, [], ◌∷◌, length, get_or, drop}
use Rattle.std.proofs.Common.{add-one, arith, sym, ap, ◌∙◌, drop_of_length-le, drop-cons}
use Rattle.lists.specs.Rows.{Row, keys}
use Rattle.spec.specs.Records.{limits, Write}
use Rattle.sets.specs.declared.writes.Entry.{Entry}
use Rattle.sets.specs.Writes.{WriteRows, entry_in, no_write, write_in, writes_of, WriteSetHeld, GivesWrite}
use Rattle.sets.specs.SetLaws.{length_rows, row_at}

-- n writes in the rows of a worker
pub record Writing (ws : WriteRows) (n : ℕ) : Type 0 where
  pub held : WriteSetHeld ws
  pub few : n ≤ limits.write_limit

-- write i
abbrev pub write_at : WriteRows → ℕ → Row Write
write_at ws i = write_in (get_or ws i [])

-- a write that was read
pub given : {ws : WriteRows} {n i : ℕ} {r : Entry} → GivesWrite ws i r → i < n → entry_in r ≡ write_at ws i
given {ws} {n} {i} g h = g.at n h ∙ row_at write_in ws n i no_write h

-- the writes from write i on
unfoldable pub rest : WriteRows → ℕ → ℕ → List (Row Write)
rest ws i n = drop i (writes_of ws n)

pub rest_all : (ws : WriteRows) (n : ℕ) → rest ws 0 n ≡ writes_of ws n
unfolding rest
rest_all ws n = refl

pub rest_none : (ws : WriteRows) (i n : ℕ) → n ≤ i → rest ws i n ≡ []
unfolding rest
rest_none ws i n h =
    let l : length (writes_of ws n) ≡ n = length_rows write_in ws n in
    drop_of_length-le (writes_of ws n) {i = i} (omega arith)

pub rest_cons : (ws : WriteRows) (i n : ℕ) → i < n → rest ws i n ≡ write_at ws i ∷ rest ws (i + 1) n
unfolding rest
rest_cons ws i n h =
    let l : length (writes_of ws n) ≡ n = length_rows write_in ws n in
    drop-cons (writes_of ws n) i no_write (omega arith)
    ∙ (λ j. row_at write_in ws n i no_write h j ∷ drop (sym (add-one i) j) (writes_of ws n))

-- their addresses
unfoldable pub rest_keys : WriteRows → ℕ → ℕ → List ℕ
rest_keys ws i n = keys (rest ws i n)

pub keys_all : (ws : WriteRows) (n : ℕ) → rest_keys ws 0 n ≡ keys (writes_of ws n)
unfolding rest_keys
keys_all ws n = ap keys (rest_all ws n)

pub keys_none : (ws : WriteRows) (i n : ℕ) → n ≤ i → rest_keys ws i n ≡ []
unfolding rest_keys keys
keys_none ws i n h = ap keys (rest_none ws i n h)

pub keys_cons : (ws : WriteRows) (i n : ℕ) → i < n → rest_keys ws i n ≡ (write_at ws i).key ∷ rest_keys ws (i + 1) n
unfolding rest_keys keys
keys_cons ws i n h = ap keys (rest_cons ws i n h)
