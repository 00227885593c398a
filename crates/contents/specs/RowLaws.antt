-- A record of a copy and the words of its row.
use Rattle.std.specs.Prelude.{ℕ, ◌%◌, ◌^◌, ◌<◌, ◌≡◌, refl, List, [], ◌∷◌}
use Rattle.std.proofs.Common.{arith}
use Rattle.lists.specs.Rows.{Row, row}
use Rattle.spec.specs.Widths.{addresses}
use Rattle.spec.specs.Payloads.{owners}
use Rattle.spec.specs.Records.{Payload}
use Rattle.contents.specs.declared.rows.CopiedRecord.{CopiedRecord}
use Rattle.contents.specs.Copies.{copy_row}

-- what a record says
abbrev pub row_of : CopiedRecord → Row Payload
row_of r = row r.address (record { value = r.value; owner = r.owner })

-- the words of its row
abbrev pub copy_words : CopiedRecord → List ℕ
copy_words r = r.address ∷ r.value ∷ r.owner ∷ []

made : {a a' v v' o o' : ℕ} → a ≡ a' → v ≡ v' → o ≡ o'
    → row {A = Payload} a (record { value = v; owner = o }) ≡ row {A = Payload} a' (record { value = v'; owner = o' })
made p q r = λ i. row {A = Payload} (p i) (record { value = q i; owner = r i })

-- of a value's word all bits count
pub row_read : (a v o : ℕ) → v < 2 ^ 64 → row {A = Payload} (a % addresses) (record { value = v; owner = o % owners }) ≡ copy_row (a ∷ v ∷ o ∷ [])
row_read a v o h = made refl (let e : v ≡ v % 2 ^ 64 = omega arith in e) refl

-- words that are no longer than what they hold are read as they are
pub words_read : (a v o : ℕ) → a < addresses → v < 2 ^ 64 → copy_row (a ∷ v ∷ o % owners ∷ []) ≡ row a (record { value = v; owner = o % owners })
words_read a v o h g =
    made (let e : a % addresses ≡ a = omega arith in e) (let e : v % 2 ^ 64 ≡ v = omega arith in e) (let e : o % owners % owners ≡ o % owners = omega arith in e)
