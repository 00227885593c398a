-- Document 01, "The script program": the text that the program writes, as bytes. The answer of a step stands behind the
-- letter of its line (`answer_line` in crate `console`).
use Rattle.std.specs.Prelude.{ℕ, zero, suc, ◌+◌, ◌/◌, ◌%◌, List, [], ◌∷◌, ◌++◌, length}
use Rattle.std.proofs.Math.Option.{none, some}
use Rattle.lists.specs.Tests.{pick, less}
use Rattle.lists.specs.Rows.{Row}
use Rattle.spec.specs.Refusals.{number_of}
use Rattle.spec.specs.Records.{Payload, Record}
use Rattle.spec.specs.Steps.{Answer, refused, done, found, listed, numbered, counted}

-- ---- numbers

-- The digits of n, the most significant first: those of n / 10, if there are any, and the last. The count bounds the digits.
unfoldable pub digits_within : ℕ → ℕ → List ℕ
digits_within zero n = []
digits_within (suc count) n =
    let others = digits_within count (n / 10) in
    pick (less n 10) ((48 + n) ∷ []) (others ++ ((48 + n % 10) ∷ []))

-- n in decimal, without leading zeros; 0 is `0`
unfoldable pub decimal : ℕ → List ℕ
decimal n = digits_within (suc n) n

-- a space and the number
unfoldable pub field : ℕ → List ℕ
field n = 32 ∷ decimal n

-- a space and `-`
abbrev pub absent : List ℕ
absent = 32 ∷ 45 ∷ []

-- an address, a value and an owner
unfoldable pub triple : ℕ → ℕ → ℕ → List ℕ
triple k v o = field k ++ field v ++ field o

-- ---- lines

-- the address of each row, and the payload of its item
unfoldable pub triples : {A : Type 0} → (A → Payload) → List (Row A) → List ℕ
triples p [] = []
triples p (r ∷ rs) = triple r.key (p r.item).value (p r.item).owner ++ triples p rs

-- addresses, values and owners side by side
unfoldable pub triples_of : List ℕ → List ℕ → List ℕ → List ℕ
triples_of [] vs os = []
triples_of (k ∷ ks) [] os = []
triples_of (k ∷ ks) (v ∷ vs) [] = []
triples_of (k ∷ ks) (v ∷ vs) (o ∷ os) = triple k v o ++ triples_of ks vs os

-- the answer number, 0 if granted, and what a granted step adds
unfoldable pub answer_text : Answer → List ℕ
answer_text (refused r) = field (number_of r)
answer_text done = field 0
answer_text (found none x) = field 0 ++ absent ++ field x
answer_text (found (some p) x) = field 0 ++ field p.value ++ field p.owner ++ field x
answer_text (listed rs) = field 0 ++ field (length rs) ++ triples (λ (p : Payload). p) rs
answer_text (numbered n) = field 0 ++ field n
answer_text (counted n) = field 0 ++ field n

-- at the end `E`, the number of present records, and their triples
unfoldable pub end_line : List (Row Record) → List ℕ
end_line rs = 69 ∷ field (length rs) ++ triples (λ (r : Record). r.payload) rs ++ (10 ∷ [])

-- for the line G, request 102's, which is always granted
abbrev pub guarded_answer : List ℕ
guarded_answer = 71 ∷ field 0 ++ (10 ∷ [])

-- after a malformed line
abbrev pub malformed_line : List ℕ
malformed_line = 63 ∷ 10 ∷ []
