-- The parser: what it is after the bytes of a line so far, and what a call of it tells. What a reader has to believe of
-- reading is `Parses`, with `Says`; how the parser keeps what it knows (`continued`) only ties one call to the next.
use Rattle.std.specs.Prelude.{ℕ, ◌+◌, ◌≡◌, ◌⊎◌, Bool, true, false, not, List, [], ◌∷◌, ◌++◌, length, drop}
use Rattle.std.proofs.Math.Option.{Option, none, some}
use Rattle.lists.specs.Tests.{pick, maybe, same}
use Rattle.lists.specs.Rows.{has}
use Rattle.script.specs.declared.Line.{Line}
use Rattle.script.specs.declared.Line.TheVariants.{MergeOldest}
use Rattle.script.specs.declared.Parser.{Parser}
use Rattle.script.specs.declared.Parser.TheVariants.{Start, Letter, Oldest, Guard, First, Second, Third, Fourth}
use Rattle.script.specs.declared.Event.{Event}
use Rattle.script.specs.declared.Event.TheVariants as event
use Rattle.script.specs.declared.Parsed.{Parsed}
use Rattle.script.specs.Grammar.{first_word, more_words, extend, numbers, line_of, meaning, guard_line, is_guard}

-- ---- what the line says whose first bytes the parser has read, if the given bytes are the rest of it

-- the list is not empty
abbrev pub filled : List ℕ → Bool
filled [] = false
filled (b ∷ bs) = true

-- the numbers of a line before the current one
pub data Before : Type 0 where
  none_before : Before
  one_before : ℕ → Before
  two_before : ℕ → ℕ → Before
  three_before : ℕ → ℕ → ℕ → Before

abbrev pub values : Before → List ℕ
values none_before = []
values (one_before a) = a ∷ []
values (two_before a b) = a ∷ b ∷ []
values (three_before a b e) = a ∷ b ∷ e ∷ []

-- the parser within a number: the letter, the numbers before, whether the current one has a digit yet, and its value so far
unfoldable pub in_number : ℕ → Before → Bool → ℕ → Parser
in_number c none_before d n = First c d n
in_number c (one_before a) d n = Second c d a n
in_number c (two_before a b) d n = Third c d a b n
in_number c (three_before a b e) d n = Fourth c d a b e n

-- a number begun: n so far, and whether it has a digit yet
unfoldable pub number_on : Bool → ℕ → List ℕ → Option ℕ
number_on true n w = extend n w
number_on false n [] = none
number_on false n (b ∷ w) = extend n (b ∷ w)

-- a letter, the numbers ns before the current one, and the current one begun
unfoldable pub fields_on : ℕ → List ℕ → Bool → ℕ → List ℕ → Option Line
fields_on c ns d n l =
    maybe (number_on d n (first_word l)) none
    (λ (m : ℕ). maybe (numbers (more_words l)) none (λ (ms : List ℕ). line_of c (ns ++ (m ∷ ms))))

-- a letter that has numbers
unfoldable pub letter_on : ℕ → List ℕ → Option Line
letter_on c [] = none
letter_on c (b ∷ l) = pick (same b 32) (fields_on c [] false 0 l) none

-- a letter that has none, and is the line x
unfoldable pub alone_on : Line → List ℕ → Option Line
alone_on x [] = some x
alone_on x (b ∷ l) = none

-- any parser: the step
unfoldable pub continued : Parser → List ℕ → Option Line
continued Start l = meaning l
continued (Letter c) l = letter_on c l
continued Oldest l = alone_on MergeOldest l
continued Guard l = none
continued (First c d n) l = fields_on c [] d n l
continued (Second c d a n) l = fields_on c (a ∷ []) d n l
continued (Third c d a b n) l = fields_on c (a ∷ b ∷ []) d n l
continued (Fourth c d a b e n) l = fields_on c (a ∷ b ∷ e ∷ []) d n l

-- ... and if it is G
unfoldable pub guard_on : Parser → List ℕ → Bool
guard_on Start l = is_guard l
guard_on (Letter c) l = false
guard_on Oldest l = false
guard_on Guard l = not (filled l)
guard_on (First c d n) l = false
guard_on (Second c d a n) l = false
guard_on (Third c d a b n) l = false
guard_on (Fourth c d a b e n) l = false

-- ---- what is promised

-- something of the line has been read
abbrev pub started : Parser → Bool
started Start = false
started (Letter c) = true
started Oldest = true
started Guard = true
started (First c d n) = true
started (Second c d a n) = true
started (Third c d a b n) = true
started (Fourth c d a b e n) = true

-- p is the parser after these bytes of a line: none is a line feed, and p knows what the line says, whatever follows
pub record After (seen : List ℕ) (p : Parser) : Type 0 where
  pub unbroken : has 10 seen ≡ false
  pub begun : started p ≡ filled seen
  pub means : (rest : List ℕ) → meaning (seen ++ rest) ≡ continued p rest
  pub guards : (rest : List ℕ) → is_guard (seen ++ rest) ≡ guard_on p rest

-- the bytes are those of the line l and its line feed
pub record Whole (l bs : List ℕ) : Type 0 where
  pub unbroken : has 10 l ≡ false
  pub fed : bs ≡ l ++ (10 ∷ [])

-- the bytes bs of s stand from place i up to place j
pub record Cut (s : List ℕ) (i : ℕ) (bs : List ℕ) (j : ℕ) : Type 0 where
  pub rest : drop i s ≡ bs ++ drop j s
  pub place : j ≡ i + length bs

-- the line is neither a step nor G
abbrev pub SaysNothing : List ℕ → Type 0
SaysNothing l = (meaning l ≡ none) × (is_guard l ≡ false)

-- What an event says of the line's bytes: of a line, that it is complete, and what it says, or that it is G; of a malformed
-- one, that it is complete and says nothing, or that no line that begins so says anything; else, what the parser is.
unfoldable pub Says : Event → Parser → List ℕ → Type 0
Says (event.Line x) p bs = (l : List ℕ) × Whole l bs × (meaning l ≡ some x) × (p ≡ Start)
Says event.Guard p bs = Whole guard_line bs × (p ≡ Start)
Says event.Malformed p bs =
    (((l : List ℕ) × Whole l bs × SaysNothing l)
    ⊎ ((has 10 bs ≡ false) × ((rest : List ℕ) → SaysNothing (bs ++ rest))))
    × (p ≡ Start)
Says event.SliceEnd p bs = After bs p

-- r is what reading s from a place on tells, after the bytes seen of the current line: what the bytes taken say, and that
-- none is left at the slice's end
pub record Parses (seen s : List ℕ) (from : ℕ) (r : Parsed) : Type 0 where
  pub taken : List ℕ
  pub cut : Cut s from taken r.next
  pub says : Says r.event r.parser (seen ++ taken)
  pub whole : r.event ≡ event.SliceEnd → drop r.next s ≡ []
