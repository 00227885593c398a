-- Document 01, "The script program": what a line of a script says. A line is its bytes, without the line feed.
-- It is a letter and decimal numbers, with single spaces between; what is anything else is malformed (none).
use Rattle.std.specs.Prelude.{ℕ, ◌+◌, ◌-◌, ◌*◌, ◌^◌, Bool, false, List, [], ◌∷◌}
use Rattle.std.proofs.Math.Option.{Option, none, some}
use Rattle.lists.specs.Tests.{pick, both, maybe, same, less, within}
use Rattle.spec.specs.Widths.{addresses, worker_names}
use Rattle.spec.specs.Steps.{places, Step, begin, read, scan, put, remove, lock, validate, install, abort, merge, merge_oldest}
use Rattle.script.specs.declared.Line.{Line}
use Rattle.script.specs.declared.Line.TheVariants.{Begin, Read, Scan, Put, Remove, Lock, Validate, Install, Abort, Merge, MergeOldest}

-- ---- a line's words, which single spaces part

-- the bytes before the first space
unfoldable pub first_word : List ℕ → List ℕ
first_word [] = []
first_word (b ∷ bs) = pick (same b 32) [] (b ∷ first_word bs)

-- the words after the first space
unfoldable pub more_words : List ℕ → List (List ℕ)
more_words [] = []
more_words (b ∷ bs) = pick (same b 32) (first_word bs ∷ more_words bs) (more_words bs)

-- ---- numbers

-- `0` to `9`
unfoldable pub is_digit : ℕ → Bool
is_digit b = within 48 57 b

-- the number made of n's digits and those of the word; none if a byte is no digit
unfoldable pub extend : ℕ → List ℕ → Option ℕ
extend n [] = some n
extend n (b ∷ w) = pick (is_digit b) (extend (n * 10 + (b - 48)) w) none

-- one or more digits, leading zeros allowed
unfoldable pub number : List ℕ → Option ℕ
number [] = none
number (b ∷ w) = extend 0 (b ∷ w)

-- every word is a number
unfoldable pub numbers : List (List ℕ) → Option (List ℕ)
numbers [] = some []
numbers (w ∷ ws) = maybe (number w) none (λ (n : ℕ). maybe (numbers ws) none (λ (ns : List ℕ). some (n ∷ ns)))

-- ---- letters and their numbers

-- T, request 101's line, has none
unfoldable pub no_number : ℕ → Option Line
no_number c = pick (same c 84) (some MergeOldest) none

-- B, L, V, I, A seat
unfoldable pub seat_line : ℕ → ℕ → Option Line
seat_line c a =
    pick (same c 66) (some (Begin a))
    (pick (same c 76) (some (Lock a))
    (pick (same c 86) (some (Validate a))
    (pick (same c 73) (some (Install a))
    (pick (same c 65) (some (Abort a)) none))))

-- M address, or a seat's line
unfoldable pub one_number : ℕ → ℕ → Option Line
one_number c a =
    pick (same c 77) (pick (less a addresses) (some (Merge a)) none)
    (pick (less a worker_names) (seat_line c a) none)

-- R, D seat address
unfoldable pub two_numbers : ℕ → ℕ → ℕ → Option Line
two_numbers c a b = pick (same c 82) (some (Read a b)) (pick (same c 68) (some (Remove a b)) none)

-- S seat lo hi
unfoldable pub three_numbers : ℕ → ℕ → ℕ → ℕ → Option Line
three_numbers c a b d = pick (same c 83) (pick (less d addresses) (some (Scan a b d)) none) none

-- P seat address value owner; the value has 64 bits, and the owner, request 106's, 16
unfoldable pub four_numbers : ℕ → ℕ → ℕ → ℕ → ℕ → Option Line
four_numbers c a b d e =
    pick (same c 80) (pick (both (less d (2 ^ 64)) (less e (2 ^ 16))) (some (Put a b d e)) none) none

-- a letter with its numbers
unfoldable pub line_of : ℕ → List ℕ → Option Line
line_of c [] = no_number c
line_of c (a ∷ []) = one_number c a
line_of c (a ∷ b ∷ []) = pick (both (less a worker_names) (less b addresses)) (two_numbers c a b) none
line_of c (a ∷ b ∷ d ∷ []) = pick (both (less a worker_names) (less b addresses)) (three_numbers c a b d) none
line_of c (a ∷ b ∷ d ∷ e ∷ []) = pick (both (less a worker_names) (less b addresses)) (four_numbers c a b d e) none
line_of c (a ∷ b ∷ d ∷ e ∷ f ∷ ns) = none

-- the first word is a letter
unfoldable pub lettered : List ℕ → List ℕ → Option Line
lettered [] ns = none
lettered (c ∷ []) ns = line_of c ns
lettered (c ∷ d ∷ w) ns = none

-- what a line says as a step; none if it is malformed
unfoldable pub meaning : List ℕ → Option Line
meaning l = maybe (numbers (more_words l)) none (λ (ns : List ℕ). lettered (first_word l) ns)

-- ---- the letter of a line, and its step

-- the letter of a line
abbrev pub letter_of : Line → ℕ
letter_of (Begin w) = 66
letter_of (Read w k) = 82
letter_of (Scan w lo hi) = 83
letter_of (Put w k v o) = 80
letter_of (Remove w k) = 68
letter_of (Lock w) = 76
letter_of (Validate w) = 86
letter_of (Install w) = 73
letter_of (Abort w) = 65
letter_of (Merge k) = 77
letter_of MergeOldest = 84

-- the step that a line asks for; a scan's three buffers have n places each
abbrev pub step_of : ℕ → Line → Step
step_of n (Begin w) = begin w
step_of n (Read w k) = read w k
step_of n (Scan w lo hi) = scan w lo hi (places n n n)
step_of n (Put w k v o) = put w k (record { value = v; owner = o })
step_of n (Remove w k) = remove w k
step_of n (Lock w) = lock w
step_of n (Validate w) = validate w
step_of n (Install w) = install w
step_of n (Abort w) = abort w
step_of n (Merge k) = merge k
step_of n MergeOldest = merge_oldest

-- ---- the line of a guarded map

-- G, request 102's line, which asks for no step
abbrev pub guard_line : List ℕ
guard_line = 71 ∷ []

-- a line is that one
unfoldable pub is_guard : List ℕ → Bool
is_guard [] = false
is_guard (b ∷ []) = same b 71
is_guard (b ∷ c ∷ l) = false
