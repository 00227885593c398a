-- Leaf sets (document 01: the log's marks): how their rows read, and what the functions over one promise. A granted scan logs
-- at least one leaf; the first row that it logs also remembers the scan (request 102).
use Rattle.std.specs.Prelude.{ℕ, ◌+◌, ◌<◌, ◌≡◌, Bool, List, [], ◌∷◌, ◌++◌, get_or, eqb, Option as Optional, Some, None}
use Rattle.lists.specs.Tests.{pick}
use Rattle.spec.specs.Records.{limits}
use Rattle.spec.specs.Guards.{Scan}
use Rattle.sets.specs.declared.leaves.LoggedLeaf.{LoggedLeaf}
use Rattle.sets.specs.declared.leaves.Scanned.{Scanned}
use Rattle.sets.specs.Sets.{AddressAt, Each, first_rows}

-- one worker's rows, as lists of words
abbrev pub LeafSetRows : Type 0
LeafSetRows = List (List ℕ)

-- how many words a row has
abbrev pub leaf_set_words : ℕ
leaf_set_words = 7

-- ---- views

-- the version and the low address that a row says
abbrev pub version_in : List ℕ → ℕ
version_in r = get_or r 0 0

abbrev pub low_in : List ℕ → ℕ
low_in r = get_or r 1 0

-- the versions in a leaf set of n rows, and the low address of the leaf that had each
abbrev pub versions_of : LeafSetRows → ℕ → List ℕ
versions_of rs n = first_rows version_in rs n

abbrev pub lows_of : LeafSetRows → ℕ → List ℕ
lows_of rs n = first_rows low_in rs n

-- the scan in words
abbrev pub scanned_in : Scanned → Scan
scanned_in s = record { lo = s.lo; hi = s.hi; from = s.from; count = s.count }

-- the scan that a row remembers, if it is the first of one
abbrev pub remembered_if : Bool → Scan → List Scan
remembered_if first s = pick first (s ∷ []) []

abbrev pub note_in : Optional Scanned → List Scan
note_in None = []
note_in (Some s) = scanned_in s ∷ []

-- what a row says
abbrev pub scans_at : List ℕ → List Scan
scans_at r = remembered_if (eqb (get_or r 2 0) 1) (record { lo = get_or r 3 0; hi = get_or r 4 0; from = get_or r 5 0; count = get_or r 6 0 })

-- what each of n rows says
abbrev pub notes_of : LeafSetRows → ℕ → List (List Scan)
notes_of rs n = first_rows scans_at rs n

-- one after the other
unfoldable pub joined : {A : Type 0} → List (List A) → List A
joined [] = []
joined (xs ∷ xss) = xs ++ joined xss

-- the scans that a leaf set of n rows remembers
abbrev pub scans_of : LeafSetRows → ℕ → List Scan
scans_of rs n = joined (notes_of rs n)

-- those of worker w
abbrev pub versions_in : List LeafSetRows → ℕ → ℕ → List ℕ
versions_in gs w n = versions_of (get_or gs w []) n

abbrev pub lows_in : List LeafSetRows → ℕ → ℕ → List ℕ
lows_in gs w n = lows_of (get_or gs w []) n

abbrev pub scans_in : List LeafSetRows → ℕ → ℕ → List Scan
scans_in gs w n = scans_of (get_or gs w []) n

-- ---- the invariants

-- the rows of one worker: stored lows are addresses
abbrev pub LeafSetHeld : LeafSetRows → Type 0
LeafSetHeld rs = Each (AddressAt 1) limits.leaf_set_limit rs

-- those of all workers
abbrev pub LeavesHeld : List LeafSetRows → Type 0
LeavesHeld gs = Each LeafSetHeld limits.workers gs

-- ---- promises

-- the rows after one was appended to the first n, and how many there are now
pub record LogsLeaf (rs : LeafSetRows) (n : ℕ) (leaf : LoggedLeaf) (first : Bool) (s : Scanned) (us : LeafSetRows) (r : ℕ) : Type 0 where
  pub held : LeafSetHeld us
  pub count : r ≡ n + 1
  pub versions : versions_of us r ≡ versions_of rs n ++ (leaf.version ∷ [])
  pub lows : lows_of us r ≡ lows_of rs n ++ (leaf.low ∷ [])
  pub marks : notes_of us r ≡ notes_of rs n ++ (remembered_if first (scanned_in s) ∷ [])

-- row i, in a set of any number of rows that has it
pub record GivesLeaf (rs : LeafSetRows) (i : ℕ) (r : LoggedLeaf) : Type 0 where
  pub version : (n : ℕ) → i < n → r.version ≡ get_or (versions_of rs n) i 0
  pub low : (n : ℕ) → i < n → r.low ≡ get_or (lows_of rs n) i 0

-- what row i remembers, in a set of any number of rows that has it
pub record GivesNote (rs : LeafSetRows) (i : ℕ) (r : Optional Scanned) : Type 0 where
  pub mark : (n : ℕ) → i < n → note_in r ≡ get_or (notes_of rs n) i []
