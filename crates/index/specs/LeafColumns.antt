-- The lent rows of leaves, read by columns: lows, versions, and the two numbers that the phantomlet keeps of each leaf.
use Rattle.std.specs.Prelude.{ℕ, List, [], ◌∷◌, map, get_or, set}
use Rattle.index.specs.declared.leaves.LeafWords.{LeafWords}

-- the lent rows of leaves, as lists of words
abbrev pub LeafRows : Type 0
LeafRows = List (List ℕ)

-- word k of each row
unfoldable pub column : ℕ → LeafRows → List ℕ
column k leaves = map (λ (ws : List ℕ). get_or ws k 0) leaves

abbrev pub lows_of : LeafRows → List ℕ
lows_of leaves = column 0 leaves

-- the versions (document 01: marks)
abbrev pub versions_of : LeafRows → List ℕ
versions_of leaves = column 1 leaves

-- the numbers of keys that a leaf hides from somebody
abbrev pub hidden_of : LeafRows → List ℕ
hidden_of leaves = column 2 leaves

-- the numbers of pending writes
abbrev pub pending_of : LeafRows → List ℕ
pending_of leaves = column 3 leaves

-- what a row of words says
abbrev pub leaf_in : List ℕ → LeafWords
leaf_in ws = record { low = get_or ws 0 0; version = get_or ws 1 0; hidden = get_or ws 2 0; pending = get_or ws 3 0 }

-- the leaf at place i
abbrev pub leaf_at : LeafRows → ℕ → LeafWords
leaf_at leaves i = leaf_in (get_or leaves i [])

-- the words of a leaf
abbrev pub leaf_words : LeafWords → List ℕ
leaf_words l = l.low ∷ l.version ∷ l.hidden ∷ l.pending ∷ []

-- the leaves with another one at place i
abbrev pub leaf_put : LeafRows → ℕ → LeafWords → LeafRows
leaf_put leaves i l = set leaves i (leaf_words l)
