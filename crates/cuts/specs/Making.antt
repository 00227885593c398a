-- What making a run does to the leaves that a merge has made so far.
use Rattle.std.specs.Prelude.{ℕ, List, get_or, set}
use Rattle.cuts.specs.declared.MadeLeaf.{MadeLeaf}

-- the most leaves that one merge can make: 1,024 records in runs of 8, and one more
abbrev pub most_runs : ℕ
most_runs = 129

-- a leaf: its low address and its version (document 01: mark)
abbrev pub leaf : ℕ → ℕ → MadeLeaf
leaf a v = record { low = a; version = v }

-- the leaf from another low address on
abbrev pub lowered : MadeLeaf → ℕ → MadeLeaf
lowered l a = leaf a l.version

-- the leaf under another version
abbrev pub versioned : MadeLeaf → ℕ → MadeLeaf
versioned l v = leaf l.low v

-- the leaves with leaf i changed
abbrev pub changed : (MadeLeaf → ℕ → MadeLeaf) → List MadeLeaf → ℕ → ℕ → List MadeLeaf
changed f ls i x = set ls i (f (get_or ls i (leaf 0 0)) x)

-- the leaves with another low address of leaf i
abbrev pub with_low : List MadeLeaf → ℕ → ℕ → List MadeLeaf
with_low = changed lowered

-- the leaves with another version of leaf i
abbrev pub with_version : List MadeLeaf → ℕ → ℕ → List MadeLeaf
with_version = changed versioned
