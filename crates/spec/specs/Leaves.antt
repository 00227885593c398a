-- Document 01: the leaves of the index, and "Leaves after a fold".
--
-- Leaves are listed by rising low address and cover all addresses: a leaf reaches up to the low of the next one.
-- An address lies in a leaf if the leaf is the last one whose low is not above it; since no two leaves have the same
-- version (document 01: mark), "in the leaf with version v" is "its leaf has version v".
use Rattle.std.specs.Prelude.{ℕ, zero, suc, ◌-◌, Bool, List, [], ◌∷◌, ◌++◌, map, length, drop, get_or}
use Rattle.lists.specs.Tests.{pick, both, same, less, at_most}
use Rattle.lists.specs.Rows.{any, filter}
use Rattle.spec.specs.Records.{Tuning}

pub record Leaf : Type 0 where
  pub low : ℕ
  pub version : ℕ

-- the leaf of an empty map
abbrev pub first_leaf : Leaf
first_leaf = record { low = 0; version = 0 }

-- the leaf of k among l and the leaves after it
unfoldable pub leaf_from : Leaf → List Leaf → ℕ → Leaf
leaf_from l [] k = l
leaf_from l (m ∷ ms) k = pick (less k m.low) l (leaf_from m ms k)

-- the leaf that holds an address
unfoldable pub leaf_of : List Leaf → ℕ → Leaf
leaf_of [] k = first_leaf
leaf_of (l ∷ ls) k = leaf_from l ls k

unfoldable pub version_at : List Leaf → ℕ → ℕ
version_at ls k = (leaf_of ls k).version

-- the version is that of a leaf
unfoldable pub live : List Leaf → ℕ → Bool
live ls v = any (λ (l : Leaf). same l.version v) ls

-- a leaf starts above lo and not above hi
unfoldable pub starts_in : ℕ → ℕ → Leaf → Bool
starts_in lo hi l = both (less lo l.low) (at_most l.low hi)

-- the versions of the leaves that meet lo to hi: the leaf that holds lo, and those that start after it up to hi
unfoldable pub meeting : List Leaf → ℕ → ℕ → List ℕ
meeting ls lo hi = version_at ls lo ∷ map (λ (l : Leaf). l.version) (filter (starts_in lo hi) ls)

-- ---- the cut rule

-- the runs of n records: `run` records each while `limit` or more remain, and the rest. Counts down `fuel`.
unfoldable pub runs : ℕ → ℕ → ℕ → ℕ → List ℕ
runs limit run zero n = n ∷ []
runs limit run (suc fuel) n = pick (less n limit) (n ∷ []) (run ∷ runs limit run fuel (n - run))

-- the records of each leaf that n records of a leaf make: up to the limit it stays whole
unfoldable pub cuts : Tuning → ℕ → List ℕ
cuts s n = pick (at_most n s.leaf_limit) (n ∷ []) (runs s.leaf_limit s.run n n)

-- the first address of each run but the first, of the addresses `ks`
unfoldable pub starts : List ℕ → List ℕ → List ℕ
starts [] ks = []
starts (n ∷ []) ks = []
starts (n ∷ m ∷ ns) ks = get_or ks n 0 ∷ starts (m ∷ ns) (drop n ks)

-- the low addresses of the leaves that replace a leaf with that low and the addresses `ks`
unfoldable pub new_lows : Tuning → ℕ → List ℕ → List ℕ
new_lows s low ks = low ∷ starts (cuts s (length ks)) ks

-- leaves with these lows and fresh versions, the next numbers after v, left to right
unfoldable pub fresh_leaves : ℕ → List ℕ → List Leaf
fresh_leaves v [] = []
fresh_leaves v (low ∷ lows) = record { low = low; version = suc v } ∷ fresh_leaves (suc v) lows

-- ---- the leaves after a merge

-- the leaves of a list, parted at the leaf of an address
pub record Around : Type 0 where
  pub before : List Leaf
  pub own : Leaf
  pub after : List Leaf

unfoldable pub around_from : ℕ → Leaf → List Leaf → Around
around_from k l [] = record { before = []; own = l; after = [] }
around_from k l (m ∷ ms) =
    let rest : Around = around_from k m ms in
    pick (less k m.low) (record { before = []; own = l; after = m ∷ ms })
    (record { before = l ∷ rest.before; own = rest.own; after = rest.after })

unfoldable pub around : ℕ → List Leaf → Around
around k [] = record { before = []; own = first_leaf; after = [] }
around k (l ∷ ls) = around_from k l ls

-- the leaves l ∷ ls with the last one's version fresh: it was widened by the leaf after it
unfoldable pub widened : ℕ → Leaf → List Leaf → List Leaf
widened v l [] = record { low = l.low; version = suc v } ∷ []
widened v l (m ∷ ms) = l ∷ widened v m ms

-- the leaves before a leaf that is left with the addresses `ks`, and what that leaf becomes. Left with none, it joins
-- its left neighbour; the first leaf stays.
unfoldable pub settled : Tuning → ℕ → List Leaf → Leaf → List ℕ → List Leaf
settled s v [] own ks = fresh_leaves v (new_lows s own.low ks)
settled s v (l ∷ ls) own [] = widened v l ls
settled s v (l ∷ ls) own (k ∷ ks) = l ∷ ls ++ fresh_leaves v (new_lows s own.low (k ∷ ks))

-- the leaves after a merge at an address whose leaf is left with the addresses `ks`, and v the last version given
unfoldable pub settle : Tuning → ℕ → List Leaf → ℕ → List ℕ → List Leaf
settle s v ls a ks = let p : Around = around a ls in settled s v p.before p.own ks ++ p.after

-- how many versions that takes
unfoldable pub versions_taken : Tuning → List ℕ → ℕ
versions_taken s ks = length (cuts s (length ks))
