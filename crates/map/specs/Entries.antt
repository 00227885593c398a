-- What a change of one address promises, and the numbers that it moves.
use Rattle.std.specs.Prelude.{ℕ, ◌+◌, ◌-◌, ◌^◌, ◌<◌, ◌≤◌, ◌≡◌, Bool, not, List, length, get_or, set}
use Rattle.std.specs.Bool.{beq}
use Rattle.lists.specs.Tests.{pick, both, present}
use Rattle.lists.specs.Rows.{look}
use Rattle.spec.specs.Slots.{Content, is_idle, Slot}
use Rattle.spec.specs.Maps.{MapState, with_slots}
use Rattle.indexlet.specs.Words.{slots_of}
use Rattle.index.specs.Views.{records_of}
use Rattle.index.specs.LeafPlaces.{AtLeaf}
use Rattle.index.specs.LeafColumns.{LeafRows, hidden_of, pending_of}
use Rattle.phantomlet.specs.Phantoms.{hides_some}
use Rattle.phantomlet.specs.LeafWrites.{Renumbered}
use Rattle.map.specs.declared.Sizes.{Sizes}
use Rattle.map.specs.declared.entries.Change.{Change}
use Rattle.map.specs.Views.{RecordRows, Lent, map_of}
use Rattle.map.specs.MapHeld.{per_leaf, Tables, MapHeld}

-- The arrays hold the map m, v the last version given.
pub record MapBecomes (l : Lent) (z : Sizes) (v : ℕ) (m : MapState) : Type 0 where
  pub map : map_of l z ≡ m
  pub held : MapHeld l z v

-- The arrays hold the same map but for the slots, which are now `ss`.
pub record ContentSet (before after : Lent) (z r : Sizes) (v : ℕ) (ss : List Slot) : Type 0 where
  pub tables : Tables after r v
  pub map : map_of after r ≡ with_slots (map_of before z) ss
  pub view : slots_of after.slots ≡ ss
  pub records : r.records ≡ z.records
  pub leaves : r.leaves ≡ z.leaves

-- a number for each leaf, and that of the first leaf is 0
pub record Emptied (xs : List ℕ) : Type 0 where
  pub size : length xs ≡ per_leaf
  pub first : get_or xs 0 0 ≡ 0

-- ---- the phantomlet's numbers

-- word i with `up` added and `down` taken away
unfoldable pub adjusted : List ℕ → ℕ → ℕ → ℕ → List ℕ
adjusted xs i up down = set xs i (get_or xs i 0 + up - down)

pub record Adjustable (xs : List ℕ) (i up down : ℕ) : Type 0 where
  pub inside : i < per_leaf
  pub size : length xs ≡ per_leaf
  pub fits : get_or xs i 0 + up < 2 ^ 64
  pub enough : down ≤ get_or xs i 0 + up

-- the numbers of a leaf after a change
pub record Adjusts (ls : LeafRows) (t : Change) (ls' : LeafRows) : Type 0 where
  pub same : Renumbered ls ls'
  pub hidden : hidden_of ls' ≡ adjusted (hidden_of ls) t.at t.hide t.unhide
  pub pending : pending_of ls' ≡ adjusted (pending_of ls) t.at t.pend t.unpend

-- what content adds to the number of pending writes
abbrev pub pending_term : Content → ℕ
pending_term c = pick (present c.pending) 1 0

-- what it adds to the number of entries outside of the index, where the index lacks its address or not
unfoldable pub outside_term : Bool → Content → ℕ
outside_term lacks c = pick (is_idle c) 0 (pick lacks 1 0)

-- what it adds to the number of keys that its leaf hides from somebody
unfoldable pub hidden_term : Bool → Content → ℕ
hidden_term lacks c = pick (both lacks (hides_some c)) 1 0

-- an entry neither comes nor goes, and hides its address as before
unfoldable pub still_as : Content → Content → Bool
still_as old c = both (beq (is_idle old) (is_idle c)) (beq (hides_some old) (hides_some c))

-- The place of the address's leaf; what the address adds to the number of pending writes there by c, and what it took
-- till now, by what was said of it before; and of the keys that are hidden, and of the entries outside of the index, what
-- comes and what goes, of which only the balance counts.
pub record Terms (old : Content) (rows : RecordRows) (lows : List ℕ) (z : Sizes) (a : ℕ) (c : Content) (r : Change) : Type 0 where
  pub place : AtLeaf lows z.leaves a r.at
  pub pend : r.pend ≡ pending_term c
  pub unpend : r.unpend ≡ pending_term old
  pub hide_most : r.hide ≤ 1
  pub hide_balance :
      r.hide + hidden_term (not (present (look (records_of rows z.records) a))) old
      ≡ r.unhide + hidden_term (not (present (look (records_of rows z.records) a))) c
  pub join_most : r.join ≤ 1
  pub balance :
      r.join + outside_term (not (present (look (records_of rows z.records) a))) old
      ≡ r.leave + outside_term (not (present (look (records_of rows z.records) a))) c
