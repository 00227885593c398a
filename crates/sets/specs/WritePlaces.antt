-- Where a write set has an address: what the searches in it promise.
use Rattle.std.specs.Prelude.{ℕ, ◌≤◌, ◌≡◌, Bool, true, false}
use Rattle.lists.specs.Places.{place, Present, Absent}
use Rattle.sets.specs.Writes.{WriteRows, no_write, writes_of}

-- how many of the n writes have an address below a
pub record PlaceOf (rs : WriteRows) (n a p : ℕ) : Type 0 where
  pub is : p ≡ place a (writes_of rs n)
  pub within : p ≤ n

-- whether there is a write at the address
pub record WritesHave (rs : WriteRows) (n a : ℕ) (r : Bool) : Type 0 where
  pub present : r ≡ true → Present a (writes_of rs n) no_write
  pub absent : r ≡ false → Absent a (writes_of rs n) no_write
