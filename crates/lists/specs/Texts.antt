-- A text written into bytes or words from a place on, and texts one after the other.
use Rattle.std.specs.Prelude.{ℕ, ◌+◌, ◌≤◌, ◌≡◌, List, length}
use Rattle.std.proofs.lemmas.List.Edits.{sets}

-- the text stands in the bytes from the place on, all others are as before, and next is the place after it
pub record Wrote (old : List ℕ) (at : ℕ) (text : List ℕ) (new : List ℕ) (next : ℕ) : Type 0 where
  pub written : new ≡ sets old at text
  pub within : at + length text ≤ length old
  pub place : next ≡ at + length text
