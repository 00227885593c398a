-- What is promised of the end of the input.
use Rattle.std.specs.Prelude.{ℕ, ◌+◌, ◌*◌, List, []}
use Rattle.lists.specs.Texts.{Wrote}
use Rattle.spec.specs.Records.{limits}
use Rattle.map.specs.Views.{Lent}
use Rattle.transactions.specs.Views.{Logs, state_of}
use Rattle.script.specs.Parsing.{After}
use Rattle.console.specs.Sessions.{Standing, due}

-- the longest last line: a letter, a number, the triples of a full map and a line feed
abbrev pub longest_end : ℕ
longest_end = 23 + 63 * limits.map_limit

-- all that is still due was written, when no more input comes
pub record Finishes (l : Lent) (g : Logs) (x : Standing) (old new : List ℕ) (next : ℕ) : Type 0 where
  pub wrote : (seen : List ℕ) → After seen x.parser → Wrote old x.at (due (state_of l g x.core) x.first seen x.stopped [] 0 []) new next
