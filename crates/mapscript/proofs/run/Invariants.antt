-- `run` meets its contract: each part of the run goes on from the one before. The invariant: between two turns nothing waits, and a
-- turn makes one call of at most a buffer's bytes.
use Prim.Native.Nat.{◌*◌, ◌≤◌}
use mathlib.Core.Path.{◌≡◌}
use lib.ListN.{length}
use Rattle.map.specs.Views.{lent}
use Rattle.transactions.specs.Views.{logs}
use Rattle.shell.specs.Works.{Rests}
use Rattle.mapscript.proofs.run.Given as goal

abbrev pub invariant-loop : goal.invariant-loop
invariant-loop l =
    Rests (lent l.rows l.leaves l.slots) (logs l.reads l.leafsets l.writes) l.workers l.input l.w
    × (65536 ≡ length l.out) × (65536 ≡ length l.input) × (l.w.calls.made ≡ l.counter)
    × (l.w.calls.fed ≤ 65536 * l.w.calls.made) × (l.w.calls.told ≤ 65536 * l.w.calls.made)
