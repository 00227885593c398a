-- `script::parse` meets its contract. The invariant: the bytes passed since the loop began take the parser of then to the
-- parser now.
use Prim.Native.Nat.{◌-◌}
use lib.ListN.{length}
use Rattle.script.specs.Tokens.{Advances}
use Rattle.script.proofs.parse.Given as goal

abbrev pub invariant-loop-i : goal.invariant-loop-i
invariant-loop-i l = Advances l.s l.initial.i l.initial.q l.i l.q

abbrev pub decreases-loop-i : goal.decreases-loop-i
decreases-loop-i l = length l.s - l.i
