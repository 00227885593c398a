-- `queries::count_lock_only` meets its contract. The invariant: those counted and those left are all.
use Rattle.index.specs.LeafColumns.{lows_of}
use Rattle.queries.specs.PhantomViews.{Counting}
use Rattle.queries.proofs.count_lock_only.Given as goal

abbrev pub invariant-loop-x : goal.invariant-loop-x
invariant-loop-x l = Counting l.view.rows.now (lows_of l.leaves) l.view.slots.now l.view.records l.m l.i l.ws l.count l.x l.own
