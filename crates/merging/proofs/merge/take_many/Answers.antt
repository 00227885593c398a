-- `merging::merge::take_many` meets its contract: the walk sees the rows up to the leaf's end, and those behind stay as they are.
use Prim.Native.Nat.{ℕ, ◌+◌}
use native.Mathlib.Omega.{arith}
use mathlib.Core.Path.{ap}
use Rattle.index.specs.LeafColumns.{lows_of}
use Rattle.phantomlet.specs.LeafTests.{placed}
use Rattle.merging.specs.MergeSpans.{span_within, hiders_fit, first_starts, walk_below, took_all}
use Rattle.merging.proofs.merge.take_many.Goals as goal

pub overflow_add-top : goal.overflow_add-top
overflow_add-top c = record { fits = omega (arith, span_within c.requires.leaf_span, c.requires.hidden_value, hiders_fit c.requires.starting (placed (lows_of c.args.leaves.now) c.args.z.leaves c.args.i)) }

pub move_up-requires-clause-n_bound : goal.move_up-requires-clause-n_bound
move_up-requires-clause-n_bound c = omega (arith, span_within c.requires.leaf_span, c.requires.hidden_value, hiders_fit c.requires.starting (placed (lows_of c.args.leaves.now) c.args.z.leaves c.args.i))

pub take_all-w-requires-clause-starting_first : goal.take_all-w-requires-clause-starting_first
take_all-w-requires-clause-starting_first c = first_starts c.requires.starting c.requires.leaf_span c.move_up.ensures

pub move_down-requires-clause-to_le_from : goal.move_down-requires-clause-to_le_from
move_down-requires-clause-to_le_from c = walk_below c.requires.starting c.requires.leaf_span c.move_up.ensures (ap (λ (x : ℕ). c.args.s.to + x) c.requires.hidden_value) c.take_all-w.ensures

pub move_down-requires-clause-n_bound : goal.move_down-requires-clause-n_bound
move_down-requires-clause-n_bound c = omega (arith, span_within c.requires.leaf_span, c.requires.hidden_value, hiders_fit c.requires.starting (placed (lows_of c.args.leaves.now) c.args.z.leaves c.args.i))

pub returns : goal.returns
returns c = took_all c.requires.starting c.requires.leaf_span c.move_up.ensures (ap (λ (x : ℕ). c.args.s.to + x) c.requires.hidden_value) c.take_all-w.ensures c.move_down.ensures
