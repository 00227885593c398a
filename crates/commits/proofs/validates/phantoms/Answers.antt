use native.Mathlib.Omega.{arith}
use Rattle.map.specs.Views.{lent, map_of}
use Rattle.sets.specs.Leaves.{version_in}
use Rattle.sets.specs.SetLaws.{length_rows}
use Rattle.commits.specs.Searching.{search_on, search_hit, search_end}
use Rattle.commits.specs.Validates.{row_phantom}
use Rattle.std.proofs.Common.{true, false}
use Rattle.commits.proofs.validates.phantoms.Goals as goal

pub returns-then-phantom : goal.returns-then-phantom
returns-then-phantom c =
    let a = c.args in
    let h = c.loop-i-test.true in
    let e = length_rows version_in a.leafset.now a.k in
    search_hit 0 (omega arith)
    (row_phantom (map_of (lent a.rows.now a.leaves.now a.slots.now) a.z) a.w a.k h c.logged_leaf_at-m.ensures (c.phantom.ensures a.w c.requires.owns) c.if-phantom.true)
    c.loop-i.invariant.1

pub loop-i-preserved : goal.loop-i-preserved
loop-i-preserved c =
    let a = c.args in
    let h = c.loop-i-test.true in
    let e = length_rows version_in a.leafset.now a.k in (
      omega arith,
      search_on 0 (omega arith)
          (row_phantom (map_of (lent a.rows.now a.leaves.now a.slots.now) a.z) a.w a.k h c.logged_leaf_at-m.ensures (c.phantom.ensures a.w c.requires.owns) c.if-phantom.false)
          c.loop-i.invariant.1,
    )

pub returns : goal.returns
returns c =
    let a = c.args in
    let h = c.loop-i-test.false in
    let e = length_rows version_in a.leafset.now a.k in
    search_end (omega arith) c.loop-i.invariant.1
