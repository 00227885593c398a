use Prim.Native.Nat.{◌-◌, ◌/◌}
use mathlib.Core.Path.{◌≡◌, refl}
use mathlib.Core.Logic.{inl, inr}
use lib.ListN.{length}
use native.Mathlib.Omega.{arith}
use Rattle.spec.specs.Records.{standard}
use Rattle.index.specs.Views.{keys_between}
use Rattle.index.specs.ViewLaws.{length_between}
use Rattle.index.specs.Settles.{settling_next, settling_cut}
use Rattle.index.specs.SettleRows.{rows_kept, rows_joined, rows_cut}
use Rattle.std.proofs.Common.{◌≤◌}
use Rattle.index.proofs.settles.settle.Goals as goal

pub keep-requires : goal.keep-requires
keep-requires c =
    let n = settling_next c.requires in
    omega (arith, c.requires.leaf_in_lem, c.requires.leaves_in_lem)

pub join-requires : goal.join-requires
join-requires c =
    let n = settling_next c.requires in
    omega (arith, c.if-p-eq0.false, c.requires.leaf_in_lem, c.requires.leaves_in_lem)

pub keep-requires-in-1-to-16 : goal.keep-requires-in-1-to-16
keep-requires-in-1-to-16 c =
    let n = settling_next c.requires in
    omega (arith, c.requires.leaf_in_lem, c.requires.leaves_in_lem)

pub cut-requires : goal.cut-requires
cut-requires c =
    let f : 17 ≤ c.args.j - c.args.i = omega arith in
    let n = settling_cut c.args.rows.now c.requires f in
    omega (arith, c.requires, f)

pub returns-then-p-eq0 : goal.returns-then-p-eq0
returns-then-p-eq0 c =
    let k = keys_between c.args.rows.now c.args.i c.args.j in
    let e : length k ≡ c.args.j - c.args.i = length_between c.args.rows.now c.args.i c.args.j c.requires.from_to c.requires.rows_in_lem in
    let z : c.args.j - c.args.i ≡ 0 = c.in-0.is in
    rw (c.keep.ensures.0, c.keep.ensures.1)
    (rows_kept c.args.leaves.now c.args.m c.args.p c.args.v k c.told-leaves c.requires.leaves_in_lem c.requires.leaf_in_lem c.keep.new.leaves (inl c.if-p-eq0.true) (omega arith) c.keep.ensures.2)

pub returns-else-p-eq0 : goal.returns-else-p-eq0
returns-else-p-eq0 c =
    let k = keys_between c.args.rows.now c.args.i c.args.j in
    let e : length k ≡ c.args.j - c.args.i = length_between c.args.rows.now c.args.i c.args.j c.requires.from_to c.requires.rows_in_lem in
    let z : c.args.j - c.args.i ≡ 0 = c.in-0.is in
    let n = c.if-p-eq0.false in
    rw (c.join.ensures.0, c.join.ensures.1)
    (rows_joined c.args.leaves.now c.args.m c.args.p c.args.v k c.told-leaves c.requires.leaves_in_lem c.requires.leaf_in_lem c.join.new.leaves (omega arith) (omega arith) c.join.ensures.2)

pub returns-in-1-to-16 : goal.returns-in-1-to-16
returns-in-1-to-16 c =
    let k = keys_between c.args.rows.now c.args.i c.args.j in
    let e : length k ≡ c.args.j - c.args.i = length_between c.args.rows.now c.args.i c.args.j c.requires.from_to c.requires.rows_in_lem in
    rw (c.keep-in-1-to-16.ensures.0, c.keep-in-1-to-16.ensures.1)
    (rows_kept c.args.leaves.now c.args.m c.args.p c.args.v k c.told-leaves c.requires.leaves_in_lem c.requires.leaf_in_lem c.keep-in-1-to-16.new.leaves (inr (omega arith)) (omega arith) c.keep-in-1-to-16.ensures.2)

pub returns-in_default : goal.returns-in_default
returns-in_default c =
    let k = keys_between c.args.rows.now c.args.i c.args.j in
    let f : 17 ≤ c.args.j - c.args.i = omega arith in
    let n = settling_cut c.args.rows.now c.requires f in
    rw (c.cut.ensures.0, c.cut.ensures.1)
    (rows_cut c.args.leaves.now c.args.m c.args.p c.args.v k c.told-leaves c.requires.leaves_in_lem c.requires.leaf_in_lem c.cut.new.leaves c.args.rows.now c.args.i c.args.j ((c.args.j - c.args.i) / standard.run)
    refl c.requires.from_to c.requires.rows_in_lem f refl n.0 c.cut.ensures.2)
