-- The place is one of the first, or any but the last, and the steps lead there; or it is the last.
use Rattle.std.proofs.Common.{◌≡◌, ◌≤◌, ◌<◌, ℕ, length, take, arith, rules, length-take-le}
use Rattle.index.specs.Nearing.{Leads, near_least, near_fewer, near_few, near_all}
use Rattle.index.specs.Views.{record_places, leaf_places}
use Rattle.index.specs.LeafColumns.{LeafRows, lows_of}
use Rattle.index.specs.LeafColumnLaws.{column_places}
use Rattle.index.specs.LeafPlaces.{Listed, AtLeaf, low_place, place_inside}
use Rattle.index.proofs.leaves.find_leaf.Goals as goal

-- the place is that of one of the leaves
inside : (ls : LeafRows) (m a : ℕ) → length ls ≡ leaf_places → Listed (lows_of ls) m → low_place a (take m (lows_of ls)) < m
inside ls m a l h =
    let n : length (take m (lows_of ls)) ≡ m = length-take-le m (lows_of ls) (rw (column_places 0 ls l) h.room) in
    let p : low_place a (take m (lows_of ls)) < length (take m (lows_of ls)) = place_inside a (take m (lows_of ls)) (rw n h.some) in
    omega arith

found : (ls : LeafRows) (m a : ℕ) {r : ℕ} → length ls ≡ leaf_places → Listed (lows_of ls) m → r ≡ low_place a (take m (lows_of ls)) → AtLeaf (lows_of ls) m a r
found ls m a {r} l h e = let p = inside ls m a l h in record { is = e; inside = omega arith }

pub returns-then-m-le-LEAST : goal.returns-then-m-le-LEAST
returns-then-m-le-LEAST c =
    let p = inside c.args.leaves.now c.args.m c.args.a c.told-leaves c.requires in
    found c.args.leaves.now c.args.m c.args.a c.told-leaves c.requires (c.descend.ensures _ (λ i t a b q. search rules) (near_least (omega (arith, p, c.if-m-le-LEAST.true))))

pub returns-then-m-le-FEWER : goal.returns-then-m-le-FEWER
returns-then-m-le-FEWER c =
    let p = inside c.args.leaves.now c.args.m c.args.a c.told-leaves c.requires in
    found c.args.leaves.now c.args.m c.args.a c.told-leaves c.requires (c.descend-then-m-le-FEWER.ensures _ (λ i t a b q. search rules) (near_fewer (omega (arith, p, c.if-m-le-FEWER.true))))

pub returns-then-m-le-FEW : goal.returns-then-m-le-FEW
returns-then-m-le-FEW c =
    let p = inside c.args.leaves.now c.args.m c.args.a c.told-leaves c.requires in
    found c.args.leaves.now c.args.m c.args.a c.told-leaves c.requires (c.descend-then-m-le-FEW.ensures _ (λ i t a b q. search rules) (near_few (omega (arith, p, c.if-m-le-FEW.true))))

pub returns-then-goes : goal.returns-then-goes
returns-then-goes c =
    let p = inside c.args.leaves.now c.args.m c.args.a c.told-leaves c.requires in
    let l : Leads (low_place c.args.a (take c.args.m (lows_of c.args.leaves.now))) record_places c.goes.result = search rules in
    let q : record_places ≤ low_place c.args.a (take c.args.m (lows_of c.args.leaves.now)) = l.on c.if-goes.true in
    found c.args.leaves.now c.args.m c.args.a c.told-leaves c.requires (omega (arith, p, q, c.requires.room))

pub returns-else-goes : goal.returns-else-goes
returns-else-goes c =
    let l : Leads (low_place c.args.a (take c.args.m (lows_of c.args.leaves.now))) record_places c.goes.result = search rules in
    found c.args.leaves.now c.args.m c.args.a c.told-leaves c.requires (c.descend-else-goes.ensures _ (λ i t a b q. search rules) (near_all (l.past c.if-goes.false)))
