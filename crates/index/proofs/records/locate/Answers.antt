-- The place is one of the first, or any but the last, and the steps lead there; or it is the last.
use Rattle.std.proofs.Common.{◌≡◌, ◌≤◌, ℕ, length, arith, rules}
use Rattle.lists.specs.Places.{place, place_most}
use Rattle.index.specs.Nearing.{Leads, near_fewer, near_few, near_half, near_all}
use Rattle.index.specs.RecordPlaces.{AtPlace}
use Rattle.index.specs.Views.{record_places, RecordRows, records_of}
use Rattle.index.specs.ViewLaws.{length_records}
use Rattle.index.proofs.records.locate.Goals as goal

-- no more records than there are have a smaller address
within : (rows : RecordRows) (n a : ℕ) → n ≤ record_places → place a (records_of rows n) ≤ n
within rows n a h =
    let m : place a (records_of rows n) ≤ length (records_of rows n) = place_most a (records_of rows n) in
    let l : length (records_of rows n) ≡ n = length_records rows n h in
    omega arith

found : (rows : RecordRows) (n a : ℕ) {r : ℕ} → n ≤ record_places → r ≡ place a (records_of rows n) → AtPlace rows n a r
found rows n a {r} h e = let p = within rows n a h in record { is = e; within = omega arith }

pub returns-then-n-lt-FEWER : goal.returns-then-n-lt-FEWER
returns-then-n-lt-FEWER c =
    let p = within c.args.rows.now c.args.n c.args.a c.requires.room in
    found c.args.rows.now c.args.n c.args.a c.requires.room (c.descend.ensures _ (λ i t a b q. search rules) (near_fewer (omega (arith, p, c.if-n-lt-FEWER.true))))

pub returns-then-n-lt-FEW : goal.returns-then-n-lt-FEW
returns-then-n-lt-FEW c =
    let p = within c.args.rows.now c.args.n c.args.a c.requires.room in
    found c.args.rows.now c.args.n c.args.a c.requires.room (c.descend-then-n-lt-FEW.ensures _ (λ i t a b q. search rules) (near_few (omega (arith, p, c.if-n-lt-FEW.true))))

pub returns-then-n-lt-HALF : goal.returns-then-n-lt-HALF
returns-then-n-lt-HALF c =
    let p = within c.args.rows.now c.args.n c.args.a c.requires.room in
    found c.args.rows.now c.args.n c.args.a c.requires.room (c.descend-then-n-lt-HALF.ensures _ (λ i t a b q. search rules) (near_half (omega (arith, p, c.if-n-lt-HALF.true))))

pub returns-then-goes : goal.returns-then-goes
returns-then-goes c =
    let p = within c.args.rows.now c.args.n c.args.a c.requires.room in
    let l : Leads (place c.args.a (records_of c.args.rows.now c.args.n)) record_places c.goes.result = search rules in
    let q : record_places ≤ place c.args.a (records_of c.args.rows.now c.args.n) = l.on c.if-goes.true in
    found c.args.rows.now c.args.n c.args.a c.requires.room (omega (arith, p, q, c.requires.room))

pub returns-else-goes : goal.returns-else-goes
returns-else-goes c =
    let l : Leads (place c.args.a (records_of c.args.rows.now c.args.n)) record_places c.goes.result = search rules in
    found c.args.rows.now c.args.n c.args.a c.requires.room (c.descend-else-goes.ensures _ (λ i t a b q. search rules) (near_all (l.past c.if-goes.false)))
