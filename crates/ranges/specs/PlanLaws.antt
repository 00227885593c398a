-- The laws of a scan's tests and of carrying it out: what the parts' promises ask and give.
use Rattle.std.specs.Prelude.{ℕ, ◌+◌, ◌<◌, ◌≤◌, min, ◌≡◌, Bool, true, false, List, length}
use native.Mathlib.Omega.{arith}
use Rattle.std.proofs.Common.{le_trans, le_of_lt, sym, ◌∙◌, subst}
use Rattle.lists.specs.Tests.{less}
use Rattle.lists.specs.TestLaws.{less_true, less_false}
use Rattle.lists.specs.Rows.{Row, Rising}
use Rattle.spec.specs.Records.{limits, Payload, Write}
use Rattle.spec.specs.Steps.{Places, places, shortest}
use Rattle.workers.specs.declared.Worker.{Worker}
use Rattle.sets.specs.Reads.{ReadRows}
use Rattle.sets.specs.Writes.{WriteRows, WriteSetOrdered, write_in, writes_of}
use Rattle.map.specs.declared.Sizes.{Sizes}
use Rattle.queries.specs.declared.Range.{Range}
use Rattle.ranges.specs.declared.plans.Task.{Task}
use Rattle.ranges.specs.Parts.{take_rows}
use Rattle.ranges.specs.Overlays.{rising_first}
use Rattle.buffers.specs.Buffers.{Buffers, places_of}
use Rattle.ranges.specs.Walks.{Ground, ground, log_row, rest, Walks, Keeps, RecordsFit, Fills}
use Rattle.ranges.specs.WalkLaws.{rising_index}
use Rattle.ranges.specs.Scanning.{span, seen_in, ReadsRoom, LogsRows, LeavesRoom}
use Rattle.ranges.specs.LoggedWalks.{logged_walks, logged_rest}
use Rattle.ranges.specs.Plans.{Planning, shown_of, Passed, Planned}
use Rattle.map.specs.Views.{SlotRows, RecordRows}
use Rattle.map.specs.Parts.{leaf_listed}

-- the first rows of a write set are one
set_first : {ws : WriteRows} {n : ℕ} (q : ℕ) → q ≤ n → WriteSetOrdered ws n → WriteSetOrdered ws q
set_first {ws} {n} q h s =
    record {
      held = s.held;
      room = le_trans h s.room;
      rising = subst (Rising {A = Write}) (take_rows write_in ws q n h) (rising_first q (writes_of ws n) s.rising);
    }

module _ {rows : RecordRows} {lows : List ℕ} {slots : SlotRows} {ws : WriteRows} {z : Sizes} {x : Worker} (given : Planning rows lows slots ws z x) where
  pub walkable : (to end : ℕ) → to ≤ z.records → end ≤ x.writes → Walks (ground (seen_in rows z.records slots) ws (record { to = to; end = end }))
  walkable to end h l =
      record {
        nears = record { writes = set_first end l given.set; few = le_trans h given.rows_held.held.room };
        rising = λ i k. rising_index slots to i given.rows_held h k;
      }

  pub reads_room : (p : Range) → p.from ≤ p.to → p.to ≤ z.records → x.reads + span p ≤ limits.read_limit
      → ReadsRoom z.records x.reads p
  reads_room p o h r =
      record { ordered = o; within = h; room = r }

  pub leaves_room : (p : Range) → p.from ≤ p.to → p.to ≤ z.leaves → x.leaves + span p ≤ limits.leaf_set_limit → LeavesRoom lows x.leaves p
  leaves_room p o h r =
      record { listed = λ i l. leaf_listed given.listed i (le_trans l h); ordered = o; within = le_trans h given.listed.listed.room; room = r }

-- what the tests have measured, whatever the range was
pub planned : {rows : RecordRows} {lows : List ℕ} {slots : SlotRows} {ws : WriteRows} {z : Sizes} {x : Worker} {lo hi : ℕ} {t : Task} {b : Places}
    → Passed rows lows slots ws z x lo hi b t → Planned rows lows slots ws z x t b
planned p =
    let d = p.measured in
    record {
      index_ordered = d.index.ordered;
      index_within = d.index.within;
      met_ordered = le_of_lt d.met.ordered;
      met_within = d.met.within;
      own_ordered = d.own.ordered;
      own_within = d.own.within;
      reads_fit = d.reads_fit;
      leaves_fit = d.leaves_fit;
      fits = p.fits;
    }

-- what fits the shortest buffer fits each
pub room : {rows : RecordRows} {lows : List ℕ} {slots : SlotRows} {ws : WriteRows} {z : Sizes} {x : Worker} {t : Task} (b : Buffers)
    → Planned rows lows slots ws z x t (places_of b) → RecordsFit b (shown_of rows slots ws z t)
unfolding shortest
room {rows} {lows} {slots} {ws} {z} {x} {t} b p =
    let h : length (shown_of rows slots ws z t) ≤ shortest (places_of b) = p.fits in
    record { addresses = omega arith; values = omega arith; owners = omega arith }

-- the records that the scan has logged: they can be walked over, and the walk shows what the index would
module _ {rows : RecordRows} {lows : List ℕ} {slots : SlotRows} {ws : WriteRows} {z : Sizes} {x : Worker} {t : Task} (given : Planning rows lows slots ws z x)
    {q : Places} (p : Planned rows lows slots ws z x t q) {rs us : ReadRows} {r : ℕ}
    (h : LogsRows rs x.reads (seen_in rows z.records slots) t.index us r) where
  abbrev log_field : Ground
  log_field = ground (log_row us x.reads) ws (record { to = span t.index; end = t.own.to })

  pub log_walks : Walks log_field
  log_walks = logged_walks h ws t.own.to p.index_ordered (walkable given t.index.to t.own.to p.index_within p.own_within)

  pub log_keeps : Keeps us x.reads (span t.index)
  log_keeps = record { held = h.held; room = p.reads_fit }

  pub log_room : {b : Buffers} → RecordsFit b (shown_of rows slots ws z t) → RecordsFit b (rest log_field 0 t.own.from)
  log_room {b} w = subst (RecordsFit b) (sym (logged_rest h ws t.own.to t.own.from)) w

  pub log_fills : {b c : Buffers} {n : ℕ} → Fills b (rest log_field 0 t.own.from) c n → Fills b (shown_of rows slots ws z t) c n
  log_fills {b} {c} {n} f = subst (λ (os : List (Row Payload)). Fills b os c n) (logged_rest h ws t.own.to t.own.from) f

-- what the count against the least of three numbers of places tells
module _ (k m n : ℕ) {s r q : ℕ} {b : Bool} (e : s ≡ min k m) (f : r ≡ min s n) (g : b ≡ less r q) where
  pub short_told : b ≡ true → shortest (places k m n) < q
  unfolding shortest
  short_told h = let l : r < q = less_true r q (sym g ∙ h) in omega arith

  pub fits_told : b ≡ false → q ≤ shortest (places k m n)
  unfolding shortest
  fits_told h = let l : q ≤ r = less_false r q (sym g ∙ h) in omega arith
