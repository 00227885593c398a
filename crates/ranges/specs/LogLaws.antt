-- The laws of what a scan logs, and of the places of the worker's own writes.
use Prim.Native.Nat.{ℕ, zero, suc, ◌+◌, ◌-◌, ◌<◌, ◌≤◌}
use Rattle.std.proofs.Common.{le_trans, sym, ◌∙◌}
use native.Mathlib.Omega.{arith}
use Rattle.std.specs.Prelude.{◌≡◌, Bool, drop, get_or, eqb}
use Rattle.std.proofs.Math.Path.{refl, ap}
use mathlib.Core.List.{List, [], ◌∷◌, ◌++◌, append-nil}
use Rattle.std.proofs.Math.Option.{Option, none}
use Rattle.std.proofs.Math.ListN.{length, take}
use Rattle.lists.specs.Tests.{pick, present, same}
use Rattle.lists.specs.TestLaws.{same_refl, same_no}
use Rattle.lists.specs.Rows.{Row, look, Rising}
use Rattle.lists.specs.Places.{place, place_most, Absent, look_present, look_absent}
use Rattle.lists.specs.Shifts.{drop_take}
use Rattle.spec.specs.Records.{limits, Record, Write}
use Rattle.spec.specs.Guards.{Scan}
use Rattle.spec.specs.Leaves.{Leaf}
use Rattle.sets.specs.declared.writes.Entry.{Entry}
use Rattle.sets.specs.declared.reads.Observed.{Observed}
use Rattle.sets.specs.declared.leaves.LoggedLeaf.{LoggedLeaf}
use Rattle.sets.specs.Reads.{ReadRows, reads_of, ReadSetHeld, LogsRead}
use Rattle.sets.specs.declared.leaves.Scanned.{Scanned}
use Rattle.sets.specs.Leaves.{LeafSetRows, versions_of, lows_of, scanned_in, remembered_if, notes_of, joined, LeafSetHeld, LogsLeaf}
use Rattle.sets.specs.Writes.{WriteRows, no_write, write_in, writes_of, WriteSetOrdered, GivesWrite}
use Rattle.sets.specs.WritePlaces.{PlaceOf}
use Rattle.sets.specs.SetLaws.{length_rows}
use Rattle.map.specs.Views.{leaves_in, SlotRows, RecordRows}
use Rattle.queries.specs.declared.Range.{Range}
use Rattle.queries.specs.QueryViews.{walk, SeenAt, version_in, logged_in, LoggedAt}
use Rattle.queries.specs.RangeLaws.{place_mono, place_next, between_places}
use Rattle.ranges.specs.Parts.{walk_on, walk_past, done_one, take_rows}
use Rattle.ranges.specs.Scanning.{OwnSpans, span, seen_in, LogsRows, LoggingRows, across, low_in, noted, LogsLeaves, LoggingLeaves}

-- ---- the worker's writes of a range

module _ {ws : WriteRows} {n lo hi p : ℕ} (set : WriteSetOrdered ws n) (fits : lo ≤ hi) (from : PlaceOf ws n lo p) where
  spans : (q : ℕ) → q ≡ place (suc hi) (writes_of ws n) → OwnSpans ws n lo hi (record { from = p; to = q })
  unfolding Rising
  spans q e =
      let m : place lo (writes_of ws n) ≤ place (suc hi) (writes_of ws n) = place_mono lo (suc hi) (writes_of ws n) (omega arith) in
      let o : p ≡ place lo (writes_of ws n) = from.is in
      let s : length (writes_of ws n) ≡ n = length_rows write_in ws n in
      let b : place (suc hi) (writes_of ws n) ≤ length (writes_of ws n) = place_most (suc hi) (writes_of ws n) in
      let l : q ≤ n = omega arith in
      record {
        ordered = omega arith;
        within = l;
        rows_are =
            ap (drop p) (sym (take_rows write_in ws q n l))
            ∙ drop_take p q (writes_of ws n) (omega arith)
            ∙ ap (λ (i : ℕ). take (i - p) (drop p (writes_of ws n))) e
            ∙ ap (λ (i : ℕ). take (place (suc hi) (writes_of ws n) - i) (drop i (writes_of ws n))) o
            ∙ between_places lo hi 0 (writes_of ws n) set.rising (omega arith);
      }

  next : (o : Option Write) → look (writes_of ws n) hi ≡ o → place (suc hi) (writes_of ws n) ≡ place hi (writes_of ws n) + pick (present o) 1 0
  unfolding Rising
  next o e =
      place_next hi 0 (writes_of ws n) set.rising ∙ ap (λ (x : Option Write). place hi (writes_of ws n) + pick (present x) 1 0) e

  without : (q : ℕ) → PlaceOf ws n hi q → Absent hi (writes_of ws n) no_write → OwnSpans ws n lo hi (record { from = p; to = q })
  unfolding Rising
  without q at a =
      let e : place (suc hi) (writes_of ws n) ≡ place hi (writes_of ws n) + 0 = next none (look_absent hi 0 (writes_of ws n) no_write set.rising a) in
      let i : q ≡ place hi (writes_of ws n) = at.is in
      spans q (omega arith)

  -- hi has no write: the search for it ended after all writes
  pub own_past : {q : ℕ} → PlaceOf ws n hi q → n ≤ q → OwnSpans ws n lo hi (record { from = p; to = q })
  own_past {q} at h =
      let s : length (writes_of ws n) ≡ n = length_rows write_in ws n in
      let i : q ≡ place hi (writes_of ws n) = at.is in
      without q at (record { elsewhere = λ g f. omega arith })

  module _ {q : ℕ} {e : Entry} (at : PlaceOf ws n hi q) (h : q < n) (g : GivesWrite ws q e) where
    key_at : (get_or (writes_of ws n) (place hi (writes_of ws n)) no_write).key ≡ e.address
    key_at =
        ap (λ (i : ℕ). (get_or (writes_of ws n) i no_write).key) (sym at.is) ∙ sym (ap (λ (r : Row Write). r.key) (g.at n h))

    -- or at another
    pub own_other : (e.address ≡ hi → ⊥) → OwnSpans ws n lo hi (record { from = p; to = q })
    own_other d = without q at (record { elsewhere = λ l f. d (sym key_at ∙ f) })

    -- hi has a write
    pub own_last : e.address ≡ hi → OwnSpans ws n lo hi (record { from = p; to = q + 1 })
    own_last d =
        let s : length (writes_of ws n) ≡ n = length_rows write_in ws n in
        let i : q ≡ place hi (writes_of ws n) = at.is in
        let f : place (suc hi) (writes_of ws n) ≡ place hi (writes_of ws n) + 1
        = next _ (look_present hi (writes_of ws n) no_write (record { inside = omega arith; here = key_at ∙ d })) in
        spans (q + 1) (omega arith)

-- ---- records

module _ (rs : ReadRows) (n : ℕ) (rows : RecordRows) (k : ℕ) (slots : SlotRows) (p : Range) where
  abbrev at : ℕ → Row (Option Record)
  at = seen_in rows k slots

  pub rows_start : ReadSetHeld rs → LoggingRows rs n at p rs p.from n
  rows_start held = record { held = held; count = refl; view = refl }

  module _ (us : ReadRows) (i r : ℕ) (h : LoggingRows rs n at p us i r) where
    pub rows_room : i < p.to → n + span p ≤ limits.read_limit → r < limits.read_limit
    rows_room l b = let q : r + (p.to - i) ≡ n + span p = h.count in omega arith

    pub rows_on : (s : Observed) (us' : ReadRows) (r' : ℕ) → i < p.to → SeenAt rows k slots i s → LogsRead us r s.address s.current us' r'
        → LoggingRows rs n at p us' (i + 1) r'
    rows_on s us' r' l a g =
        let q : r + (p.to - i) ≡ n + span p = h.count in
        let c : r' ≡ r + 1 = g.count in
        record {
          held = g.held;
          count = let e : r' + (p.to - (i + 1)) ≡ n + span p = omega arith in e;
          view =
              done_one (reads_of us r) (walk at i (p.to - i)) (walk at (i + 1) (p.to - (i + 1))) (reads_of us' r') (at i)
              (g.view ∙ ap (λ (x : Row (Option Record)). reads_of us r ++ (x ∷ [])) (a.seen_is []))
              (walk_on at i p.to l)
              ∙ h.view;
        }

    pub rows_end : p.to ≤ i → LogsRows rs n at p us r
    rows_end l =
        let q : r + (p.to - i) ≡ n + span p = h.count in
        record {
          held = h.held;
          count = omega arith;
          view =
              sym (append-nil (reads_of us r))
              ∙ ap (λ (xs : List (Row (Option Record))). reads_of us r ++ xs) (sym (walk_past at i p.to l))
              ∙ h.view;
        }

-- ---- leaves

module _ (rs : LeafSetRows) (n : ℕ) (lows versions : List ℕ) (p : Range) (s : Scanned) where
  -- the version and the low address at each place
  abbrev version : ℕ → ℕ → ℕ
  version m = version_in (leaves_in lows versions m)

  abbrev low : ℕ → ℕ → ℕ
  low m = low_in (leaves_in lows versions m)

  pub leaves_start : LeafSetHeld rs → LoggingLeaves rs n lows versions p s rs p.from n
  leaves_start held = record { held = held; count = refl; versions_are = λ m b d. refl; lows_are = λ m b d. refl; notes_are = refl }

  module _ (us : LeafSetRows) (i r : ℕ) (h : LoggingLeaves rs n lows versions p s us i r) where
    pub leaves_room : i < p.to → n + span p ≤ limits.leaf_set_limit → r < limits.leaf_set_limit
    leaves_room l b = let q : r + (p.to - i) ≡ n + span p = h.count in omega arith

    pub leaves_on : (x : LoggedLeaf) (us' : LeafSetRows) (r' : ℕ) → i < p.to → LoggedAt lows versions i x → LogsLeaf us r x (eqb i p.from) s us' r'
        → LoggingLeaves rs n lows versions p s us' (i + 1) r'
    unfolding version_in low_in logged_in
    leaves_on x us' r' l a g =
        let q : r + (p.to - i) ≡ n + span p = h.count in
        let c : r' ≡ r + 1 = g.count in
        record {
          held = g.held;
          count = let e : r' + (p.to - (i + 1)) ≡ n + span p = omega arith in e;
          versions_are = λ m b d.
              done_one (versions_of us r) (walk (version m) i (p.to - i)) (walk (version m) (i + 1) (p.to - (i + 1))) (versions_of us' r') (version m i)
              (g.versions ∙ ap (λ (y : Leaf). versions_of us r ++ (y.version ∷ [])) (a.leaf_is m (le_trans l b) d))
              (walk_on (version m) i p.to l)
              ∙ h.versions_are m b d;
          lows_are = λ m b d.
              done_one (lows_of us r) (walk (low m) i (p.to - i)) (walk (low m) (i + 1) (p.to - (i + 1))) (lows_of us' r') (low m i)
              (g.lows ∙ ap (λ (y : Leaf). lows_of us r ++ (y.low ∷ [])) (a.leaf_is m (le_trans l b) d))
              (walk_on (low m) i p.to l)
              ∙ h.lows_are m b d;
          notes_are =
              done_one (notes_of us r) (walk (noted p.from s) i (p.to - i)) (walk (noted p.from s) (i + 1) (p.to - (i + 1))) (notes_of us' r') (noted p.from s i)
              (unfold noted same in g.marks)
              (walk_on (noted p.from s) i p.to l)
              ∙ h.notes_are;
        }

    pub leaves_end : p.to ≤ i → LogsLeaves rs n lows versions p s us r
    leaves_end l =
        let q : r + (p.to - i) ≡ n + span p = h.count in
        record {
          held = h.held;
          count = omega arith;
          versions_are = λ m b d.
              sym (append-nil (versions_of us r)) ∙ ap (λ (xs : List ℕ). versions_of us r ++ xs) (sym (walk_past (version m) i p.to l)) ∙ h.versions_are m b d;
          lows_are = λ m b d.
              sym (append-nil (lows_of us r)) ∙ ap (λ (xs : List ℕ). lows_of us r ++ xs) (sym (walk_past (low m) i p.to l)) ∙ h.lows_are m b d;
          notes_are =
              sym (append-nil (notes_of us r)) ∙ ap (λ (xs : List (List Scan)). notes_of us r ++ xs) (sym (walk_past (noted p.from s) i p.to l)) ∙ h.notes_are;
        }

-- ---- the scan

module _ (s : Scanned) (first : ℕ) where
  -- past the first, nothing is remembered
  none_more : (i n : ℕ) → first < i → joined (walk (noted first s) i n) ≡ []
  unfolding walk joined
  none_more i zero h = refl
  none_more i (suc n) h = ap (λ (xs : List Scan). xs ++ joined (walk (noted first s) (suc i) n)) (unnoted i h) ∙ none_more (suc i) n (omega arith)
    where
      unnoted : (i : ℕ) → first < i → noted first s i ≡ []
      unnoted i h = unfold noted in ap (λ (b : Bool). remembered_if b (scanned_in s)) (same_no {m = i} {n = first} (λ e. omega arith))

-- a scan that meets a leaf is remembered once
pub scan_remembered : (s : Scanned) (p : Range) → p.from < p.to → joined (across (noted p.from s) p) ≡ scanned_in s ∷ []
unfolding joined
scan_remembered s p h =
    ap joined (walk_on (noted p.from s) p.from p.to h)
    ∙ ap (λ (xs : List Scan). noted p.from s p.from ++ xs) (none_more s p.from (p.from + 1) (p.to - (p.from + 1)) (omega arith))
    ∙ (unfold noted in ap (λ (b : Bool). remembered_if b (scanned_in s) ++ []) (same_refl p.from))
