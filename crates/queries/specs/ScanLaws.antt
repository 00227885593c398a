-- What a scan walks over, on words: the places of a range's records and of the leaves that meet it.
use Rattle.std.specs.Prelude.{ℕ, zero, suc, ◌+◌, ◌-◌, ◌<◌, ◌≤◌, ◌≡◌, refl, drop, Option as Optional}
use Rattle.std.proofs.Common.{zero-le, suc-le-suc, le_refl, arith, sym, ◌∙◌, subst, drop-cons, get_or-take}
use Rattle.std.proofs.Math.Path.{ap}
use mathlib.Core.List.{List, [], ◌∷◌, map}
use Rattle.std.proofs.Math.Option.{Option, none, some}
use Rattle.std.proofs.Math.ListN.{length, take, get_or}
use Rattle.std.proofs.lemmas.List.{length-map}
use Rattle.std.proofs.Math.Seq.{length-take-le}
use Rattle.lists.specs.Tests.{pick, present}
use Rattle.lists.specs.Rows.{Row, row, look, between, From, Rising, filter}
use Rattle.lists.specs.RowLaws.{look_here, look_there}
use Rattle.lists.specs.Places.{place, place_most, Absent, look_present, look_absent}
use Rattle.spec.specs.Widths.{addresses}
use Rattle.spec.specs.Records.{Record}
use Rattle.spec.specs.Leaves.{Leaf, first_leaf, leaf_of, version_at, starts_in, meeting}
use Rattle.spec.specs.Maps.{current, indexed_between}
use Rattle.laws.specs.LeafParts.{LowsFrom, Covers}
use Rattle.laws.specs.LeafVersions.{GoodLeaves}
use Rattle.index.specs.declared.rows.RecordRow.{RecordRow}
use Rattle.index.specs.declared.leaves.LeafWords.{LeafWords}
use Rattle.index.specs.LeafColumns.{LeafRows, lows_of, versions_of, leaf_at}
use Rattle.index.specs.LeafColumnLaws.{column_get_or, column_places}
use Rattle.index.specs.Views.{leaf_places, record_from, row_of, no_row, row_at, records_of, leaves_of, RecordsSorted}
use Rattle.index.specs.RecordPlaces.{AtPlace}
use Rattle.index.specs.ViewLaws.{length_records, record_at}
use Rattle.index.specs.RecordLaws.{present_at, absent_at, absent_past}
use Rattle.index.specs.LeafPlaces.{up_to, low_place, place_inside, AtLeaf}
use Rattle.index.specs.LeafViews.{paired_length, paired_get_or, paired_lows, parted, parted_leaf}
use Rattle.spec.specs.declared.RecordWords.{RecordWords}
use Rattle.queries.specs.QueryViews.{map_with, Sees, walk, indexed_at, Spans, SeenAt, version_in, Meets, LeafAt, logged_in, LoggedAt}
use Rattle.queries.specs.RangeLaws.{leaf_lows, walk_map, place_mono, place_next, between_places, up_mono, starts_before, starts_places}
use Rattle.map.specs.Views.{SlotRows, RecordRows}
use Rattle.map.specs.Parts.{RecordsHeld}

-- ---- records

module _ (rows : RecordRows) (n lo hi p : ℕ) (held : RecordsSorted rows n) (fits : lo ≤ hi) (from : AtPlace rows n lo p) where
  span : (q : ℕ) → q ≡ place (suc hi) (records_of rows n) → take (q - p) (drop p (records_of rows n)) ≡ between lo hi (records_of rows n)
  unfolding Rising
  span q e =
      ap (λ (i : ℕ). take (i - p) (drop p (records_of rows n))) e
      ∙ ap (λ (i : ℕ). take (place (suc hi) (records_of rows n) - i) (drop i (records_of rows n))) from.is
      ∙ between_places lo hi 0 (records_of rows n) held.rising (omega arith)

  spans : (q : ℕ) → q ≡ place (suc hi) (records_of rows n) → Spans rows n lo hi (record { from = p; to = q })
  unfolding indexed_at indexed_between
  spans q e =
      let m : place lo (records_of rows n) ≤ place (suc hi) (records_of rows n) = place_mono lo (suc hi) (records_of rows n) (omega arith) in
      let o : p ≡ place lo (records_of rows n) = from.is in
      let l : length (records_of rows n) ≡ n = length_records rows n held.room in
      let b : place (suc hi) (records_of rows n) ≤ length (records_of rows n) = place_most (suc hi) (records_of rows n) in
      record {
        ordered = omega arith;
        within = omega arith;
        rows_are = span q e;
        seen_are = λ slots ls.
            walk_map (λ (r : Row Record). row r.key (current (map_with rows n slots ls) r.key)) (records_of rows n) no_row p (q - p) (omega arith)
            ∙ ap (map (λ (r : Row Record). row r.key (current (map_with rows n slots ls) r.key))) (span q e);
      }

  next : (o : Option Record) → look (records_of rows n) hi ≡ o → place (suc hi) (records_of rows n) ≡ place hi (records_of rows n) + pick (present o) 1 0
  unfolding Rising
  next o e =
      place_next hi 0 (records_of rows n) held.rising
      ∙ ap (λ (x : Option Record). place hi (records_of rows n) + pick (present x) 1 0) e

  without : (q : ℕ) → AtPlace rows n hi q → Absent hi (records_of rows n) no_row → Spans rows n lo hi (record { from = p; to = q })
  unfolding Rising
  without q at a =
      let e : place (suc hi) (records_of rows n) ≡ place hi (records_of rows n) + 0
      = next none (look_absent hi 0 (records_of rows n) no_row held.rising a) in
      let i : q ≡ place hi (records_of rows n) = at.is in
      spans q (omega arith)

  -- hi has no record: the search for it ended after all records
  pub spans_past : (q : ℕ) → AtPlace rows n hi q → n ≤ q → Spans rows n lo hi (record { from = p; to = q })
  spans_past q at h = without q at (absent_past rows n hi q held.room at h)

  -- or at another
  pub spans_other : (q : ℕ) (r : RecordRow) → AtPlace rows n hi q → q < n → row_of r ≡ row_at rows q → (r.address ≡ hi → ⊥)
      → Spans rows n lo hi (record { from = p; to = q })
  spans_other q r at h e d = without q at (absent_at rows n hi q held.room at (row_of r) h e d)

  -- hi has a record
  pub spans_last : (q : ℕ) (r : RecordRow) → AtPlace rows n hi q → q < n → row_of r ≡ row_at rows q → r.address ≡ hi
      → Spans rows n lo hi (record { from = p; to = q + 1 })
  spans_last q r at h e d =
      let f : place (suc hi) (records_of rows n) ≡ place hi (records_of rows n) + 1
      = next _ (look_present hi (records_of rows n) no_row (present_at rows n hi q held.room at (row_of r) h e d)) in
      let i : q ≡ place hi (records_of rows n) = at.is in
      spans (q + 1) (omega arith)

-- ---- a record and its current record

pub narrow_address : (rows : RecordRows) (n i : ℕ) (r : RecordRow) → RecordsHeld rows n → i < n → row_of r ≡ row_at rows i → r.address < addresses
narrow_address rows n i r f h e = subst (λ (x : Row Record). x.key < addresses) (sym e) (f.narrow i h)

pub seen_there : (rows : RecordRows) (n : ℕ) (slots : SlotRows) (i : ℕ) (r : RecordRow) (s : Optional RecordWords) (k : RecordWords) → RecordsSorted rows n → i < n → row_of r ≡ row_at rows i
    → Sees rows n slots r.address s → SeenAt rows n slots i (record { address = r.address; current = s; kept = k })
unfolding indexed_at
seen_there rows n slots i r s k g h e f =
    record {
      seen_is = λ ls.
          ap (λ (o : Option Record). row r.address o) (f.record_is ls)
          ∙ ap (λ (a : ℕ). row a (current (map_with rows n slots ls) a)) (ap (λ (x : Row Record). x.key) (e ∙ sym (record_at rows n i g.room h)));
    }

-- in a sorted list a look-up of a row's key finds the row
look_from : {A : Type 0} (lo : ℕ) (rs : List (Row A)) (i : ℕ) (d : Row A) → From lo rs → i < length rs
    → (lo ≤ (get_or rs i d).key) × (look rs (get_or rs i d).key ≡ some (get_or rs i d).item)
unfolding From
look_from lo [] i d f h = absurd (let z : ⊥ = omega arith in z)
look_from lo (r ∷ rs) zero d f h = (f.0, look_here r rs r.key refl)
look_from lo (r ∷ rs) (suc i) d f h =
    let t = look_from (suc r.key) rs i d f.1 (let z : i < length rs = omega arith in z) in
    let a : suc r.key ≤ (get_or rs i d).key = t.0 in
    let b : lo ≤ r.key = f.0 in
    (let z : lo ≤ (get_or rs i d).key = omega arith in z, look_there r rs (get_or rs i d).key (λ e. let z : ⊥ = omega arith in z) ∙ t.1)

-- what the index has at the address of its row
pub row_found : (rows : RecordRows) (n i : ℕ) (r : RecordRow) → RecordsSorted rows n → i < n → row_of r ≡ row_at rows i
    → some (record_from r.payload r.commit) ≡ look (records_of rows n) r.address
unfolding Rising
row_found rows n i r g h e =
    let q : row_of r ≡ get_or (records_of rows n) i no_row = e ∙ sym (record_at rows n i g.room h) in
    let t = look_from 0 (records_of rows n) i no_row g.rising (subst (λ (x : ℕ). i < x) (sym (length_records rows n g.room)) h) in
    ap (λ (x : Row Record). some x.item) q ∙ sym t.1 ∙ ap (λ (x : Row Record). look (records_of rows n) x.key) (sym q)

-- ---- leaves

-- the versions of the leaves that meet lo to hi
meeting_places : (v : ℕ) (ls : List Leaf) (lo hi : ℕ) → GoodLeaves v ls → lo ≤ hi
    → map (λ (l : Leaf). l.version) (take (suc (low_place hi (leaf_lows ls)) - low_place lo (leaf_lows ls)) (drop (low_place lo (leaf_lows ls)) ls)) ≡ meeting ls lo hi
unfolding Covers LowsFrom low_place meeting version_at
meeting_places v [] lo hi g h = absurd g.covers
meeting_places v (l ∷ ms) lo hi g h =
    ap (map (λ (x : Leaf). x.version)) parts
    ∙ ap (λ (zs : List Leaf). (get_or (l ∷ ms) p first_leaf).version ∷ map (λ (x : Leaf). x.version) zs) later
    ∙ ap (λ (x : Leaf). x.version ∷ map (λ (x : Leaf). x.version) (filter (starts_in lo hi) (l ∷ ms))) own
  where
    p : ℕ
    p = up_to lo (leaf_lows ms)

    q : ℕ
    q = up_to hi (leaf_lows ms)

    inside : p < suc (length ms)
    inside =
        let a : low_place lo (leaf_lows (l ∷ ms)) < length (leaf_lows (l ∷ ms)) = place_inside lo (leaf_lows (l ∷ ms)) (suc-le-suc zero-le) in
        let b : length (leaf_lows ms) ≡ length ms = length-map ms (λ (x : Leaf). x.low) in
        let c : p < suc (length (leaf_lows ms)) = a in
        omega arith

    parts : take (suc (low_place hi (leaf_lows (l ∷ ms))) - low_place lo (leaf_lows (l ∷ ms))) (drop (low_place lo (leaf_lows (l ∷ ms))) (l ∷ ms))
        ≡ get_or (l ∷ ms) p first_leaf ∷ take (q - p) (drop p ms)
    parts =
        ap (λ (zs : List Leaf). take (suc q - p) zs) (drop-cons (l ∷ ms) p first_leaf inside)
        ∙ ap (λ (n : ℕ). take n (get_or (l ∷ ms) p first_leaf ∷ drop p ms))
        (let m : p ≤ q = up_mono lo hi (leaf_lows ms) h in let e : suc q - p ≡ suc (q - p) = omega arith in e)

    later : take (q - p) (drop p ms) ≡ filter (starts_in lo hi) (l ∷ ms)
    later =
        sym
        (starts_before lo hi l ms (let z : l.low ≡ 0 = g.covers in omega arith)
        ∙ starts_places lo hi (suc l.low) ms g.rising.1 h)

    own : get_or (l ∷ ms) p first_leaf ≡ leaf_of (l ∷ ms) lo
    own = parted_leaf lo (l ∷ ms) p (parted lo (l ∷ ms) p (suc-le-suc zero-le) refl)

-- leaves in words
module _ (lows versions : List ℕ) (m : ℕ) (room : m ≤ leaf_places) (all : length lows ≡ leaf_places) (all' : length versions ≡ leaf_places) where
  alike : length (take m lows) ≡ length (take m versions)
  alike = length-take-le m lows (rw all room) ∙ sym (length-take-le m versions (rw all' room))

  lows_read : leaf_lows (leaves_of lows versions m) ≡ take m lows
  unfolding leaves_of
  lows_read = paired_lows (take m lows) (take m versions) alike

  pub length_leaves : length (leaves_of lows versions m) ≡ m
  unfolding leaves_of
  length_leaves = paired_length (take m lows) (take m versions) alike ∙ length-take-le m lows (rw all room)

  pub leaf_read : (i : ℕ) → i < m → get_or (leaves_of lows versions m) i first_leaf ≡ record { low = get_or lows i 0; version = get_or versions i 0 }
  unfolding leaves_of
  leaf_read i h =
      paired_get_or (take m lows) (take m versions) i alike (rw (length-take-le m lows (rw all room)) h)
      ∙ ap (λ (x : ℕ). record { low = x; version = get_or (take m versions) i 0 }) (get_or-take m lows i 0 h)
      ∙ ap (λ (x : ℕ). record { low = get_or lows i 0; version = x }) (get_or-take m versions i 0 h)

  pub leaf_found : (a p : ℕ) → AtLeaf lows m a p → get_or (leaves_of lows versions m) p first_leaf ≡ leaf_of (leaves_of lows versions m) a
  leaf_found a p at =
      let b : p < m = at.inside in
      parted_leaf a (leaves_of lows versions m) p
      (parted a (leaves_of lows versions m) p (rw length_leaves (omega arith)) (at.is ∙ ap (low_place a) (sym lows_read)))

  meets_versions : (lo hi p q v : ℕ) → lo ≤ hi → AtLeaf lows m lo p → AtLeaf lows m hi q → GoodLeaves v (leaves_of lows versions m)
      → p + (q + 1 - p) ≤ m
      → walk (version_in (leaves_of lows versions m)) p (q + 1 - p) ≡ meeting (leaves_of lows versions m) lo hi
  unfolding version_in
  meets_versions lo hi p q v h f t g b =
      walk_map (λ (l : Leaf). l.version) ls first_leaf p (q + 1 - p) (rw length_leaves b)
      ∙ ap (λ (i : ℕ). map (λ (l : Leaf). l.version) (take (q + 1 - i) (drop i ls))) (f.is ∙ ap (low_place lo) (sym lows_read))
      ∙ ap (λ (i : ℕ). map (λ (l : Leaf). l.version) (take (i - low_place lo (leaf_lows ls)) (drop (low_place lo (leaf_lows ls)) ls))) last
      ∙ meeting_places v ls lo hi g h
    where
      ls : List Leaf
      ls = leaves_of lows versions m

      last : q + 1 ≡ suc (low_place hi (leaf_lows ls))
      last = let e : q ≡ low_place hi (leaf_lows ls) = t.is ∙ ap (low_place hi) (sym lows_read) in omega arith

places_mono : (lo hi : ℕ) (ks : List ℕ) → lo ≤ hi → low_place lo ks ≤ low_place hi ks
unfolding low_place
places_mono lo hi [] h = le_refl 0
places_mono lo hi (k ∷ ks) h = up_mono lo hi ks h

pub meets : (lows : List ℕ) (m lo hi p q : ℕ) → m ≤ leaf_places → length lows ≡ leaf_places → lo ≤ hi → AtLeaf lows m lo p → AtLeaf lows m hi q
    → Meets lows m lo hi (record { from = p; to = q + 1 })
meets lows m lo hi p q room all h f t =
    let a : p ≡ low_place lo (take m lows) = f.is in
    let b : q ≡ low_place hi (take m lows) = t.is in
    let o : low_place lo (take m lows) ≤ low_place hi (take m lows) = places_mono lo hi (take m lows) h in
    let i : q < m = t.inside in
    record {
      ordered = omega arith;
      within = omega arith;
      versions_are = λ versions v all' g. meets_versions lows versions m room all all' lo hi p q v h f t g (omega arith);
    }

pub leaf_at_lem : (lows : List ℕ) (m a p : ℕ) → m ≤ leaf_places → length lows ≡ leaf_places → AtLeaf lows m a p → LeafAt lows m a p
leaf_at_lem lows m a p room all at =
    record { inside = at.inside; leaf_is = λ versions all'. leaf_found lows versions m room all all' a p at }

pub logged_at : (ls : LeafRows) (i : ℕ) (l : LeafWords) → length ls ≡ leaf_places → l ≡ leaf_at ls i
    → LoggedAt (lows_of ls) (versions_of ls) i (record { version = l.version; low = l.low })
unfolding logged_in
logged_at ls i l all e =
    record {
      leaf_is = λ m h room.
          (λ x. record { low = (ap (λ (y : LeafWords). y.low) e ∙ sym (column_get_or 0 ls i)) x; version = (ap (λ (y : LeafWords). y.version) e ∙ sym (column_get_or 1 ls i)) x })
          ∙ sym (leaf_read (lows_of ls) (versions_of ls) m room (column_places 0 ls all) (column_places 1 ls all) i h);
    }
