-- The contents one after the other: what no candidate holds, and what the first candidate holds.
use Prim.Native.Nat.{ℕ, suc, ◌+◌, ◌^◌, ◌<◌, ◌≤◌, zero-le, suc-le-suc}
use Rattle.std.proofs.Common.{le_refl, le_trans, not-suc-le-zero, arith, ◌∙◌, subst, inl, inr}
use Rattle.std.specs.Prelude.{◌≡◌, Bool, true, false, get_or, Option as Optional, Some, None}
use Rattle.std.proofs.Math.Path.{refl, sym, ap}
use Rattle.std.proofs.Math.Logic.{⊎_elim}
use Rattle.std.proofs.Math.Bool.{not}
use mathlib.Core.List.{List, [], ◌∷◌}
use Rattle.std.proofs.Math.Option.{Option, none, some}
use Rattle.std.proofs.Math.ListN.{length}
use Rattle.std.specs.Int.Count.{count_trailing_zeros}
use Rattle.lists.specs.Tests.{pick, maybe, present, same, less}
use Rattle.lists.specs.TestLaws.{cases, clash, same_true, same_false, less_true, less_false}
use Rattle.lists.specs.Rows.{Row, row, look, From, Rising}
use Rattle.lists.specs.RowLaws.{look_here, look_there, look_low, look_nil}
use Rattle.lists.specs.Options.{both_options, some_same}
use Rattle.lists.specs.Places.{place}
use Rattle.spec.specs.Widths.{address_size, addresses}
use Rattle.spec.specs.Records.{Record}
use Rattle.spec.specs.Payloads.{record_of_words}
use Rattle.spec.specs.Leaves.{Leaf}
use Rattle.spec.specs.Slots.{slot_count, Content, is_idle, Slot, empty_slot, vacant, entries, kept}
use Rattle.spec.specs.Maps.{outcome_of, current, contents}
use Rattle.laws.specs.SlotCounts.{entry_at, Place, lookup}
use Rattle.laws.specs.SlotLaws.{content_none, kept_entry}
use Rattle.laws.specs.ContentLaws.{look_contents, rising_contents}
use Rattle.indexlet.specs.declared.Slot.{Slot as SlotWords}
use Rattle.indexlet.specs.Words.{content_in, slot_in, slots_of}
use Rattle.indexlet.specs.Words as words
use Rattle.indexlet.specs.WordLaws.{slots_at}
use Rattle.indexlet.specs.Bits.{bit, lowest_set, rest, rest_other}
use Rattle.indexlet.specs.Bitmaps.{word_end, BitsFrom, Unseen}
use Rattle.indexlet.specs.BitmapLaws.{unseen_start, unseen_end, unseen_on}
use Rattle.indexlet.specs.Promises as indexlet
use Rattle.index.specs.declared.rows.RecordRow.{RecordRow}
use Rattle.index.specs.Views.{row_of, no_row, row_at, records_of}
use Rattle.index.specs.RecordPlaces.{AtPlace}
use Rattle.index.specs.ViewLaws.{length_records, record_at}
use Rattle.spec.specs.declared.RecordWords.{RecordWords}
use Rattle.queries.specs.QueryViews.{map_with, Sees}
use Rattle.queries.specs.NextViews.{Follows, Before, NotBelow, IndexFrom, SlotFrom, Nearer, NoNearer, Walked, Walking, CandidateFrom, Passed}
use Rattle.queries.specs.Contents.{first_from}
use Rattle.queries.specs.ContentsLaws.{below, here}
use Rattle.map.specs.Views.{SlotRows, RecordRows}
use Rattle.map.specs.Parts.{RecordsHeld}

-- ---- rows from a key on

module _ {A : Type 0} where
  -- no row from k on
  pub first_none : (k lo : ℕ) (rs : List (Row A)) → From lo rs → ((j : ℕ) → k ≤ j → look rs j ≡ none) → first_from k rs ≡ none
  unfolding From
  first_none k lo [] f h = unfold first_from in refl
  first_none k lo (r ∷ rs) f h =
      ⊎_elim
      (λ e. let l : r.key < k = less_true r.key k e in
      (below k r rs l).0 ∙ first_none k (suc r.key) rs f.1 (λ j g. sym (look_there r rs j (λ q. omega arith)) ∙ h j g))
      (λ e. both_options (look_here r rs r.key refl) (h r.key (less_false r.key k e)))
      (cases (less r.key k))

  -- the first row from k on
  first_some : (k lo : ℕ) (rs : List (Row A)) (j : ℕ) (x : A) → From lo rs → k ≤ j → look rs j ≡ some x
      → ((i : ℕ) → k ≤ i → i < j → look rs i ≡ none) → first_from k rs ≡ some (row j x)
  unfolding From
  first_some k lo [] j x f g e h = both_options e (look_nil j)
  first_some k lo (r ∷ rs) j x f g e h =
      ⊎_elim
      (λ t. let l : r.key < k = less_true r.key k t in
      (below k r rs l).0
      ∙ first_some k (suc r.key) rs j x f.1 g (sym (look_there r rs j (λ q. omega arith)) ∙ e)
      (λ i a b. sym (look_there r rs i (λ q. omega arith)) ∙ h i a b))
      (λ t. (here k r rs (less_false r.key k t)).0 ∙ ap some (own (less_false r.key k t)))
      (cases (less r.key k))
    where
      own : k ≤ r.key → r ≡ row j x
      own l =
          ⊎_elim
          (λ s. let q : r.key ≡ j = same_true r.key j s in
          let i : r.item ≡ x = some_same (sym (look_here r rs j q) ∙ e) in
          λ t. record { key = q t; item = i t })
          (λ s. let d : r.key ≡ j → ⊥ = same_false r.key j s in
          ⊎_elim
          (λ u. both_options (look_here r rs r.key refl) (h r.key l (less_true r.key j u)))
          (λ u. both_options (sym (look_there r rs j d) ∙ e)
          (look_low rs {lo = suc r.key} j (let v : j ≤ r.key = less_false r.key j u in omega arith) f.1))
          (cases (less r.key j)))
          (cases (same r.key j))

  -- the key at a place, and the keys before it
  place_key : (k : ℕ) (rs : List (Row A)) (d : Row A) → place k rs < length rs → k ≤ (get_or rs (place k rs) d).key
  unfolding place
  place_key k [] d h = absurd (not-suc-le-zero h)
  place_key k (r ∷ rs) d h =
      ⊎_elim
      (λ t. rw t (place_key k rs d (let g : suc (place k rs) < suc (length rs) = rw t at h in omega arith)))
      (λ t. rw t (less_false r.key k t))
      (cases (less r.key k))

  place_clear : (k lo : ℕ) (rs : List (Row A)) (d : Row A) (j : ℕ) → From lo rs → k ≤ j
      → (place k rs < length rs → j < (get_or rs (place k rs) d).key) → look rs j ≡ none
  unfolding From place
  place_clear k lo [] d j f g h = look_nil j
  place_clear k lo (r ∷ rs) d j f g h =
      ⊎_elim
      (λ t. let l : r.key < k = less_true r.key k t in
      let b : suc (place k rs) < suc (length rs) → j < (get_or rs (place k rs) d).key = rw t at h in
      look_there r rs j (λ q. omega arith) ∙ place_clear k (suc r.key) rs d j f.1 g (λ i. b (suc-le-suc i)))
      (λ t. let b : 0 < suc (length rs) → j < r.key = rw t at h in
      look_low (r ∷ rs) {lo = r.key} j (b (suc-le-suc zero-le)) (le_refl r.key, f.1))
      (cases (less r.key k))

  -- keys below a bound
  look_bound : (b : ℕ) (rs : List (Row A)) (d : Row A) (j : ℕ) → ((i : ℕ) → i < length rs → (get_or rs i d).key < b) → b ≤ j → look rs j ≡ none
  look_bound b [] d j h g = look_nil j
  look_bound b (r ∷ rs) d j h g =
      let l : r.key < b = h 0 (suc-le-suc zero-le) in
      look_there r rs j (λ q. omega arith) ∙ look_bound b rs d j (λ i q. h (suc i) (suc-le-suc q)) g

-- ---- candidates of the index

module _ (rows : RecordRows) (n from p : ℕ) (whole : RecordsHeld rows n) (at : AtPlace rows n from p) where
  pub index_none : n ≤ p → IndexFrom rows n from None
  unfolding Rising
  index_none h =
      let e : p ≡ place from (records_of rows n) = at.is in
      let m : length (records_of rows n) ≡ n = length_records rows n whole.held.room in
      record {
        low = tt;
        clear = λ k g b. place_clear from 0 (records_of rows n) no_row k whole.held.rising g (λ q. absurd (omega arith));
      }

  pub index_here : (r : RecordRow) → p < n → row_of r ≡ row_at rows p → IndexFrom rows n from (Some r.address)
  unfolding Rising
  index_here r h g =
      let e : p ≡ place from (records_of rows n) = at.is in
      let m : length (records_of rows n) ≡ n = length_records rows n whole.held.room in
      let a : r.address ≡ (get_or (records_of rows n) (place from (records_of rows n)) no_row).key
      = ap (λ (x : Row Record). x.key) (g ∙ sym (record_at rows n p whole.held.room h)) ∙ ap (λ (i : ℕ). (get_or (records_of rows n) i no_row).key) e in
      let l : from ≤ (get_or (records_of rows n) (place from (records_of rows n)) no_row).key = place_key from (records_of rows n) no_row (omega arith) in
      record {
        low = omega arith;
        clear = λ k i b.
            let z : k < r.address = b in
            place_clear from 0 (records_of rows n) no_row k whole.held.rising i (λ q. omega arith);
      }

-- ---- the nearer candidate

-- what lies below an address from which the candidate is on lies before the candidate, and what lies below such an address too
before_low : (k key : ℕ) (c : Optional ℕ) → k < key → NotBelow key c → Before k c
before_low k key None h l = tt
before_low k key (Some a) h l = omega arith

before_less : (k j : ℕ) (c : Optional ℕ) → k ≤ j → Before j c → Before k c
before_less k j None h b = tt
before_less k j (Some a) h b = omega arith

module _ (key from : ℕ) where
  -- the key lies below
  pub nearer_below : (best : Optional ℕ) → key < from → Nearer key from best best
  nearer_below best h = record { most = λ k b. b; low = λ l. l; clear = λ g b. omega arith }

  pub nearer_best : (a : ℕ) → a ≤ key → Nearer key from (Some a) (Some a)
  nearer_best a h = record { most = λ k b. b; low = λ l. l; clear = λ g b. let z : key < a = b in omega arith }

  nearer_key : (best : Optional ℕ) → from ≤ key → NotBelow key best → Nearer key from best (Some key)
  nearer_key best h g =
      record { most = λ k b. before_low k key best b g; low = λ l. h; clear = λ a b. let z : key < key = b in omega arith }

  pub nearer_first : from ≤ key → Nearer key from None (Some key)
  nearer_first h = nearer_key None h tt

  pub nearer_before : (a : ℕ) → from ≤ key → key < a → Nearer key from (Some a) (Some key)
  nearer_before a h g = nearer_key (Some a) h (omega arith)

-- ---- candidates of the indexlet

slot_entry : (s : SlotWords) → (slot_in s).entry ≡ kept s.key (content_in s.content)
unfolding slot_in
slot_entry s = refl

-- an entry of the row has the row's key, and says something
of_row_lem : (s : SlotWords) (e : Row Content) → (slot_in s).entry ≡ some e → (is_idle (content_in s.content) ≡ false) × (s.key ≡ e.key)
of_row_lem s e q =
    let r = kept_entry s.key (content_in s.content) e (sym (slot_entry s) ∙ q) in
    (r.0, ap (λ (x : Row Content). x.key) r.1)

-- a row with an entry says something
filled_row : (s : SlotWords) → vacant (slot_in s) ≡ false → is_idle (content_in s.content) ≡ false
unfolding vacant
filled_row s f =
    ⊎_elim
    (λ t. clash (ap (λ (o : Option (Row Content)). not (present o)) (slot_entry s ∙ ap (λ (b : Bool). pick b none (some (row s.key (content_in s.content)))) t)) f)
    (λ t. t)
    (cases (is_idle (content_in s.content)))

module _ (slots : SlotRows) (from : ℕ) where
  pub walked_start : Walked slots from 0 None
  walked_start = record { low = tt; clear = λ j q. absurd (not-suc-le-zero q) }

  -- an empty slot has no entry
  empty_none : (best : Optional ℕ) (j : ℕ) → vacant (get_or (slots_of slots) j empty_slot) ≡ true → NoNearer slots from best j
  unfolding vacant
  empty_none best j t = record { clear = λ e q h b. clash t (ap (λ (o : Option (Row Content)). not (present o)) q) }

  -- the slots of a word: those whose bits are left, and the others, which have no nearer entry
  pub walking_start : (best : Optional ℕ) (next w : ℕ) → Walked slots from next best → BitsFrom false slots next w → next < slot_count → w < 2 ^ 64
      → Walking slots from next best w
  walking_start best next w k b h f =
      record { passed = k; left = unseen_start w b h f (λ i l t. empty_none best i t); filled = λ i t. (b.own i t).1 }

  module _ (next : ℕ) (best : Optional ℕ) (w : ℕ) (s : SlotWords) (k : Walking slots from next best w) (any : 0 < w) where
    lowest : bit (count_trailing_zeros 64 w) w ≡ 1
    lowest = lowest_set 64 w any k.left.fits

    -- the key of the slot of the lowest bit is an address
    pub walking_narrow : (j : ℕ) → j ≡ next + count_trailing_zeros 64 w → indexlet.IsSlot slots j s → s.key < addresses
    walking_narrow j q d =
        d.narrow (filled_row s (ap vacant d.slot ∙ ap (λ (i : ℕ). vacant (get_or (slots_of slots) i empty_slot)) q ∙ k.filled (count_trailing_zeros 64 w) lowest))

    module _ (r : Optional ℕ) (x : Nearer s.key from best r) where
      -- what was nearer is nearer than the one before
      on : (j : ℕ) → NoNearer slots from best j → NoNearer slots from r j
      on j f = record { clear = λ e q h b. f.clear e q h (x.most e.key b) }

      nearer_left : Unseen (NoNearer slots from r) next w
      nearer_left = record { left = λ i a b. ⊎_elim inl (λ p. inr (on i p)) (k.left.left i a b); inside = k.left.inside; fits = k.left.fits }

      -- the slot of the lowest bit is passed
      pub walking_on : (v j : ℕ) → v ≡ rest w → j ≡ next + count_trailing_zeros 64 w → indexlet.IsSlot slots j s → Walking slots from next r v
      walking_on v j p q d =
          record {
            passed = record { low = x.low k.passed.low; clear = λ i h. on i (k.passed.clear i h) };
            left = unseen_on w any nearer_left v j p q (record { clear = own });
            filled = λ i t.
                ⊎_elim
                (λ g. k.filled i (ap (λ (n : ℕ). bit n w) (same_true i (count_trailing_zeros 64 w) g) ∙ lowest))
                (λ g. k.filled i (sym (rest_other 64 w i k.left.fits (same_false i (count_trailing_zeros 64 w) g)) ∙ ap (bit i) (sym p) ∙ t))
                (cases (same i (count_trailing_zeros 64 w)));
          }
        where
          own : (e : Row Content) → entry_at (slots_of slots) j ≡ some e → from ≤ e.key → Before e.key r → ⊥
          own e g h b =
              let a : s.key ≡ e.key = (of_row_lem s e (ap (λ (y : Slot). y.entry) d.slot ∙ g)).1 in
              x.clear (omega arith) (subst (λ (k : ℕ). Before k r) (sym a) b)

  pub walking_end : (next : ℕ) (best : Optional ℕ) (w : ℕ) → w ≡ 0 → Walking slots from next best w → Walked slots from (word_end next) best
  walking_end next best w e k =
      record {
        low = k.passed.low;
        clear = λ j q. ⊎_elim (λ t. k.passed.clear j (less_true j next t)) (λ t. unseen_end w e k.left j (less_false j next t) q) (cases (less j next));
      }

  pub walked_as : {i j : ℕ} {best : Optional ℕ} → j ≡ i → Walked slots from i best → Walked slots from j best
  walked_as {i} {j} {best} e k = subst (λ (n : ℕ). Walked slots from n best) (sym e) k

  pub walked_end : (best : Optional ℕ) (i : ℕ) → indexlet.SlotsHeld slots → slot_count ≤ i → Walked slots from i best → SlotFrom slots from best
  walked_end best i held l w =
      record {
        low = w.low;
        clear = λ k g b.
            ⊎_elim
            (λ q. q.1)
            (λ q. absurd (far k g b q.0))
            (lookup address_size (slots_of slots) k held.good);
      }
    where
      far : (k : ℕ) → from ≤ k → Before k best → Place (slots_of slots) k → ⊥
      far k g b p =
          let z : length (slots_of slots) ≡ slot_count = held.good.size in
          let a : p.at < length (slots_of slots) = p.inside in
          let o : p.content.key ≡ k = p.own in
          (w.clear p.at (omega arith)).clear p.content p.here (omega arith) (subst (λ (j : ℕ). Before j best) (sym o) b)

-- ---- what the map has

module _ (rows : RecordRows) (n : ℕ) (slots : SlotRows) where
  -- nothing said, and nothing in the index
  current_none : (k : ℕ) → look (records_of rows n) k ≡ none → look (entries (slots_of slots)) k ≡ none → (ls : List Leaf)
      → current (map_with rows n slots ls) k ≡ none
  unfolding current
  current_none k e f ls =
      ap (λ (c : Content). maybe c.pending (look (records_of rows n) k) outcome_of) (content_none (slots_of slots) k f) ∙ e

  pub passed_start : (from : ℕ) → Passed rows n slots from from
  passed_start from = record { low = le_refl from; clear = λ j g h. absurd (let z : from ≤ j = g in omega arith) }

  -- the indexlet has no candidate, or one, and then it is the nearer of both
  pub candidate_index : (from : ℕ) (a : Optional ℕ) → IndexFrom rows n from a → SlotFrom slots from None → CandidateFrom rows n slots from a
  candidate_index from a x y = record { low = x.low; clear = λ j g h ls. current_none j (x.clear j g h) (y.clear j g tt) ls }

  pub candidate_nearer : (from : ℕ) (a : Optional ℕ) (b : ℕ) (c : Optional ℕ) → IndexFrom rows n from a → SlotFrom slots from (Some b) → Nearer b from a c
      → CandidateFrom rows n slots from c
  candidate_nearer from a b c x y z =
      record { low = z.low x.low; clear = λ j g h ls. current_none j (x.clear j g (z.most j h)) (y.clear j g (before j h)) ls }
    where
      before : (j : ℕ) → Before j c → j < b
      before j h =
          ⊎_elim
          (λ t. less_true j b t)
          (λ t. absurd (z.clear y.low (before_less b j c (less_false j b t) h)))
          (cases (less j b))

  -- up to the candidate there is nothing
  passed_before : (from k : ℕ) (c : Optional ℕ) → Passed rows n slots from k → CandidateFrom rows n slots k c → (j : ℕ) → from ≤ j → Before j c → (ls : List Leaf)
      → current (map_with rows n slots ls) j ≡ none
  passed_before from k c p x j g h ls =
      ⊎_elim (λ t. p.clear j g (less_true j k t) ls) (λ t. x.clear j (less_false j k t) h ls) (cases (less j k))

  pub passed_over : (from k a : ℕ) → Passed rows n slots from k → CandidateFrom rows n slots k (Some a) → Passed rows n slots from a
  passed_over from k a p x =
      let l : from ≤ k = p.low in
      let u : k ≤ a = x.low in
      record { low = omega arith; clear = λ j g h ls. passed_before from k (Some a) p x j g h ls }

  module _ (whole : RecordsHeld rows n) (sound : indexlet.SlotsHeld slots) where
    -- no record has a key past all addresses
    beyond_index : (k : ℕ) → addresses ≤ k → look (records_of rows n) k ≡ none
    beyond_index k h =
        let m : length (records_of rows n) ≡ n = length_records rows n whole.held.room in
        look_bound addresses (records_of rows n) no_row k
        (λ i q. let l : i < n = omega arith in subst (λ (x : Row Record). x.key < addresses) (sym (record_at rows n i whole.held.room l)) (whole.narrow i l)) h

    beyond_slots : (k : ℕ) → addresses ≤ k → look (entries (slots_of slots)) k ≡ none
    beyond_slots k h = ⊎_elim (λ q. q.1) (λ q. absurd (far q.0)) (lookup address_size (slots_of slots) k sound.good)
      where
        far : Place (slots_of slots) k → ⊥
        far p =
            let z : length (slots_of slots) ≡ slot_count = sound.good.size in
            let a : p.at < length (slots_of slots) = p.inside in
            let i : p.at < slot_count = omega arith in
            let r = of_row_lem (words.row_at slots p.at) p.content (sym (ap (λ (y : Slot). y.entry) (slots_at slots p.at i)) ∙ p.here) in
            let o : p.content.key ≡ k = p.own in
            let b : (words.row_at slots p.at).key < addresses = sound.sized.narrow p.at i r.0 in
            let c : (words.row_at slots p.at).key ≡ p.content.key = r.1 in
            omega arith

    beyond : (k : ℕ) → addresses ≤ k → (ls : List Leaf) → current (map_with rows n slots ls) k ≡ none
    beyond k h ls = current_none k (beyond_index k h) (beyond_slots k h) ls

    pub passed_on : (from c : ℕ) → Passed rows n slots from c → Sees rows n slots c None → Passed rows n slots from (c + 1)
    passed_on from c p s =
        let l : from ≤ c = p.low in
        record {
          low = omega arith;
          clear = λ j g h ls.
              ⊎_elim
              (λ t. ap (current (map_with rows n slots ls)) (same_true j c t) ∙ sym (s.record_is ls))
              (λ t. let d : j ≡ c → ⊥ = same_false j c t in p.clear j g (omega arith) ls)
              (cases (same j c));
        }

    look_all : (ls : List Leaf) (k : ℕ) → look (contents (map_with rows n slots ls)) k ≡ current (map_with rows n slots ls) k
    look_all ls k = look_contents (map_with rows n slots ls) sound.good k

    rising_all : (ls : List Leaf) → From 0 (contents (map_with rows n slots ls))
    unfolding Rising
    rising_all ls = rising_contents (map_with rows n slots ls) whole.held.rising

    follows_none : (from : ℕ) → ((j : ℕ) → from ≤ j → (ls : List Leaf) → current (map_with rows n slots ls) j ≡ none) → Follows rows n slots from None
    follows_none from h =
        record { next_is = λ ls. sym (first_none from 0 (contents (map_with rows n slots ls)) (rising_all ls) (λ j g. look_all ls j ∙ h j g ls)) }

    -- there is no candidate
    pub follows_end : (from k : ℕ) → Passed rows n slots from k → CandidateFrom rows n slots k None → Follows rows n slots from None
    follows_end from k p x = follows_none from (λ j g ls. passed_before from k None p x j g tt ls)

    -- all addresses are passed
    pub follows_done : (from k : ℕ) → Passed rows n slots from k → addresses ≤ k → Follows rows n slots from None
    follows_done from k p h =
        follows_none from
        (λ j g ls. ⊎_elim (λ t. p.clear j g (less_true j k t) ls) (λ t. beyond j (le_trans h (less_false j k t)) ls) (cases (less j k)))

    pub follows_at : (from c : ℕ) (r : RecordWords) → Passed rows n slots from c → Sees rows n slots c (Some r)
        → Follows rows n slots from (Some (record { address = c; «record» = r }))
    follows_at from c r p s =
        record {
          next_is = λ ls.
              sym
              (first_some from 0 (contents (map_with rows n slots ls)) c (record_of_words r) (rising_all ls) p.low
              (look_all ls c ∙ sym (s.record_is ls))
              (λ i g h. look_all ls i ∙ p.clear i g h ls));
        }
