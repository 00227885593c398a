-- The test for phantoms on words: counting the worker's own addresses in a leaf, and what the count says.
use Prim.Native.Nat.{ℕ, zero, suc, ◌+◌, ◌<◌, ◌≤◌, zero-le}
use Rattle.std.proofs.Common.{not-suc-le-zero, ◌∙◌, subst, inl, inr, length-take-le, ne_eqb}
use native.Mathlib.Omega.{arith}
use mir.Val.{bool_byte}
use Rattle.std.specs.Prelude.{◌≡◌, ◌⊎◌, Bool, true, not, ltb, take, get_or, Option as Optional, is_some}
use Rattle.std.proofs.Math.Path.{refl, sym, ap}
use Rattle.std.proofs.Math.Logic.{⊎_elim}
use Rattle.std.proofs.Math.Bool.{false}
use mathlib.Core.List.{List, [], ◌∷◌}
use Rattle.std.proofs.Math.Option.{Option, none, some}
use Rattle.std.proofs.Math.Dec.{eqb}
use Rattle.std.proofs.Math.ListN.{length}
use Rattle.lists.specs.Tests.{pick, both, either, maybe, present, same, less}
use Rattle.lists.specs.TestLaws.{cases, clash, same_true, same_false, same_yes, same_no}
use Rattle.lists.specs.Rows.{Row, look, keys, filter, has, Different}
use Rattle.lists.specs.RowLaws.{has_keys, look_here, look_there, rising_different}
use Rattle.lists.specs.Counting.{has_nil, has_cons}
use Rattle.lists.specs.Options.{both_options, some_same}
use Rattle.spec.specs.declared.PayloadWords.{PayloadWords}
use Rattle.spec.specs.declared.RecordWords.{RecordWords}
use Rattle.spec.specs.Payloads.{record_of_words, record_in}
use Rattle.spec.specs.Leaves.{Leaf, first_leaf, version_at, live}
use Rattle.spec.specs.Records.{Write, is_put}
use Rattle.spec.specs.Slots.{Pending, Content, content_of}
use Rattle.spec.specs.Maps.{put_pending, hides, phantom_in}
use Rattle.laws.specs.LeafParts.{Apart, live_head, live_later}
use Rattle.laws.specs.LeafVersions.{version_live}
use Rattle.indexlet.specs.declared.Content.{Content as ContentWords}
use Rattle.indexlet.specs.Words.{pending_in, content_in, slots_of}
use Rattle.index.specs.Views.{records_of, leaves_of}
use Rattle.index.specs.LeafPlaces.{low_place, place_inside, AtLeaf}
use Rattle.map.specs.declared.Sizes.{Sizes}
use Rattle.phantomlet.specs.LeafTests.{filter_same}
use Rattle.phantomlet.specs.MergeCounts.{pick_most}
use Rattle.phantomlet.specs.Phantoms.{how_many, hiding_in}
use Rattle.map.specs.Views.{SlotRows, LeafRows, RecordRows, Lent, map_of}
use Rattle.index.specs.LeafColumns.{versions_of, hidden_of, leaf_at}
use Rattle.index.specs.LeafColumnLaws.{column_get_or}
use Rattle.index.specs.declared.leaves.LeafWords.{LeafWords}
use Rattle.map.specs.WriteWalks.{write_at, rest, rest_all, rest_cons, rest_none}
use Rattle.sets.specs.declared.writes.Entry.{Entry}
use Rattle.sets.specs.declared.writes.Write.{Write as WriteWords}
use Rattle.sets.specs.declared.writes.Write.TheVariants.{Put, Deletion}
use Rattle.sets.specs.SetLaws.{absent_is}
use Rattle.sets.specs.Writes.{WriteRows, edit_in, entry_in, writes_of}
use Rattle.map.specs.MapHeld.{Tables}
use Rattle.queries.specs.QueryViews.{LeafAt}
use Rattle.queries.specs.ScanLaws.{length_leaves, leaf_read, leaf_found}
use Rattle.phantomlet.specs.HidingLaws.{length_filter, lock_only_at, Locking, hides_count, hides_none}
use Rattle.queries.specs.PhantomViews.{Holding, Owns, Logged, lock_only_in, own_put, lock_only_count, Counting}

-- ---- one address

module _ (rows : RecordRows) (lows : List ℕ) (slots : SlotRows) (n m i a : ℕ) where
  place_other : (p : ℕ) → AtLeaf lows m a p → (p ≡ i → ⊥) → lock_only_in rows lows slots n m i a ≡ false
  unfolding lock_only_in
  place_other p at d = rw (same_no {m = low_place a (take m lows)} {n = i} (λ e. d (at.is ∙ e)))

  -- a put is pending if the kind is 1
  put_kind : (c : ContentWords) → content_of (slots_of slots) a ≡ content_in c → (b : Bool) → eqb c.kind 1 ≡ b → put_pending (content_of (slots_of slots) a) ≡ b
  unfolding content_in put_pending
  put_kind c e b q = ap (λ (x : Content). maybe x.pending false (λ (p : Pending). is_put p.write)) e ∙ go c.kind ∙ q
    where
      go : (k : ℕ) → maybe (pending_in k c.payload c.commit c.since) false (λ (p : Pending). is_put p.write) ≡ eqb k 1
      go zero = unfold pending_in in refl
      go (suc zero) = unfold pending_in is_put in refl
      go (suc (suc k)) = unfold pending_in is_put in sym (ne_eqb (suc (suc k)) 1 (λ z. omega arith))

  -- what the test says, by its parts
  by_parts : (p q : Bool) → put_pending (content_of (slots_of slots) a) ≡ p → present (look (records_of rows n) a) ≡ q
      → lock_only_in rows lows slots n m i a ≡ both (same (low_place a (take m lows)) i) (both (not p) (not q))
  unfolding lock_only_in
  by_parts p q e f =
      ap (λ (x : Bool). both (same (low_place a (take m lows)) i) (both (not x) (not (present (look (records_of rows n) a))))) e
      ∙ ap (λ (x : Bool). both (same (low_place a (take m lows)) i) (both (not p) (not x))) f

  none_of : (b : Bool) → both b false ≡ false
  none_of true = refl
  none_of false = refl

  pub lock_only_elsewhere : (p : ℕ) → AtLeaf lows m a p → (p ≡ i → ⊥) → false ≡ lock_only_in rows lows slots n m i a
  lock_only_elsewhere p at d = sym (place_other p at d)

  pub lock_only_pending : (c : ContentWords) → content_of (slots_of slots) a ≡ content_in c → c.kind ≡ 1 → false ≡ lock_only_in rows lows slots n m i a
  lock_only_pending c e h = sym (by_parts true _ (put_kind c e true (ap (λ (k : ℕ). eqb k 1) h)) refl ∙ none_of (same (low_place a (take m lows)) i))

  pub lock_only_here : (p : ℕ) (c : ContentWords) (f : Optional RecordWords) (b : Bool) → AtLeaf lows m a p → p ≡ i → content_of (slots_of slots) a ≡ content_in c
      → (c.kind ≡ 1 → ⊥) → record_in f ≡ look (records_of rows n) a → is_some f ≡ not b → b ≡ lock_only_in rows lows slots n m i a
  lock_only_here p c f b at q e k g h =
      absent_is record_of_words f h
      ∙ sym
      (by_parts false (present (record_in f)) (put_kind c e false (ne_eqb c.kind 1 k)) (ap present (sym g))
      ∙ ap (λ (x : Bool). both x (not (present (record_in f)))) (same_yes {m = low_place a (take m lows)} {n = i} (sym at.is ∙ q)))

-- a test as a number
pub byte_pick : {b : Bool} (c : Bool) → b ≡ c → bool_byte b ≡ pick c 1 0
byte_pick {b} c e = ap bool_byte e ∙ go c
  where
    go : (x : Bool) → bool_byte x ≡ pick x 1 0
    go true = refl
    go false = refl

-- ---- the writes of a write set

module _ (rows : RecordRows) (lows : List ℕ) (slots : SlotRows) (n m i : ℕ) (e : Entry) where
  -- a removal does not count, and a put counts if its address does
  pub own_removal : e.write ≡ Deletion → false ≡ own_put rows lows slots n m i (entry_in e)
  unfolding own_put is_put
  own_removal k = sym (ap (λ (x : WriteWords). both (is_put (edit_in x)) (lock_only_in rows lows slots n m i e.address)) k)

  pub own_put_lem : {v : PayloadWords} {b : Bool} → e.write ≡ Put v → b ≡ lock_only_in rows lows slots n m i e.address → b ≡ own_put rows lows slots n m i (entry_in e)
  unfolding own_put is_put
  own_put_lem k q = q ∙ sym (ap (λ (x : WriteWords). both (is_put (edit_in x)) (lock_only_in rows lows slots n m i e.address)) k)

module _ (rows : RecordRows) (lows : List ℕ) (slots : SlotRows) (n m i : ℕ) (ws : WriteRows) (count : ℕ) where
  pub counting_start : Counting rows lows slots n m i ws count 0 0
  unfolding lock_only_count
  counting_start =
      record {
        within = zero-le;
        small = zero-le;
        rest = ap (λ (rs : List (Row Write)). 0 + length (filter (own_put rows lows slots n m i) rs)) (rest_all ws count) ∙ (let z : 0 + length (filter (own_put rows lows slots n m i) (writes_of ws count)) ≡ length (filter (own_put rows lows slots n m i) (writes_of ws count)) = omega arith in z);
      }

  write_step : (x : ℕ) → x < count → length (filter (own_put rows lows slots n m i) (rest ws x count))
      ≡ pick (own_put rows lows slots n m i (write_at ws x)) 1 0 + length (filter (own_put rows lows slots n m i) (rest ws (x + 1) count))
  write_step x h =
      ap (λ (rs : List (Row Write)). length (filter (own_put rows lows slots n m i) rs)) (rest_cons ws x count h)
      ∙ length_filter (own_put rows lows slots n m i) (write_at ws x) (rest ws (x + 1) count)

  pub counting_on : (x own r : ℕ) (e : Row Write) → Counting rows lows slots n m i ws count x own → x < count → e ≡ write_at ws x
      → r ≡ pick (own_put rows lows slots n m i e) 1 0 → Counting rows lows slots n m i ws count (x + 1) (own + r)
  counting_on x own r k c h q d =
      let e : r ≡ pick (own_put rows lows slots n m i (write_at ws x)) 1 0 = d ∙ ap (λ (y : Row Write). pick (own_put rows lows slots n m i y) 1 0) q in
      let b : pick (own_put rows lows slots n m i (write_at ws x)) 1 0 ≤ 1 = pick_most (own_put rows lows slots n m i (write_at ws x)) in
      let s : own ≤ x = c.small in
      let f : own + length (filter (own_put rows lows slots n m i) (rest ws x count)) ≡ lock_only_count rows lows slots n m i ws count = c.rest in
      let g : length (filter (own_put rows lows slots n m i) (rest ws x count))
      ≡ pick (own_put rows lows slots n m i (write_at ws x)) 1 0 + length (filter (own_put rows lows slots n m i) (rest ws (x + 1) count)) = write_step x h in
      record { within = omega arith; small = omega arith; rest = omega arith }

  pub counting_end : (x own : ℕ) → Counting rows lows slots n m i ws count x own → count ≤ x → own ≡ lock_only_count rows lows slots n m i ws count
  unfolding filter
  counting_end x own c h =
      let f : own + length (filter (own_put rows lows slots n m i) (rest ws x count)) ≡ lock_only_count rows lows slots n m i ws count = c.rest in
      let g : length (filter (own_put rows lows slots n m i) (rest ws x count)) ≡ 0
      = ap (λ (rs : List (Row Write)). length (filter (own_put rows lows slots n m i) rs)) (rest_none ws x count h) in
      omega arith

-- the addresses that the writes put
put_keys : List (Row Write) → List ℕ
put_keys [] = []
put_keys (r ∷ rs) = pick (is_put r.item) (r.key ∷ put_keys rs) (put_keys rs)

put_within : (rs : List (Row Write)) (k : ℕ) → has k (put_keys rs) ≡ true → has k (keys rs) ≡ true
unfolding put_keys keys
put_within [] k h = h
put_within (r ∷ rs) k h =
    ⊎_elim
    (λ t. ⊎_elim
    (λ s. has_cons k r.key (keys rs) ∙ ap (λ (b : Bool). pick b true (has k (keys rs))) s)
    (λ s. has_cons k r.key (keys rs) ∙ ap (λ (b : Bool). pick b true (has k (keys rs))) s
    ∙ put_within rs k (sym (ap (λ (b : Bool). has k (pick b (r.key ∷ put_keys rs) (put_keys rs))) t ∙ has_cons k r.key (put_keys rs) ∙ ap (λ (b : Bool). pick b true (has k (put_keys rs))) s) ∙ h))
    (cases (same k r.key)))
    (λ t. later (put_within rs k (sym (ap (λ (b : Bool). has k (pick b (r.key ∷ put_keys rs) (put_keys rs))) t) ∙ h)))
    (cases (is_put r.item))
  where
    later : has k (keys rs) ≡ true → has k (r.key ∷ keys rs) ≡ true
    later q = has_cons k r.key (keys rs) ∙ ⊎_elim (λ s. rw s) (λ s. rw s q) (cases (same k r.key))

put_different : (rs : List (Row Write)) → Different (keys rs) → Different (put_keys rs)
unfolding Different keys put_keys
put_different [] d = tt
put_different (r ∷ rs) d =
    ⊎_elim
    (λ t. subst Different (sym (ap (λ (b : Bool). pick b (r.key ∷ put_keys rs) (put_keys rs)) t))
    (⊎_elim (λ h. clash (put_within rs r.key h) d.0) (λ h. h) (cases (has r.key (put_keys rs))), put_different rs d.1))
    (λ t. subst Different (sym (ap (λ (b : Bool). pick b (r.key ∷ put_keys rs) (put_keys rs)) t)) (put_different rs d.1))
    (cases (is_put r.item))

-- an address that is put is looked up so, and the other way round
put_found : (rs : List (Row Write)) (k : ℕ) → Different (keys rs) → has k (put_keys rs) ≡ true → (e : Write) × (look rs k ≡ some e) × (is_put e ≡ true)
unfolding put_keys keys Different
put_found [] k d h = clash h (has_nil k)
put_found (r ∷ rs) k d h =
    ⊎_elim
    (λ s. ⊎_elim
    (λ t. (r.item, look_here r rs k s, t))
    (λ t. clash (ap (λ (j : ℕ). has j (keys rs)) s ∙ put_within rs k (sym (ap (λ (b : Bool). has k (pick b (r.key ∷ put_keys rs) (put_keys rs))) t) ∙ h)) d.0)
    (cases (is_put r.item)))
    (λ s. let i = put_found rs k d.1 (rest_has s) in (i.0, look_there r rs k s ∙ i.1, i.2))
    (equal r.key k)
  where
    equal : (a b : ℕ) → (a ≡ b) ⊎ (a ≡ b → ⊥)
    equal a b = ⊎_elim (λ t. inl (same_true a b t)) (λ t. inr (same_false a b t)) (cases (same a b))

    rest_has : (r.key ≡ k → ⊥) → has k (put_keys rs) ≡ true
    rest_has n =
        ⊎_elim
        (λ t. sym (ap (λ (b : Bool). has k (pick b (r.key ∷ put_keys rs) (put_keys rs))) t ∙ has_cons k r.key (put_keys rs)
        ∙ ap (λ (b : Bool). pick b true (has k (put_keys rs))) (same_no {m = k} {n = r.key} (λ q. n (sym q)))) ∙ h)
        (λ t. sym (ap (λ (b : Bool). has k (pick b (r.key ∷ put_keys rs) (put_keys rs))) t) ∙ h)
        (cases (is_put r.item))

found_put : (rs : List (Row Write)) (k : ℕ) (e : Write) → look rs k ≡ some e → is_put e ≡ true → has k (put_keys rs) ≡ true
unfolding put_keys look
found_put [] k e q t = both_options q refl
found_put (r ∷ rs) k e q t =
    ⊎_elim
    (λ s. let item : r.item ≡ e = some_same (sym (look_here r rs k (same_true r.key k s)) ∙ q) in
    ap (λ (b : Bool). has k (pick b (r.key ∷ put_keys rs) (put_keys rs))) (ap is_put item ∙ t) ∙ has_cons k r.key (put_keys rs)
    ∙ ap (λ (b : Bool). pick b true (has k (put_keys rs))) (same_yes {m = k} {n = r.key} (sym (same_true r.key k s))))
    (λ s. let i : has k (put_keys rs) ≡ true = found_put rs k e (sym (look_there r rs k (same_false r.key k s)) ∙ q) t in
    ⊎_elim
    (λ u. ap (λ (b : Bool). has k (pick b (r.key ∷ put_keys rs) (put_keys rs))) u ∙ has_cons k r.key (put_keys rs)
    ∙ ap (λ (b : Bool). pick b true (has k (put_keys rs))) (same_no {m = k} {n = r.key} (λ y. same_false r.key k s (sym y))) ∙ i)
    (λ u. ap (λ (b : Bool). has k (pick b (r.key ∷ put_keys rs) (put_keys rs))) u ∙ i)
    (cases (is_put r.item)))
    (cases (same r.key k))

put_count : (p : ℕ → Bool) (rs : List (Row Write)) → length (filter (λ (r : Row Write). both (is_put r.item) (p r.key)) rs) ≡ length (filter p (put_keys rs))
unfolding put_keys filter
put_count p [] = refl
put_count p (r ∷ rs) =
    let i : length (filter (λ (r : Row Write). both (is_put r.item) (p r.key)) rs) ≡ length (filter p (put_keys rs)) = put_count p rs in
    ⊎_elim
    (λ t. length_filter (λ (r : Row Write). both (is_put r.item) (p r.key)) r rs
    ∙ ap (λ (b : Bool). pick (both b (p r.key)) 1 0 + length (filter (λ (r : Row Write). both (is_put r.item) (p r.key)) rs)) t
    ∙ ap (λ (n : ℕ). pick (p r.key) 1 0 + n) i
    ∙ sym (ap (λ (b : Bool). length (filter p (pick b (r.key ∷ put_keys rs) (put_keys rs)))) t ∙ length_filter p r.key (put_keys rs)))
    (λ t. length_filter (λ (r : Row Write). both (is_put r.item) (p r.key)) r rs
    ∙ ap (λ (b : Bool). pick (both b (p r.key)) 1 0 + length (filter (λ (r : Row Write). both (is_put r.item) (p r.key)) rs)) t
    ∙ (let z : 0 + length (filter (λ (r : Row Write). both (is_put r.item) (p r.key)) rs) ≡ length (filter p (put_keys rs)) = omega arith in z)
    ∙ sym (ap (λ (b : Bool). length (filter p (pick b (r.key ∷ put_keys rs) (put_keys rs)))) t))
    (cases (is_put r.item))

-- ---- places and versions

-- the version at a place is live
place_live : (ls : List Leaf) (q v : ℕ) → q < length ls → (get_or ls q first_leaf).version ≡ v → live ls v ≡ true
place_live [] q v h e = absurd (not-suc-le-zero h)
place_live (l ∷ ls) zero v h e = live_head l ls v e
place_live (l ∷ ls) (suc q) v h e = live_later l ls v (place_live ls q v (omega arith) e)

-- no two places have the same version
apart_places : (ls : List Leaf) (p q : ℕ) → Apart ls → p < length ls → q < length ls
    → (get_or ls p first_leaf).version ≡ (get_or ls q first_leaf).version → p ≡ q
unfolding Apart
apart_places [] p q f h g e = absurd (not-suc-le-zero h)
apart_places (l ∷ ls) zero zero f h g e = refl
apart_places (l ∷ ls) zero (suc q) f h g e = clash (place_live ls q l.version (omega arith) (sym e)) f.0
apart_places (l ∷ ls) (suc p) zero f h g e = clash (place_live ls p l.version (omega arith) e) f.0
apart_places (l ∷ ls) (suc p) (suc q) f h g e = ap suc (apart_places ls p q f.1 (omega arith) (omega arith) e)

-- ---- the test

-- the version and the number of a leaf that was read
pub version_of_lem : (ls : LeafRows) (i : ℕ) {l : LeafWords} → l ≡ leaf_at ls i → l.version ≡ get_or (versions_of ls) i 0
version_of_lem ls i e = ap (λ (x : LeafWords). x.version) e ∙ sym (column_get_or 1 ls i)

pub hidden_of_lem : (ls : LeafRows) (i : ℕ) {l : LeafWords} → l ≡ leaf_at ls i → l.hidden ≡ get_or (hidden_of ls) i 0
hidden_of_lem ls i e = ap (λ (x : LeafWords). x.hidden) e ∙ sym (column_get_or 2 ls i)

module _ (l : Lent) (z : Sizes) (b : Holding l z) where
  abbrev rows : RecordRows
  rows = l.rows

  abbrev lows : List ℕ
  lows = l.lows

  abbrev versions : List ℕ
  versions = l.versions

  abbrev hidden : List ℕ
  hidden = l.hidden

  abbrev slots : SlotRows
  slots = l.slots

  tables : Tables l z b.version
  tables = b.held.tables

  abbrev leaves : List Leaf
  leaves = leaves_of lows versions z.leaves

  leaves_here : length leaves ≡ z.leaves
  leaves_here = length_leaves lows versions z.leaves tables.lows.room tables.lows_size tables.versions_size

  version_here : (a i : ℕ) → LeafAt lows z.leaves a i → get_or versions i 0 ≡ version_at leaves a
  unfolding version_at
  version_here a i at =
      ap (λ (l : Leaf). l.version)
      (sym (leaf_read lows versions z.leaves tables.lows.room tables.lows_size tables.versions_size i at.inside)
      ∙ at.leaf_is versions tables.versions_size)

  -- the place of the leaf of an address
  placed : (a : ℕ) → AtLeaf lows z.leaves a (low_place a (take z.leaves lows))
  placed a =
      let l : length (take z.leaves lows) ≡ z.leaves = length-take-le z.leaves lows (rw tables.lows_size tables.lows.room) in
      let p : low_place a (take z.leaves lows) < length (take z.leaves lows) = place_inside a (take z.leaves lows) (rw l tables.lows.some) in
      record { is = refl; inside = omega arith }

  own_leaf : (a : ℕ) → (get_or leaves (low_place a (take z.leaves lows)) first_leaf).version ≡ version_at leaves a
  unfolding version_at
  own_leaf a =
      ap (λ (l : Leaf). l.version)
      (leaf_found lows versions z.leaves tables.lows.room tables.lows_size tables.versions_size a (low_place a (take z.leaves lows)) (placed a))

  -- to stand at a place is to have its version
  same_place : (a i v : ℕ) → i < z.leaves → (get_or leaves i first_leaf).version ≡ v → same (low_place a (take z.leaves lows)) i ≡ same (version_at leaves a) v
  same_place a i v h e =
      ⊎_elim
      (λ t. t ∙ sym (same_yes {m = version_at leaves a} {n = v}
      (sym (own_leaf a) ∙ ap (λ (j : ℕ). (get_or leaves j first_leaf).version) (same_true (low_place a (take z.leaves lows)) i t) ∙ e)))
      (λ t. t ∙ sym (same_no {m = version_at leaves a} {n = v}
      (λ q. same_false (low_place a (take z.leaves lows)) i t
      (apart_places leaves (low_place a (take z.leaves lows)) i tables.leaves.apart
      (rw leaves_here (placed a).inside) (rw leaves_here h) (own_leaf a ∙ q ∙ sym e)))))
      (cases (same (low_place a (take z.leaves lows)) i))

  swap : (x p q : Bool) → both x (both p q) ≡ both x (both q p)
  swap true true true = refl
  swap true true false = refl
  swap true false true = refl
  swap true false false = refl
  swap false p q = refl

  lock_only_same : (i v a : ℕ) → i < z.leaves → (get_or leaves i first_leaf).version ≡ v
      → lock_only_in rows lows slots z.records z.leaves i a ≡ lock_only_at (map_of l z) v a
  unfolding lock_only_in lock_only_at
  lock_only_same i v a h e =
      ap (λ (x : Bool). both x (both (not (put_pending (content_of (slots_of slots) a))) (not (present (look (records_of rows z.records) a))))) (same_place a i v h e)
      ∙ swap (same (version_at leaves a) v) (not (put_pending (content_of (slots_of slots) a))) (not (present (look (records_of rows z.records) a)))

  -- the leaf that was logged is gone
  pub phantom_gone : (w v low i : ℕ) → LeafAt lows z.leaves low i → Logged leaves v low → (get_or versions i 0 ≡ v → ⊥)
      → true ≡ phantom_in (map_of l z) w v
  unfolding phantom_in
  phantom_gone w v low i at g d =
      ⊎_elim
      (λ t. absurd (d (version_here low i at ∙ g.stays t)))
      (λ t. sym (ap (λ (x : Bool). either (not x) (hides (map_of l z) w v)) t))
      (cases (live leaves v))

  -- it is there
  stays : (w v low i : ℕ) → LeafAt lows z.leaves low i → get_or versions i 0 ≡ v
      → phantom_in (map_of l z) w v ≡ hides (map_of l z) w v
  unfolding phantom_in
  stays w v low i at e =
      ap (λ (x : Bool). either (not x) (hides (map_of l z) w v))
      (ap (live leaves) (sym (sym (version_here low i at) ∙ e)) ∙ version_live tables.leaves low)

  version_there : (low i v : ℕ) → LeafAt lows z.leaves low i → get_or versions i 0 ≡ v → (get_or leaves i first_leaf).version ≡ v
  version_there low i v at e =
      ap (λ (l : Leaf). l.version) (leaf_read lows versions z.leaves tables.lows.room tables.lows_size tables.versions_size i at.inside) ∙ e

  hidden_there : (low i v : ℕ) → LeafAt lows z.leaves low i → get_or versions i 0 ≡ v
      → get_or hidden i 0 ≡ how_many (hiding_in (map_of l z) v) (slots_of slots)
  hidden_there low i v at e =
      tables.phantoms.hidden_is i (rw leaves_here at.inside)
      ∙ ap (λ (x : ℕ). how_many (hiding_in (map_of l z) x) (slots_of slots)) (version_there low i v at e)

  module _ (ws : WriteRows) (n w : ℕ) (own : Owns slots ws n w) where
    locking : Locking (slots_of slots) w (put_keys (writes_of ws n))
    locking =
        record {
          once = put_different (writes_of ws n) once;
          mine = λ k h. let f = put_found (writes_of ws n) k once h in (own.mine k (put_within (writes_of ws n) k h), own.kinds k f.0 f.1 ∙ f.2);
          only = λ k h t. held k t (look (writes_of ws n) k) refl (sym (has_keys (writes_of ws n) k) ∙ own.only k h);
        }
      where
        once : Different (keys (writes_of ws n))
        once = rising_different (writes_of ws n) own.rising

        held : (k : ℕ) → (content_of (slots_of slots) k).for_put ≡ true → (o : Option Write) → look (writes_of ws n) k ≡ o → present (look (writes_of ws n) k) ≡ true
            → has k (put_keys (writes_of ws n)) ≡ true
        held k t none q h = clash h (ap present q)
        held k t (some e) q h = found_put (writes_of ws n) k e q (sym (own.kinds k e q) ∙ t)

    pub phantom_none : (v low i : ℕ) → LeafAt lows z.leaves low i → get_or versions i 0 ≡ v → get_or hidden i 0 ≡ 0
        → false ≡ phantom_in (map_of l z) w v
    phantom_none v low i at e o =
        sym
        (stays w v low i at e
        ∙ hides_none (map_of l z) w v (put_keys (writes_of ws n)) tables.words.good locking (sym o ∙ hidden_there low i v at e))

    pub phantom_count : (v low i mine out : ℕ) → out ≡ get_or hidden i 0 → LeafAt lows z.leaves low i → get_or versions i 0 ≡ v
        → mine ≡ lock_only_count rows lows slots z.records z.leaves i ws n
        → ltb mine out ≡ phantom_in (map_of l z) w v
    unfolding lock_only_count own_put less
    phantom_count v low i mine out o at e c =
        ap (ltb mine) o
        ∙ sym
        (stays w v low i at e
        ∙ hides_count (map_of l z) w v (put_keys (writes_of ws n)) tables.words.good locking (get_or hidden i 0) mine (hidden_there low i v at e)
        (c ∙ put_count (lock_only_in rows lows slots z.records z.leaves i) (writes_of ws n)
        ∙ ap (λ (ks : List ℕ). length ks) (filter_same (lock_only_in rows lows slots z.records z.leaves i) (lock_only_at (map_of l z) v) (put_keys (writes_of ws n)) (λ a. lock_only_same i v a at.inside (version_there low i v at e)))))
