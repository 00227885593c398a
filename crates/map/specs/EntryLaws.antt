-- The laws behind `set_content`: a count over the entries changes by the address's own terms, at the leaf of the address and
-- nowhere else.
use Rattle.std.specs.Prelude.{ℕ, zero, suc, ◌+◌, ◌-◌, ◌^◌, ◌<◌, ◌≤◌, ◌≡◌, Bool, true, not, set, take, get_or}
use Rattle.std.proofs.Common.{zero-le, le_refl, le_trans, le_of_eq, not-suc-le-zero, le_of_suc-le-suc, ◌∙◌, ⊎_elim, length-take-le}
use native.Mathlib.Omega.{arith}
use Rattle.std.proofs.Math.Path.{refl, sym, ap, subst}
use Rattle.std.proofs.Math.Bool.{false, beq}
use mathlib.Core.List.{List, [], ◌∷◌, map}
use Rattle.std.proofs.Math.Option.{Option, none, some}
use Rattle.std.proofs.Math.ListN.{length, length-set}
use Rattle.std.proofs.Math.Seq.{get_or-set_same, get_or-set_other}
use Rattle.lists.specs.Tests.{pick, both, either, maybe, present, same}
use Rattle.lists.specs.TestLaws.{cases, clash, same_true, same_false, same_yes, same_no}
use Rattle.lists.specs.Rows.{Row, row, look}
use Rattle.lists.specs.Sums.{total_most}
use Rattle.spec.specs.Widths.{address_size}
use Rattle.spec.specs.Records.{is_put}
use Rattle.spec.specs.Leaves.{Leaf, first_leaf, version_at, live}
use Rattle.spec.specs.Slots.{slot_count, Pending, Content, is_idle, Slot, entries, content_of, enter, kept}
use Rattle.spec.specs.Maps.{MapState, put_pending, with_slots}
use Rattle.laws.specs.SlotCounts.{Good, tally}
use Rattle.laws.specs.SlotLaws.{EntryRoom}
use Rattle.laws.specs.LeafParts.{Apart, live_head, live_later}
use Rattle.laws.specs.RecordLaws.{both_left, both_right}
use Rattle.laws.specs.MapLaws.{idle_holder, idle_pending}
use Rattle.indexlet.specs.declared.Content.{Content as ContentWords}
use Rattle.indexlet.specs.Words.{content_in, slots_of}
use Rattle.indexlet.specs.Promises as indexlet
use Rattle.index.specs.Views.{leaves_of}
use Rattle.index.specs.LeafPlaces.{AtLeaf, low_place}
use Rattle.index.specs.LeafViews.{paired_length, paired_lows, parted, parted_leaf}
use Rattle.map.specs.declared.Sizes.{Sizes}
use Rattle.map.specs.declared.entries.Change.{Change}
use Rattle.index.specs.LeafColumns.{lows_of, versions_of, hidden_of, pending_of, leaf_at}
use Rattle.index.specs.LeafColumnLaws.{column_get_or}
use Rattle.phantomlet.specs.LeafWrites.{Renumbered, numbered, numbered_same, numbered_hidden, numbered_pending}
use Rattle.map.specs.Views.{RecordRows, LeafRows, SlotRows, Lent, by_columns, map_of}
use Rattle.phantomlet.specs.Phantoms.{weigh, how_many, outside_any, hides_some, hiding_in, pending_in, version_of, Phantomlet, many_change, weigh_kept}
use Rattle.phantomlet.specs.MergeCounts.{counts_silent, counts_lacking, counts_indexed}
use Rattle.map.specs.MapHeld.{per_leaf, Tables}
use Rattle.map.specs.Entries.{Adjusts, ContentSet, Adjustable, adjusted, pending_term, hidden_term, outside_term, still_as, Terms}

-- ---- counts

weigh_most : (p : Row Content → Bool) (o : Option (Row Content)) → weigh p o ≤ 1
unfolding weigh
weigh_most p none = zero-le
weigh_most p (some e) = ⊎_elim (λ q. rw q (le_refl 1)) (λ q. rw q zero-le) (cases (p e))

-- a count is at most the number of slots
pub many_most : {bytes : ℕ} {ss : List Slot} → Good bytes ss → (p : Row Content → Bool) → how_many p ss ≤ slot_count
unfolding how_many tally
many_most {ss = ss} good p =
    le_trans (total_most (λ (i : ℕ) (s : Slot). weigh p s.entry) ss (λ i s. weigh_most p s.entry)) (let e : length ss ≡ slot_count = good.size in omega arith)

-- content that fails the test adds nothing
weigh_none : (p : Row Content → Bool) (a : ℕ) (x : Content) → p (row a x) ≡ false → weigh p (kept a x) ≡ 0
weigh_none p a x e =
    weigh_kept p a x ∙ ap (λ (b : Bool). pick (is_idle x) 0 (pick b 1 0)) e ∙ ⊎_elim (λ t. rw t) (λ t. rw t) (cases (is_idle x))

-- ---- places of leaves

live_at : (ls : List Leaf) (j : ℕ) → j < length ls → live ls (get_or ls j first_leaf).version ≡ true
live_at [] j h = absurd (not-suc-le-zero h)
live_at (l ∷ ls) zero h = live_head l ls l.version refl
live_at (l ∷ ls) (suc j) h = live_later l ls (get_or ls j first_leaf).version (live_at ls j (le_of_suc-le-suc h))

-- two places have two versions
places_apart : (ls : List Leaf) (i j : ℕ) → Apart ls → i < length ls → j < length ls
    → (get_or ls i first_leaf).version ≡ (get_or ls j first_leaf).version → i ≡ j
unfolding Apart
places_apart [] i j f h g e = absurd (not-suc-le-zero h)
places_apart (l ∷ ls) zero zero f h g e = refl
places_apart (l ∷ ls) zero (suc j) f h g e = clash (ap (live ls) e ∙ live_at ls j (le_of_suc-le-suc g)) f.0
places_apart (l ∷ ls) (suc i) zero f h g e = clash (ap (live ls) (sym e) ∙ live_at ls i (le_of_suc-le-suc h)) f.0
places_apart (l ∷ ls) (suc i) (suc j) f h g e = ap suc (places_apart ls i j f.1 (le_of_suc-le-suc h) (le_of_suc-le-suc g) e)

module _ (l : Lent) (z : Sizes) (v : ℕ) (t : Tables l z v) where
  lows_few : length (take z.leaves l.lows) ≡ z.leaves
  lows_few = length-take-le z.leaves l.lows (let e = t.lows_size in let r = t.lows.room in omega arith)

  versions_few : length (take z.leaves l.versions) ≡ z.leaves
  versions_few = length-take-le z.leaves l.versions (let e = t.versions_size in let r = t.lows.room in omega arith)

  -- there are as many leaves as the sizes say
  leaf_number : length (map_of l z).leaves ≡ z.leaves
  unfolding leaves_of
  leaf_number = paired_length (take z.leaves l.lows) (take z.leaves l.versions) (lows_few ∙ sym versions_few) ∙ lows_few

  leaf_lows_lem : map (λ (x : Leaf). x.low) (map_of l z).leaves ≡ take z.leaves l.lows
  unfolding leaves_of
  leaf_lows_lem = paired_lows (take z.leaves l.lows) (take z.leaves l.versions) (lows_few ∙ sym versions_few)

  -- the leaf at the place that a search finds has the version of the address
  place_version : (a i : ℕ) → AtLeaf l.lows z.leaves a i → version_of (map_of l z) i ≡ version_at (map_of l z).leaves a
  unfolding version_at
  place_version a i at =
      ap (λ (x : Leaf). x.version)
      (parted_leaf a (map_of l z).leaves i
      (parted a (map_of l z).leaves i (let e = leaf_number in let s = t.lows.some in omega arith) (at.is ∙ ap (low_place a) (sym leaf_lows_lem))))

  -- and no other leaf has it
  other_version : (a i j : ℕ) → AtLeaf l.lows z.leaves a i → j < length (map_of l z).leaves → (j ≡ i → ⊥)
      → same (version_at (map_of l z).leaves a) (version_of (map_of l z) j) ≡ false
  other_version a i j at h n =
      same_no {m = version_at (map_of l z).leaves a} {n = version_of (map_of l z) j}
      (λ e. n (sym (places_apart (map_of l z).leaves i j t.leaves.apart (let q = leaf_number in let s = at.inside in omega arith) h (place_version a i at ∙ e))))

-- ---- the terms of an address

pending_idle : (x : Content) → pick (is_idle x) 0 (pick (present x.pending) 1 0) ≡ pending_term x
pending_idle x =
    ⊎_elim
    (λ e. ap (λ (b : Bool). pick b 0 (pick (present x.pending) 1 0)) e ∙ sym (ap (λ (o : Option Pending). pick (present o) 1 0) (idle_pending x e)))
    (λ e. ap (λ (b : Bool). pick b 0 (pick (present x.pending) 1 0)) e)
    (cases (is_idle x))

-- what says nothing hides nothing
idle_silent : (x : Content) → is_idle x ≡ true → hides_some x ≡ false
unfolding hides_some put_pending
idle_silent x e =
    ap (λ (o : Option Pending). either (maybe o false (λ (p : Pending). is_put p.write)) (both x.for_put (present x.holder))) (idle_pending x e)
    ∙ ap (λ (o : Option ℕ). both x.for_put (present o)) (idle_holder x e) ∙ nothing x.for_put
  where
    nothing : (b : Bool) → both b false ≡ false
    nothing true = refl
    nothing false = refl

hidden_idle : (b : Bool) (x : Content) → pick (is_idle x) 0 (hidden_term b x) ≡ hidden_term b x
unfolding hidden_term
hidden_idle b x =
    ⊎_elim
    (λ e. ap (λ (i : Bool). pick i 0 (hidden_term b x)) e ∙ sym (ap (λ (h : Bool). pick (both b h) 1 0) (idle_silent x e) ∙ nothing b))
    (λ e. ap (λ (i : Bool). pick i 0 (hidden_term b x)) e)
    (cases (is_idle x))
  where
    nothing : (k : Bool) → ◌≡◌ {A = ℕ} (pick (both k false) 1 0) 0
    nothing true = refl
    nothing false = refl

module _ (m : MapState) (a u : ℕ) (x : Content) where
  pending_own : same (version_at m.leaves a) u ≡ true → weigh (pending_in m u) (kept a x) ≡ pending_term x
  unfolding pending_in
  pending_own e =
      weigh_kept (pending_in m u) a x
      ∙ ap (λ (b : Bool). pick (is_idle x) 0 (pick (both b (present x.pending)) 1 0)) e
      ∙ pending_idle x

  pending_other : same (version_at m.leaves a) u ≡ false → weigh (pending_in m u) (kept a x) ≡ 0
  unfolding pending_in
  pending_other e = weigh_none (pending_in m u) a x (ap (λ (b : Bool). both b (present x.pending)) e)

  hidden_own : same (version_at m.leaves a) u ≡ true → weigh (hiding_in m u) (kept a x) ≡ hidden_term (not (present (look m.records a))) x
  unfolding hiding_in outside_any hidden_term
  hidden_own e =
      weigh_kept (hiding_in m u) a x
      ∙ ap (λ (b : Bool). pick (is_idle x) 0 (pick (both b (both (not (present (look m.records a))) (hides_some x))) 1 0)) e
      ∙ hidden_idle (not (present (look m.records a))) x

  hidden_other : same (version_at m.leaves a) u ≡ false → weigh (hiding_in m u) (kept a x) ≡ 0
  unfolding hiding_in outside_any
  hidden_other e = weigh_none (hiding_in m u) a x (ap (λ (b : Bool). both b (both (not (present (look m.records a))) (hides_some x))) e)

outside_any_lem : (m : MapState) (a : ℕ) (x : Content) → weigh (outside_any m) (kept a x) ≡ outside_term (not (present (look m.records a))) x
unfolding outside_any outside_term
outside_any_lem m a x = weigh_kept (outside_any m) a x

same_truth : (a b : Bool) → beq a b ≡ true → a ≡ b
same_truth true true e = refl
same_truth true false e = sym e
same_truth false true e = e
same_truth false false e = refl

still_parts : (old c : Content) → still_as old c ≡ true → (is_idle old ≡ is_idle c) × (hides_some old ≡ hides_some c)
unfolding still_as
still_parts old c e = (
  same_truth (is_idle old) (is_idle c) (both_left (beq (is_idle old) (is_idle c)) (beq (hides_some old) (hides_some c)) e),
  same_truth (hides_some old) (hides_some c) (both_right (beq (is_idle old) (is_idle c)) (beq (hides_some old) (hides_some c)) e),
)

-- what hides as before, and what does not
pub hide_still : (b : Bool) (old c : Content) → still_as old c ≡ true → 0 + hidden_term b old ≡ 0 + hidden_term b c
unfolding hidden_term
hide_still b old c e = ap (λ (h : Bool). 0 + pick (both b h) 1 0) (still_parts old c e).1

pub hide_moved : (b : Bool) (old c : Content) (hide unhide : ℕ) → hide ≡ hidden_term b c → unhide ≡ hidden_term b old → hide + hidden_term b old ≡ unhide + hidden_term b c
hide_moved b old c hide unhide e f = omega arith

pub hide_most : (b : Bool) (c : Content) (hide : ℕ) → hide ≡ hidden_term b c → hide ≤ 1
unfolding hidden_term
hide_most b c hide e = le_trans (le_of_eq e) (⊎_elim (λ i. rw i (omega arith)) (λ i. rw i (omega arith)) (cases (both b (hides_some c))))

-- an entry that neither comes nor goes, and one that does
pub balance_still : (b : Bool) (old c : Content) → still_as old c ≡ true → 0 + outside_term b old ≡ 0 + outside_term b c
balance_still b old c e = ap (λ (n : ℕ). 0 + n) (unfold outside_term in ap (λ (i : Bool). pick i 0 (pick b 1 0)) (still_parts old c e).0)

pub balance_moved : (b : Bool) (old c : Content) (join leave : ℕ) → join ≡ outside_term b c → leave ≡ outside_term b old → join + outside_term b old ≡ leave + outside_term b c
balance_moved b old c join leave e f = omega arith

pub term_most : (b : Bool) (c : Content) (join : ℕ) → join ≡ outside_term b c → join ≤ 1
unfolding outside_term
term_most b c join e =
    le_trans (le_of_eq e)
    (⊎_elim (λ i. rw i (omega arith)) (λ i. rw i (⊎_elim (λ l. rw l (omega arith)) (λ l. rw l (omega arith)) (cases b))) (cases (is_idle c)))

-- ---- an array of counts

module _ (xs : List ℕ) (i up down : ℕ) where
  adjusted_size : length (adjusted xs i up down) ≡ length xs
  unfolding adjusted
  adjusted_size = length-set xs i (get_or xs i 0 + up - down)

  adjusted_own : i < length xs → get_or (adjusted xs i up down) i 0 ≡ get_or xs i 0 + up - down
  unfolding adjusted
  adjusted_own h = get_or-set_same xs i (get_or xs i 0 + up - down) 0 h

  adjusted_other : (j : ℕ) → (j ≡ i → ⊥) → get_or (adjusted xs i up down) j 0 ≡ get_or xs j 0
  unfolding adjusted
  adjusted_other j n = get_or-set_other xs i j (get_or xs i 0 + up - down) 0 n

  -- counts that stay but for that at place i
  adjusted_counts : (n : ℕ) (f g : ℕ → ℕ) → i < length xs → i < n → ((j : ℕ) → j < n → get_or xs j 0 ≡ f j)
      → g i + down ≡ f i + up → ((j : ℕ) → j < n → (j ≡ i → ⊥) → g j ≡ f j)
      → (j : ℕ) → j < n → get_or (adjusted xs i up down) j 0 ≡ g j
  adjusted_counts n f g h b were own others j q =
      ⊎_elim
      (λ e. let s : j ≡ i = same_true j i e in
      subst (λ (p : ℕ). get_or (adjusted xs i up down) p 0 ≡ g p) (sym s)
      (let a : get_or (adjusted xs i up down) i 0 ≡ get_or xs i 0 + up - down = adjusted_own h in
      let w : get_or xs i 0 ≡ f i = were i b in
      omega arith))
      (λ e. adjusted_other j (same_false j i e) ∙ were j q ∙ sym (others j q (same_false j i e)))
      (cases (same j i))

-- ---- one address

-- the sizes after a change: the index stays
abbrev pub sizes_with : Sizes → ℕ → ℕ → Sizes
sizes_with z entries outside = record { records = z.records; leaves = z.leaves; entries = entries; outside = outside }

-- what was said before, under its other name
pub terms_of : {rows : RecordRows} {lows : List ℕ} {z : Sizes} {a : ℕ} {c : Content} {r : Change} {old was : Content} → was ≡ old → Terms old rows lows z a c r
    → Terms was rows lows z a c r
terms_of {rows} {lows} {z} {a} {c} {r} e t = subst (λ (x : Content). Terms x rows lows z a c r) (sym e) t

module _ (l : Lent) (z : Sizes) (v : ℕ) (t : Tables l z v) (a : ℕ) (c : Content) (room : EntryRoom (slots_of l.slots) a c) (r : Change) (q : Terms (content_of (slots_of l.slots) a) l.rows l.lows z a c r) where
  own : same (version_at (map_of l z).leaves a) (version_of (map_of l z) r.at) ≡ true
  own = same_yes {m = version_at (map_of l z).leaves a} {n = version_of (map_of l z) r.at} (sym (place_version l z v t a r.at q.place))

  inside : r.at < length (map_of l z).leaves
  inside = let e = leaf_number l z v t in let h = q.place.inside in omega arith

  inside_words : r.at < per_leaf
  inside_words = let h = q.place.inside in let e = t.lows.room in omega arith

  after : List Slot
  after = enter address_size (slots_of l.slots) a c

  -- what comes and goes by the change has the balance of what the address adds to the count and took
  Balanced : (Row Content → Bool) → ℕ → ℕ → Type 0
  Balanced p up down = up + weigh p (kept a (content_of (slots_of l.slots) a)) ≡ down + weigh p (kept a c)

  moves : (p : Row Content → Bool) (up down : ℕ) → Balanced p up down → how_many p after + down ≡ how_many p (slots_of l.slots) + up
  unfolding after Balanced
  moves p up down b =
      let m : how_many p (enter address_size (slots_of l.slots) a c) + weigh p (kept a (content_of (slots_of l.slots) a)) ≡ how_many p (slots_of l.slots) + weigh p (kept a c)
      = many_change t.words.good room p in
      omega arith

  -- what comes is at most one, and the count, with it, is no less than what goes
  movable : (p : Row Content → Bool) (x up down : ℕ) → x ≡ how_many p (slots_of l.slots) → up ≤ 1 → Balanced p up down → (x + up < 2 ^ 64) × (down ≤ x + up)
  movable p x up down s u d =
      let m : how_many p after + down ≡ how_many p (slots_of l.slots) + up = moves p up down d in
      let b : how_many p (slots_of l.slots) ≤ slot_count = many_most t.words.good p in
      omega arith

  -- a count to which the address adds nothing
  still : (p : Row Content → Bool) → ((x : Content) → weigh p (kept a x) ≡ 0) → Balanced p 0 0
  unfolding Balanced
  still p e =
      let d : weigh p (kept a (content_of (slots_of l.slots) a)) ≡ 0 = e (content_of (slots_of l.slots) a) in
      let u : weigh p (kept a c) ≡ 0 = e c in
      omega arith

  pending_here : Row Content → Bool
  pending_here = pending_in (map_of l z) (version_of (map_of l z) r.at)

  hidden_here : Row Content → Bool
  hidden_here = hiding_in (map_of l z) (version_of (map_of l z) r.at)

  pend_balance : Balanced pending_here r.pend r.unpend
  unfolding pending_here Balanced
  pend_balance =
      let u : weigh (pending_in (map_of l z) (version_of (map_of l z) r.at)) (kept a c) ≡ r.pend = pending_own (map_of l z) a (version_of (map_of l z) r.at) c own ∙ sym q.pend in
      let d : weigh (pending_in (map_of l z) (version_of (map_of l z) r.at)) (kept a (content_of (slots_of l.slots) a)) ≡ r.unpend
      = pending_own (map_of l z) a (version_of (map_of l z) r.at) (content_of (slots_of l.slots) a) own ∙ sym q.unpend in
      omega arith

  pend_most : r.pend ≤ 1
  unfolding pending_here
  pend_most =
      let u : weigh pending_here (kept a c) ≡ r.pend = pending_own (map_of l z) a (version_of (map_of l z) r.at) c own ∙ sym q.pend in
      let w : weigh pending_here (kept a c) ≤ 1 = weigh_most pending_here (kept a c) in
      omega arith

  any_balance : Balanced (outside_any (map_of l z)) r.join r.leave
  unfolding Balanced
  any_balance =
      let u : weigh (outside_any (map_of l z)) (kept a c) ≡ outside_term (not (present (look (map_of l z).records a))) c = outside_any_lem (map_of l z) a c in
      let d : weigh (outside_any (map_of l z)) (kept a (content_of (slots_of l.slots) a)) ≡ outside_term (not (present (look (map_of l z).records a))) (content_of (slots_of l.slots) a)
      = outside_any_lem (map_of l z) a (content_of (slots_of l.slots) a) in
      let b : r.join + outside_term (not (present (look (map_of l z).records a))) (content_of (slots_of l.slots) a) ≡ r.leave + outside_term (not (present (look (map_of l z).records a))) c = q.balance in
      omega arith

  here_balance : Balanced hidden_here r.hide r.unhide
  unfolding hidden_here Balanced
  here_balance =
      let u : weigh (hiding_in (map_of l z) (version_of (map_of l z) r.at)) (kept a c) ≡ hidden_term (not (present (look (map_of l z).records a))) c
      = hidden_own (map_of l z) a (version_of (map_of l z) r.at) c own in
      let d : weigh (hiding_in (map_of l z) (version_of (map_of l z) r.at)) (kept a (content_of (slots_of l.slots) a)) ≡ hidden_term (not (present (look (map_of l z).records a))) (content_of (slots_of l.slots) a)
      = hidden_own (map_of l z) a (version_of (map_of l z) r.at) (content_of (slots_of l.slots) a) own in
      let b : r.hide + hidden_term (not (present (look (map_of l z).records a))) (content_of (slots_of l.slots) a) ≡ r.unhide + hidden_term (not (present (look (map_of l z).records a))) c = q.hide_balance in
      omega arith

  pub pending_adjusts : Adjustable l.pending r.at r.pend r.unpend
  unfolding pending_here
  pending_adjusts =
      let m = movable pending_here (get_or l.pending r.at 0) r.pend r.unpend (t.phantoms.pending_is r.at inside) pend_most pend_balance in
      record { inside = inside_words; size = t.pending_size; fits = m.0; enough = m.1 }

  pub hidden_adjusts : Adjustable l.hidden r.at r.hide r.unhide
  unfolding hidden_here
  hidden_adjusts =
      let m = movable hidden_here (get_or l.hidden r.at 0) r.hide r.unhide (t.phantoms.hidden_is r.at inside) q.hide_most here_balance in
      record { inside = inside_words; size = t.hidden_size; fits = m.0; enough = m.1 }

  pub outside_moves : (z.outside + r.join < 2 ^ 64) × (r.leave ≤ z.outside + r.join)
  outside_moves = movable (outside_any (map_of l z)) z.outside r.join r.leave t.outside_are q.join_most any_balance

  outside_now : z.outside + r.join - r.leave ≡ how_many (outside_any (map_of l z)) after
  outside_now =
      let m : how_many (outside_any (map_of l z)) after + r.leave ≡ how_many (outside_any (map_of l z)) (slots_of l.slots) + r.join
      = moves (outside_any (map_of l z)) r.join r.leave any_balance in
      let e = t.outside_are in
      omega arith

  pending_now : (j : ℕ) → j < length (map_of l z).leaves
      → get_or (adjusted l.pending r.at r.pend r.unpend) j 0 ≡ how_many (pending_in (map_of l z) (version_of (map_of l z) j)) after
  unfolding pending_here
  pending_now =
      adjusted_counts l.pending r.at r.pend r.unpend (length (map_of l z).leaves)
      (λ (j : ℕ). how_many (pending_in (map_of l z) (version_of (map_of l z) j)) (slots_of l.slots))
      (λ (j : ℕ). how_many (pending_in (map_of l z) (version_of (map_of l z) j)) after)
      (let e = t.pending_size in let h = inside_words in omega arith) inside t.phantoms.pending_is
      (moves pending_here r.pend r.unpend pend_balance)
      (λ j h n.
      let o : same (version_at (map_of l z).leaves a) (version_of (map_of l z) j) ≡ false = other_version l z v t a r.at j q.place h n in
      let e : how_many (pending_in (map_of l z) (version_of (map_of l z) j)) after + 0 ≡ how_many (pending_in (map_of l z) (version_of (map_of l z) j)) (slots_of l.slots) + 0
      = moves (pending_in (map_of l z) (version_of (map_of l z) j)) 0 0 (still (pending_in (map_of l z) (version_of (map_of l z) j)) (λ x. pending_other (map_of l z) a (version_of (map_of l z) j) x o)) in
      omega arith)

  hidden_now : (j : ℕ) → j < length (map_of l z).leaves
      → get_or (adjusted l.hidden r.at r.hide r.unhide) j 0 ≡ how_many (hiding_in (map_of l z) (version_of (map_of l z) j)) after
  unfolding hidden_here
  hidden_now =
      adjusted_counts l.hidden r.at r.hide r.unhide (length (map_of l z).leaves)
      (λ (j : ℕ). how_many (hiding_in (map_of l z) (version_of (map_of l z) j)) (slots_of l.slots))
      (λ (j : ℕ). how_many (hiding_in (map_of l z) (version_of (map_of l z) j)) after)
      (let e = t.hidden_size in let h = inside_words in omega arith) inside t.phantoms.hidden_is
      (moves hidden_here r.hide r.unhide here_balance)
      (λ j h n.
      let o : same (version_at (map_of l z).leaves a) (version_of (map_of l z) j) ≡ false = other_version l z v t a r.at j q.place h n in
      let e : how_many (hiding_in (map_of l z) (version_of (map_of l z) j)) after + 0 ≡ how_many (hiding_in (map_of l z) (version_of (map_of l z) j)) (slots_of l.slots) + 0
      = moves (hiding_in (map_of l z) (version_of (map_of l z) j)) 0 0 (still (hiding_in (map_of l z) (version_of (map_of l z) j)) (λ x. hidden_other (map_of l z) a (version_of (map_of l z) j) x o)) in
      omega arith)

  -- the map with these slots
  among : List Slot → MapState
  among ss = record { records = (map_of l z).records; leaves = (map_of l z).leaves; slots = ss }

  phantoms_now : Phantomlet (among after) (adjusted l.hidden r.at r.hide r.unhide) (adjusted l.pending r.at r.pend r.unpend)
  unfolding among hiding_in outside_any pending_in
  phantoms_now = record { hidden_is = hidden_now; pending_is = pending_now }

  any_among : (ss ts : List Slot) → how_many (outside_any (among ss)) ts ≡ how_many (outside_any (map_of l z)) ts
  unfolding among outside_any
  any_among ss ts = refl

  module _ (os ps : List ℕ) (us : SlotRows) (n : ℕ) (ox : os ≡ adjusted l.hidden r.at r.hide r.unhide) (px : ps ≡ adjusted l.pending r.at r.pend r.unpend) (held : indexlet.SlotsHeld us) (view : slots_of us ≡ enter address_size (slots_of l.slots) a c) (number : n ≡ length (entries (slots_of us))) where
    tables_now : Tables (by_columns l.rows l.lows l.versions os ps us) (sizes_with z n (z.outside + r.join - r.leave)) v
    unfolding among
    tables_now =
        record {
          rows = t.rows;
          rows_narrow = t.rows_narrow;
          lows = t.lows;
          lows_narrow = t.lows_narrow;
          lows_size = t.lows_size;
          versions_size = t.versions_size;
          leaves = t.leaves;
          words = held;
          entries_are = number;
          hidden_size = ap length ox ∙ adjusted_size l.hidden r.at r.hide r.unhide ∙ t.hidden_size;
          pending_size = ap length px ∙ adjusted_size l.pending r.at r.pend r.unpend ∙ t.pending_size;
          outside_are =
              outside_now
              ∙ sym (any_among (slots_of us) (slots_of us) ∙ ap (how_many (outside_any (map_of l z))) seen);
          phantoms =
              subst (λ (ss : List Slot). Phantomlet (among ss) os ps) (sym seen)
              (subst (λ (xs : List ℕ). Phantomlet (among after) xs ps) (sym ox)
              (subst (λ (xs : List ℕ). Phantomlet (among after) (adjusted l.hidden r.at r.hide r.unhide) xs) (sym px) phantoms_now));
        }
      where
        seen : slots_of us ≡ after
        seen = unfold after in view

    pub content_set : ContentSet l (by_columns l.rows l.lows l.versions os ps us) z (sizes_with z n (z.outside + r.join - r.leave)) v (enter address_size (slots_of l.slots) a c)
    unfolding with_slots
    content_set =
        record {
          tables = tables_now;
          map = λ i. record { records = (map_of l z).records; leaves = (map_of l z).leaves; slots = view i };
          view = view;
          records = refl;
          leaves = refl;
        }

-- ---- the rows of leaves

-- the same promise, of leaves that have the same lows and versions
pub said_rows : {l : Lent} {rows : RecordRows} {ls ls' : LeafRows} {os ps : List ℕ} {us : SlotRows} {z r : Sizes} {v : ℕ} {ss : List Slot} → Renumbered ls ls'
    → ContentSet l (by_columns rows (lows_of ls) (versions_of ls) os ps us) z r v ss → ContentSet l (by_columns rows (lows_of ls') (versions_of ls') os ps us) z r v ss
said_rows {l} {rows} {ls} {ls'} {os} {ps} {us} {z} {r} {v} {ss} e s =
    subst (λ (x : List ℕ). ContentSet l (by_columns rows x (versions_of ls') os ps us) z r v ss) (sym e.lows)
    (subst (λ (x : List ℕ). ContentSet l (by_columns rows (lows_of ls) x os ps us) z r v ss) (sym e.versions) s)

-- one leaf's numbers written
pub adjusts : (ls : LeafRows) (t : Change) (ls' : LeafRows)
    → ls' ≡ numbered ls t.at ((leaf_at ls t.at).hidden + t.hide - t.unhide) ((leaf_at ls t.at).pending + t.pend - t.unpend) → Adjusts ls t ls'
unfolding adjusted
adjusts ls t ls' e =
    record {
      same = subst (Renumbered ls) (sym e) (numbered_same ls t.at ((leaf_at ls t.at).hidden + t.hide - t.unhide) ((leaf_at ls t.at).pending + t.pend - t.unpend));
      hidden =
          ap hidden_of e ∙ numbered_hidden ls t.at ((leaf_at ls t.at).hidden + t.hide - t.unhide) ((leaf_at ls t.at).pending + t.pend - t.unpend)
          ∙ ap (λ (n : ℕ). set (hidden_of ls) t.at (n + t.hide - t.unhide)) (sym (column_get_or 2 ls t.at));
      pending =
          ap pending_of e ∙ numbered_pending ls t.at ((leaf_at ls t.at).hidden + t.hide - t.unhide) ((leaf_at ls t.at).pending + t.pend - t.unpend)
          ∙ ap (λ (n : ℕ). set (pending_of ls) t.at (n + t.pend - t.unpend)) (sym (column_get_or 3 ls t.at));
    }

-- ---- the code's tests

module _ (b lacks : Bool) (c : ContentWords) (e : b ≡ is_idle (content_in c)) where
  pub term_idle : b ≡ true → 0 ≡ outside_term lacks (content_in c)
  unfolding outside_term
  term_idle t = sym (ap (λ (x : Bool). pick x 0 (pick lacks 1 0)) (sym e ∙ t))

  pub term_outside : b ≡ false → lacks ≡ true → 1 ≡ outside_term lacks (content_in c)
  unfolding outside_term
  term_outside t f = sym (ap (λ (x : Bool). pick x 0 (pick lacks 1 0)) (sym e ∙ t) ∙ ap (λ (x : Bool). pick x 1 0) f)

pub term_indexed : {lacks : Bool} (c : ContentWords) → lacks ≡ false → 0 ≡ outside_term lacks (content_in c)
unfolding outside_term
term_indexed c f = sym (ap (λ (x : Bool). pick (is_idle (content_in c)) 0 (pick x 1 0)) f ∙ none_of (is_idle (content_in c)))
  where
    none_of : (b : Bool) → ◌≡◌ {A = ℕ} (pick b 0 0) 0
    none_of true = refl
    none_of false = refl

module _ (b lacks : Bool) (c : ContentWords) (e : b ≡ hides_some (content_in c)) where
  pub hidden_silent : not b ≡ true → 0 ≡ hidden_term lacks (content_in c)
  unfolding hidden_term
  hidden_silent t = counts_silent b (hides_some (content_in c)) lacks e t

  pub hidden_lacking : not b ≡ false → lacks ≡ true → 1 ≡ hidden_term lacks (content_in c)
  unfolding hidden_term
  hidden_lacking t f = counts_lacking b (hides_some (content_in c)) lacks lacks e t refl f

  pub hidden_indexed : lacks ≡ false → 0 ≡ hidden_term lacks (content_in c)
  unfolding hidden_term
  hidden_indexed f = counts_indexed (hides_some (content_in c)) lacks lacks refl f

-- the code's test of an entry that stays as it is
module _ {i i' : Bool} (old c : Content) (e : i ≡ is_idle old) (e' : i' ≡ is_idle c) where
  pub still_same : {h h' : Bool} → h ≡ hides_some old → h' ≡ hides_some c → beq i i' ≡ true → beq h h' ≡ still_as old c
  unfolding still_as
  still_same f f' t =
      (λ x. beq (f x) (f' x)) ∙ sym (ap (λ (b : Bool). both b (beq (hides_some old) (hides_some c))) ((λ x. beq (sym e x) (sym e' x)) ∙ t))

  pub still_not : beq i i' ≡ false → false ≡ still_as old c
  unfolding still_as
  still_not t = sym (ap (λ (b : Bool). both b (beq (hides_some old) (hides_some c))) ((λ x. beq (sym e x) (sym e' x)) ∙ t))
