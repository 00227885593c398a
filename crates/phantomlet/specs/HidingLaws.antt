-- When a leaf hides a key from a worker, by counting. Of the entries in the leaf that hide an address from somebody, those
-- that hide nothing from worker w are its own locks for puts at which no put is pending: addresses that it puts.
use Rattle.std.specs.Prelude.{◌≡◌, ℕ, suc, ◌+◌, ◌<◌, ◌≤◌, Bool, true, false, not, List, [], ◌∷◌, length}
use Rattle.std.proofs.Common.{zero-le, suc-le-suc, arith, sym, ◌∙◌, subst, ⊎_elim}
use Rattle.std.proofs.Math.Path.{refl, ap}
use mathlib.Core.List.{Memᴰ}
use Rattle.std.proofs.Math.Option.{Option, none, some}
use Rattle.std.proofs.lemmas.Bool.{not-true}
use Rattle.lists.specs.Tests.{pick, both, either, maybe, present, same, less}
use Rattle.lists.specs.TestLaws.{cases, clash, same_true, same_refl, less_true, less_false, less_yes, less_no}
use Rattle.lists.specs.Rows.{Row, row, look, keys, any, filter, has, Different}
use Rattle.lists.specs.RowLaws.{length_keys}
use Rattle.lists.specs.Ascending.{mem_filter, filter_mem, mem_keys, keys_mem}
use Rattle.lists.specs.Memberships.{member_has, has_member, different_length}
use Rattle.lists.specs.Counting.{Within}
use Rattle.lists.specs.Options.{options}
use Rattle.spec.specs.Widths.{address_size}
use Rattle.spec.specs.Leaves.{version_at}
use Rattle.spec.specs.Slots.{Content, is_idle, Slot, entries, content_of}
use Rattle.spec.specs.Maps.{MapState, held_by_other, put_pending, hiding, hidden_in, hides}
use Rattle.laws.specs.SlotCounts.{Good, tally, count, count_cons, entries_some, entries_none}
use Rattle.laws.specs.RecordLaws.{both_left, both_right}
use Rattle.laws.specs.SlotLaws.{keys_differ, member_content, content_member}
use Rattle.phantomlet.specs.Phantoms.{weigh, how_many, outside_any, hides_some, hiding_in}

-- ---- counts over entries

count_sum : (f g h : Option (Row Content) → ℕ) → ((o : Option (Row Content)) → f o ≡ g o + h o) → (ss : List Slot) → count f ss ≡ count g ss + count h ss
count_sum f g h e [] = unfold tally Rattle.lists.specs.Sums.total in refl
count_sum f g h e (s ∷ ss) =
    let a : count f (s ∷ ss) ≡ f s.entry + count f ss = count_cons f s ss in
    let b : count g (s ∷ ss) ≡ g s.entry + count g ss = count_cons g s ss in
    let c : count h (s ∷ ss) ≡ h s.entry + count h ss = count_cons h s ss in
    let d : f s.entry ≡ g s.entry + h s.entry = e s.entry in
    let i : count f ss ≡ count g ss + count h ss = count_sum f g h e ss in
    omega arith

many_nil : (p : Row Content → Bool) → how_many p [] ≡ 0
unfolding how_many tally Rattle.lists.specs.Sums.total
many_nil p = refl

many_none : (p : Row Content → Bool) (s : Slot) (ss : List Slot) → s.entry ≡ none → how_many p (s ∷ ss) ≡ how_many p ss
unfolding how_many weigh
many_none p s ss q =
    count_cons (weigh p) s ss ∙ ap (λ (o : Option (Row Content)). weigh p o + count (weigh p) ss) q
    ∙ (let z : 0 + count (weigh p) ss ≡ count (weigh p) ss = omega arith in z)

many_some : (p : Row Content → Bool) (s : Slot) (ss : List Slot) (e : Row Content) → s.entry ≡ some e → how_many p (s ∷ ss) ≡ pick (p e) 1 0 + how_many p ss
unfolding how_many weigh
many_some p s ss e q = count_cons (weigh p) s ss ∙ ap (λ (o : Option (Row Content)). weigh p o + count (weigh p) ss) q

pub length_filter : {A : Type 0} (p : A → Bool) (x : A) (xs : List A) → length (filter p (x ∷ xs)) ≡ pick (p x) 1 0 + length (filter p xs)
unfolding filter
length_filter p x xs = ⊎_elim (λ t. rw t (omega arith)) (λ t. rw t (omega arith)) (cases (p x))

-- how many entries pass a test
many_filter : (p : Row Content → Bool) (ss : List Slot) → how_many p ss ≡ length (filter p (entries ss))
many_filter p [] = many_nil p ∙ unfold entries filter in refl
many_filter p (s ∷ ss) =
    ⊎_elim
    (λ q. many_none p s ss q ∙ many_filter p ss ∙ sym (ap (λ (es : List (Row Content)). length (filter p es)) (entries_none s ss q)))
    (λ q.
    many_some p s ss q.0 q.1
    ∙ ap (λ (n : ℕ). pick (p q.0) 1 0 + n) (many_filter p ss)
    ∙ sym (ap (λ (es : List (Row Content)). length (filter p es)) (entries_some s ss q.0 q.1) ∙ length_filter p q.0 (entries ss)))
    (options s.entry)

any_length : {A : Type 0} (p : A → Bool) (xs : List A) → any p xs ≡ less 0 (length (filter p xs))
unfolding any filter
any_length p [] = sym (less_no {m = 0} {n = 0} zero-le)
any_length p (x ∷ xs) =
    ⊎_elim
    (λ t. rw t (sym (less_yes {m = 0} {n = suc (length (filter p xs))} (suc-le-suc zero-le))))
    (λ t. rw t (any_length p xs))
    (cases (p x))

-- ---- the entries that hide nothing

-- the entry lies in the leaf with version v, hides an address that the index lacks from somebody, but not from worker w
quiet_in : MapState → ℕ → ℕ → Row Content → Bool
quiet_in m w v e = both (hiding_in m v e) (not (hiding w e.item))

-- an address in the leaf with version v, that the index lacks, and at which no put is pending
unfoldable pub lock_only_at : MapState → ℕ → ℕ → Bool
lock_only_at m v k =
    both (same (version_at m.leaves k) v)
    (both (not (present (look m.records k))) (not (put_pending (content_of m.slots k))))

-- what hides from one worker hides from somebody
hiding_some : (w : ℕ) (c : Content) → hiding w c ≡ true → hides_some c ≡ true
unfolding hiding hides_some held_by_other
hiding_some w c e = go (put_pending c) c.for_put c.holder e
  where
    go : (p f : Bool) (o : Option ℕ) → either p (both f (maybe o false (λ (h : ℕ). not (same h w)))) ≡ true → either p (both f (present o)) ≡ true
    go true f o e = refl
    go false false o e = e
    go false true none e = e
    go false true (some h) e = refl

three : (a b s h : Bool) → (h ≡ true → s ≡ true)
    → ◌≡◌ {A = ℕ} (pick (both a (both b s)) 1 0) (pick (both a (both b h)) 1 0 + pick (both (both a (both b s)) (not h)) 1 0)
three true true true true i = refl
three true true true false i = refl
three true true false true i = clash (i refl) refl
three true true false false i = refl
three true false s h i = refl
three false b s h i = refl

split : (m : MapState) (w v : ℕ) → how_many (hiding_in m v) m.slots ≡ how_many (hidden_in m w v) m.slots + how_many (quiet_in m w v) m.slots
unfolding how_many
split m w v = count_sum (weigh (hiding_in m v)) (weigh (hidden_in m w v)) (weigh (quiet_in m w v)) parts m.slots
  where
    parts : (o : Option (Row Content)) → weigh (hiding_in m v) o ≡ weigh (hidden_in m w v) o + weigh (quiet_in m w v) o
    parts none = unfold weigh in refl
    parts (some e) =
        unfold weigh hiding_in outside_any hidden_in quiet_in in
        three (same (version_at m.leaves e.key) v) (not (present (look m.records e.key))) (hides_some e.item) (hiding w e.item)
        (hiding_some w e.item)

hides_many : (m : MapState) (w v : ℕ) → hides m w v ≡ less 0 (how_many (hidden_in m w v) m.slots)
unfolding hides
hides_many m w v =
    any_length (hidden_in m w v) (entries m.slots) ∙ ap (less 0) (sym (many_filter (hidden_in m w v) m.slots))

-- ---- they are the worker's own

-- an entry that hides from somebody, and not from w, is a lock of w's for a put, and no put is pending
quiet_own : (w : ℕ) (c : Content) → hides_some c ≡ true → hiding w c ≡ false → (put_pending c ≡ false) × (c.for_put ≡ true) × (c.holder ≡ some w)
unfolding hiding hides_some held_by_other
quiet_own w c s h = go (put_pending c) c.for_put c.holder s h
  where
    own : (x : ℕ) → not (same x w) ≡ false → x ≡ w
    own x e = ⊎_elim (λ t. same_true x w t) (λ t. clash (ap not t) e) (cases (same x w))

    go : (p f : Bool) (o : Option ℕ) → either p (both f (present o)) ≡ true
        → either p (both f (maybe o false (λ (x : ℕ). not (same x w)))) ≡ false → (p ≡ false) × (f ≡ true) × (o ≡ some w)
    go true f o s h = clash refl h
    go false false o s h = clash s refl
    go false true none s h = clash s refl
    go false true (some x) s h = (refl, refl, ap some (own x h))

-- and the other way round
own_quiet : (w : ℕ) (c : Content) → put_pending c ≡ false → c.for_put ≡ true → c.holder ≡ some w
    → (is_idle c ≡ false) × (hides_some c ≡ true) × (hiding w c ≡ false)
unfolding is_idle hiding hides_some held_by_other
own_quiet w c p f h = (
  ap (λ (o : Option ℕ). both (not (present c.pending)) (not (present o))) h ∙ no_idle (present c.pending),
  ap (λ (o : Option ℕ). either (put_pending c) (both c.for_put (present o))) h ∙ ap (λ (b : Bool). either (put_pending c) (both b true)) f ∙ ap (λ (b : Bool). either b true) p,
  ap (λ (o : Option ℕ). either (put_pending c) (both c.for_put (maybe o false (λ (x : ℕ). not (same x w))))) h
      ∙ ap (λ (b : Bool). either (put_pending c) (both b (not (same w w)))) f
      ∙ ap (λ (b : Bool). either b (not (same w w))) p
      ∙ ap not (same_refl w),
)
  where
    no_idle : (b : Bool) → both (not b) false ≡ false
    no_idle true = refl
    no_idle false = refl

both_true : (a b : Bool) → both a b ≡ true → (a ≡ true) × (b ≡ true)
both_true a b e = (both_left a b e, both_right a b e)

both_yes : (a b : Bool) → a ≡ true → b ≡ true → both a b ≡ true
both_yes a b p q = ap (λ (x : Bool). both x b) p ∙ q

different_filter : (p : ℕ → Bool) (ks : List ℕ) → Different ks → Different (filter p ks)
unfolding Different filter
different_filter p [] d = tt
different_filter p (k ∷ ks) d =
    ⊎_elim
    (λ t. rw t (⊎_elim (λ g. clash (member_has (mem_filter p ks (has_member k (filter p ks) g)).0) d.0) (λ g. g) (cases (has k (filter p ks))), different_filter p ks d.1))
    (λ t. rw t (different_filter p ks d.1))
    (cases (p k))

keys_filter : {A : Type 0} (p : Row A → Bool) (rs : List (Row A)) (k : ℕ) → has k (keys (filter p rs)) ≡ true → (r : Row A) × Memᴰ r rs × (p r ≡ true) × (r.key ≡ k)
keys_filter p rs k e =
    let a = mem_keys (filter p rs) (has_member k (keys (filter p rs)) e) in
    let b = mem_filter p rs a.1 in
    (a.0, b.0, b.1, a.2)

different_keys : {A : Type 0} (p : Row A → Bool) (rs : List (Row A)) → Different (keys rs) → Different (keys (filter p rs))
unfolding Different filter keys
different_keys p [] d = tt
different_keys p (r ∷ rs) d =
    ⊎_elim
    (λ t. rw t (⊎_elim (λ g. clash (again (keys_filter p rs r.key g)) d.0) (λ g. g) (cases (has r.key (keys (filter p rs)))), different_keys p rs d.1))
    (λ t. rw t (different_keys p rs d.1))
    (cases (p r))
  where
    again : (s : Row _) × Memᴰ s rs × (p s ≡ true) × (s.key ≡ r.key) → has r.key (keys rs) ≡ true
    again x = subst (λ (k : ℕ). has k (keys rs) ≡ true) x.3 (member_has (keys_mem x.0 rs x.1))

-- Worker w's locks for puts are the addresses ks.
pub record Locking (ss : List Slot) (w : ℕ) (ks : List ℕ) : Type 0 where
  pub once : Different ks
  pub mine : (k : ℕ) → has k ks ≡ true → ((content_of ss k).holder ≡ some w) × ((content_of ss k).for_put ≡ true)
  pub only : (k : ℕ) → (content_of ss k).holder ≡ some w → (content_of ss k).for_put ≡ true → has k ks ≡ true

module _ (m : MapState) (w v : ℕ) (ks : List ℕ) (good : Good address_size m.slots) (own : Locking m.slots w ks) where
  forth : Within (keys (filter (quiet_in m w v) (entries m.slots))) (filter (lock_only_at m v) ks)
  unfolding quiet_in hiding_in outside_any lock_only_at
  forth k e =
      let f = keys_filter (quiet_in m w v) (entries m.slots) k e in
      let said : content_of m.slots k ≡ f.0.item = ap (content_of m.slots) (sym f.3) ∙ member_content good f.1 in
      let outer = both_true (hiding_in m v f.0) (not (hiding w f.0.item)) f.2 in
      let inner = both_true (same (version_at m.leaves f.0.key) v) (both (not (present (look m.records f.0.key))) (hides_some f.0.item)) outer.0 in
      let last = both_true (not (present (look m.records f.0.key))) (hides_some f.0.item) inner.1 in
      let q = quiet_own w f.0.item last.1 (not-true (hiding w f.0.item) outer.1) in
      member_has
      (filter_mem (lock_only_at m v) ks
      (has_member k ks (own.only k (ap (λ (c : Content). c.holder) said ∙ q.2) (ap (λ (c : Content). c.for_put) said ∙ q.1)))
      (both_yes (same (version_at m.leaves k) v) (both (not (present (look m.records k))) (not (put_pending (content_of m.slots k))))
      (subst (λ (j : ℕ). same (version_at m.leaves j) v ≡ true) f.3 inner.0)
      (both_yes (not (present (look m.records k))) (not (put_pending (content_of m.slots k)))
      (subst (λ (j : ℕ). not (present (look m.records j)) ≡ true) f.3 last.0)
      (ap (λ (c : Content). not (put_pending c)) said ∙ ap not q.0))))

  back : Within (filter (lock_only_at m v) ks) (keys (filter (quiet_in m w v) (entries m.slots)))
  unfolding quiet_in hiding_in outside_any lock_only_at
  back k e =
      let f = mem_filter (lock_only_at m v) ks (has_member k (filter (lock_only_at m v) ks) e) in
      let held = own.mine k (member_has f.0) in
      let outer = both_true (same (version_at m.leaves k) v) (both (not (present (look m.records k))) (not (put_pending (content_of m.slots k)))) f.1 in
      let inner = both_true (not (present (look m.records k))) (not (put_pending (content_of m.slots k))) outer.1 in
      let q = own_quiet w (content_of m.slots k) (not-true (put_pending (content_of m.slots k)) inner.1) held.1 held.0 in
      member_has
      (keys_mem (row k (content_of m.slots k)) (filter (quiet_in m w v) (entries m.slots))
      (filter_mem (quiet_in m w v) (entries m.slots) (content_member good k q.0)
      (both_yes (hiding_in m v (row k (content_of m.slots k))) (not (hiding w (content_of m.slots k)))
      (both_yes (same (version_at m.leaves k) v) (both (not (present (look m.records k))) (hides_some (content_of m.slots k))) outer.0
      (both_yes (not (present (look m.records k))) (hides_some (content_of m.slots k)) inner.0 q.1))
      (ap not q.2))))

  own_count : how_many (quiet_in m w v) m.slots ≡ length (filter (lock_only_at m v) ks)
  own_count =
      let a : how_many (quiet_in m w v) m.slots ≡ length (filter (quiet_in m w v) (entries m.slots)) = many_filter (quiet_in m w v) m.slots in
      let b : length (keys (filter (quiet_in m w v) (entries m.slots))) ≡ length (filter (quiet_in m w v) (entries m.slots))
      = length_keys (filter (quiet_in m w v) (entries m.slots)) in
      let c : length (keys (filter (quiet_in m w v) (entries m.slots))) ≤ length (filter (lock_only_at m v) ks)
      = different_length (keys (filter (quiet_in m w v) (entries m.slots))) (filter (lock_only_at m v) ks)
      (different_keys (quiet_in m w v) (entries m.slots) (keys_differ good)) forth in
      let d : length (filter (lock_only_at m v) ks) ≤ length (keys (filter (quiet_in m w v) (entries m.slots)))
      = different_length (filter (lock_only_at m v) ks) (keys (filter (quiet_in m w v) (entries m.slots)))
      (different_filter (lock_only_at m v) ks own.once) back in
      omega arith

  -- the leaf hides a key exactly if more entries hide there than the worker's own silent ones
  pub hides_count : (out mine : ℕ) → out ≡ how_many (hiding_in m v) m.slots → mine ≡ length (filter (lock_only_at m v) ks) → hides m w v ≡ less mine out
  hides_count out mine e f =
      let a : how_many (hiding_in m v) m.slots ≡ how_many (hidden_in m w v) m.slots + how_many (quiet_in m w v) m.slots = split m w v in
      let b : how_many (quiet_in m w v) m.slots ≡ length (filter (lock_only_at m v) ks) = own_count in
      hides_many m w v
      ∙ ⊎_elim
      (λ t. let g : 0 < how_many (hidden_in m w v) m.slots = less_true 0 (how_many (hidden_in m w v) m.slots) t in
      t ∙ sym (less_yes {m = mine} {n = out} (omega arith)))
      (λ t. let g : how_many (hidden_in m w v) m.slots ≤ 0 = less_false 0 (how_many (hidden_in m w v) m.slots) t in
      t ∙ sym (less_no {m = mine} {n = out} (omega arith)))
      (cases (less 0 (how_many (hidden_in m w v) m.slots)))

  -- with none that hides there is no hidden key
  pub hides_none : 0 ≡ how_many (hiding_in m v) m.slots → hides m w v ≡ false
  hides_none e = hides_count 0 (length (filter (lock_only_at m v) ks)) e refl ∙ less_no {m = length (filter (lock_only_at m v) ks)} {n = 0} zero-le
