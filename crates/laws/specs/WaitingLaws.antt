-- Since when addresses wait: what lock, unlock, install and merge do to it, and how many have waited longer than one.
use Rattle.std.specs.Prelude.{ℕ, ◌<◌, ◌≤◌, ◌≡◌, Bool, not, length}
use Rattle.std.proofs.Common.{le_trans, le_of_eq, sym, ◌∙◌, subst}
use Rattle.std.proofs.Math.Path.{refl, ap}
use Rattle.std.proofs.Math.Logic.{⊎_elim}
use Rattle.std.proofs.Math.Bool.{true, false}
use mathlib.Core.List.{List, [], ◌∷◌, Memᴰ}
use Rattle.std.proofs.Math.Option.{Option, none, some}
use Rattle.lists.specs.Tests.{pick, both, maybe, present, same}
use Rattle.lists.specs.TestLaws.{cases, clash, same_true, same_yes}
use Rattle.lists.specs.Options.{both_options, some_same}
use Rattle.lists.specs.Rows.{Row, row, look, keys, any, has, filter, Different}
use Rattle.lists.specs.RowLaws.{has_keys, length_keys}
use Rattle.lists.specs.Counting.{has_cons}
use Rattle.lists.specs.Memberships.{different_length}
use Rattle.lists.specs.Filters.{has_filter, different_filter, filter_has}
use Rattle.spec.specs.Records.{limits, Tuning, Write}
use Rattle.spec.specs.Leaves.{version_at}
use Rattle.spec.specs.Slots.{Pending, Content, is_idle, entries, content_of}
use Rattle.spec.specs.Maps.{MapState, lock_all, unlock_all, install_all, waiting_since, merges_at, merging, settle_map, merge_all, merge_at, ages, older, oldest_of, oldest_key, oldest}
use Rattle.spec.specs.Waiting.{waits_since}
use Rattle.laws.specs.SlotLaws.{Good, member_content, content_member, content_some, keys_differ, present_content}
use Rattle.laws.specs.MapLaws.{GoodMap, LockRoom, Installable, written_by, locked_pending, unlocked_pending, lock_says, unlock_says, install_says, idle_pending}
use Rattle.laws.specs.MergeLaws.{merged_pending}
use Rattle.laws.specs.OldestLaws.{AtLeastAsOld, old_refl, oldest_one, oldest_least, ages_from_lem, ages_to}

-- ---- a waiting address has a pending write, and an entry

-- the install since which a pending write waits
abbrev since_of : Option Pending → Option ℕ
since_of o = maybe o none (λ (p : Pending). some p.since)

waits_by : (m m' : MapState) (k : ℕ) → (content_of m'.slots k).pending ≡ (content_of m.slots k).pending → waits_since m' k ≡ waits_since m k
unfolding waits_since
waits_by m m' k e = ap since_of e

-- The pending write of an address that waits since install t.
record Waiter (m : MapState) (k t : ℕ) : Type 0 where
  pub pending : Pending
  pub waits : (content_of m.slots k).pending ≡ some pending
  pub since : pending.since ≡ t

waiter : (m : MapState) (k t : ℕ) → waits_since m k ≡ some t → Waiter m k t
unfolding waits_since
waiter m k t e = go (content_of m.slots k).pending refl e
  where
    go : (o : Option Pending) → (content_of m.slots k).pending ≡ o → since_of o ≡ some t → Waiter m k t
    go none q e = both_options e refl
    go (some p) q e = record { pending = p; waits = q; since = some_same e }

waits_from : (m : MapState) (k : ℕ) (p : Pending) → (content_of m.slots k).pending ≡ some p → waits_since m k ≡ some p.since
unfolding waits_since
waits_from m k p e = ap since_of e

pending_busy : (c : Content) (p : Pending) → c.pending ≡ some p → is_idle c ≡ false
pending_busy c p e = ⊎_elim (λ t. both_options e (idle_pending c t)) (λ t. t) (cases (is_idle c))

module _ {bytes : ℕ} (m : MapState) (g : Good bytes m.slots) where
  waits_busy : (k t : ℕ) → waits_since m k ≡ some t → is_idle (content_of m.slots k) ≡ false
  waits_busy k t e = let w = waiter m k t e in pending_busy (content_of m.slots k) w.pending w.waits

  waits_member : (k t : ℕ) → waits_since m k ≡ some t → Memᴰ (row k t) (ages (entries m.slots))
  waits_member k t e =
      let w = waiter m k t e in
      subst (λ (u : ℕ). Memᴰ (row k u) (ages (entries m.slots))) w.since
      (ages_to (entries m.slots) (row k (content_of m.slots k)) w.pending (content_member g k (waits_busy k t e)) w.waits)

  member_waits : (r : Row ℕ) → Memᴰ r (ages (entries m.slots)) → waits_since m r.key ≡ some r.item
  member_waits r h =
      let a = ages_from_lem (entries m.slots) r h in
      waits_from m r.key a.pending
      (ap (λ (k : ℕ). (content_of m.slots k).pending) (sym a.own) ∙ ap (λ (c : Content). c.pending) (member_content g a.member) ∙ a.waits)
      ∙ ap some a.since

  waits_entry : (k t : ℕ) → waits_since m k ≡ some t → has k (keys (entries m.slots)) ≡ true
  waits_entry k t e =
      has_keys (entries m.slots) k ∙ present_content g k ∙ ap (λ (b : Bool). not b) (waits_busy k t e)

  -- ---- the oldest

  -- the address of the oldest waits, and has waited at least as long as any other
  pub oldest_waits : (k t : ℕ) → waits_since m k ≡ some t
      → (u : ℕ) × (waits_since m (oldest m) ≡ some u) × AtLeastAsOld (row (oldest m) u) (row k t)
  unfolding oldest oldest_key
  oldest_waits k t e = go (ages (entries m.slots)) (waits_member k t e) (λ r h. member_waits r h)
    where
      go : (rs : List (Row ℕ)) → Memᴰ (row k t) rs → ((r : Row ℕ) → Memᴰ r rs → waits_since m r.key ≡ some r.item)
          → (u : ℕ) × (waits_since m (oldest_key rs) ≡ some u) × AtLeastAsOld (row (oldest_key rs) u) (row k t)
      go [] h f = elim h [ ]
      go (a ∷ bs) h f = ((oldest_of a bs).item, f (oldest_of a bs) (oldest_one a bs), oldest_least a bs (row k t) h)

  -- ---- what a merge takes in

  pub merging_takes : (k t a : ℕ) → waits_since m k ≡ some t → version_at m.leaves k ≡ version_at m.leaves a → has k (keys (merging m a)) ≡ true
  unfolding merging
  merging_takes k t a e v =
      let w = waiter m k t e in
      filter_has (merges_at m.leaves a) (entries m.slots) k (content_of m.slots k) there
      (unfold merges_at in rw (w.waits, same_yes {m = version_at m.leaves k} {n = version_at m.leaves a} v))
    where
      there : look (entries m.slots) k ≡ some (content_of m.slots k)
      there = go (look (entries m.slots) k) refl
        where
          go : (o : Option Content) → look (entries m.slots) k ≡ o → look (entries m.slots) k ≡ some (content_of m.slots k)
          go none q = clash (waits_entry k t e) (has_keys (entries m.slots) k ∙ ap present q)
          go (some c) q = q ∙ ap some (sym (content_some m.slots k c q))

-- ---- the four changes

module _ (m : MapState) (g : GoodMap m) where
  pub lock_waits : (w : ℕ) (ws : List (Row Write)) → LockRoom m.slots ws → (k : ℕ) → waits_since (lock_all w m ws) k ≡ waits_since m k
  lock_waits w ws r k =
      waits_by m (lock_all w m ws) k
      (ap (λ (c : Content). c.pending) (lock_says w m ws g r k) ∙ locked_pending w (look ws k) (content_of m.slots k))

  pub unlock_waits : (w : ℕ) (ks : List ℕ) (k : ℕ) → waits_since (unlock_all w m ks) k ≡ waits_since m k
  unlock_waits w ks k =
      waits_by m (unlock_all w m ks) k
      (ap (λ (c : Content). c.pending) (unlock_says w m ks g k)
      ∙ ⊎_elim (λ t. rw t (unlocked_pending w (content_of m.slots k))) (λ t. rw t) (cases (has k ks)))

  -- an address that waits goes on waiting, and one that begins to wait does so since install t
  pub install_waits : (n t : ℕ) (ws : List (Row Write)) → Installable m.slots ws
      → (k : ℕ) → waits_since (install_all n t m ws) k ≡ maybe (look ws k) (waits_since m k) (λ (e : Write). some (maybe (waits_since m k) t (λ (u : ℕ). u)))
  unfolding waits_since waiting_since
  install_waits n t ws i k =
      ap (λ (c : Content). since_of c.pending) (install_says n t m ws g i k) ∙ go (look ws k)
    where
      since : (o : Option Pending) → waiting_since t o ≡ maybe (since_of o) t (λ (u : ℕ). u)
      since none = refl
      since (some p) = refl

      go : (o : Option Write)
          → since_of (written_by n t o (content_of m.slots k)).pending
          ≡ maybe o (since_of (content_of m.slots k).pending) (λ (e : Write). some (maybe (since_of (content_of m.slots k).pending) t (λ (u : ℕ). u)))
      go none = refl
      go (some e) = ap some (since (content_of m.slots k).pending)

  -- what a merge takes in waits no more
  pub merge_waits : (s : Tuning) (v a k : ℕ) → waits_since (merge_at s v m a).map k ≡ pick (has k (keys (merging m a))) none (waits_since m k)
  unfolding waits_since merge_at merge_all settle_map keys has any
  merge_waits s v a k = go (merging m a)
    where
      spread : (b : Bool) (o : Option Pending) → since_of (pick b none o) ≡ pick b none (since_of o)
      spread true o = refl
      spread false o = refl

      go : (es : List (Row Content))
          → since_of (content_of (merge_all s v m a es).map.slots k).pending ≡ pick (has k (keys es)) none (since_of (content_of m.slots k).pending)
      go [] = refl
      go (e ∷ es) =
          ap since_of (merged_pending limits.bytes m (e ∷ es) g k) ∙ spread (has k (keys (e ∷ es))) (content_of m.slots k).pending

-- ---- how many have waited longer

-- j waits, and longer than k, which waits since install t
abbrev pub older_at : MapState → ℕ → ℕ → ℕ → Bool
older_at m k t j = maybe (waits_since m j) false (λ (u : ℕ). older (row j u) (row k t))

unfoldable pub older_count : MapState → ℕ → ℕ → ℕ
older_count m k t = length (filter (older_at m k t) (keys (entries m.slots)))

older_waits : (m : MapState) (k t j : ℕ) → older_at m k t j ≡ true → (u : ℕ) × (waits_since m j ≡ some u) × (older (row j u) (row k t) ≡ true)
older_waits m k t j e = go (waits_since m j) refl e
  where
    go : (o : Option ℕ) → waits_since m j ≡ o → maybe o false (λ (u : ℕ). older (row j u) (row k t)) ≡ true
        → (u : ℕ) × (waits_since m j ≡ some u) × (older (row j u) (row k t) ≡ true)
    go none q e = clash e refl
    go (some u) q e = (u, q, e)

module _ {bytes : ℕ} (m : MapState) (k t : ℕ) (g : Good bytes m.slots) where
  older_has : (j : ℕ) → older_at m k t j ≡ true → has j (filter (older_at m k t) (keys (entries m.slots))) ≡ true
  older_has j e =
      let w = older_waits m k t j e in
      has_filter (older_at m k t) (keys (entries m.slots)) j ∙ (rw (waits_entry m g j w.0 w.1, e))

  has_older : (j : ℕ) → has j (filter (older_at m k t) (keys (entries m.slots))) ≡ true → older_at m k t j ≡ true
  has_older j h = go (has j (keys (entries m.slots))) (sym (has_filter (older_at m k t) (keys (entries m.slots)) j) ∙ h)
    where
      go : (b : Bool) → both b (older_at m k t j) ≡ true → older_at m k t j ≡ true
      go true e = e
      go false e = clash e refl

  older_differ : Different (filter (older_at m k t) (keys (entries m.slots)))
  older_differ = different_filter (older_at m k t) (keys (entries m.slots)) (keys_differ g)

-- the address itself is not among them, so they are fewer than the entries
pub older_fewer_than_entries : {bytes : ℕ} (m : MapState) (k t : ℕ) → Good bytes m.slots → waits_since m k ≡ some t → older_count m k t < length (entries m.slots)
unfolding older_count Different
older_fewer_than_entries m k t g e =
    le_trans
    (different_length (k ∷ filter (older_at m k t) (keys (entries m.slots))) (keys (entries m.slots)) (absent, older_differ m k t g) inside)
    (le_of_eq (length_keys (entries m.slots)))
  where
    itself : older_at m k t k ≡ false
    itself = rw e (old_refl (row k t))

    absent : has k (filter (older_at m k t) (keys (entries m.slots))) ≡ false
    absent = ⊎_elim (λ q. clash (has_older m k t g k q) itself) (λ q. q) (cases (has k (filter (older_at m k t) (keys (entries m.slots)))))

    inside : (j : ℕ) → has j (k ∷ filter (older_at m k t) (keys (entries m.slots))) ≡ true → has j (keys (entries m.slots)) ≡ true
    inside j h =
        ⊎_elim
        (λ q. ap (λ (x : ℕ). has x (keys (entries m.slots))) (same_true j k q) ∙ waits_entry m g k t e)
        (λ q. let w = older_waits m k t j (has_older m k t g j (sym (has_cons j k (filter (older_at m k t) (keys (entries m.slots))) ∙ (rw q)) ∙ h)) in waits_entry m g j w.0 w.1)
        (cases (same j k))

module _ {bytes : ℕ} (m m' : MapState) (k t : ℕ) (g : Good bytes m.slots) (g' : Good bytes m'.slots)
    (none_new : (j : ℕ) → older_at m' k t j ≡ true → older_at m k t j ≡ true) where
  -- none more has waited longer
  pub older_no_more : older_count m' k t ≤ older_count m k t
  unfolding older_count
  older_no_more =
      different_length (filter (older_at m' k t) (keys (entries m'.slots))) (filter (older_at m k t) (keys (entries m.slots))) (older_differ m' k t g')
      (λ j h. older_has m k t g j (none_new j (has_older m' k t g' j h)))

  -- one that had waits no more
  pub older_one_less : (j : ℕ) → older_at m k t j ≡ true → older_at m' k t j ≡ false → older_count m' k t < older_count m k t
  unfolding older_count Different
  older_one_less j e f =
      different_length (j ∷ filter (older_at m' k t) (keys (entries m'.slots))) (filter (older_at m k t) (keys (entries m.slots)))
      (⊎_elim (λ q. clash (has_older m' k t g' j q) f) (λ q. q) (cases (has j (filter (older_at m' k t) (keys (entries m'.slots))))), older_differ m' k t g') inside
    where
      inside : (i : ℕ) → has i (j ∷ filter (older_at m' k t) (keys (entries m'.slots))) ≡ true → has i (filter (older_at m k t) (keys (entries m.slots))) ≡ true
      inside i h =
          ⊎_elim
          (λ q. ap (λ (x : ℕ). has x (filter (older_at m k t) (keys (entries m.slots)))) (same_true i j q) ∙ older_has m k t g j e)
          (λ q. older_has m k t g i (none_new i (has_older m' k t g' i (sym (has_cons i j (filter (older_at m' k t) (keys (entries m'.slots))) ∙ (rw q)) ∙ h))))
          (cases (same i j))
