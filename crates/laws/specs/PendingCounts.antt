-- How many addresses have a pending write: lock and unlock add none, an install at most one for each write, and a merge
-- that takes an entry in leaves fewer.
use Rattle.std.specs.Prelude.{ℕ, suc, ◌+◌, ◌<◌, ◌≤◌, ◌≡◌, refl, Bool, true, false, List, [], ◌∷◌, ◌++◌, length}
use Rattle.std.proofs.Common.{le_trans, le_of_eq, sym, ap, ◌∙◌, ⊎_elim, length-append}
use Rattle.std.proofs.Math.Option.{Option, none, some, get_or}
use Rattle.lists.specs.Tests.{pick, maybe, present, same}
use Rattle.lists.specs.TestLaws.{cases, clash, same_true}
use Rattle.lists.specs.Rows.{Row, row, look, keys, has, Different}
use Rattle.lists.specs.RowLaws.{has_keys, length_keys}
use Rattle.lists.specs.Counting.{Within, has_here, has_cons}
use Rattle.lists.specs.Memberships.{has_left, has_right, different_length}
use Rattle.spec.specs.Records.{Record, Write}
use Rattle.spec.specs.Slots.{Slot, Pending, Content, idle, empty_slots, entries, content_of}
use Rattle.spec.specs.Maps.{MapState, outcome_of, pending_rows, each, lock_all, unlock_all, install_all, merge_entry}
use Rattle.laws.specs.SlotLaws.{Good, keys_differ}
use Rattle.laws.specs.MapLaws.{locked_pending, unlocked_pending, written_by, LockRoom, Installable, GoodMap, lock_good, lock_says, unlock_good, unlock_says, install_good, install_says}
use Rattle.laws.specs.MergeLaws.{merged_good, merged_pending}
use Rattle.laws.specs.ContentLaws.{leaving, look_pending_rows}

-- how many addresses have a pending write
unfoldable pub pending_count : List Slot → ℕ
pending_count ss = length (pending_rows (entries ss))

pub none_pending : pending_count empty_slots ≡ 0
unfolding pending_count entries pending_rows
none_pending = refl

-- a write is pending at the address
abbrev pub pending_at : List Slot → ℕ → Bool
pending_at ss k = present (content_of ss k).pending

abbrev pending_keys : List (Row Content) → List ℕ
pending_keys es = keys (pending_rows es)

-- ---- they are the addresses at which a write is pending, each once

leaving_pending : (o : Option Content) → present (leaving o) ≡ present (get_or o idle).pending
leaving_pending none = refl
leaving_pending (some c) = go c.pending
  where
    go : (p : Option Pending) → present (leaving (some (record { pending = p; holder = c.holder; for_put = c.for_put }))) ≡ present p
    go none = refl
    go (some p) = refl

pending_has : {bytes : ℕ} {ss : List Slot} → Good bytes ss → (k : ℕ) → has k (pending_keys (entries ss)) ≡ pending_at ss k
unfolding content_of
pending_has {bytes} {ss} g k =
    has_keys (pending_rows (entries ss)) k
    ∙ ap present (look_pending_rows (entries ss) (keys_differ g) k)
    ∙ leaving_pending (look (entries ss) k)

rows_differ : (es : List (Row Content)) → Different (keys es) → Different (pending_keys es)
unfolding pending_rows keys Different
rows_differ [] d = tt
rows_differ (e ∷ es) d = go e.item.pending (rows_differ es d.1)
  where
    rows : Option Pending → List (Row (Option Record))
    rows o = maybe o (pending_rows es) (λ (p : Pending). row e.key (outcome_of p) ∷ pending_rows es)

    absent : present (look es e.key) ≡ false
    absent = sym (has_keys es e.key) ∙ d.0

    gone : (o : Option Content) → present o ≡ false → present (leaving o) ≡ false
    gone none t = refl
    gone (some c) t = clash refl t

    go : (o : Option Pending) → Different (pending_keys es) → Different (keys (rows o))
    go none ih = ih
    go (some p) ih =
        (has_keys (pending_rows es) e.key ∙ ap present (look_pending_rows es d.1 e.key) ∙ gone (look es e.key) absent, ih)

count_keys : (ss : List Slot) → pending_count ss ≡ length (pending_keys (entries ss))
unfolding pending_count
count_keys ss = sym (length_keys (pending_rows (entries ss)))

-- writes that are pending at addresses of a list are no more than it has places
pending_within : {bytes : ℕ} {ss : List Slot} → Good bytes ss → (ys : List ℕ) → ((k : ℕ) → pending_at ss k ≡ true → has k ys ≡ true)
    → pending_count ss ≤ length ys
pending_within {bytes} {ss} g ys h =
    le_trans (le_of_eq (count_keys ss))
    (different_length (pending_keys (entries ss)) ys (rows_differ (entries ss) (keys_differ g)) (λ k e. h k (sym (pending_has g k) ∙ e)))

pending_fewer : {bytes : ℕ} {ss ts : List Slot} → Good bytes ss → Good bytes ts → ((k : ℕ) → pending_at ts k ≡ true → pending_at ss k ≡ true)
    → pending_count ts ≤ pending_count ss
pending_fewer {bytes} {ss} {ts} g h i =
    le_trans (pending_within h (pending_keys (entries ss)) (λ k e. pending_has g k ∙ i k e)) (le_of_eq (sym (count_keys ss)))

-- ---- lock, unlock, install

pub lock_pending : (w : ℕ) (m : MapState) (ws : List (Row Write)) → GoodMap m → LockRoom m.slots ws
    → pending_count (lock_all w m ws).slots ≤ pending_count m.slots
lock_pending w m ws g r =
    pending_fewer g (lock_good w m ws g r) (λ k e. sym (says k) ∙ e)
  where
    says : (k : ℕ) → pending_at (lock_all w m ws).slots k ≡ pending_at m.slots k
    says k =
        ap (λ (c : Content). present c.pending) (lock_says w m ws g r k)
        ∙ ap present (locked_pending w (look ws k) (content_of m.slots k))

pub unlock_pending : (w : ℕ) (m : MapState) (ks : List ℕ) → GoodMap m
    → pending_count (unlock_all w m ks).slots ≤ pending_count m.slots
unlock_pending w m ks g =
    pending_fewer g (unlock_good w m ks g) (λ k e. sym (says k) ∙ e)
  where
    says : (k : ℕ) → pending_at (unlock_all w m ks).slots k ≡ pending_at m.slots k
    says k =
        ap (λ (c : Content). present c.pending) (unlock_says w m ks g k)
        ∙ ⊎_elim (λ t. rw t (ap present (unlocked_pending w (content_of m.slots k)))) (λ t. rw t) (cases (has k ks))

pub install_pending : (n t : ℕ) (m : MapState) (ws : List (Row Write)) → GoodMap m → Installable m.slots ws
    → pending_count (install_all n t m ws).slots ≤ pending_count m.slots + length ws
install_pending n t m ws g i =
    le_trans (pending_within (install_good n t m ws g i) (pending_keys (entries m.slots) ++ keys ws) (λ k e. inside k e (look ws k) refl))
    (le_of_eq (length-append (pending_keys (entries m.slots)) (keys ws)
    ∙ ap (λ (x : ℕ). x + length (keys ws)) (sym (count_keys m.slots))
    ∙ ap (λ (x : ℕ). pending_count m.slots + x) (length_keys ws)))
  where
    inside : (k : ℕ) → pending_at (install_all n t m ws).slots k ≡ true → (o : Option Write) → look ws k ≡ o
        → has k (pending_keys (entries m.slots) ++ keys ws) ≡ true
    inside k e none q =
        has_left k (pending_keys (entries m.slots)) (keys ws)
        (pending_has g k
        ∙ sym (ap (λ (c : Content). present c.pending) (install_says n t m ws g i k ∙ ap (λ (o : Option Write). written_by n t o (content_of m.slots k)) q))
        ∙ e)
    inside k e (some x) q = has_right k (pending_keys (entries m.slots)) (keys ws) (has_keys ws k ∙ ap present q)

-- ---- merge

pub merged_fewer : (bytes : ℕ) (m : MapState) (e : Row Content) (es : List (Row Content)) → Good bytes m.slots
    → pending_at m.slots e.key ≡ true
    → pending_count (each (merge_entry bytes) m (e ∷ es)).slots < pending_count m.slots
unfolding Different
merged_fewer bytes m e es g p =
    le_trans (le_of_eq (ap suc (count_keys after)))
    (le_trans
    (different_length (e.key ∷ pending_keys (entries after)) (pending_keys (entries m.slots)) (absent, rows_differ (entries after) (keys_differ good)) inside)
    (le_of_eq (sym (count_keys m.slots))))
  where
    after : List Slot
    after = (each (merge_entry bytes) m (e ∷ es)).slots

    good : Good bytes after
    good = merged_good bytes m (e ∷ es) g

    says : (k : ℕ) → pending_at after k ≡ present (pick (has k (keys (e ∷ es))) none (content_of m.slots k).pending)
    says k = ap present (merged_pending bytes m (e ∷ es) g k)

    mine : has e.key (keys (e ∷ es)) ≡ true
    mine = unfold keys in has_here e.key (keys es)

    absent : has e.key (pending_keys (entries after)) ≡ false
    absent = pending_has good e.key ∙ says e.key ∙ (rw mine)

    kept : (k : ℕ) → pending_at after k ≡ true → pending_at m.slots k ≡ true
    kept k t =
        ⊎_elim
        (λ q. clash t (says k ∙ (rw q)))
        (λ q. sym (says k ∙ (rw q)) ∙ t)
        (cases (has k (keys (e ∷ es))))

    inside : Within (e.key ∷ pending_keys (entries after)) (pending_keys (entries m.slots))
    inside k t =
        pending_has g k
        ∙ ⊎_elim
        (λ q. ap (pending_at m.slots) (same_true k e.key q) ∙ p)
        (λ q. kept k (sym (pending_has good k) ∙ sym (has_cons k e.key (pending_keys (entries after)) ∙ (rw q)) ∙ t))
        (cases (same k e.key))
