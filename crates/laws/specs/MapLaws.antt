-- What the four changes of a map do, address by address: lock, unlock, install, and the first part of a merge, in which
-- pending writes enter the index. Each keeps the slots good.
use Rattle.std.specs.Prelude.{ℕ, ◌<◌, ◌≤◌, ◌≡◌, ◌⊎◌, Bool, true, false, not, length}
use Rattle.std.proofs.Common.{le_trans, le_of_eq, lt_of_le_of_lt, sym, ◌∙◌, subst, inl, inr}
use Rattle.std.proofs.Math.Path.{refl, ap}
use Rattle.std.proofs.Math.Logic.{⊎_elim}
use mathlib.Core.List.{List, [], ◌∷◌, ◌++◌}
use Rattle.std.proofs.Math.Option.{Option, none, some}
use Rattle.lists.specs.Tests.{pick, both, either, maybe, present, same}
use Rattle.lists.specs.TestLaws.{cases, clash, same_true, same_false, same_yes, same_no}
use Rattle.lists.specs.Rows.{Row, look, keys, has, distinct, Different}
use Rattle.lists.specs.RowLaws.{has_keys, length_keys, look_here, look_there}
use Rattle.lists.specs.Counting.{has_nil, has_cons, has_append, Within, distinct_within, different_within}
use Rattle.spec.specs.Records.{limits, Write}
use Rattle.spec.specs.Slots.{Pending, Content, is_idle, Slot, slot_count, entries, content_of, enter}
use Rattle.spec.specs.Maps.{MapState, locked_for, lock_row, without_lock, unlock_key, written_over, install_row, each, with_slots, lock_all, unlock_all, install_all}
use Rattle.laws.specs.SlotCounts.{Good}
use Rattle.laws.specs.SlotLaws.{EntryRoom, goes, stands, fits, enter_good, content_said, content_enter, present_content, keys_differ}

-- ---- contents by cases

pub idle_holder : (c : Content) → is_idle c ≡ true → c.holder ≡ none
unfolding is_idle
idle_holder c e = go c.pending c.holder e
  where
    go : (p : Option Pending) (h : Option ℕ) → both (not (present p)) (not (present h)) ≡ true → h ≡ none
    go none none e = refl
    go none (some h) e = clash e refl
    go (some p) h e = clash e refl

pub idle_pending : (c : Content) → is_idle c ≡ true → c.pending ≡ none
unfolding is_idle
idle_pending c e = go c.pending c.holder e
  where
    go : (p : Option Pending) (h : Option ℕ) → both (not (present p)) (not (present h)) ≡ true → p ≡ none
    go none h e = refl
    go (some p) h e = clash e refl

-- an address of which something is said has an entry
pub has_entry : {bytes : ℕ} {ss : List Slot} → Good bytes ss → (k : ℕ) → is_idle (content_of ss k) ≡ false → present (look (entries ss) k) ≡ true
has_entry g k e = present_content g k ∙ ap not e

-- an entry that still says something, or nothing, has room
pub room_old : {bytes : ℕ} {ss : List Slot} → Good bytes ss → (k : ℕ) (c : Content)
    → (is_idle (content_of ss k) ≡ true → is_idle c ≡ true) → EntryRoom ss k c
room_old {ss = ss} g k c h =
    ⊎_elim (λ e. goes (h e)) (λ e. stands (has_entry g k e)) (cases (is_idle (content_of ss k)))

-- ---- one address after the other

-- what a list of changes makes of the content of j
abbrev updated : {X : Type 0} → (X → ℕ) → (X → Content → Content) → List X → ℕ → Content → Content
updated key g [] j c = c
updated key g (x ∷ xs) j c = pick (same (key x) j) (g x c) (updated key g xs j c)

-- A change of the slots that says g of the content at one address and nothing of the others, as long as `Inv` holds of
-- what is left to do.
pub record Changes (bytes : ℕ) (X : Type 0) (f : List Slot → X → List Slot) (key : X → ℕ) (g : X → Content → Content) (Inv : List Slot → List X → Type 0) : Type 0 where
  pub good : (ss : List Slot) (x : X) (xs : List X) → Good bytes ss → Inv ss (x ∷ xs) → Good bytes (f ss x)
  pub says :
      (ss : List Slot) (x : X) (xs : List X) → Good bytes ss → Inv ss (x ∷ xs)
      → (j : ℕ) → content_of (f ss x) j ≡ pick (same (key x) j) (g x (content_of ss j)) (content_of ss j)
  pub rest : (ss : List Slot) (x : X) (xs : List X) → Good bytes ss → Inv ss (x ∷ xs) → Inv (f ss x) xs
  -- a second change at an address undoes nothing: it is the last that stands
  pub once :
      (ss : List Slot) (x : X) (xs : List X) → Inv ss (x ∷ xs)
      → (j : ℕ) (c : Content) → key x ≡ j → updated key g xs j (g x c) ≡ g x c

module _ {bytes : ℕ} {X : Type 0} {f : List Slot → X → List Slot} {key : X → ℕ} {g : X → Content → Content} {Inv : List Slot → List X → Type 0} (h : Changes bytes X f key g Inv) where
  each_good : (ss : List Slot) (xs : List X) → Good bytes ss → Inv ss xs → Good bytes (each f ss xs)
  unfolding each
  each_good ss [] a i = a
  each_good ss (x ∷ xs) a i = each_good (f ss x) xs (h.good ss x xs a i) (h.rest ss x xs a i)

  each_says : (ss : List Slot) (xs : List X) → Good bytes ss → Inv ss xs
      → (j : ℕ) → content_of (each f ss xs) j ≡ updated key g xs j (content_of ss j)
  unfolding each
  each_says ss [] a i j = refl
  each_says ss (x ∷ xs) a i j =
      each_says (f ss x) xs (h.good ss x xs a i) (h.rest ss x xs a i) j
      ∙ ap (updated key g xs j) (h.says ss x xs a i j)
      ∙ ⊎_elim (λ e. rw e (h.once ss x xs i j (content_of ss j) (same_true (key x) j e))) (λ e. rw e) (cases (same (key x) j))

-- ---- lock

abbrev pub row_key : Row Write → ℕ
row_key r = r.key

-- the entries, with one more for each address that has none, fit the slots, and each address stands once
pub record LockRoom (ss : List Slot) (ws : List (Row Write)) : Type 0 where
  pub room : distinct (keys (entries ss) ++ keys ws) < slot_count
  pub once : Different (keys ws)

-- a change at k gives no other address an entry
entries_after : {bytes : ℕ} {ss : List Slot} → Good bytes ss → (k : ℕ) (c : Content) → EntryRoom ss k c
    → (j : ℕ) → has j (keys (entries (enter bytes ss k c))) ≡ true → (has j (keys (entries ss)) ≡ true) ⊎ (k ≡ j)
entries_after {bytes} {ss} a k c r j e =
    ⊎_elim
    (λ t. inr (same_true k j t))
    (λ t.
    inl
    (has_keys (entries ss) j ∙ present_content a j
    ∙ ap (λ (x : Content). not (is_idle x)) (sym (content_said a r j ∙ (rw t)))
    ∙ sym (present_content (enter_good a r) j)
    ∙ sym (has_keys (entries (enter bytes ss k c)) j)
    ∙ e))
    (cases (same k j))

pub entry_count : {bytes : ℕ} {ss : List Slot} → Good bytes ss → (ks : List ℕ) → length (entries ss) ≤ distinct (keys (entries ss) ++ ks)
entry_count {ss = ss} a ks =
    le_trans (le_of_eq (sym (length_keys (entries ss))))
    (different_within (keys (entries ss)) (keys (entries ss) ++ ks) (keys_differ a) (λ j e. has_append j (keys (entries ss)) ks ∙ (rw e)))

-- room stays for the addresses that are left
lock_rest : {bytes : ℕ} {ss : List Slot} → Good bytes ss → (k : ℕ) (ks : List ℕ) (c : Content) → EntryRoom ss k c
    → distinct (keys (entries ss) ++ (k ∷ ks)) < slot_count → distinct (keys (entries (enter bytes ss k c)) ++ ks) < slot_count
lock_rest {bytes} {ss} a k ks c r l =
    lt_of_le_of_lt
    (distinct_within (keys (entries (enter bytes ss k c)) ++ ks) (keys (entries ss) ++ (k ∷ ks)) inside)
    l
  where
    mine : (j : ℕ) → k ≡ j → has j (k ∷ ks) ≡ true
    mine j q = has_cons j k ks ∙ (rw (same_yes {m = j} {n = k} (sym q)))

    later : (j : ℕ) → has j ks ≡ true → has j (k ∷ ks) ≡ true
    later j e = has_cons j k ks ∙ ⊎_elim (λ t. rw t) (λ t. rw t e) (cases (same j k))

    right : (j : ℕ) → has j (k ∷ ks) ≡ true → has j (keys (entries ss) ++ (k ∷ ks)) ≡ true
    right j e = has_append j (keys (entries ss)) (k ∷ ks) ∙ ⊎_elim (λ t. rw t) (λ t. rw t e) (cases (has j (keys (entries ss))))

    left : (j : ℕ) → has j (keys (entries ss)) ≡ true → has j (keys (entries ss) ++ (k ∷ ks)) ≡ true
    left j e = has_append j (keys (entries ss)) (k ∷ ks) ∙ (rw e)

    inside : Within (keys (entries (enter bytes ss k c)) ++ ks) (keys (entries ss) ++ (k ∷ ks))
    inside j e =
        ⊎_elim
        (λ t. ⊎_elim (λ q. left j q) (λ q. right j (mine j q)) (entries_after a k c r j t))
        (λ t. right j (later j (sym (ap (λ (b : Bool). either b (has j ks)) t) ∙ sym (has_append j (keys (entries (enter bytes ss k c))) ks) ∙ e)))
        (cases (has j (keys (entries (enter bytes ss k c)))))

lock_room : {bytes : ℕ} {ss : List Slot} → Good bytes ss → (c : Content) (r : Row Write) (ws : List (Row Write)) → LockRoom ss (r ∷ ws)
    → EntryRoom ss r.key c
lock_room a c r ws l = fits (lt_of_le_of_lt (entry_count a (keys (r ∷ ws))) l.room)

at_own : {A : Type 0} (P : ℕ → A) (Q : ℕ → A) (k : ℕ) (j : ℕ) → ((e : k ≡ j) → P k ≡ P j) → pick (same k j) (P k) (Q j) ≡ pick (same k j) (P j) (Q j)
at_own P Q k j h = ⊎_elim (λ e. rw e (h (same_true k j e))) (λ e. rw e) (cases (same k j))

first_once : (r : Row Write) (ws : List (Row Write)) → Different (keys (r ∷ ws)) → look ws r.key ≡ none
unfolding keys Different
first_once r ws d = go (look ws r.key) refl
  where
    go : (o : Option Write) → look ws r.key ≡ o → look ws r.key ≡ none
    go none e = e
    go (some x) e = clash (has_keys ws r.key ∙ ap present e) d.0

rest_once : (r : Row Write) (ws : List (Row Write)) → Different (keys (r ∷ ws)) → Different (keys ws)
unfolding keys Different
rest_once r ws d = d.1

-- the first write of an address stands: a write set has one
updated_rows : (g : Write → Content → Content) (ws : List (Row Write)) (j : ℕ) (c : Content)
    → updated row_key (λ (r : Row Write). g r.item) ws j c ≡ maybe (look ws j) c (λ (e : Write). g e c)
updated_rows g [] j c = unfold look in refl
updated_rows g (r ∷ ws) j c =
    ⊎_elim
    (λ e. (rw e) ∙ sym (ap (λ (o : Option Write). maybe o c (λ (x : Write). g x c)) (look_here r ws j (same_true r.key j e))))
    (λ e. (rw e (updated_rows g ws j c)) ∙ sym (ap (λ (o : Option Write). maybe o c (λ (x : Write). g x c)) (look_there r ws j (same_false r.key j e))))
    (cases (same r.key j))

-- so a second change at the address of the first row undoes nothing
rows_once : (g : Write → Content → Content) (r : Row Write) (ws : List (Row Write)) → Different (keys (r ∷ ws))
    → (j : ℕ) (c : Content) → r.key ≡ j → updated row_key (λ (x : Row Write). g x.item) ws j (g r.item c) ≡ g r.item c
rows_once g r ws d j c e =
    updated_rows g ws j (g r.item c)
    ∙ ap (λ (o : Option Write). maybe o (g r.item c) (λ (x : Write). g x (g r.item c))) (ap (look ws) (sym e) ∙ first_once r ws d)

pub locked_busy : (w : ℕ) (e : Write) (c : Content) → is_idle (locked_for w e c) ≡ false
unfolding is_idle
locked_busy w e c = go c.pending
  where
    go : (p : Option Pending) → both (not (present p)) false ≡ false
    go none = refl
    go (some p) = refl

-- what a lock says of an address
abbrev pub locked_by : ℕ → Option Write → Content → Content
locked_by w o c = maybe o c (λ (e : Write). locked_for w e c)

pub locked_pending : (w : ℕ) (o : Option Write) (c : Content) → (locked_by w o c).pending ≡ c.pending
locked_pending w none c = refl
locked_pending w (some e) c = refl

pub locking : (bytes w : ℕ) → Changes bytes (Row Write) (lock_row bytes w) row_key (λ (r : Row Write). locked_for w r.item) LockRoom
unfolding lock_row
locking bytes w =
    record {
      good = λ ss r ws a i. enter_good a (lock_room a (locked_for w r.item (content_of ss r.key)) r ws i);
      says =
          λ ss r ws a i j.
          content_enter a (lock_room a (locked_for w r.item (content_of ss r.key)) r ws i) (inl (locked_busy w r.item (content_of ss r.key))) j
          ∙ at_own (λ (x : ℕ). locked_for w r.item (content_of ss x)) (content_of ss) r.key j (λ e. ap (λ (x : ℕ). locked_for w r.item (content_of ss x)) e);
      rest =
          λ ss r ws a i.
          record {
            room =
                lock_rest a r.key (keys ws) (locked_for w r.item (content_of ss r.key))
                (lock_room a (locked_for w r.item (content_of ss r.key)) r ws i) (unfold keys in i.room);
            once = rest_once r ws i.once;
          };
      once = λ ss r ws i j c e. rows_once (locked_for w) r ws i.once j c e;
    }

-- ---- unlock

abbrev pub ident : ℕ → ℕ
ident k = k

updated_keys : (g : Content → Content) (ks : List ℕ) (j : ℕ) (c : Content)
    → updated ident (λ (k : ℕ). g) ks j c ≡ pick (has j ks) (g c) c
updated_keys g [] j c = sym (ap (λ (b : Bool). pick b (g c) c) (has_nil j))
updated_keys g (k ∷ ks) j c =
    ap (pick (same k j) (g c)) (updated_keys g ks j c)
    ∙ ⊎_elim
    (λ e. (rw e) ∙ sym (ap (λ (b : Bool). pick b (g c) c) (has_cons j k ks ∙ ap (λ (b : Bool). pick b true (has j ks)) (same_yes {m = j} {n = k} (sym (same_true k j e))))))
    (λ e. (rw e) ∙ sym (ap (λ (b : Bool). pick b (g c) c) (has_cons j k ks ∙ ap (λ (b : Bool). pick b true (has j ks)) (same_no {m = j} {n = k} (λ q. same_false k j e (sym q))))))
    (cases (same k j))

-- the lock goes if worker w has it
unfoldable pub unlocked : ℕ → Content → Content
unlocked w c = maybe c.holder c (λ (h : ℕ). pick (same h w) (without_lock c) c)

abbrev pub Always : {X : Type 0} → List Slot → List X → Type 0
Always ss xs = Unit {0}

abbrev UnlockCases : ℕ → ℕ → List Slot → ℕ → Type 0
UnlockCases bytes w ss k =
    ((unlock_key bytes w ss k ≡ ss) × (unlocked w (content_of ss k) ≡ content_of ss k))
    ⊎ ((unlock_key bytes w ss k ≡ enter bytes ss k (without_lock (content_of ss k))) × (unlocked w (content_of ss k) ≡ without_lock (content_of ss k)))

unlock_cases : (bytes w : ℕ) (ss : List Slot) (k : ℕ) → UnlockCases bytes w ss k
unfolding unlock_key unlocked
unlock_cases bytes w ss k = go (content_of ss k).holder refl
  where
    slots : Option ℕ → List Slot
    slots o = maybe o ss (λ (h : ℕ). pick (same h w) (enter bytes ss k (without_lock (content_of ss k))) ss)

    says : Option ℕ → Content
    says o = maybe o (content_of ss k) (λ (h : ℕ). pick (same h w) (without_lock (content_of ss k)) (content_of ss k))

    go : (o : Option ℕ) → (content_of ss k).holder ≡ o → UnlockCases bytes w ss k
    go none e = inl (ap slots e, ap says e)
    go (some h) e =
        ⊎_elim
        (λ t. inr (ap slots e ∙ ap (λ (b : Bool). pick b (enter bytes ss k (without_lock (content_of ss k))) ss) t, ap says e ∙ ap (λ (b : Bool). pick b (without_lock (content_of ss k)) (content_of ss k)) t))
        (λ t. inl (ap slots e ∙ ap (λ (b : Bool). pick b (enter bytes ss k (without_lock (content_of ss k))) ss) t, ap says e ∙ ap (λ (b : Bool). pick b (without_lock (content_of ss k)) (content_of ss k)) t))
        (cases (same h w))

unlocked_mine : (w : ℕ) (c : Content) (h : ℕ) → c.holder ≡ some h → same h w ≡ true → unlocked w c ≡ without_lock c
unfolding unlocked
unlocked_mine w c h e t =
    ap (λ (o : Option ℕ). maybe o c (λ (x : ℕ). pick (same x w) (without_lock c) c)) e ∙ ap (λ (b : Bool). pick b (without_lock c) c) t

-- a lock of another stays, for what it is
pub unlocked_other : (w : ℕ) (c : Content) (v : ℕ) → (v ≡ w → ⊥) → c.holder ≡ some v → unlocked w c ≡ c
unfolding unlocked
unlocked_other w c v d e =
    ap (λ (o : Option ℕ). maybe o c (λ (x : ℕ). pick (same x w) (without_lock c) c)) e
    ∙ ap (λ (b : Bool). pick b (without_lock c) c) (same_no {m = v} {n = w} d)

unlocked_none : (w : ℕ) (c : Content) → c.holder ≡ none → unlocked w c ≡ c
unfolding unlocked
unlocked_none w c e = ap (λ (o : Option ℕ). maybe o c (λ (x : ℕ). pick (same x w) (without_lock c) c)) e

unlocked_twice : (w : ℕ) (c : Content) → unlocked w (unlocked w c) ≡ unlocked w c
unlocked_twice w c = go c.holder refl
  where
    go : (o : Option ℕ) → c.holder ≡ o → unlocked w (unlocked w c) ≡ unlocked w c
    go none e = ap (unlocked w) (unlocked_none w c e)
    go (some h) e =
        ⊎_elim
        (λ t. ap (unlocked w) (unlocked_mine w c h e t) ∙ unlocked_none w (without_lock c) refl ∙ sym (unlocked_mine w c h e t))
        (λ t. ap (unlocked w) (unlocked_other w c h (same_false h w t) e))
        (cases (same h w))

-- of the pending write nothing is said
pub unlocked_pending : (w : ℕ) (c : Content) → (unlocked w c).pending ≡ c.pending
unlocked_pending w c = go c.holder refl
  where
    go : (o : Option ℕ) → c.holder ≡ o → (unlocked w c).pending ≡ c.pending
    go none e = ap (λ (x : Content). x.pending) (unlocked_none w c e)
    go (some h) e =
        ⊎_elim
        (λ t. ap (λ (x : Content). x.pending) (unlocked_mine w c h e t))
        (λ t. ap (λ (x : Content). x.pending) (unlocked_other w c h (same_false h w t) e))
        (cases (same h w))

unlock_room : {bytes : ℕ} {ss : List Slot} → Good bytes ss → (k : ℕ) → EntryRoom ss k (without_lock (content_of ss k))
unlock_room {ss = ss} a k =
    room_old a k (without_lock (content_of ss k)) (λ e. unfold is_idle in rw (idle_pending (content_of ss k) e))

pub unlocking : (bytes w : ℕ) → Changes bytes ℕ (unlock_key bytes w) ident (λ (k : ℕ). unlocked w) Always
unlocking bytes w =
    record {
      good =
          λ ss k ks a i.
          ⊎_elim (λ c. subst (Good bytes) (sym c.0) a) (λ c. subst (Good bytes) (sym c.0) (enter_good a (unlock_room a k))) (unlock_cases bytes w ss k);
      says = λ ss k ks a i j. says ss k a j;
      rest = λ ss k ks a i. tt;
      once =
          λ ss k ks i j c e.
          updated_keys (unlocked w) ks j (unlocked w c)
          ∙ ⊎_elim (λ t. (rw t) ∙ unlocked_twice w c) (λ t. rw t) (cases (has j ks));
    }
  where
    says : (ss : List Slot) (k : ℕ) → Good bytes ss → (j : ℕ)
        → content_of (unlock_key bytes w ss k) j ≡ pick (same k j) (unlocked w (content_of ss j)) (content_of ss j)
    says ss k a j =
        ⊎_elim
        (λ c. ap (λ (s : List Slot). content_of s j) c.0
        ∙ ⊎_elim (λ t. sym (ap (λ (b : Bool). pick b (unlocked w (content_of ss j)) (content_of ss j)) t ∙ subst (λ (x : ℕ). unlocked w (content_of ss x) ≡ content_of ss x) (same_true k j t) c.1)) (λ t. sym (ap (λ (b : Bool). pick b (unlocked w (content_of ss j)) (content_of ss j)) t)) (cases (same k j)))
        (λ c. ap (λ (s : List Slot). content_of s j) c.0
        ∙ content_enter a (unlock_room a k) (inr refl) j
        ∙ ap (λ (x : Content). pick (same k j) x (content_of ss j)) (sym c.1)
        ∙ at_own (λ (x : ℕ). unlocked w (content_of ss x)) (content_of ss) k j (λ e. ap (λ (x : ℕ). unlocked w (content_of ss x)) e))
        (unlock_cases bytes w ss k)

-- ---- install

abbrev pub installed_as : ℕ → ℕ → Row Write → Content → Content
installed_as n t r c = written_over n t r.item c

-- each address has an entry, and stands once
pub record Installable (ss : List Slot) (ws : List (Row Write)) : Type 0 where
  pub held : (k : ℕ) → present (look ws k) ≡ true → is_idle (content_of ss k) ≡ false
  pub once : Different (keys ws)

installed_busy : (n t : ℕ) (r : Row Write) (c : Content) → is_idle (installed_as n t r c) ≡ false
unfolding is_idle
installed_busy n t r c = refl

-- what is installed at an address
abbrev pub written_by : ℕ → ℕ → Option Write → Content → Content
written_by n t o c = maybe o c (λ (e : Write). written_over n t e c)

install_room : {bytes : ℕ} {ss : List Slot} → Good bytes ss → (c : Content) (r : Row Write) (ws : List (Row Write)) → Installable ss (r ∷ ws)
    → EntryRoom ss r.key c
install_room a c r ws i = stands (has_entry a r.key (i.held r.key (ap present (look_here r ws r.key refl))))

pub installing : (bytes n t : ℕ) → Changes bytes (Row Write) (install_row bytes n t) row_key (installed_as n t) Installable
unfolding install_row
installing bytes n t =
    record {
      good = λ ss r ws a i. enter_good a (install_room a (installed_as n t r (content_of ss r.key)) r ws i);
      says =
          λ ss r ws a i j.
          content_enter a (install_room a (installed_as n t r (content_of ss r.key)) r ws i) (inr refl) j
          ∙ at_own (λ (x : ℕ). installed_as n t r (content_of ss x)) (content_of ss) r.key j (λ e. ap (λ (x : ℕ). installed_as n t r (content_of ss x)) e);
      rest = λ ss r ws a i. record { held = held ss r ws a i; once = rest_once r ws i.once };
      once = λ ss r ws i j c e. rows_once (written_over n t) r ws i.once j c e;
    }
  where
    held : (ss : List Slot) (r : Row Write) (ws : List (Row Write)) → Good bytes ss → Installable ss (r ∷ ws)
        → (k : ℕ) → present (look ws k) ≡ true → is_idle (content_of (enter bytes ss r.key (installed_as n t r (content_of ss r.key))) k) ≡ false
    held ss r ws a i k p =
        ap is_idle (content_enter a (install_room a (installed_as n t r (content_of ss r.key)) r ws i) (inr refl) k)
        ∙ ⊎_elim
        (λ e. ap (λ (b : Bool). is_idle (pick b (installed_as n t r (content_of ss r.key)) (content_of ss k))) e ∙ installed_busy n t r (content_of ss r.key))
        (λ e. ap (λ (b : Bool). is_idle (pick b (installed_as n t r (content_of ss r.key)) (content_of ss k))) e
        ∙ i.held k (ap present (look_there r ws k (same_false r.key k e)) ∙ p))
        (cases (same r.key k))

-- ---- the three changes of a map

abbrev pub GoodMap : MapState → Type 0
GoodMap m = Good limits.bytes m.slots

pub lock_good : (w : ℕ) (m : MapState) (ws : List (Row Write)) → GoodMap m → LockRoom m.slots ws → GoodMap (lock_all w m ws)
unfolding lock_all with_slots
lock_good w m ws a r = each_good (locking limits.bytes w) m.slots ws a r

pub lock_says : (w : ℕ) (m : MapState) (ws : List (Row Write)) → GoodMap m → LockRoom m.slots ws
    → (j : ℕ) → content_of (lock_all w m ws).slots j ≡ locked_by w (look ws j) (content_of m.slots j)
unfolding lock_all with_slots
lock_says w m ws a r j =
    each_says (locking limits.bytes w) m.slots ws a r j ∙ updated_rows (locked_for w) ws j (content_of m.slots j)

pub unlock_good : (w : ℕ) (m : MapState) (ks : List ℕ) → GoodMap m → GoodMap (unlock_all w m ks)
unfolding unlock_all with_slots
unlock_good w m ks a = each_good (unlocking limits.bytes w) m.slots ks a tt

pub unlock_says : (w : ℕ) (m : MapState) (ks : List ℕ) → GoodMap m
    → (j : ℕ) → content_of (unlock_all w m ks).slots j ≡ pick (has j ks) (unlocked w (content_of m.slots j)) (content_of m.slots j)
unfolding unlock_all with_slots
unlock_says w m ks a j =
    each_says (unlocking limits.bytes w) m.slots ks a tt j ∙ updated_keys (unlocked w) ks j (content_of m.slots j)

pub install_good : (n t : ℕ) (m : MapState) (ws : List (Row Write)) → GoodMap m → Installable m.slots ws → GoodMap (install_all n t m ws)
unfolding install_all with_slots
install_good n t m ws a i = each_good (installing limits.bytes n t) m.slots ws a i

pub install_says : (n t : ℕ) (m : MapState) (ws : List (Row Write)) → GoodMap m → Installable m.slots ws
    → (j : ℕ) → content_of (install_all n t m ws).slots j ≡ written_by n t (look ws j) (content_of m.slots j)
unfolding install_all with_slots
install_says n t m ws a i j =
    each_says (installing limits.bytes n t) m.slots ws a i j ∙ updated_rows (written_over n t) ws j (content_of m.slots j)
