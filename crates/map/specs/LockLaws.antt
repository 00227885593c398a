-- The laws behind lock, unlock and install: one address after the other, and the limits in the end.
use Prim.Native.Nat.{ℕ, zero, suc, ◌+◌, ◌-◌, ◌<◌, ◌≤◌}
use Rattle.std.proofs.Common.{lt_of_le_of_lt, add-one, ◌∙◌}
use native.Mathlib.Omega.{arith}
use Rattle.std.specs.Prelude.{◌≡◌, Bool, true, length, eqb, Option as Optional, Some, None, SomeIff}
use Rattle.std.specs.Option.{option_eq}
use Rattle.std.proofs.Math.Path.{refl, sym, ap, subst}
use Rattle.std.proofs.Math.Bool.{false, not}
use mathlib.Core.List.{List, [], ◌∷◌}
use Rattle.std.proofs.Math.Option.{Option, none, some}
use Rattle.lists.specs.Tests.{pick, maybe, present, same}
use Rattle.lists.specs.Rows.{Row, look, keys, any, Different}
use Rattle.lists.specs.RowLaws.{look_here}
use Rattle.spec.specs.Widths.{address_size}
use Rattle.spec.specs.Payloads.{option_in}
use Rattle.spec.specs.declared.PayloadWords.{PayloadWords}
use Rattle.spec.specs.Records.{limits, standard, Write, is_put}
use Rattle.spec.specs.Slots.{slot_count, Pending, Content, is_idle, Slot, entries, content_of, enter}
use Rattle.spec.specs.Maps.{MapState, held_by_other, waiting_with, addresses_with, locked_for, lock_row, without_lock, unlock_key, waiting_since, install_row, each, with_slots, lock_all, unlock_all, install_all}
use Rattle.laws.specs.SlotCounts.{Good}
use Rattle.laws.specs.SlotLaws.{EntryRoom, stands}
use Rattle.laws.specs.MapLaws.{Changes, LockRoom, Installable, Always, installed_as, idle_pending, has_entry, room_old, entry_count, locking, unlocking, installing}
use Rattle.laws.specs.MapBounds.{Bounded, lock_room, lock_bounded, unlock_bounded, install_bounded}
use Rattle.indexlet.specs.declared.Content.{Content as ContentWords}
use Rattle.indexlet.specs.Words.{content_in, holder_in, slots_of}
use Rattle.indexlet.specs.Words as words
use Rattle.map.specs.declared.Sizes.{Sizes}
use Rattle.sets.specs.declared.writes.Entry.{Entry}
use Rattle.sets.specs.declared.writes.Write.{Write as WriteWords}
use Rattle.sets.specs.declared.writes.Write.TheVariants.{Put, Deletion}
use Rattle.sets.specs.Writes.{WriteRows, edit_in, kind_of, given_by, entry_in, writes_of}
use Rattle.map.specs.Views.{SlotRows, Lent, map_of}
use Rattle.map.specs.MapHeld.{Tables, MapHeld}
use Rattle.map.specs.Entries.{MapBecomes, ContentSet}
use Rattle.map.specs.WriteWalks.{write_at, rest, rest_all, rest_none, rest_cons, rest_keys, keys_all, keys_none, keys_cons}

-- ---- one address after the other

-- The map in the arrays, changed by f at each of xs, is `goal`; `Inv` holds of the slots and of what is left to do.
pub record Going {A : Type 0} (f : List Slot → A → List Slot) (Inv : List Slot → List A → Type 0) (l : Lent) (z : Sizes) (v : ℕ) (xs : List A) (goal : MapState) : Type 0 where
  pub tables : Tables l z v
  pub run : with_slots (map_of l z) (each f (slots_of l.slots) xs) ≡ goal
  pub inv : Inv (slots_of l.slots) xs

module _ {A : Type 0} {f : List Slot → A → List Slot} {key : A → ℕ} {g : A → Content → Content} {Inv : List Slot → List A → Type 0} (h : Changes address_size A f key g Inv) where
  pub going_on : {l l' : Lent} {z r : Sizes} {v : ℕ} {goal : MapState} (x : A) (xs ys : List A) → xs ≡ x ∷ ys → Going f Inv l z v xs goal
      → ContentSet l l' z r v (f (slots_of l.slots) x) → Going f Inv l' r v ys goal
  unfolding with_slots each
  going_on {l} {l'} {z} {r} {v} {goal} x xs ys e q s =
      record {
        tables = s.tables;
        run = (λ i. with_slots (s.map i) (each f (s.view i) ys)) ∙ ap (λ (zs : List A). with_slots (map_of l z) (each f (slots_of l.slots) zs)) (sym e) ∙ q.run;
        inv = subst (λ (ss : List Slot). Inv ss ys) (sym s.view) (h.rest (slots_of l.slots) x ys q.tables.words.good (subst (Inv (slots_of l.slots)) e q.inv));
      }

going_end : {A : Type 0} {f : List Slot → A → List Slot} {Inv : List Slot → List A → Type 0} {l : Lent} {z : Sizes} {v : ℕ} {goal : MapState} {xs : List A}
    → xs ≡ [] → Going f Inv l z v xs goal → map_of l z ≡ goal
unfolding with_slots each
going_end {A} {f} {Inv} {l} {z} {v} {goal} {xs} e q =
    sym (ap (λ (zs : List A). with_slots (map_of l z) (each f (slots_of l.slots) zs)) e) ∙ q.run

-- the arrays hold a map that is within the limits
becomes : {l : Lent} {z : Sizes} {v : ℕ} {m : MapState} → Tables l z v → map_of l z ≡ m → Bounded standard v m → MapBecomes l z v m
becomes {l} {z} {v} {m} t e b = record { map = e; held = record { tables = t; bounded = subst (Bounded standard v) (sym e) b } }

-- nothing is said
pub said_nothing : {l : Lent} {z : Sizes} {v : ℕ} → Tables l z v → (ss : List Slot) → ss ≡ slots_of l.slots → ContentSet l l z z v ss
unfolding with_slots
said_nothing {l} {z} {v} t ss e =
    record { tables = t; map = ap (with_slots (map_of l z)) (sym e); view = sym e; records = refl; leaves = refl }

-- ---- the words of a content

-- the content with the lock that a word says, for a write of this kind
unfoldable pub holding : ℕ → ℕ → Content → Content
holding lock kind c = record { pending = c.pending; holder = holder_in lock; for_put = eqb kind 1 }

pub holding_words : (c : ContentWords) (lock kind : ℕ)
    → content_in (record { kind = c.kind; payload = c.payload; commit = c.commit; since = c.since; lock = lock; forput = kind }) ≡ holding lock kind (content_in c)
unfolding content_in holding
holding_words c lock kind = refl

-- a write of kind 1 is a put
put_is : (w : WriteWords) → eqb (kind_of w) 1 ≡ is_put (edit_in w)
unfolding is_put
put_is (Put v) = refl
put_is Deletion = refl

holding_own : (c : Content) (w : ℕ) (x : WriteWords) → holding (w + 1) (kind_of x) c ≡ locked_for w (edit_in x) c
unfolding holding holder_in
holding_own c w x = λ i. record { pending = c.pending; holder = ap holder_in (add-one w) i; for_put = put_is x i }

holding_none : (c : Content) → holding 0 0 c ≡ without_lock c
unfolding holding holder_in
holding_none c = refl

-- the worker that holds the lock is w
unfoldable pub held_by : ℕ → Content → Bool
held_by w c = maybe c.holder false (λ (h : ℕ). same h w)

-- who has a lock, as the code says it
abbrev pub holder_of : Optional ℕ → Option ℕ
holder_of o = option_in (λ (h : ℕ). h) o

pub holder_back : (c : ContentWords) (o : Optional ℕ) → SomeIff o (1 ≤ c.lock) (c.lock - 1) → holder_of o ≡ (content_in c).holder
unfolding content_in holder_in
holder_back c o h = go o c.lock h
  where
    go : (p : Optional ℕ) (l : ℕ) → SomeIff p (1 ≤ l) (l - 1) → holder_of p ≡ holder_in l
    go None zero h = refl
    go None (suc l) h = absurd (h (omega arith))
    go (Some x) zero h = absurd (let q : 1 ≤ 0 = h.0 in omega arith)
    go (Some x) (suc l) h = ap some (let q : x ≡ suc l - 1 = h.1 in omega arith)

module _ (c : Content) (w : ℕ) where
  pub own_lock : (o : Optional ℕ) {b : Bool} → holder_of o ≡ c.holder → b ≡ option_eq eqb o (Some w) → b ≡ held_by w c
  unfolding held_by
  own_lock o e f = f ∙ go o ∙ ap (λ (h : Option ℕ). maybe h false (λ (x : ℕ). same x w)) e
    where
      go : (p : Optional ℕ) → option_eq eqb p (Some w) ≡ maybe (holder_of p) false (λ (x : ℕ). same x w)
      go None = refl
      go (Some x) = unfold same in refl

  pub other_lock : {h : ℕ} → some h ≡ c.holder → not (eqb h w) ≡ held_by_other w c
  unfolding held_by_other same
  other_lock e = ap (λ (o : Option ℕ). maybe o false (λ (x : ℕ). not (same x w))) e

  pub no_lock : none ≡ c.holder → false ≡ held_by_other w c
  unfolding held_by_other
  no_lock e = ap (λ (o : Option ℕ). maybe o false (λ (x : ℕ). not (same x w))) e

-- ---- what is said of one address

-- the same promise, of slots that are the same
pub said_as : {l l' : Lent} {z r : Sizes} {v : ℕ} {ss ts : List Slot} → ContentSet l l' z r v ss → ss ≡ ts → ContentSet l l' z r v ts
said_as {l} {l'} {z} {r} {v} s e = subst (ContentSet l l' z r v) e s

entered_as : (ss : List Slot) {a b : ℕ} {c d : Content} → a ≡ b → c ≡ d → enter address_size ss a c ≡ enter address_size ss b d
entered_as ss p q = λ i. enter address_size ss (p i) (q i)

module _ (ss : List Slot) (a b : ℕ) (old c : Content) (e : a ≡ b) (o : content_of ss a ≡ old) where
  there : content_of ss b ≡ old
  there = ap (content_of ss) (sym e) ∙ o

  unlock_picks : (w : ℕ) → unlock_key address_size w ss b ≡ pick (held_by w old) (enter address_size ss b (without_lock old)) ss
  unfolding unlock_key held_by
  unlock_picks w =
      ap (λ (x : Content). maybe x.holder ss (λ (h : ℕ). pick (same h w) (enter address_size ss b (without_lock x)) ss)) there ∙ go old.holder
    where
      go : (h : Option ℕ)
          → maybe h ss (λ (x : ℕ). pick (same x w) (enter address_size ss b (without_lock old)) ss)
          ≡ pick (maybe h false (λ (x : ℕ). same x w)) (enter address_size ss b (without_lock old)) ss
      go none = refl
      go (some x) = refl

  pub unlock_said : (w : ℕ) → true ≡ held_by w old → c ≡ holding 0 0 old → enter address_size ss a c ≡ unlock_key address_size w ss b
  unlock_said w t q =
      entered_as ss e (q ∙ holding_none old) ∙ sym (unlock_picks w ∙ ap (λ (x : Bool). pick x (enter address_size ss b (without_lock old)) ss) (sym t))

  pub unlock_other : (w : ℕ) → false ≡ held_by w old → unlock_key address_size w ss b ≡ ss
  unlock_other w t = unlock_picks w ∙ ap (λ (x : Bool). pick x (enter address_size ss b (without_lock old)) ss) (sym t)

  -- an entry that loses its lock has room
  pub unlock_room : Good address_size ss → c ≡ holding 0 0 old → EntryRoom ss a c
  unlock_room g q =
      room_old g a c
      (λ t. ap is_idle (q ∙ holding_none old ∙ ap without_lock (sym o)) ∙ (unfold is_idle in rw (idle_pending (content_of ss a) t)))

pub lock_said : (ss : List Slot) (w : ℕ) (x : Row Write) (r : Entry) (old c : Content) → entry_in r ≡ x → content_of ss r.address ≡ old
    → c ≡ holding (w + 1) (kind_of r.write) old → enter address_size ss r.address c ≡ lock_row address_size w ss x
unfolding lock_row
lock_said ss w x r old c e o q =
    entered_as ss (ap (λ (y : Row Write). y.key) e)
    (q ∙ holding_own old w r.write ∙ ap (locked_for w (entry_in r).item) (sym o)
    ∙ ap (λ (y : Row Write). locked_for w y.item (content_of ss y.key)) e)

pub install_said : (ss : List Slot) (n t : ℕ) (x : Row Write) (r : Entry) (old c : Content) → entry_in r ≡ x → content_of ss r.address ≡ old
    → c ≡ installed_as n t (entry_in r) old → enter address_size ss r.address c ≡ install_row address_size n t ss x
unfolding install_row
install_said ss n t x r old c e o q =
    entered_as ss (ap (λ (y : Row Write). y.key) e)
    (q ∙ ap (installed_as n t (entry_in r)) (sym o) ∙ ap (λ (y : Row Write). installed_as n t y (content_of ss y.key)) e)

pub install_room : (ss : List Slot) (x : Row Write) (r : Entry) (c : Content) → Good address_size ss → entry_in r ≡ x → is_idle (content_of ss x.key) ≡ false → EntryRoom ss r.address c
install_room ss x r c g e b = stands (has_entry g r.address (ap (λ (y : Row Write). is_idle (content_of ss y.key)) e ∙ b))

-- the pending write that a write leaves
pending_write : (x : WriteWords) (n t : ℕ) → words.pending_in (kind_of x) (given_by x) n t ≡ some (record { write = edit_in x; commit = n; since = t })
unfolding words.pending_in
pending_write (Put v) n t = refl
pending_write Deletion n t = refl

-- the install since which an address waits, once install t has left a write
module _ (c : ContentWords) (t : ℕ) where
  pub since_now : c.kind ≡ 0 → t ≡ waiting_since t (content_in c).pending
  unfolding content_in words.pending_in waiting_since
  since_now e = sym (ap (λ (k : ℕ). maybe (words.pending_in k c.payload c.commit c.since) t (λ (q : Pending). q.since)) e)

  pub since_before : (c.kind ≡ 0 → ⊥) → c.since ≡ waiting_since t (content_in c).pending
  unfolding content_in words.pending_in waiting_since
  since_before n = go c.kind n
    where
      go : (k : ℕ) → (k ≡ 0 → ⊥) → c.since ≡ maybe (words.pending_in k c.payload c.commit c.since) t (λ (q : Pending). q.since)
      go zero n = absurd (n refl)
      go (suc zero) n = refl
      go (suc (suc k)) n = refl

pub installs : (r : Entry) (n t : ℕ) (old : Content) (k u : ℕ) (v : PayloadWords) → k ≡ kind_of r.write → v ≡ given_by r.write → u ≡ waiting_since t old.pending
    → content_in (record { kind = k; payload = v; commit = n; since = u; lock = 0; forput = 0 }) ≡ installed_as n t (entry_in r) old
unfolding content_in holder_in
installs r n t old k u v e g f =
    ap (λ (o : Option Pending). record { pending = o; holder = none; for_put = false })
    ((λ i. words.pending_in (e i) (g i) n (f i)) ∙ pending_write r.write n (waiting_since t old.pending))

-- ---- the whole write set

-- another worker than w has the lock of k
abbrev pub foreign : SlotRows → ℕ → ℕ → Bool
foreign slots w k = held_by_other w (content_of (slots_of slots) k)

module _ (p : ℕ → Bool) (ws : WriteRows) (i n : ℕ) where
  -- b is the test of row i
  pub any_here : {b : Bool} → i < n → b ≡ p (write_at ws i).key → b ≡ true → any p (rest_keys ws i n) ≡ true
  unfolding any
  any_here h e t = ap (any p) (keys_cons ws i n h) ∙ (rw (sym e ∙ t))

  pub any_later : {b : Bool} → i < n → b ≡ p (write_at ws i).key → b ≡ false → any p (rest_keys ws (i + 1) n) ≡ any p (rest_keys ws i n)
  unfolding any
  any_later h e t = sym (ap (any p) (keys_cons ws i n h) ∙ (rw (sym e ∙ t)))

  pub any_end : n ≤ i → any p (rest_keys ws i n) ≡ false
  unfolding any
  any_end h = ap (any p) (keys_none ws i n h)

-- the tests of refusals 10 and 11 are passed, and each address stands once
pub record Lockable (m : MapState) (ws : List (Row Write)) : Type 0 where
  pub waiting : waiting_with m (keys ws) ≤ standard.waiting_limit
  pub addresses : addresses_with m (keys ws) ≤ limits.map_limit
  pub once : Different (keys ws)

-- what is left to lock, to unlock and to install
abbrev pub Locking : ℕ → Lent → Sizes → ℕ → WriteRows → ℕ → ℕ → MapState → Type 0
Locking w l z v ws i n goal = Going (lock_row address_size w) LockRoom l z v (rest ws i n) goal

abbrev pub Unlocking : ℕ → Lent → Sizes → ℕ → WriteRows → ℕ → ℕ → MapState → Type 0
Unlocking w l z v ws i n goal = Going (unlock_key address_size w) (Always {X = ℕ}) l z v (rest_keys ws i n) goal

abbrev pub Installing : ℕ → ℕ → Lent → Sizes → ℕ → WriteRows → ℕ → ℕ → MapState → Type 0
Installing c t l z v ws i n goal = Going (install_row address_size c t) Installable l z v (rest ws i n) goal

few_slots : standard.waiting_limit < slot_count
few_slots = omega arith

module _ (w : ℕ) (ws : WriteRows) (n v : ℕ) where
  pub lock_start : (l : Lent) (z : Sizes) → MapHeld l z v → Lockable (map_of l z) (writes_of ws n)
      → Locking w l z v ws 0 n (lock_all w (map_of l z) (writes_of ws n))
  unfolding lock_all
  lock_start l z h t =
      record {
        tables = h.tables;
        run = ap (λ (rs : List (Row Write)). with_slots (map_of l z) (each (lock_row address_size w) (slots_of l.slots) rs)) (rest_all ws n);
        inv = subst (LockRoom (slots_of l.slots)) (sym (rest_all ws n)) (lock_room standard (map_of l z) (writes_of ws n) few_slots t.once t.waiting);
      }

  pub lock_fits : {l : Lent} {z : Sizes} {goal : MapState} (i : ℕ) → Locking w l z v ws i n goal → length (entries (slots_of l.slots)) < slot_count
  lock_fits i q = lt_of_le_of_lt (entry_count q.tables.words.good (keys (rest ws i n))) q.inv.room

  pub lock_on : {l l' : Lent} {z r : Sizes} {goal : MapState} (i : ℕ) → i < n → Locking w l z v ws i n goal
      → ContentSet l l' z r v (lock_row address_size w (slots_of l.slots) (write_at ws i)) → Locking w l' r v ws (i + 1) n goal
  lock_on i h q s = going_on (locking address_size w) (write_at ws i) (rest ws i n) (rest ws (i + 1) n) (rest_cons ws i n h) q s

  pub lock_end : {l l' : Lent} {z r : Sizes} (i : ℕ) → n ≤ i → MapHeld l z v → Lockable (map_of l z) (writes_of ws n)
      → Locking w l' r v ws i n (lock_all w (map_of l z) (writes_of ws n))
      → MapBecomes l' r v (lock_all w (map_of l z) (writes_of ws n))
  lock_end i e h t q =
      becomes q.tables (going_end (rest_none ws i n e) q)
      (lock_bounded h.bounded few_slots w (writes_of ws n) t.once t.waiting t.addresses)

  pub unlock_start : (l : Lent) (z : Sizes) → MapHeld l z v → Unlocking w l z v ws 0 n (unlock_all w (map_of l z) (keys (writes_of ws n)))
  unfolding unlock_all
  unlock_start l z h =
      record {
        tables = h.tables;
        run = ap (λ (ks : List ℕ). with_slots (map_of l z) (each (unlock_key address_size w) (slots_of l.slots) ks)) (keys_all ws n);
        inv = tt;
      }

  pub unlock_on : {l l' : Lent} {z r : Sizes} {goal : MapState} (i : ℕ) → i < n → Unlocking w l z v ws i n goal
      → ContentSet l l' z r v (unlock_key address_size w (slots_of l.slots) (write_at ws i).key) → Unlocking w l' r v ws (i + 1) n goal
  unlock_on i h q s = going_on (unlocking address_size w) (write_at ws i).key (rest_keys ws i n) (rest_keys ws (i + 1) n) (keys_cons ws i n h) q s

  pub unlock_end : {l l' : Lent} {z r : Sizes} (i : ℕ) → n ≤ i → MapHeld l z v → Unlocking w l' r v ws i n (unlock_all w (map_of l z) (keys (writes_of ws n)))
      → MapBecomes l' r v (unlock_all w (map_of l z) (keys (writes_of ws n)))
  unlock_end i e h q = becomes q.tables (going_end (keys_none ws i n e) q) (unlock_bounded h.bounded w (keys (writes_of ws n)))

module _ (w t : ℕ) (ws : WriteRows) (n v : ℕ) where
  -- w is the commit number, t the install
  pub install_start : (l : Lent) (z : Sizes) → MapHeld l z v → Installable (slots_of l.slots) (writes_of ws n)
      → Installing w t l z v ws 0 n (install_all w t (map_of l z) (writes_of ws n))
  unfolding install_all
  install_start l z h f =
      record {
        tables = h.tables;
        run = ap (λ (rs : List (Row Write)). with_slots (map_of l z) (each (install_row address_size w t) (slots_of l.slots) rs)) (rest_all ws n);
        inv = subst (Installable (slots_of l.slots)) (sym (rest_all ws n)) f;
      }

  pub install_busy : {l : Lent} {z : Sizes} {goal : MapState} (i : ℕ) → i < n → Installing w t l z v ws i n goal
      → is_idle (content_of (slots_of l.slots) (write_at ws i).key) ≡ false
  install_busy i h q =
      q.inv.held (write_at ws i).key
      (ap (λ (rs : List (Row Write)). present (look rs (write_at ws i).key)) (rest_cons ws i n h)
      ∙ ap present (look_here (write_at ws i) (rest ws (i + 1) n) (write_at ws i).key refl))

  pub install_on : {l l' : Lent} {z r : Sizes} {goal : MapState} (i : ℕ) → i < n → Installing w t l z v ws i n goal
      → ContentSet l l' z r v (install_row address_size w t (slots_of l.slots) (write_at ws i)) → Installing w t l' r v ws (i + 1) n goal
  install_on i h q s = going_on (installing address_size w t) (write_at ws i) (rest ws i n) (rest ws (i + 1) n) (rest_cons ws i n h) q s

  pub install_end : {l l' : Lent} {z r : Sizes} (i : ℕ) → n ≤ i → MapHeld l z v → Installable (slots_of l.slots) (writes_of ws n)
      → Installing w t l' r v ws i n (install_all w t (map_of l z) (writes_of ws n))
      → MapBecomes l' r v (install_all w t (map_of l z) (writes_of ws n))
  install_end i e h f q = becomes q.tables (going_end (rest_none ws i n e) q) (install_bounded h.bounded w t (writes_of ws n) f)
