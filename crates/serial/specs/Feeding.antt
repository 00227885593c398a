-- What the plain sorted list holds after transactions were fed to it, by their writes.
--
-- `event_writes` reads the write set off a transaction's events. `list_after_before`, `list_after_other` and `list_after_mine`
-- say what one more installed transaction changes: nothing below its number, nothing at keys that it does not write, and
-- at its own keys, from its number on, its own write, if no writer of the key has a larger number.
use Prim.Native.Nat.{ℕ, zero, suc, ◌<◌, ◌≤◌}
use native.Mathlib.Omega.{arith}
use Rattle.std.specs.Prelude.{◌≡◌, true}
use Rattle.std.proofs.Math.Path.{refl, sym, ap}
use Rattle.std.proofs.Common.{◌∙◌}
use Rattle.std.proofs.Math.Logic.{⊎_elim}
use mathlib.Core.List.{List, [], ◌∷◌, ◌++◌, Memᴰ}
use Rattle.std.proofs.Math.Option.{Option, none, some}
use Rattle.lists.specs.Tests.{pick, maybe, present, same}
use Rattle.lists.specs.TestLaws.{cases, same_true, same_false}
use Rattle.lists.specs.Rows.{Row, row, look, insert, Rising}
use Rattle.lists.specs.RowLaws.{some_not_none, look_insert, look_assign, look_here, look_there, look_nil, rising_assign, rising_nil}
use Rattle.spec.specs.Records.{Record, Write, written, deleted, outcome}
use Rattle.spec.specs.Steps.{Step, Event, Access, read_at, scan_over, put_to, remove_at, access_of}
use Rattle.spec.specs.Sequential.{after_step, Agrees, after_steps, AllAgree, after_access}
use Rattle.spec.specs.Claim.{Transaction, list_after}

-- ---- one transaction

-- the write set after a step of an open transaction
unfoldable pub wrote_by : List (Row Write) → Access → List (Row Write)
wrote_by ws (read_at k) = ws
wrote_by ws (scan_over lo hi b) = ws
wrote_by ws (put_to k p) = insert k (written p) ws
wrote_by ws (remove_at k) = insert k deleted ws

-- the write set after a step
unfoldable pub wrote : List (Row Write) → Step → List (Row Write)
wrote ws s = maybe (access_of s) ws (wrote_by ws)

unfoldable pub writes_from : List (Row Write) → List Event → List (Row Write)
writes_from ws [] = ws
writes_from ws (e ∷ es) = writes_from (wrote ws e.step) es

-- the write set that a transaction's events make
unfoldable pub event_writes : List Event → List (Row Write)
event_writes es = writes_from [] es

-- what a write set, laid over by the transaction numbered n, makes of what stands at a key
abbrev pub laid : ℕ → List (Row Write) → ℕ → Option Record → Option Record
laid n ws k o = maybe (look ws k) o (outcome n)

laid_insert : (n : ℕ) (j : ℕ) (e : Write) (ws : List (Row Write)) (k : ℕ) (o : Option Record)
    → laid n (insert j e ws) k o ≡ pick (same j k) (outcome n e) (laid n ws k o)
laid_insert n j e ws k o =
    ap (λ (x : Option Write). maybe x o (outcome n)) (look_insert j e ws k)
    ∙ ⊎_elim (λ g. rw g) (λ g. rw g) (cases (same j k))

look_accessed : (n : ℕ) (l l' : List (Row Record)) (ws : List (Row Write)) (a : Access)
    → ((k : ℕ) → look l' k ≡ laid n ws k (look l k)) → (k : ℕ) → look (after_access n l' a) k ≡ laid n (wrote_by ws a) k (look l k)
unfolding after_access wrote_by
look_accessed n l l' ws (read_at j) h k = h k
look_accessed n l l' ws (scan_over lo hi b) h k = h k
look_accessed n l l' ws (put_to j p) h k =
    look_assign j (outcome n (written p)) l' k
    ∙ ap (pick (same j k) (outcome n (written p))) (h k)
    ∙ sym (laid_insert n j (written p) ws k (look l k))
look_accessed n l l' ws (remove_at j) h k =
    look_assign j (outcome n deleted) l' k
    ∙ ap (pick (same j k) (outcome n deleted)) (h k)
    ∙ sym (laid_insert n j deleted ws k (look l k))

look_after : (n : ℕ) (l l' : List (Row Record)) (ws : List (Row Write)) (s : Step)
    → ((k : ℕ) → look l' k ≡ laid n ws k (look l k)) → (k : ℕ) → look (after_step n l' s) k ≡ laid n (wrote ws s) k (look l k)
unfolding after_step wrote
look_after n l l' ws s h k = go (access_of s)
  where
    go : (o : Option Access) → look (maybe o l' (after_access n l')) k ≡ laid n (maybe o ws (wrote_by ws)) k (look l k)
    go none = h k
    go (some a) = look_accessed n l l' ws a h k

look_after_from : (n : ℕ) (l l' : List (Row Record)) (ws : List (Row Write)) (es : List Event)
    → ((k : ℕ) → look l' k ≡ laid n ws k (look l k)) → (k : ℕ) → look (after_steps n l' es) k ≡ laid n (writes_from ws es) k (look l k)
unfolding after_steps writes_from
look_after_from n l l' ws [] h k = h k
look_after_from n l l' ws (e ∷ es) h k =
    look_after_from n l (after_step n l' e.step) (wrote ws e.step) es (look_after n l l' ws e.step h) k

-- a transaction's events leave its write set laid over the list
pub look_after_all : (n : ℕ) (l : List (Row Record)) (es : List Event) (k : ℕ)
    → look (after_steps n l es) k ≡ laid n (event_writes es) k (look l k)
unfolding event_writes
look_after_all n l es k =
    look_after_from n l l [] es (λ j. sym (ap (λ (x : Option Write). maybe x (look l j) (outcome n)) (look_nil j))) k

rising_accessed : (n : ℕ) (l : List (Row Record)) (a : Access) → Rising l → Rising (after_access n l a)
unfolding after_access
rising_accessed n l (read_at j) h = h
rising_accessed n l (scan_over lo hi b) h = h
rising_accessed n l (put_to j p) h = rising_assign j (outcome n (written p)) l h
rising_accessed n l (remove_at j) h = rising_assign j (outcome n deleted) l h

rising_after : (n : ℕ) (l : List (Row Record)) (s : Step) → Rising l → Rising (after_step n l s)
unfolding after_step
rising_after n l s h = go (access_of s)
  where
    go : (o : Option Access) → Rising (maybe o l (after_access n l))
    go none = h
    go (some a) = rising_accessed n l a h

pub rising_after_all : (n : ℕ) (l : List (Row Record)) (es : List Event) → Rising l → Rising (after_steps n l es)
unfolding after_steps
rising_after_all n l [] h = h
rising_after_all n l (e ∷ es) h = rising_after_all n (after_step n l e.step) es (rising_after n l e.step h)

-- ---- one event more

pub all_agree_snoc : (n : ℕ) (l : List (Row Record)) (es : List Event) (e : Event)
    → AllAgree n l es → Agrees (after_steps n l es) e.step e.answer → AllAgree n l (es ++ (e ∷ []))
unfolding after_steps AllAgree
all_agree_snoc n l [] e h a = (a, tt)
all_agree_snoc n l (f ∷ es) e h a = (h.0, all_agree_snoc n (after_step n l f.step) es e h.1 a)

writes_from_snoc : (ws : List (Row Write)) (es : List Event) (e : Event)
    → writes_from ws (es ++ (e ∷ [])) ≡ wrote (writes_from ws es) e.step
unfolding writes_from
writes_from_snoc ws [] e = refl
writes_from_snoc ws (f ∷ es) e = writes_from_snoc (wrote ws f.step) es e

pub writes_of_snoc : (es : List Event) (e : Event) → event_writes (es ++ (e ∷ [])) ≡ wrote (event_writes es) e.step
unfolding event_writes
writes_of_snoc es e = writes_from_snoc [] es e

pub writes_of_nil : event_writes [] ≡ []
unfolding event_writes writes_from
writes_of_nil = refl

-- ---- all transactions

pub look_member : {A : Type 0} (ts : List (Row A)) (n : ℕ) (t : A) → look ts n ≡ some t → Memᴰ (row n t) ts
look_member [] n t e = absurd (some_not_none (sym e ∙ look_nil n))
look_member (r ∷ ts) n t e =
    ⊎_elim
    (λ g. Memᴰ.head (here (same_true r.key n g)))
    (λ g. Memᴰ.tail (look_member ts n t (sym (look_there r ts n (same_false r.key n g)) ∙ e)))
    (cases (same r.key n))
  where
    here : r.key ≡ n → row n t ≡ r
    here q =
        let a : some r.item ≡ some t = sym (look_here r ts n q) ∙ e in
        let b : r.item ≡ t = cc in
        λ i. record { key = sym q i; item = sym b i }

-- the list after one number more
pub list_after_none : (ts : List (Row Transaction)) (m : ℕ) → look ts (suc m) ≡ none → list_after ts (suc m) ≡ list_after ts m
unfolding list_after
list_after_none ts m e = rw e

rising_fed : (o : Option Transaction) (n : ℕ) (l : List (Row Record)) → Rising l
    → Rising (maybe o l (λ (t : Transaction). after_steps n l t.events))
rising_fed none n l h = h
rising_fed (some t) n l h = rising_after_all n l t.events h

pub rising_list_after : (ts : List (Row Transaction)) (m : ℕ) → Rising (list_after ts m)
unfolding list_after
rising_list_after ts zero = rising_nil Record
rising_list_after ts (suc m) = rising_fed (look ts (suc m)) (suc m) (list_after ts m) (rising_list_after ts m)

-- what stands at a key after the transaction that may have the number
fed : Option Transaction → ℕ → ℕ → Option Record → Option Record
fed none n k o = o
fed (some t) n k o = laid n (event_writes t.events) k o

look_fed : (x : Option Transaction) (n : ℕ) (l : List (Row Record)) (k : ℕ)
    → look (maybe x l (λ (t : Transaction). after_steps n l t.events)) k ≡ fed x n k (look l k)
unfolding fed
look_fed none n l k = refl
look_fed (some t) n l k = look_after_all n l t.events k

look_list_after : (ts : List (Row Transaction)) (m k : ℕ)
    → look (list_after ts (suc m)) k ≡ fed (look ts (suc m)) (suc m) k (look (list_after ts m) k)
unfolding list_after
look_list_after ts m k = look_fed (look ts (suc m)) (suc m) (list_after ts m) k

-- no transaction that writes the key has number n or a larger one
abbrev pub NoLaterWriter : ℕ → List (Row Transaction) → ℕ → Type 0
NoLaterWriter n ts k =
    (r : Row Transaction) → Memᴰ r ts → present (look (event_writes r.item.events) k) ≡ true → r.key < n

-- ---- one transaction more, numbered n, of which `ts` has none

module _ (n : ℕ) (t : Transaction) (ts : List (Row Transaction)) where
  -- below its number nothing changes
  pub list_after_before : (m : ℕ) → m < n → list_after (row n t ∷ ts) m ≡ list_after ts m
  unfolding list_after
  list_after_before zero h = refl
  list_after_before (suc m) h =
      ap (λ (o : Option Transaction). maybe o (list_after (row n t ∷ ts) m) (λ (x : Transaction). after_steps (suc m) (list_after (row n t ∷ ts) m) x.events))
      (look_there (row n t) ts (suc m) (λ q. omega arith))
      ∙ ap (λ (l : List (Row Record)). maybe (look ts (suc m)) l (λ (x : Transaction). after_steps (suc m) l x.events))
      (list_after_before m (omega arith))

  -- at a key that it does not write nothing changes
  pub list_after_other : look ts n ≡ none → (k : ℕ) → look (event_writes t.events) k ≡ none
      → (m : ℕ) → look (list_after (row n t ∷ ts) m) k ≡ look (list_after ts m) k
  unfolding fed
  list_after_other new k w zero = unfold list_after in refl
  list_after_other new k w (suc m) =
      look_list_after (row n t ∷ ts) m k
      ∙ ⊎_elim
      (λ g.
      let q : n ≡ suc m = same_true n (suc m) g in
      ap (λ (o : Option Transaction). fed o (suc m) k (look (list_after (row n t ∷ ts) m) k)) (look_here (row n t) ts (suc m) q)
      ∙ ap (λ (o : Option Write). maybe o (look (list_after (row n t ∷ ts) m) k) (outcome (suc m))) w
      ∙ list_after_other new k w m
      ∙ sym (ap (λ (o : Option Transaction). fed o (suc m) k (look (list_after ts m) k)) (ap (look ts) (sym q) ∙ new)))
      (λ g.
      ap (λ (o : Option Transaction). fed o (suc m) k (look (list_after (row n t ∷ ts) m) k)) (look_there (row n t) ts (suc m) (same_false n (suc m) g))
      ∙ ap (fed (look ts (suc m)) (suc m) k) (list_after_other new k w m))
      (cases (same n (suc m)))
      ∙ sym (look_list_after ts m k)

  later_fed : (k : ℕ) → NoLaterWriter n ts k → (m : ℕ) → n ≤ m → (x : Option Transaction) → look ts m ≡ x
      → (o : Option Record) → fed x m k o ≡ o
  unfolding fed
  later_fed k h m l none e o = refl
  later_fed k h m l (some x) e o = go (look (event_writes x.events) k) refl
    where
      go : (y : Option Write) → look (event_writes x.events) k ≡ y → laid m (event_writes x.events) k o ≡ o
      go none q = rw q
      go (some y) q =
          absurd (let p : m < n = h (row m x) (look_member ts m x e) (ap present q) in let z : ⊥ = omega arith in z)

  -- at a key that it writes, and no writer of which has a larger number, its write stands from its number on
  pub list_after_mine : (k : ℕ) (e : Write) → look (event_writes t.events) k ≡ some e → NoLaterWriter n ts k
      → (m : ℕ) → 1 ≤ n → n ≤ m → look (list_after (row n t ∷ ts) m) k ≡ outcome n e
  unfolding fed
  list_after_mine k e w h zero p l = absurd (let z : ⊥ = omega arith in z)
  list_after_mine k e w h (suc m) p l =
      look_list_after (row n t ∷ ts) m k
      ∙ ⊎_elim
      (λ g.
      let q : n ≡ suc m = same_true n (suc m) g in
      ap (λ (o : Option Transaction). fed o (suc m) k (look (list_after (row n t ∷ ts) m) k)) (look_here (row n t) ts (suc m) q)
      ∙ ap (λ (o : Option Write). maybe o (look (list_after (row n t ∷ ts) m) k) (outcome (suc m))) w
      ∙ ap (λ (i : ℕ). outcome i e) (sym q))
      (λ g.
      let d : n ≡ suc m → ⊥ = same_false n (suc m) g in
      ap (λ (o : Option Transaction). fed o (suc m) k (look (list_after (row n t ∷ ts) m) k)) (look_there (row n t) ts (suc m) d)
      ∙ later_fed k h (suc m) l (look ts (suc m)) refl (look (list_after (row n t ∷ ts) m) k)
      ∙ list_after_mine k e w h m p (omega arith))
      (cases (same n (suc m)))
