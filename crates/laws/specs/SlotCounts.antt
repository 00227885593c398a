-- The invariant of the indexlet's slots. All of it is counting: the entries of a key, the entries, and the entries that
-- passed a slot are sums over the slots. With it, entries as slots have them and as a list.
use Rattle.std.specs.Prelude.{ℕ, zero, suc, ◌+◌, ◌<◌, ◌≤◌, ◌≡◌, refl, ◌⊎◌, Bool, true, false, length, get_or}
use Rattle.std.proofs.Common.{not-suc-le-zero, le_of_suc-le-suc, arith, sym, ap, ◌∙◌, subst, inl, inr, ⊎_elim}
use mathlib.Core.List.Memᴰ
use mathlib.Core.List.{List, [], ◌∷◌, Memᴰ}
use Rattle.std.proofs.Math.Option.{Option, none, some}
use Rattle.lists.specs.Tests.{pick, maybe, present, same, less}
use Rattle.lists.specs.TestLaws.{cases, clash, same_true, same_yes, same_no, less_true, less_false}
use Rattle.lists.specs.Rows.{Row, look}
use Rattle.lists.specs.RowLaws.{look_here, look_there, look_nil}
use Rattle.lists.specs.Sums.{total, total_at, total_two, total_some, total_most}
use Rattle.lists.specs.Options.{options, both_options}
use Rattle.spec.specs.Slots.{slot_count, home_slot, Content, is_idle, Slot, empty_slot, entries, holds}
use Rattle.laws.specs.Probes.{gap}

-- ---- counting entries

-- the entry of slot i
abbrev pub entry_at : List Slot → ℕ → Option (Row Content)
entry_at ss i = (get_or ss i empty_slot).entry

-- the sum over the slots of a number made of a slot's place and its entry
unfoldable pub tally : (ℕ → Option (Row Content) → ℕ) → List Slot → ℕ
tally g ss = total (λ (i : ℕ) (s : Slot). g i s.entry) ss

-- the same of a number made of the entry alone
abbrev pub count : (Option (Row Content) → ℕ) → List Slot → ℕ
count g ss = tally (λ (i : ℕ). g) ss

-- 1 if there is an entry
abbrev pub filled : Option (Row Content) → ℕ
filled none = 0
filled (some e) = 1

-- 1 if the entry is that of k
abbrev pub keyed : ℕ → Option (Row Content) → ℕ
keyed k none = 0
keyed k (some e) = pick (same e.key k) 1 0

-- 1 if the entry, which stands at slot p, passed slot i on its way from its home slot
abbrev pub passing : ℕ → ℕ → ℕ → Option (Row Content) → ℕ
passing bytes i p none = 0
passing bytes i p (some e) = pick (less (gap (home_slot bytes e.key) i) (gap (home_slot bytes e.key) p)) 1 0

-- The invariant of the slots.
pub record Good (bytes : ℕ) (ss : List Slot) : Type 0 where
  pub size : length ss ≡ slot_count
  -- no address stands in two slots
  pub once : (k : ℕ) → count (keyed k) ss ≤ 1
  -- an entry is waiting or locked
  pub lively : (i : ℕ) (e : Row Content) → entry_at ss i ≡ some e → is_idle e.item ≡ false
  -- a count is the number of the entries that passed the slot
  pub passed : (i : ℕ) → i < slot_count → (get_or ss i empty_slot).overflow ≡ tally (passing bytes i) ss

-- ---- entries, by slot and as a list

pub entries_some : (s : Slot) (ss : List Slot) (e : Row Content) → s.entry ≡ some e → entries (s ∷ ss) ≡ e ∷ entries ss
unfolding entries
entries_some s ss e q = ap (λ (o : Option (Row Content)). maybe o (entries ss) (λ (e : Row Content). e ∷ entries ss)) q

pub entries_none : (s : Slot) (ss : List Slot) → s.entry ≡ none → entries (s ∷ ss) ≡ entries ss
unfolding entries
entries_none s ss q = ap (λ (o : Option (Row Content)). maybe o (entries ss) (λ (e : Row Content). e ∷ entries ss)) q

pub count_cons : (g : Option (Row Content) → ℕ) (s : Slot) (ss : List Slot) → count g (s ∷ ss) ≡ g s.entry + count g ss
unfolding tally total
count_cons g s ss = refl

pub keyed_here : (k : ℕ) (o : Option (Row Content)) (e : Row Content) → o ≡ some e → e.key ≡ k → keyed k o ≡ 1
keyed_here k o e q h = ap (keyed k) q ∙ rw (same_yes {m = e.key} {n = k} h)

pub keyed_there : (k : ℕ) (o : Option (Row Content)) (e : Row Content) → o ≡ some e → (e.key ≡ k → ⊥) → keyed k o ≡ 0
keyed_there k o e q h = ap (keyed k) q ∙ rw (same_no {m = e.key} {n = k} h)

-- an entry that counts for k is one with the key k
keyed_entry : (k : ℕ) (o : Option (Row Content)) → 1 ≤ keyed k o → (e : Row Content) × (o ≡ some e) × (e.key ≡ k)
keyed_entry k none h = absurd (not-suc-le-zero h)
keyed_entry k (some e) h =
    ⊎_elim
    (λ t. (e, refl, same_true e.key k t))
    (λ t. absurd (let z : keyed k (some e) ≡ 0 = rw t in omega arith))
    (cases (same e.key k))

pub length_entries : (ss : List Slot) → length (entries ss) ≡ count filled ss
unfolding entries tally total
length_entries [] = refl
length_entries (s ∷ ss) =
    ⊎_elim
    (λ q. ap (λ (es : List (Row Content)). length es) (entries_none s ss q) ∙ length_entries ss ∙
    (let z : filled s.entry ≡ 0 = ap filled q in omega arith))
    (λ q. ap (λ (es : List (Row Content)). length es) (entries_some s ss q.0 q.1) ∙ ap suc (length_entries ss)
    ∙ (let z : filled s.entry ≡ 1 = ap filled q.1 in omega arith))
    (options s.entry)

-- a key with no entry is not found
pub look_absent : (ss : List Slot) (k : ℕ) → count (keyed k) ss ≡ 0 → look (entries ss) k ≡ none
unfolding entries
look_absent [] k h = look_nil k
look_absent (s ∷ ss) k h =
    let c : keyed k s.entry + count (keyed k) ss ≡ 0 = sym (count_cons (keyed k) s ss) ∙ h in
    let rest : look (entries ss) k ≡ none = look_absent ss k (omega arith) in
    ⊎_elim
    (λ q. ap (λ (es : List (Row Content)). look es k) (entries_none s ss q) ∙ rest)
    (λ q. ap (λ (es : List (Row Content)). look es k) (entries_some s ss q.0 q.1)
    ∙ look_there q.0 (entries ss) k (λ e. absurd (let z : keyed k s.entry ≡ 1 = keyed_here k s.entry q.0 q.1 e in omega arith)) ∙ rest)
    (options s.entry)

-- the entry of a key that stands in no two slots is found
pub look_held : (ss : List Slot) (i k : ℕ) (e : Row Content) → count (keyed k) ss ≤ 1 → i < length ss → entry_at ss i ≡ some e → e.key ≡ k
    → look (entries ss) k ≡ some e.item
unfolding entries tally total
look_held [] i k e c b q h = absurd (not-suc-le-zero b)
look_held (s ∷ ss) zero k e c b q h =
    ap (λ (es : List (Row Content)). look es k) (entries_some s ss e q) ∙ look_here e (entries ss) k h
look_held (s ∷ ss) (suc i) k e c b q h =
    let at : keyed k (entry_at ss i) ≤ count (keyed k) ss = total_at (λ (i : ℕ) (s : Slot). keyed k s.entry) ss i empty_slot (le_of_suc-le-suc b) in
    let one : keyed k (entry_at ss i) ≡ 1 = keyed_here k (entry_at ss i) e q h in
    let c' : keyed k s.entry + count (keyed k) ss ≤ 1 = c in
    let rest : look (entries ss) k ≡ some e.item = look_held ss i k e (omega arith) (le_of_suc-le-suc b) q h in
    ⊎_elim
    (λ n. ap (λ (es : List (Row Content)). look es k) (entries_none s ss n) ∙ rest)
    (λ n. ap (λ (es : List (Row Content)). look es k) (entries_some s ss n.0 n.1)
    ∙ look_there n.0 (entries ss) k (λ g. absurd (let z : keyed k s.entry ≡ 1 = keyed_here k s.entry n.0 n.1 g in omega arith)) ∙ rest)
    (options s.entry)

-- where the entry of a key stands
pub record Place (ss : List Slot) (k : ℕ) : Type 0 where
  pub at : ℕ
  pub inside : at < length ss
  pub content : Row Content
  pub here : entry_at ss at ≡ some content
  pub own : content.key ≡ k

pub place : (ss : List Slot) (k : ℕ) → 1 ≤ count (keyed k) ss → Place ss k
unfolding tally
place ss k h =
    let r = total_some (λ (i : ℕ) (s : Slot). keyed k s.entry) ss empty_slot h in
    let e = keyed_entry k (entry_at ss r.0) r.2 in
    record { at = r.0; inside = r.1; content = e.0; here = e.1; own = e.2 }

-- an entry of the list stands in a slot
pub member_slot : (ss : List Slot) (e : Row Content) → Memᴰ e (entries ss) → (i : ℕ) × (i < length ss) × (entry_at ss i ≡ some e)
unfolding entries
member_slot [] e m = absurd (Memᴰ.not-nil m)
member_slot (s ∷ ss) e m =
    ⊎_elim
    (λ q. later (member_slot ss e (subst (Memᴰ e) (entries_none s ss q) m)))
    (λ q. ⊎_elim
    (λ g. (0, omega arith, q.1 ∙ ap some (sym g)))
    (λ g. later (member_slot ss e g))
    (Memᴰ.cases_cons (subst (Memᴰ e) (entries_some s ss q.0 q.1) m)))
    (options s.entry)
  where
    later : (i : ℕ) × (i < length ss) × (entry_at ss i ≡ some e) → (i : ℕ) × (i < suc (length ss)) × (entry_at (s ∷ ss) i ≡ some e)
    later r = (suc r.0, let z : r.0 < length ss = r.1 in omega arith, r.2)

-- and the entry of a slot is one of the list
pub slot_member : (ss : List Slot) (i : ℕ) (e : Row Content) → entry_at ss i ≡ some e → Memᴰ e (entries ss)
slot_member [] i e q = both_options q refl
slot_member (s ∷ ss) zero e q = subst (Memᴰ e) (sym (entries_some s ss e q)) (Memᴰ.head refl)
slot_member (s ∷ ss) (suc i) e q =
    ⊎_elim
    (λ n. subst (Memᴰ e) (sym (entries_none s ss n)) (slot_member ss i e q))
    (λ n. subst (Memᴰ e) (sym (entries_some s ss n.0 n.1)) (Memᴰ.tail (slot_member ss i e q)))
    (options s.entry)

-- ---- the slot that holds a key

pub keyed_holds : (k : ℕ) (s : Slot) → keyed k s.entry ≡ pick (holds k s) 1 0
unfolding holds
keyed_holds k s = go s.entry
  where
    go : (o : Option (Row Content)) → keyed k o ≡ pick (maybe o false (λ (e : Row Content). same e.key k)) 1 0
    go none = refl
    go (some e) = refl

pub holds_yes : (k : ℕ) (s : Slot) (e : Row Content) → s.entry ≡ some e → e.key ≡ k → holds k s ≡ true
holds_yes k s e q h =
    ⊎_elim (λ t. t)
    (λ t. absurd (let a : keyed k s.entry ≡ 1 = keyed_here k s.entry e q h in
    let b : keyed k s.entry ≡ 0 = keyed_holds k s ∙ rw t in omega arith))
    (cases (holds k s))

pub holds_entry : (k : ℕ) (s : Slot) → holds k s ≡ true → (e : Row Content) × (s.entry ≡ some e) × (e.key ≡ k)
holds_entry k s t = keyed_entry k s.entry (let b : keyed k s.entry ≡ 1 = keyed_holds k s ∙ rw t in omega arith)

pub holds_no : (k : ℕ) (s : Slot) → keyed k s.entry ≡ 0 → holds k s ≡ false
holds_no k s h =
    ⊎_elim (λ t. absurd (let b : keyed k s.entry ≡ 1 = keyed_holds k s ∙ rw t in omega arith)) (λ t. t) (cases (holds k s))

-- no other slot holds the key
pub only_here : (ss : List Slot) (k i j : ℕ) → count (keyed k) ss ≤ 1 → i < length ss → j < length ss
    → holds k (get_or ss i empty_slot) ≡ true → (i ≡ j → ⊥) → holds k (get_or ss j empty_slot) ≡ false
unfolding tally
only_here ss k i j c a b t n =
    let two : keyed k (entry_at ss i) + keyed k (entry_at ss j) ≤ count (keyed k) ss
    = total_two (λ (i : ℕ) (s : Slot). keyed k s.entry) ss i j empty_slot a b n in
    let one : keyed k (entry_at ss i) ≡ 1 = keyed_holds k (get_or ss i empty_slot) ∙ rw t in
    holds_no k (get_or ss j empty_slot) (omega arith)

-- a key with no entry is held by no slot
pub absent_slot : (ss : List Slot) (k i : ℕ) → count (keyed k) ss ≡ 0 → i < length ss → holds k (get_or ss i empty_slot) ≡ false
unfolding tally
absent_slot ss k i c a =
    let at : keyed k (entry_at ss i) ≤ count (keyed k) ss = total_at (λ (i : ℕ) (s : Slot). keyed k s.entry) ss i empty_slot a in
    holds_no k (get_or ss i empty_slot) (omega arith)

-- ---- what a look-up says of the slots

-- a key with no entry, or the place of its entry
pub lookup : (bytes : ℕ) (ss : List Slot) (k : ℕ) → Good bytes ss
    → ((count (keyed k) ss ≡ 0) × (look (entries ss) k ≡ none)) ⊎ ((r : Place ss k) × (look (entries ss) k ≡ some r.content.item))
lookup bytes ss k good =
    ⊎_elim
    (λ t. let r : Place ss k = place ss k (less_true 0 (count (keyed k) ss) t) in
    inr (r, look_held ss r.at k r.content (good.once k) r.inside r.here r.own))
    (λ t. let z : count (keyed k) ss ≡ 0 = (let y : count (keyed k) ss ≤ 0 = less_false 0 (count (keyed k) ss) t in omega arith) in
    inl (z, look_absent ss k z))
    (cases (less 0 (count (keyed k) ss)))

pub absent_count : (bytes : ℕ) (ss : List Slot) (k : ℕ) → Good bytes ss → present (look (entries ss) k) ≡ false → count (keyed k) ss ≡ 0
absent_count bytes ss k good t =
    ⊎_elim (λ q. q.0) (λ q. clash (ap present q.1) t) (lookup bytes ss k good)

pub present_place : (bytes : ℕ) (ss : List Slot) (k : ℕ) → Good bytes ss → present (look (entries ss) k) ≡ true → Place ss k
present_place bytes ss k good t =
    ⊎_elim (λ q. clash t (ap present q.1)) (λ q. q.0) (lookup bytes ss k good)

-- ---- how large a count can be

passing_most : (bytes i p : ℕ) (o : Option (Row Content)) → passing bytes i p o ≤ 1
passing_most bytes i p none = omega arith
passing_most bytes i p (some e) =
    one_or_none (less (gap (home_slot bytes e.key) i) (gap (home_slot bytes e.key) p))
  where
    one_or_none : (t : Bool) → pick t 1 0 ≤ 1
    one_or_none true = omega arith
    one_or_none false = omega arith

filled_most : (o : Option (Row Content)) → filled o ≤ 1
filled_most none = omega arith
filled_most (some e) = omega arith

-- no more entries passed a slot than there are slots
pub overflow_most : {bytes : ℕ} {ss : List Slot} → Good bytes ss → (i : ℕ) → i < slot_count → (get_or ss i empty_slot).overflow ≤ slot_count
unfolding tally
overflow_most {bytes} {ss} good i h =
    let a : (get_or ss i empty_slot).overflow ≡ tally (passing bytes i) ss = good.passed i h in
    let b : tally (passing bytes i) ss ≤ length ss = total_most (λ (n : ℕ) (s : Slot). passing bytes i n s.entry) ss
    (λ n s. passing_most bytes i n s.entry) in
    let c : length ss ≡ slot_count = good.size in
    omega arith

-- nor are there more entries
pub entries_most : (ss : List Slot) → length (entries ss) ≤ length ss
unfolding tally
entries_most ss =
    let a : length (entries ss) ≡ count filled ss = length_entries ss in
    let b : count filled ss ≤ length ss = total_most (λ (n : ℕ) (s : Slot). filled s.entry) ss (λ n s. filled_most s.entry) in
    omega arith
