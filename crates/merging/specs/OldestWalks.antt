-- A walk over the slots for the pending write that has waited longest.
use Rattle.std.specs.Prelude.{ℕ, zero, suc, ◌+◌, ◌-◌, ◌<◌, ◌≤◌, ◌≡◌, Bool, not, List, [], ◌∷◌, ltb, eqb, length, get_or, drop}
use Rattle.std.proofs.Common.{le_refl, ⊎_elim, arith, ◌∙◌, subst, eqb-true, drop_of_length-le, drop-cons}
use Rattle.std.proofs.Math.Path.{refl, sym, ap}
use Rattle.std.proofs.Math.Bool.{true, false}
use Rattle.std.specs.Prelude.{Option as Found, Some, None}
use Rattle.std.proofs.Math.Option.{Option, none, some}
use Rattle.std.proofs.lemmas.Bool.{eqb-false}
use Rattle.lists.specs.Tests.{pick, either, both, maybe, present, same, less}
use Rattle.lists.specs.TestLaws.{clash, same_yes, same_no, less_no}
use Rattle.lists.specs.Rows.{Row, row}
use Rattle.spec.specs.Widths.{addresses}
use Rattle.spec.specs.Slots.{slot_count, Pending, Content, is_idle, Slot, empty_slot, vacant, entries}
use Rattle.spec.specs.Maps.{ages, older, oldest_of, oldest_key}
use Rattle.indexlet.specs.declared.Content.{Content as ContentWords}
use Rattle.indexlet.specs.declared.Slot.{Slot as SlotWords}
use Rattle.indexlet.specs.Words.{pending_in, content_in, slot_in, slots_of}
use Rattle.indexlet.specs.WordLaws.{length_slots, idle_waiting}
use Rattle.indexlet.specs.Promises as indexlet
use Rattle.merging.specs.SlotWalks.{Passed}
use Rattle.merging.specs.declared.oldest.Oldest.{Oldest}

-- the oldest so far, as the model has it
abbrev pub oldest_so : Found Oldest → Option (Row ℕ)
oldest_so None = none
oldest_so (Some o) = some (row o.key o.since)

-- its address, and 0 if there is none
abbrev pub key_so : Found Oldest → ℕ
key_so None = 0
key_so (Some o) = o.key

-- the write at this key, which waits since that install, has waited longer, or is the first one
abbrev pub elder : Found Oldest → ℕ → ℕ → Bool
elder o key since = maybe (oldest_so o) true (λ (a : Row ℕ). older (row key since) a)

-- the address of the oldest of one, if there is one, and of those
abbrev pub oldest_after : Option (Row ℕ) → List (Row ℕ) → ℕ
oldest_after none rs = oldest_key rs
oldest_after (some a) rs = (oldest_of a rs).key

-- the ages of the slots from j on
abbrev ages_from : List Slot → ℕ → List (Row ℕ)
ages_from ss j = ages (entries (drop j ss))

-- The walk went past slot j: the oldest of what it found by then and of the rest stays the same.
pub record Elder (ss : List Slot) (j : ℕ) (o r : Found Oldest) : Type 0 where
  pub same_oldest : oldest_after (oldest_so r) (ages_from ss (j + 1)) ≡ oldest_after (oldest_so o) (ages_from ss j)
  pub narrow : key_so r < addresses

-- the install since which a write waits, the largest number where none does
abbrev pub age_in : ContentWords → ℕ
age_in c = pick (eqb c.kind 0) 18446744073709551615 c.since

-- The slots from `from` up to, not including, j have no write older than o.
pub record Passes (ss : List Slot) (o : Found Oldest) (from j : ℕ) : Type 0 where
  pub forth : from ≤ j
  pub there : j ≤ slot_count
  pub same_oldest : oldest_after (oldest_so o) (ages_from ss j) ≡ oldest_after (oldest_so o) (ages_from ss from)

-- How far the walk is.
pub record Walking (ss : List Slot) (j : ℕ) (o : Found Oldest) : Type 0 where
  pub oldest_is : oldest_after (oldest_so o) (ages_from ss j) ≡ oldest_key (ages (entries ss))
  pub narrow : key_so o < addresses
  pub inside : j ≤ slot_count

-- ---- one slot

-- a slot without a pending write adds no age
ages_past : (s : SlotWords) (ss : List Slot) → s.content.kind ≡ 0 → ages (entries (slot_in s ∷ ss)) ≡ ages (entries ss)
unfolding slot_in entries ages content_in pending_in
ages_past s ss k = go (is_idle (content_in s.content))
  where
    nothing : pending_in s.content.kind s.content.payload s.content.commit s.content.since ≡ none
    nothing = ap (λ (n : ℕ). pending_in n s.content.payload s.content.commit s.content.since) k

    go : (b : Bool) → ages (maybe (pick b none (some (row s.key (content_in s.content)))) (entries ss) (λ (e : Row Content). e ∷ entries ss)) ≡ ages (entries ss)
    go true = refl
    go false = ap (λ (o : Option Pending). maybe o (ages (entries ss)) (λ (p : Pending). row s.key p.since ∷ ages (entries ss))) nothing

-- one with a pending write adds its age
ages_here : (s : SlotWords) (ss : List Slot) → (s.content.kind ≡ 0 → ⊥) → ages (entries (slot_in s ∷ ss)) ≡ row s.key s.content.since ∷ ages (entries ss)
unfolding slot_in entries ages content_in pending_in
ages_here s ss n =
    ap (λ (b : Bool). ages (maybe (pick b none (some (row s.key (content_in s.content)))) (entries ss) (λ (e : Row Content). e ∷ entries ss)))
    (idle_waiting s.content n)
    ∙ go s.content.kind n
  where
    go : (k : ℕ) → (k ≡ 0 → ⊥)
        → maybe (pending_in k s.content.payload s.content.commit s.content.since) (ages (entries ss)) (λ (p : Pending). row s.key p.since ∷ ages (entries ss))
        ≡ row s.key s.content.since ∷ ages (entries ss)
    go zero n = absurd (n refl)
    go (suc zero) n = refl
    go (suc (suc k)) n = refl

module _ (slots : List (List ℕ)) (j : ℕ) (o : Found Oldest) (s : SlotWords) (reads : indexlet.IsSlot slots j s) (inside : j < slot_count) (narrow : key_so o < addresses) where
  from_here : ages_from (slots_of slots) j ≡ ages (entries (slot_in s ∷ drop (j + 1) (slots_of slots)))
  from_here =
      let z : length (slots_of slots) ≡ slot_count = length_slots slots in
      let n : suc j ≡ j + 1 = omega arith in
      ap (λ (ss : List Slot). ages (entries ss))
      (drop-cons (slots_of slots) j empty_slot (omega arith)
      ∙ ap (λ (t : Slot). t ∷ drop (suc j) (slots_of slots)) (sym reads.slot)
      ∙ ap (λ (i : ℕ). slot_in s ∷ drop i (slots_of slots)) n)

  -- nothing is pending there
  pub elder_past : s.content.kind ≡ 0 → Elder (slots_of slots) j o o
  elder_past k =
      record {
        same_oldest = ap (oldest_after (oldest_so o)) (sym (from_here ∙ ages_past s (drop (j + 1) (slots_of slots)) k));
        narrow = narrow;
      }

  rest : List (Row ℕ)
  rest = ages_from (slots_of slots) (j + 1)

  mine : Row ℕ
  mine = row s.key s.content.since

  from_mine : (s.content.kind ≡ 0 → ⊥) → ages_from (slots_of slots) j ≡ mine ∷ rest
  unfolding mine rest
  from_mine n = from_here ∙ ages_here s (drop (j + 1) (slots_of slots)) n

  -- what is pending there is the oldest by now
  pub elder_here : (s.content.kind ≡ 0 → ⊥) → elder o s.key s.content.since ≡ true
      → Elder (slots_of slots) j o (Some (record { key = s.key; since = s.content.since }))
  unfolding mine rest oldest_key oldest_of
  elder_here n e =
      record {
        same_oldest = go (oldest_so o) e ∙ sym (ap (oldest_after (oldest_so o)) (from_mine n));
        narrow = reads.narrow (idle_waiting s.content n);
      }
    where
      go : (a : Option (Row ℕ)) → maybe a true (λ (x : Row ℕ). older mine x) ≡ true → (oldest_of mine rest).key ≡ oldest_after a (mine ∷ rest)
      go none e = refl
      go (some a) e = sym (ap (λ (b : Bool). (oldest_of (pick b mine a) rest).key) e)

  -- or it is younger
  pub elder_stays : (s.content.kind ≡ 0 → ⊥) → elder o s.key s.content.since ≡ false → Elder (slots_of slots) j o o
  unfolding mine rest oldest_key oldest_of
  elder_stays n e =
      record {
        same_oldest = go (oldest_so o) e ∙ sym (ap (oldest_after (oldest_so o)) (from_mine n));
        narrow = narrow;
      }
    where
      go : (a : Option (Row ℕ)) → maybe a true (λ (x : Row ℕ). older mine x) ≡ false → oldest_after a rest ≡ oldest_after a (mine ∷ rest)
      go none e = clash refl e
      go (some a) e = sym (ap (λ (b : Bool). (oldest_of (pick b mine a) rest).key) e)

-- ---- the test

module _ (o : Oldest) (key since : ℕ) where
  pub elder_tie : since ≡ o.since → ltb key o.key ≡ elder (Some o) key since
  unfolding older less
  elder_tie e =
      sym
      (ap (λ (b : Bool). either b (both (same since o.since) (less key o.key))) (less_no {m = since} {n = o.since} (omega arith))
      ∙ ap (λ (b : Bool). both b (less key o.key)) (same_yes {m = since} {n = o.since} e))

  pub elder_time : (since ≡ o.since → ⊥) → ltb since o.since ≡ elder (Some o) key since
  unfolding older less
  elder_time d =
      sym
      (ap (λ (b : Bool). either (less since o.since) (both b (less key o.key))) (same_no {m = since} {n = o.since} d) ∙ go (less since o.since))
    where
      go : (b : Bool) → either b false ≡ b
      go true = refl
      go false = refl

-- ---- slots that are passed

pub passes_none : (ss : List Slot) (o : Found Oldest) (from : ℕ) → from ≤ slot_count → Passes ss o from from
passes_none ss o from h = record { forth = le_refl from; there = h; same_oldest = refl }

-- slot i has no write older than o
abbrev Younger : List Slot → Found Oldest → ℕ → Type 0
Younger ss o i = oldest_after (oldest_so o) (ages_from ss (i + 1)) ≡ oldest_after (oldest_so o) (ages_from ss i)

younger_empty : (slots : List (List ℕ)) (o : Found Oldest) (i : ℕ) → i < slot_count → vacant (get_or (slots_of slots) i empty_slot) ≡ true → Younger (slots_of slots) o i
unfolding vacant entries ages
younger_empty slots o i h t =
    let z : length (slots_of slots) ≡ slot_count = length_slots slots in
    let n : suc i ≡ i + 1 = omega arith in
    sym (ap (λ (ss : List Slot). oldest_after (oldest_so o) (ages (entries ss))) (drop-cons (slots_of slots) i empty_slot (omega arith))
    ∙ go (get_or (slots_of slots) i empty_slot).entry t
    ∙ ap (λ (m : ℕ). oldest_after (oldest_so o) (ages_from (slots_of slots) m)) n)
  where
    go : (e : Option (Row Content)) → not (present e) ≡ true
        → oldest_after (oldest_so o) (ages (maybe e (entries (drop (suc i) (slots_of slots))) (λ (x : Row Content). x ∷ entries (drop (suc i) (slots_of slots)))))
        ≡ oldest_after (oldest_so o) (ages_from (slots_of slots) (suc i))
    go none t = refl
    go (some e) t = clash t refl

younger_read : (slots : List (List ℕ)) (j : ℕ) (o : Oldest) (s : SlotWords) → indexlet.IsSlot slots j s → j < slot_count → o.key < addresses
    → o.since < age_in s.content → Younger (slots_of slots) (Some o) j
unfolding less
younger_read slots j o s reads inside narrow l = (go (eqb s.content.kind 0) refl).same_oldest
  where
    younger : o.since < s.content.since → elder (Some o) s.key s.content.since ≡ false
    younger h =
        sym (elder_time o s.key s.content.since (λ e. let q : ⊥ = omega arith in q))
        ∙ less_no {m = s.content.since} {n = o.since} (omega arith)

    go : (b : Bool) → eqb s.content.kind 0 ≡ b → Elder (slots_of slots) j (Some o) (Some o)
    go true e = elder_past slots j (Some o) s reads inside narrow (eqb-true s.content.kind 0 e)
    go false e =
        elder_stays slots j (Some o) s reads inside narrow (eqb-false s.content.kind 0 e)
        (younger (subst (λ (x : ℕ). o.since < x) (ap (λ (b : Bool). pick b 18446744073709551615 s.content.since) e) l))

-- as many slots as d from `from` on
younger_run : (ss : List Slot) (o : Found Oldest) (from d : ℕ) → ((i : ℕ) → from ≤ i → i < from + d → Younger ss o i)
    → oldest_after (oldest_so o) (ages_from ss (from + d)) ≡ oldest_after (oldest_so o) (ages_from ss from)
younger_run ss o from zero f = ap (λ (n : ℕ). oldest_after (oldest_so o) (ages_from ss n)) (let e : from + 0 ≡ from = omega arith in e)
younger_run ss o from (suc d) f =
    ap (λ (n : ℕ). oldest_after (oldest_so o) (ages_from ss n)) (let e : from + suc d ≡ from + d + 1 = omega arith in e)
    ∙ f (from + d) (omega arith) (omega arith)
    ∙ younger_run ss o from d (λ i a b. f i a (omega arith))

pub passes_passed : {slots : List (List ℕ)} {o : Oldest} {from j : ℕ} {stops : SlotWords → Bool → Type 0}
    → o.key < addresses → ((s : SlotWords) → stops s false → o.since < age_in s.content) → Passed slots stops from j → Passes (slots_of slots) (Some o) from j
passes_passed {slots} {o} {from} {j} narrow f p =
    let a : from ≤ j = p.forth in
    let b : j ≤ slot_count = p.there in
    record {
      forth = a;
      there = b;
      same_oldest =
          ap (λ (n : ℕ). oldest_after (oldest_so (Some o)) (ages_from (slots_of slots) n)) (let e : j ≡ from + (j - from) = omega arith in e)
          ∙ younger_run (slots_of slots) (Some o) from (j - from)
          (λ i c d.
          let h : i < slot_count = omega arith in
          ⊎_elim (younger_empty slots (Some o) i h) (λ w. younger_read slots i o w.0 w.1 h narrow (f w.0 w.2)) (p.unmet i c (omega arith)));
    }

pub passes_walk : {ss : List Slot} {from j : ℕ} {o : Found Oldest} → Walking ss from o → Passes ss o from j → Walking ss j o
passes_walk w p = record { oldest_is = p.same_oldest ∙ w.oldest_is; narrow = w.narrow; inside = p.there }

-- ---- the walk

pub oldest_start : (ss : List Slot) → Walking ss 0 None
oldest_start ss = record { oldest_is = refl; narrow = omega arith; inside = omega arith }

pub oldest_on : {ss : List Slot} {j : ℕ} {o r : Found Oldest} → j < slot_count → Walking ss j o → Elder ss j o r → Walking ss (j + 1) r
oldest_on h w e = record { oldest_is = e.same_oldest ∙ w.oldest_is; narrow = e.narrow; inside = omega arith }

pub oldest_end : (slots : List (List ℕ)) {j : ℕ} {o : Found Oldest} → slot_count ≤ j → Walking (slots_of slots) j o → key_so o ≡ oldest_key (ages (entries (slots_of slots)))
unfolding oldest_key oldest_of entries ages
oldest_end slots {j} {o} h w =
    sym (ap (λ (ss : List Slot). oldest_after (oldest_so o) (ages (entries ss))) (drop_of_length-le (slots_of slots) {i = j} (subst (λ (n : ℕ). n ≤ j) (sym (length_slots slots)) h)) ∙ go o)
    ∙ w.oldest_is
  where
    go : (x : Found Oldest) → oldest_after (oldest_so x) [] ≡ key_so x
    go None = refl
    go (Some x) = refl
