-- A walk over the slots that stops at some entries and passes the others.
use Rattle.std.specs.Prelude.{ℕ, Bool, true, false, ◌<◌, ◌≤◌, ◌≡◌, ◌⊎◌, get_or}
use Rattle.std.proofs.Common.{le_refl, arith, ⊎_elim}
use Rattle.lists.specs.Tests.{less}
use Rattle.lists.specs.TestLaws.{cases, less_true, less_false}
use Rattle.spec.specs.Slots.{slot_count, empty_slot, vacant}
use Rattle.indexlet.specs.declared.Slot.{Slot as SlotWords}
use Rattle.indexlet.specs.Words.{slots_of}
use Rattle.indexlet.specs.Promises as indexlet
use Rattle.map.specs.Views.{SlotRows}

-- slot i has no entry, or it was read and the walk does not stop there
abbrev pub Unmet : SlotRows → (SlotWords → Bool → Type 0) → ℕ → Type 0
Unmet slots stops i = (vacant (get_or (slots_of slots) i empty_slot) ≡ true) ⊎ ((s : SlotWords) × indexlet.IsSlot slots i s × stops s false)

-- The walk stops at none of the slots from `from` up to, not including, j.
pub record Passed (slots : SlotRows) (stops : SlotWords → Bool → Type 0) (from j : ℕ) : Type 0 where
  pub forth : from ≤ j
  pub there : j ≤ slot_count
  pub unmet : (i : ℕ) → from ≤ i → i < j → Unmet slots stops i

module _ {slots : SlotRows} {stops : SlotWords → Bool → Type 0} {from : ℕ} where
  pub passed_none : from ≤ slot_count → Passed slots stops from from
  passed_none h = record { forth = le_refl from; there = h; unmet = λ i a b. absurd (let q : ⊥ = omega arith in q) }

  pub passed_join : {i j : ℕ} → Passed slots stops from i → Passed slots stops i j → Passed slots stops from j
  passed_join {i} {j} k l =
      let a : from ≤ i = k.forth in
      let b : i ≤ j = l.forth in
      record {
        forth = omega arith;
        there = l.there;
        unmet = λ x c d. ⊎_elim (λ t. k.unmet x c (less_true x i t)) (λ t. l.unmet x (less_false x i t) d) (cases (less x i));
      }
