-- The constant table as the code has it: its rule at each entry, and its inverse.
use Rattle.std.specs.Prelude.{ℕ, ◌+◌, ◌*◌, ◌%◌, ◌<◌, ◌≡◌, refl, List, get_or}
use Rattle.std.proofs.Common.{sym, ap, ◌∙◌}
use Rattle.lists.specs.Tabulation.{tab_from, tab}
use Rattle.lists.specs.Shifts.{get_or_tab}
use Rattle.spec.specs.Slots.{slot_count, table_entry}

-- the table as a list. antt computes it where it meets the literal of the code: that is the test of all 256 numbers.
abbrev pub table : List ℕ
table = tab table_entry slot_count

-- entry i is `table_entry i`
pub table_at : (i : ℕ) → i < slot_count → get_or table i 0 ≡ table_entry i
table_at i h = get_or_tab table_entry slot_count i 0 h

-- the inverse of the table
abbrev pub table_back : ℕ → ℕ
table_back y = 23 * (y + 243) % slot_count

there_and_back : tab (λ (i : ℕ). table_back (table_entry i)) slot_count ≡ tab (λ (i : ℕ). i) slot_count
unfolding tab tab_from table_entry
there_and_back = refl

back_and_there : tab (λ (y : ℕ). table_entry (table_back y)) slot_count ≡ tab (λ (y : ℕ). y) slot_count
unfolding tab tab_from table_entry
back_and_there = refl

at_place : (f g : ℕ → ℕ) → tab f slot_count ≡ tab g slot_count → (i : ℕ) → i < slot_count → f i ≡ g i
at_place f g e i h = sym (get_or_tab f slot_count i 0 h) ∙ ap (λ (l : List ℕ). get_or l i 0) e ∙ get_or_tab g slot_count i 0 h

-- The table is a permutation of the numbers below 256: each is the entry of one place and of no other.
pub table_back_lem : (i : ℕ) → i < slot_count → table_back (table_entry i) ≡ i
table_back_lem i h = at_place (λ (i : ℕ). table_back (table_entry i)) (λ (i : ℕ). i) there_and_back i h

pub table_onto : (y : ℕ) → y < slot_count → table_entry (table_back y) ≡ y
table_onto y h = at_place (λ (y : ℕ). table_entry (table_back y)) (λ (y : ℕ). y) back_and_there y h
