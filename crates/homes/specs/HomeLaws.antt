-- Home slots, byte by byte.
use Rattle.std.specs.Prelude.{ℕ, suc, ◌≡◌, refl, List, get_or}
use Rattle.std.specs.Int.{w32, to_be_bytes}
use Rattle.std.proofs.Common.{arith, sym, ap, ◌∙◌}
use Rattle.std.specs.Int.Bits.{bit_xor}
use Rattle.spec.specs.Widths.{address_size}
use Rattle.spec.specs.Slots.{table_entry, byte_of, home_from, home_slot}

-- ---- of any width

-- the highest byte
home_first : (n a b h : ℕ) → b ≡ byte_of a n → h ≡ table_entry b → home_from n a h ≡ home_slot (suc n) a
unfolding home_slot
home_first n a b h e f = ap (home_from n a) (f ∙ ap table_entry e)

-- a byte below, exclusive-or the result so far
home_next : (n a b g h : ℕ) → b ≡ byte_of a n → h ≡ table_entry (bit_xor b g) → home_from n a h ≡ home_from (suc n) a g
unfolding home_from
home_next n a b g h e f = ap (home_from n a) (f ∙ ap (λ (x : ℕ). table_entry (bit_xor x g)) e)

-- the lowest one was the last
home_last : (a h : ℕ) → home_from 0 a h ≡ h
unfolding home_from
home_last a h = refl

-- ---- of this one

-- the bytes of an address, highest first, each but the first exclusive-or the result so far
pub home_steps : (a h3 h2 h1 h0 : ℕ) (bs : List ℕ) → bs ≡ to_be_bytes w32 a → h3 ≡ table_entry (get_or bs 0 0) → h2 ≡ table_entry (bit_xor (get_or bs 1 0) h3)
    → h1 ≡ table_entry (bit_xor (get_or bs 2 0) h2) → h0 ≡ table_entry (bit_xor (get_or bs 3 0) h1) → h0 ≡ home_slot address_size a
home_steps a h3 h2 h1 h0 bs e e3 e2 e1 e0 =
    sym (home_last a h0)
    ∙ home_next 0 a (get_or bs 3 0) h1 h0 (at 3 ∙ (unfold byte_of in omega arith)) e0
    ∙ home_next 1 a (get_or bs 2 0) h2 h1 (at 2 ∙ (unfold byte_of in omega arith)) e1
    ∙ home_next 2 a (get_or bs 1 0) h3 h2 (at 1 ∙ (unfold byte_of in omega arith)) e2
    ∙ home_first 3 a (get_or bs 0 0) h3 (at 0 ∙ (unfold byte_of in omega arith)) e3
  where
    at : (i : ℕ) → get_or bs i 0 ≡ get_or (to_be_bytes w32 a) i 0
    at i = ap (λ (xs : List ℕ). get_or xs i 0) e
