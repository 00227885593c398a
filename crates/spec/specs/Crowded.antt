-- Request 103: 192 addresses whose worst look-up examines 192 slots, in a map never merged (the request's folded), with no
-- transaction ended except by install.
--
-- 191 of them stand in home slots of their own, side by side. The last one has the first of these slots as its home and
-- passes all of them.
use Rattle.std.specs.Prelude.{ℕ, zero, suc, ◌+◌, ◌*◌, ◌/◌, ◌%◌, List, [], ◌∷◌, ◌++◌}
use Rattle.std.proofs.Math.Option.{some}
use Rattle.std.specs.Int.Bits.{bit_xor}
use Rattle.spec.specs.Slots.{table_entry}
use Rattle.spec.specs.Steps.{begin, read, found, Event, done}
use Rattle.spec.specs.Events.{value, event, installed}

-- the address with home slot 13 + i whose second byte is b, the higher two being 0: 23 undoes the table's 167, modulo 256
unfoldable pub homed_at : ℕ → ℕ → ℕ
homed_at i b = 256 * b + bit_xor (23 * i % 256) (table_entry (bit_xor b (table_entry (table_entry 0))))

-- address i of the 192; the last one, 191, is again at home where the first is
unfoldable pub crowded_address : ℕ → ℕ
crowded_address i = homed_at (i % 191) (i / 191)

-- n of them, from address i on
unfoldable pub crowded_addresses : ℕ → ℕ → List ℕ
crowded_addresses i zero = []
crowded_addresses i (suc n) = crowded_address i ∷ crowded_addresses (suc i) n

-- n transactions after the first c, each with as many puts as fit, all installed; then the last address is read
unfoldable pub crowded_from : ℕ → ℕ → List Event
crowded_from c zero =
    event (begin 0) done ∷ event (read 0 (crowded_address 191)) (found (some (value (crowded_address 191))) 192) ∷ []
crowded_from c (suc n) = installed 0 (suc c) (crowded_addresses (16 * c) 16) ++ crowded_from (suc c) n

abbrev pub crowded : List Event
crowded = crowded_from 0 12
