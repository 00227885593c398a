-- How wide an address is, and the number that names a worker; in the code: `Address`, `ADDRESS_BYTES`, `ADDRESSES` and `WORKER_NAMES`.
use Rattle.std.specs.Prelude.{ℕ, ◌*◌, ◌^◌}

-- bytes of an address
abbrev pub address_size : ℕ
address_size = 4

-- how many addresses there are: each is below
abbrev pub addresses : ℕ
addresses = 2 ^ (8 * address_size)

-- how many numbers name a worker (document 01: a seat), 32 bits wide, whether there is such a worker or not
abbrev pub worker_names : ℕ
worker_names = 2 ^ 32
