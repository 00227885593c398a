-- Document 01, "Map words": addresses, values, records, the limits.
--
-- Addresses, values and numbers are natural numbers: of widths only the limits speak. What a record carries besides its commit
-- number is one type, `Payload`, compared by one test.
use Rattle.std.specs.Prelude.{ℕ, ◌-◌, Bool, true, false}
use Rattle.std.proofs.Math.Option.{Option, none, some}
use Rattle.lists.specs.Tests.{both, same}
use Rattle.spec.specs.Widths.{address_size, addresses}

-- The numbers that arrays are sized by or that all maps share, as document 01 and the requests give them.
pub record Limits : Type 0 where
  pub workers : ℕ  -- seats
  pub read_limit : ℕ  -- record entries of a log
  pub leaf_set_limit : ℕ  -- marks of a log
  pub write_limit : ℕ  -- edited addresses of a job
  pub map_limit : ℕ  -- index, waiting and locked addresses
  pub last_number : ℕ  -- serial numbers end here
  pub bytes : ℕ  -- bytes of an address, for the home slot
  pub highest : ℕ  -- the highest address
  pub longest : ℕ  -- bytes of the longest section of a guarded map

abbrev pub limits : Limits
limits =
    record {
      workers = 8;
      read_limit = 64;
      leaf_set_limit = 32;
      write_limit = 16;
      map_limit = 1024;
      last_number = 1000000;
      bytes = address_size;
      highest = addresses - 1;
      longest = 65536;
    }

-- What a map may have of its own: how many addresses may wait, and when a leaf is cut.
pub record Tuning : Type 0 where
  pub waiting_limit : ℕ  -- waiting and locked addresses
  pub leaf_limit : ℕ  -- records of a leaf that stays whole
  pub run : ℕ  -- records of a run cut off a larger leaf

abbrev pub standard : Tuning
standard = record { waiting_limit = 192; leaf_limit = 16; run = 8 }

-- What a map is made with.
pub record Made : Type 0 where
  pub tuning : Tuning
  pub guarded : Bool  -- from its start on (request 102)

-- a map as document 01 has it, guarded or not
abbrev pub standard_map : Bool → Made
standard_map g = record { tuning = standard; guarded = g }

-- What a put gives a record: document 01's value, and whose section it is (request 106: owner).
pub record Payload : Type 0 where
  pub value : ℕ
  pub owner : ℕ

-- A present record but for its address: the payload, and the commit number of its writer (document 01: stamp).
pub record Record : Type 0 where
  pub payload : Payload
  pub commit : ℕ

-- An edit: put, or gone.
pub data Write : Type 0 where
  written : Payload → Write
  deleted : Write

unfoldable pub is_put : Write → Bool
is_put (written p) = true
is_put deleted = false

-- what a write leaves at its address, under the writer's commit number
unfoldable pub outcome : ℕ → Write → Option Record
outcome n (written p) = some (record { payload = p; commit = n })
outcome n deleted = none

-- what the writer itself sees there
unfoldable pub own_view : Write → Option Payload
own_view (written p) = some p
own_view deleted = none

unfoldable pub payload_of : Option Record → Option Payload
payload_of none = none
payload_of (some r) = some r.payload

unfoldable pub same_payload : Payload → Payload → Bool
same_payload p q = both (same p.value q.value) (same p.owner q.owner)

-- the same presence, payload and commit number
unfoldable pub same_record : Option Record → Option Record → Bool
same_record none none = true
same_record none (some r) = false
same_record (some r) none = false
same_record (some r) (some s) = both (same_payload r.payload s.payload) (same r.commit s.commit)
