-- How payloads and records are read off their words.
use Rattle.std.specs.Prelude.{ℕ, ◌%◌, ◌<◌, Option as Optional, Some, None}
use Rattle.std.proofs.Math.Option.{Option, none, some}
use Rattle.spec.specs.Records.{Payload, Record}
use Rattle.spec.specs.declared.PayloadWords.{PayloadWords}
use Rattle.spec.specs.declared.RecordWords.{RecordWords}

-- how many owners there are: 16 bits (request 106)
abbrev pub owners : ℕ
owners = 65536

-- the lowest 16 bits of the owner's word count
abbrev pub payload_in : PayloadWords → Payload
payload_in p = record { value = p.value; owner = p.owner % owners }

abbrev pub no_payload : PayloadWords
no_payload = record { value = 0; owner = 0 }

-- the record of its words
abbrev pub record_of_words : RecordWords → Record
record_of_words r = record { payload = payload_in r.payload; commit = r.commit }

-- an option of the code, and what is in it as f reads it
abbrev pub option_in : {A B : Type 0} → (A → B) → Optional A → Option B
option_in f None = none
option_in f (Some a) = some (f a)

-- a record, if one is present
abbrev pub record_in : Optional RecordWords → Option Record
record_in o = option_in record_of_words o
