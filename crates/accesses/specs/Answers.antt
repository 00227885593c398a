-- How the answers of a read are read as the model's.
use Rattle.std.specs.Prelude.{◌%◌, Result, Ok, Err, Some, None, Option as Optional}
use Rattle.std.proofs.Math.Option.{Option, none, some}
use Rattle.spec.specs.Records.{Payload}
use Rattle.spec.specs.Payloads.{owners}
use Rattle.spec.specs.declared.PayloadWords.{PayloadWords}
use Rattle.spec.specs.declared.Refusal.{Refusal}
use Rattle.spec.specs.Steps.{Answer, refused, found}
use Rattle.accesses.specs.declared.reads.ReadValue.{ReadValue}
use Rattle.accesses.specs.declared.reads.Found.{Found}

-- a payload in words, as a read tells it
abbrev pub told : PayloadWords → ReadValue
told p = record { value = p.value; owner = p.owner % owners }

-- what is found, if anything is
abbrev pub value_in : Optional ReadValue → Option Payload
value_in (Some v) = some (record { value = v.value; owner = v.owner })
value_in None = none

-- document 01's answer of a read that finds this
abbrev pub found_by : Found → Answer
found_by f = found (value_in f.value) f.examined

-- document 01's answer
abbrev pub read_answer : Result Found Refusal → Answer
read_answer (Ok f) = found_by f
read_answer (Err r) = refused r
