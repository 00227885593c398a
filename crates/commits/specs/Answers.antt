-- How the answers of a validation are read as the model's.
use Rattle.spec.specs.Steps.{Answer, refused, numbered}
use Rattle.std.specs.Prelude.{ℕ, Result, Ok, Err}
use Rattle.spec.specs.declared.Refusal.{Refusal}

-- document 01's answer
abbrev pub validate_in : Result ℕ Refusal → Answer
validate_in (Ok n) = numbered n
validate_in (Err r) = refused r
