-- Events as runs are written down with them.
use Rattle.std.specs.Prelude.{ℕ, List, [], ◌∷◌, ◌++◌}
use Rattle.spec.specs.Records.{Payload}
use Rattle.spec.specs.Steps.{Step, begin, put, lock, validate, install, Answer, done, numbered, Event}

-- a value without an owner
abbrev pub value : ℕ → Payload
value n = record { value = n; owner = 0 }

-- a step, and the answer that it got
abbrev pub event : Step → Answer → Event
event s a = record { step = s; answer = a }

-- puts of worker w at these addresses
abbrev pub puts_at : ℕ → List ℕ → List Event
puts_at w [] = []
puts_at w (k ∷ ks) = event (put w k (value k)) done ∷ puts_at w ks

-- worker w puts at these addresses, and its transaction takes number n; it is installed
abbrev pub checked : ℕ → ℕ → List ℕ → List Event
checked w n ks = event (begin w) done ∷ puts_at w ks ++ (event (lock w) done ∷ event (validate w) (numbered n) ∷ [])

abbrev pub installed : ℕ → ℕ → List ℕ → List Event
installed w n ks = checked w n ks ++ (event (install w) done ∷ [])
