-- What is a struct to the code, in words: of the globals 1 if the map is guarded, the four sizes, the three counters; of an
-- export its three numbers.
use Rattle.std.specs.Prelude.{ℕ, Option as Optional, Some, None, List, [], ◌∷◌, eqb, length, get_or}
use Rattle.std.proofs.Math.Option.{Option}
use Rattle.lists.specs.Tests.{pick, maybe}
use Rattle.spec.specs.Exports as model
use Rattle.exports.specs.declared.Export.{Export}
use Rattle.transactions.specs.declared.Globals.{Globals}
use Rattle.transactions.specs.Cores.{Core}
use Rattle.transactions.specs.Views.{core_of}

unfoldable pub saved_globals : List ℕ → Globals
saved_globals ws =
    record {
      guarded = get_or ws 0 0;
      sizes = record { records = get_or ws 1 0; leaves = get_or ws 2 0; entries = get_or ws 3 0; outside = get_or ws 4 0 };
      counters = record { number = get_or ws 5 0; version = get_or ws 6 0; installs = get_or ws 7 0 };
    }

-- the core of the words of the workers and those of the globals
abbrev pub saved_core : List ℕ → List ℕ → Core
saved_core workers globals = core_of workers (saved_globals globals)

-- an export: 1 if it is open, how many records it has, how many of them portions have given
unfoldable pub saved_export : List ℕ → Optional Export
saved_export ws = pick (eqb (get_or ws 0 0) 1) (Some (record { count = get_or ws 1 0; taken = get_or ws 2 0 })) None

-- ... and put into words
abbrev pub export_saved : Optional Export → List ℕ
export_saved (Some x) = 1 ∷ x.count ∷ x.taken ∷ []
export_saved None = 0 ∷ 0 ∷ 0 ∷ []

-- the words of the model's export: with none open all are 0
unfoldable pub export_numbers : Option model.Export → List ℕ
export_numbers o = maybe o (0 ∷ 0 ∷ 0 ∷ []) (λ (x : model.Export). 1 ∷ length x.records ∷ x.taken ∷ [])
