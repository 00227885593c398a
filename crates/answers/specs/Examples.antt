-- Lines that are written for no step: the answer of the line G, and the end.
use Rattle.std.specs.Prelude.{ℕ, ◌≡◌, refl, List, [], ◌∷◌}
use Prim.Native.Char.{code}
use Prim.Native.String.{String}
use Prim.Native.String as text
use Rattle.lists.specs.Tests.{less}
use Rattle.lists.specs.Rows.{row}
use Rattle.spec.specs.Runs.{entry_of}
use Rattle.answers.specs.Output.{digits_within, decimal, field, triple, triples, end_line, guarded_answer}

-- the bytes of a text; every character here is one byte
abbrev bytes : String → List ℕ
bytes text.[] = []
bytes (text.◌∷◌ c s) = code c ∷ bytes s

pub record Written : Type 0 where
  pub guarded : guarded_answer ≡ bytes "G 0\n"
  pub end :
      end_line (entry_of 4096 32 1 ∷ row 4128 (record { payload = record { value = 8; owner = 7 }; commit = 2 }) ∷ []) ≡ bytes "E 2 4096 32 0 4128 8 7\n"
  pub nothing : end_line [] ≡ bytes "E 0\n"

pub written : Written
unfolding less digits_within decimal field triple triples end_line
written = record { guarded = refl; end = refl; nothing = refl }
