-- What is asked and promised of putting an answer into words: its five, and the records of a scan or a portion.
use Rattle.std.specs.Prelude.{ℕ, Result, ◌+◌, ◌*◌, ◌≤◌, List, [], ◌∷◌, length}
use Rattle.spec.specs.Steps.{shortest}
use Rattle.buffers.specs.Buffers.{Buffers, places_of}
use Rattle.exports.specs.Exporting.{ExportAnswer, places_written}
use Rattle.spec.specs.declared.Refusal.{Refusal}
use Rattle.engine.specs.declared.steps.Told.{Told}
use Rattle.engine.specs.Performs.{places_in}
use Rattle.codes.specs.declared.Coded.{Coded}

-- the five words of every answer
abbrev pub head_words : Coded → List ℕ
head_words a = a.number ∷ a.told ∷ a.value ∷ a.beside ∷ a.examined ∷ []

-- There is room for a reply: a scan's places are in the buffers, and its words in the answer buffer.
pub record Roomy (p : Result Told Refusal) (b : Buffers) (out : List ℕ) (at : ℕ) : Type 0 where
  pub places : places_in p ≤ shortest (places_of b)
  pub words : at + 5 + 3 * places_in p ≤ length out

-- ... for the answer of an export step
pub record ExportRoomy (p : ExportAnswer) (b : Buffers) (out : List ℕ) (at : ℕ) : Type 0 where
  pub places : places_written p ≤ shortest (places_of b)
  pub words : at + 5 + 3 * places_written p ≤ length out
