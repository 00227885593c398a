-- Request 107 in numbers: what the code of an export step means, and which numbers its answer is.
use Rattle.std.specs.Prelude.{ℕ, Option as Optional, Some, None, List, [], ◌∷◌, length, Ok, Err}
use Rattle.lists.specs.Tests.{pick, same, at_most}
use Rattle.spec.specs.Refusals.{number_of}
use Rattle.spec.specs.Steps.{Places, places}
use Rattle.spec.specs.Exports as model
use Rattle.exports.specs.declared.ExportTold.TheVariants.{Opened, Given, Filed, Closed}
use Rattle.exports.specs.Exporting.{ExportAnswer}
use Rattle.exports.specs.declared.ops.ExportOp.{ExportOp}
use Rattle.exports.specs.declared.ops.ExportOp.TheVariants.{Open, Portion, File, Close}
use Rattle.codes.specs.declared.Code.{Code}
use Rattle.codes.specs.declared.Coded.{Coded}
use Rattle.buffers.specs.declared.Places.{Places as PlaceCounts}
use Rattle.codes.specs.Codes.{places_lent, coded_as, listed_words}

-- ---- steps

-- an export step, and the places that it wants; or no meaning
abbrev pub DecodedExport : Type 0
DecodedExport = Optional (ExportOp × PlaceCounts)

abbrev pub export_meant : ExportOp → Places → DecodedExport
export_meant o w = Some (o, record { addresses = w.addresses; values = w.values; owners = w.owners })

-- a portion: the places that it wants, of lent buffers of m places
unfoldable pub decoded_portion : Places → Code → DecodedExport
decoded_portion m k = pick (places_lent m k) (export_meant Portion (places k.d k.e k.f)) None

-- a file: the bytes that it wants, of n that are lent
unfoldable pub decoded_file : ℕ → Code → DecodedExport
decoded_file n k = pick (at_most k.d n) (export_meant (File k.d) (places 0 0 0)) None

-- What the code of an export step means with lent buffers of m places and n bytes; opening and closing have no number.
unfoldable pub decoded_export : Places → ℕ → Code → DecodedExport
decoded_export m n k =
    pick (same k.kind 11) (export_meant Open (places 0 0 0))
    (pick (same k.kind 12) (decoded_portion m k)
    (pick (same k.kind 13) (decoded_file n k)
    (pick (same k.kind 14) (export_meant Close (places 0 0 0)) None)))

-- ---- answers

-- an answer in numbers; the records of a portion stand in its buffers, the bytes of a file in its own
abbrev pub export_coded_of : ExportAnswer → Coded
export_coded_of (Ok (Opened n)) = coded_as 0 6 n 0 0
export_coded_of (Ok (Given n left)) = coded_as 0 7 n left 0
export_coded_of (Ok (Filed n)) = coded_as 0 8 n 0 0
export_coded_of (Ok Closed) = coded_as 0 0 0 0 0
export_coded_of (Err r) = coded_as (number_of r) 0 0 0 0

-- the model's answer in numbers: as a job's, with what remains after a portion in the fourth, and the records of a portion
unfoldable pub export_words : model.ExportAnswer → List ℕ
export_words (model.declined r) = number_of r ∷ 0 ∷ 0 ∷ 0 ∷ 0 ∷ []
export_words (model.opened n) = 0 ∷ 6 ∷ n ∷ 0 ∷ 0 ∷ []
export_words (model.given rs left) = 0 ∷ 7 ∷ length rs ∷ left ∷ 0 ∷ listed_words rs
export_words (model.filed bs) = 0 ∷ 8 ∷ length bs ∷ 0 ∷ 0 ∷ []
export_words model.closed = 0 ∷ 0 ∷ 0 ∷ 0 ∷ 0 ∷ []
