-- The globals are read from their words, and put into them; so are the numbers of an export.
use Rattle.std.specs.Prelude.{ℕ, Option as Optional, Some, None, ◌≡◌, refl, List, [], ◌∷◌}
use Rattle.std.proofs.Common.{sym, ap}
use Rattle.sets.specs.SetLaws.{length_rows}
use Rattle.exports.specs.declared.Export.{Export}
use Rattle.contents.specs.Copies.{copy_row}
use Rattle.exports.specs.Exporting.{ExportedRows, export_in}
use Rattle.transactions.specs.declared.Globals.{Globals}
use Rattle.sections.specs.Saved.{saved_globals, saved_export, export_saved, export_numbers}

-- ---- the globals

abbrev global_words : Globals → List ℕ
global_words c =
    c.guarded ∷ c.sizes.records ∷ c.sizes.leaves ∷ c.sizes.entries ∷ c.sizes.outside
    ∷ c.counters.number ∷ c.counters.version ∷ c.counters.installs ∷ []

pub globals_put : (c : Globals) → saved_globals (global_words c) ≡ c
unfolding saved_globals
globals_put c = refl

-- ---- an export

pub export_put : (x : Optional Export) → saved_export (export_saved x) ≡ x
unfolding saved_export
export_put (Some x) = refl
export_put None = refl

-- the words are those of the model's export
pub numbers_are : (rows : ExportedRows) (x : Optional Export) → export_saved x ≡ export_numbers (export_in rows x)
unfolding export_in export_numbers
numbers_are rows (Some x) = ap (λ (n : ℕ). 1 ∷ n ∷ x.taken ∷ []) (sym (length_rows copy_row rows x.count))
numbers_are rows None = refl
