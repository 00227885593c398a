-- `exporting::take_export` meets its contract: without meaning, full, or taken.
use Rattle.codes.specs.ExportCodeLaws.{export_lends}
use Rattle.replay.specs.FitLaws.{fits_yes, fits_no}
use Rattle.replay.specs.RunLaws.{export_unmeant, export_full, export_roomy, export_taken}
use Rattle.replay.proofs.exporting.take_export.Goals as goal
use Rattle.std.specs.Prelude.{not}
use Rattle.std.proofs.Math.Path.{ap}

pub returns-then-not-fits : goal.returns-then-not-fits
returns-then-not-fits c = export_full _ _ _ _ _ c.requires.slots_len_bound.1 c.requires.at_in_bounds.0 c.requires.at_in_bounds.1 c.decode_export.ensures c.in-Some.is (fits_no _ _ c.fits.ensures (ap not c.if-not-fits.true))

pub perform_export-told-requires-clause-lends_to : goal.perform_export-told-requires-clause-lends_to
perform_export-told-requires-clause-lends_to c = (export_lends _ _ c.decode_export.ensures c.in-Some.is)

pub put_export_words-requires : goal.put_export_words-requires
put_export_words-requires c = export_roomy _ _ _ _ _ c.requires.slots_len_bound.1 c.requires.at_in_bounds.0 c.requires.at_in_bounds.1 c.decode_export.ensures c.in-Some.is
    (fits_yes _ _ c.fits.ensures (ap not c.if-not-fits.false)) (export_lends _ _
    c.decode_export.ensures c.in-Some.is) c.perform_export-told.ensures

pub returns-else-not-fits : goal.returns-else-not-fits
returns-else-not-fits c = export_taken _ _ _ _ _ c.requires.slots_len_bound.1 c.requires.at_in_bounds.0 c.requires.at_in_bounds.1 c.decode_export.ensures c.in-Some.is
    (fits_yes _ _ c.fits.ensures (ap not c.if-not-fits.false)) (export_lends _ _
    c.decode_export.ensures c.in-Some.is) c.perform_export-told.ensures
    c.put_export_words.ensures

pub returns-in-None : goal.returns-in-None
returns-in-None c = export_unmeant _ _ _ _ _ c.requires.slots_len_bound.1 c.requires.at_in_bounds.0 c.requires.at_in_bounds.1 c.decode_export.ensures c.in-None.is
