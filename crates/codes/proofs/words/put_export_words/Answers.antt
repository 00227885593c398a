-- `words::put_export_words` meets its contract: five words, and a portion's records.
use Rattle.codes.specs.ExportCodeLaws.{wrote_export}
use Rattle.codes.proofs.words.put_export_words.Goals as goal

pub returns : goal.returns
returns c = wrote_export _ _ c.encode_export.ensures c.given.ensures c.put_head-next.ensures c.put_rows.ensures
