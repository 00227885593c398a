-- `decodes::decode_file` meets its contract: by the test of its bytes.
use Rattle.codes.specs.ExportCodeLaws.{file_unlent, file_meant}
use Rattle.codes.proofs.decodes.decode_file.Goals as goal

pub returns-then-size-bytes : goal.returns-then-size-bytes
returns-then-size-bytes c = file_unlent _ c.if-size-bytes.true

pub returns : goal.returns
returns c = file_meant _ c.if-size-bytes.false
