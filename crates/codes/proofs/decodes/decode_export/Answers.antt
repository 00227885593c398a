-- `decodes::decode_export` meets its contract: by the number of its kind.
use mathlib.Core.Path.{◌∙◌}
use Rattle.lists.specs.Tests.{same}
use Rattle.codes.specs.ExportCodeLaws.{export_kind, export_other}
use Rattle.std.proofs.Common.{arith}
use Rattle.codes.proofs.decodes.decode_export.Goals as goal

pub returns-in-11 : goal.returns-in-11
unfolding same
returns-in-11 c = export_kind _ _ _ 11 c.in-11.is

pub returns-in-12 : goal.returns-in-12
unfolding same
returns-in-12 c = c.decode_portion.ensures ∙ export_kind _ _ _ 12 c.in-12.is

pub returns-in-13 : goal.returns-in-13
unfolding same
returns-in-13 c = c.decode_file.ensures ∙ export_kind _ _ _ 13 c.in-13.is

pub returns-in-14 : goal.returns-in-14
unfolding same
returns-in-14 c = export_kind _ _ _ 14 c.in-14.is

pub returns-in_default : goal.returns-in_default
returns-in_default c = export_other _ _ _ (omega arith) (omega arith) (omega arith) (omega arith)
