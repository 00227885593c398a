-- `decodes::decode_portion` meets its contract: by the test of its places.
use Rattle.std.proofs.Common.{sym, ◌∙◌, true, false}
use Rattle.codes.specs.ExportCodeLaws.{portion_by}
use Rattle.codes.proofs.decodes.decode_portion.Goals as goal

pub returns-then-not-places_lent : goal.returns-then-not-places_lent
returns-then-not-places_lent c = portion_by _ _ false (sym c.if-not-places_lent.true ∙ c.places_lent.ensures)

pub returns : goal.returns
returns c = rw c.wanted.ensures (portion_by _ _ true (sym c.if-not-places_lent.false ∙ c.places_lent.ensures))
