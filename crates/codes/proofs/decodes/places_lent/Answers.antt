-- `decodes::places_lent` meets its contract: each buffer, one after the other.
use Rattle.codes.specs.CodeLaws.{lent_addresses, lent_values, lent_owners}
use Rattle.codes.proofs.decodes.places_lent.Goals as goal

pub returns-then-addresses-lent : goal.returns-then-addresses-lent
returns-then-addresses-lent c = lent_addresses _ _ c.if-addresses-lent.true

pub returns-then-values-lent : goal.returns-then-values-lent
returns-then-values-lent c = lent_values _ _ c.if-values-lent.true c.if-addresses-lent.false

pub returns : goal.returns
returns c = lent_owners _ _ c.if-values-lent.false c.if-addresses-lent.false
