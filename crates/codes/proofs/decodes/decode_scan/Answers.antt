-- `decodes::decode_scan` meets its contract: at each return the tests say what the code means.
use Rattle.codes.specs.CodeLaws.{scan_wide, scan_unlent, scan_meant}
use Rattle.codes.proofs.decodes.decode_scan.Goals as goal

pub returns-then-k-ge-ADDRESSES : goal.returns-then-k-ge-ADDRESSES
returns-then-k-ge-ADDRESSES c = scan_wide _ _ c.if-k-ge-ADDRESSES.true

pub returns-then-not-places_lent : goal.returns-then-not-places_lent
returns-then-not-places_lent c = scan_unlent _ _ c.places_lent.ensures c.if-not-places_lent.true c.if-k-ge-ADDRESSES.false

pub returns : goal.returns
returns c = rw c.wanted.ensures (scan_meant _ _ c.places_lent.ensures c.if-not-places_lent.false c.if-k-ge-ADDRESSES.false)
