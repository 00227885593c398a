-- `stops::fits` meets its contract: the least of the places wanted against a third of the room.
use Rattle.std.proofs.Common.{◌∙◌, ap, min}
use Rattle.spec.specs.Steps.{shortest}
use Rattle.replay.specs.FitLaws.{fits_few, fits_least}
use Rattle.replay.proofs.stops.fits.Goals as goal

pub returns-then-room-lt5 : goal.returns-then-room-lt5
returns-then-room-lt5 c = fits_few _ _ c.if-room-lt5.true

pub returns : goal.returns
unfolding shortest
returns c = fits_least _ _ c.if-room-lt5.false (c.min-least.ensures ∙ ap (λ n. min n c.args.wanted.owners) c.min.ensures)
