-- `portion` meets its contract.
use Rattle.std.proofs.Common.{ℕ, ◌-◌, min, length, ap, ◌∙◌}
use Rattle.buffers.specs.Buffers.{buffers}
use Rattle.exports.specs.StepLaws.{opened_held, no_portion, least_is, gives}
use Rattle.exports.proofs.portion.Goals as goal

pub returns-in_default : goal.returns-in_default
returns-in_default c = λ contents bs. no_portion contents _ _ c.requires _ c.in_default.is

pub returns : goal.returns
returns c = λ contents bs. gives (opened_held c.in-Some.is c.requires) (least_is (buffers c.args.addresses.now c.args.values.now c.args.owners.now) (c.in-Some.open.count - c.in-Some.open.taken) c.min-n.result
    (c.min-n.ensures ∙ ap (λ (m : ℕ). min m (length c.args.owners.now)) (c.min-2.ensures ∙ ap (λ (m : ℕ). min m (length c.args.values.now)) c.min.ensures))) contents _ bs c.in-Some.is c.give.ensures
