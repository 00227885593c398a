-- `validates::differs` meets its contract: by presence, then payload, then commit number.
use Rattle.commits.specs.Validates.{differ_payloads, differ_stamps, differ_none, differ_gone, differ_new}
use Rattle.commits.proofs.validates.differs.Goals as goal

pub returns-then-not-same_payload : goal.returns-then-not-same_payload
returns-then-not-same_payload c =
    let r = c.in-Some-Some in differ_payloads _ _ r.is-0 r.is-1 c.same_payload.ensures c.if-not-same_payload.true

pub returns-else-not-same_payload : goal.returns-else-not-same_payload
returns-else-not-same_payload c =
    let r = c.in-Some-Some in differ_stamps _ _ r.is-0 r.is-1 c.same_payload.ensures c.if-not-same_payload.false

pub returns-in-None-None : goal.returns-in-None-None
returns-in-None-None c = differ_none c.in-None-None.is-0 c.in-None-None.is-1

pub returns-in_default : goal.returns-in_default
returns-in_default c = differ_gone _ c.in_default.is-0 c.in_default.is-1

pub returns-in_default-2 : goal.returns-in_default-2
returns-in_default-2 c = differ_new _ c.in_default.is-0 c.in_default.is-1
