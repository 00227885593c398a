-- `script::three` meets its contract: the letter and the numbers say which line it is.
use Rattle.script.specs.LetterLaws.{three_wide, three_wide', three_scan, three_scan_wide, three_other}
use Rattle.script.proofs.Narrow.{too_wide}
use Rattle.std.proofs.Common.{arith}
use Rattle.script.proofs.three.Goals as goal

pub returns-in-83-Ok-Ok-Ok : goal.returns-in-83-Ok-Ok-Ok
returns-in-83-Ok-Ok-Ok c =
    let h = c.in-83-Ok-Ok-Ok in
    rw (h.ensures.1, h.ensures'.1, h.ensures''.1) (three_scan _ _ _ _ h.is-0 h.ensures.0 h.ensures'.0 h.ensures''.0)

pub returns-in_default : goal.returns-in_default
returns-in_default c =
    let h = c.in_default in
    three_scan_wide _ _ _ _ h.is-0 h.ensures.0 h.ensures'.0 (omega (arith, h.ensures''))

pub returns-in_default-2 : goal.returns-in_default-2
returns-in_default-2 c = three_wide' _ _ _ _ (too_wide _ _ _ c.try_from-2.ensures c.in_default.is-2)

pub returns-in_default-3 : goal.returns-in_default-3
returns-in_default-3 c = three_wide _ _ _ _ (too_wide _ _ _ c.try_from.ensures c.in_default.is-1)

pub returns-in_default-4 : goal.returns-in_default-4
returns-in_default-4 c = three_other _ _ _ _ c.in_default.is-0.1
