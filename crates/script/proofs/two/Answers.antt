-- `script::two` meets its contract: the numbers and the letter say which line it is.
use Rattle.lists.specs.Tests.{same}
use Rattle.script.specs.Grammar.{two_numbers}
use Rattle.script.specs.LetterLaws.{two_wide, two_wide', two_letter, two_other}
use Rattle.script.proofs.Narrow.{too_wide}
use Rattle.std.proofs.Common.{arith}
use Rattle.script.proofs.two.Goals as goal

pub returns-in_default : goal.returns-in_default
returns-in_default c = two_wide' _ _ _ (omega (arith, c.in_default.ensures'))

pub returns-in_default-2 : goal.returns-in_default-2
returns-in_default-2 c = two_wide _ _ _ (too_wide _ _ _ c.try_from.ensures c.in_default.is-0)

pub returns-in-82 : goal.returns-in-82
unfolding two_numbers same
returns-in-82 c =
    let h = c.in-Ok-Ok in
    rw (h.ensures.1, h.ensures'.1) (two_letter _ 82 _ _ c.in-82.is h.ensures.0 h.ensures'.0)

pub returns-in-68 : goal.returns-in-68
unfolding two_numbers same
returns-in-68 c =
    let h = c.in-Ok-Ok in
    rw (h.ensures.1, h.ensures'.1) (two_letter _ 68 _ _ c.in-68.is h.ensures.0 h.ensures'.0)

pub returns-in_default-letter : goal.returns-in_default-letter
returns-in_default-letter c =
    let h = c.in-Ok-Ok in
    two_other _ _ _ (omega arith) (omega arith) h.ensures.0 h.ensures'.0
