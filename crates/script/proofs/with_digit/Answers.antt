-- `script::with_digit` meets its contract: the byte is no digit, or it is one, and there is room for it or not.
use Rattle.std.proofs.Common.{refl, sym, ◌∙◌, arith, inl, inr}
use Rattle.script.proofs.Digit.{digit_told, with_room}
use Rattle.script.proofs.with_digit.Goals as goal

pub returns-then-not-is_ascii_digit : goal.returns-then-not-is_ascii_digit
returns-then-not-is_ascii_digit c = inl (digit_told _ ∙ sym c.is_ascii_digit.ensures.value ∙ c.if-not-is_ascii_digit.true)

pub returns-then-n-lt-TENTH : goal.returns-then-n-lt-TENTH
returns-then-n-lt-TENTH c = (digit_told _ ∙ sym c.is_ascii_digit.ensures.value ∙ c.if-not-is_ascii_digit.false, refl)

pub returns-in_err-checked_mul : goal.returns-in_err-checked_mul
returns-in_err-checked_mul c = rw c.from_residual.ensures (inr (omega (arith, c.in_err-checked_mul.ensures)))

pub returns-in_ok-checked_mul : goal.returns-in_ok-checked_mul
returns-in_ok-checked_mul c =
    with_room c.checked_add.result _ _ _ c.in_ok-checked_mul.ensures.1
    (digit_told _ ∙ sym c.is_ascii_digit.ensures.value ∙ c.if-not-is_ascii_digit.false) c.checked_add.ensures
