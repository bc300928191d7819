-- `exponents::read_digits` meets its contract. The loop's invariant: `number` stands for the digits so far, and with those that
-- are left they spell the number of all (`Counting`).
-- Assumes nothing.
use mathlib.Core.Path.{sym, ◌∙◌}
use native.Mathlib.Omega.{arith}
use Rattle.numerals.proofs.Numbers.{digit_bounds}
use Rattle.exponents.proofs.ExponentLaws.{counting_goes}
use Rattle.exponents.proofs.read_digits.Goals as goal

-- the byte is a digit
pub overflow_sub-b : goal.overflow_sub-b
overflow_sub-b c = omega (arith, (digit_bounds _ (sym c.is_digit.ensures ∙ c.if-not-is_digit.false)).0)

pub with_digit-number-requires : goal.with_digit-number-requires
with_digit-number-requires c = omega (arith, (digit_bounds _ (sym c.is_digit.ensures ∙ c.if-not-is_digit.false)).1)

pub loop-b-preserved : goal.loop-b-preserved
loop-b-preserved c =
    counting_goes _ _ _ c.loop-b.invariant c.loop-b-test.true (sym c.is_digit.ensures ∙ c.if-not-is_digit.false) _ c.with_digit-number.ensures
