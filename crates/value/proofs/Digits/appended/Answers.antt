-- `value::Digits::appended` meets its contract, by the test of how many digits count then.
-- Assumes nothing.
use native.Mathlib.Omega.{arith}
use Rattle.value.proofs.Steps.{appended_wide, appended_fits, appended_narrow}
use Rattle.value.proofs.Digits.appended.Goals as goal

pub returns-then-count-gt-MOST_DIGITS : goal.returns-then-count-gt-MOST_DIGITS
returns-then-count-gt-MOST_DIGITS c = appended_wide _ _ _ c.if-count-gt-MOST_DIGITS.true

-- the number with the digits after it fits
pub overflow_mul-number : goal.overflow_mul-number
overflow_mul-number c =
    let h = appended_fits c.args.self _ _ _ c.power_of_ten.ensures c.if-count-gt-MOST_DIGITS.false c.requires.1 c.requires.2 in
    record { fits = omega (arith, h) }

pub overflow_add-number : goal.overflow_add-number
overflow_add-number c =
    record { fits = appended_fits c.args.self _ _ _ c.power_of_ten.ensures c.if-count-gt-MOST_DIGITS.false c.requires.1 c.requires.2 }

pub returns : goal.returns
returns c = appended_narrow _ _ _ _ c.power_of_ten.ensures c.if-count-gt-MOST_DIGITS.false c.requires.1 c.requires.2
