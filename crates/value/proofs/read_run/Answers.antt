-- `value::read_run` meets its contract. The loop's invariant: the bytes from `from` up to `next` are digits, and `digits` is
-- `start` with them after it (`Reading`). The measure is what is left of the token.
-- Assumes nothing.
use mathlib.Core.Path.{sym, ◌∙◌}
use native.Mathlib.Omega.{arith}
use Rattle.numerals.proofs.Numbers.{digit_bounds}
use Rattle.value.proofs.Runs.{reading_goes, reading_ends, stops_there, stops_past}
use Rattle.value.proofs.read_run.Goals as goal

-- the byte is a digit
pub overflow_sub-token : goal.overflow_sub-token
overflow_sub-token c = omega (arith, (digit_bounds _ (sym c.is_digit.ensures ∙ c.if-is_digit.true)).0)

pub with-digits-requires : goal.with-digits-requires
with-digits-requires c =
    let h = c.loop-next.invariant.bounded in
    (omega (arith, h.short), h.small, omega (arith, (digit_bounds _ (sym c.is_digit.ensures ∙ c.if-is_digit.true)).1))

pub loop-next-preserved : goal.loop-next-preserved
loop-next-preserved c =
    reading_goes _ _ _ _ _ c.loop-next.invariant c.with-digits.result c.loop-next-test.true (sym c.is_digit.ensures ∙ c.if-is_digit.true) c.with-digits.ensures

pub returns-else-is_digit : goal.returns-else-is_digit
returns-else-is_digit c =
    reading_ends _ _ _ _ _ c.loop-next.invariant
    (stops_there _ _ c.loop-next-test.true (sym c.is_digit.ensures ∙ c.if-is_digit.false))

pub returns-after-loop-next : goal.returns-after-loop-next
returns-after-loop-next c = reading_ends _ _ _ _ _ c.loop-next.invariant (stops_past _ _ c.loop-next-test.false)
