-- `value::skip_zeros` meets its contract: the zeros that lead what is left of the token.
-- Assumes nothing.
use native.Mathlib.Omega.{arith}
use mathlib.Core.Path.{◌∙◌}
use Rattle.text.proofs.BytesLaws.{led_to, led_le}
use Rattle.numerals.specs.Spelling.{is_zero}
use Rattle.value.proofs.Runs.{part_left}
use Rattle.value.proofs.skip_zeros.Goals as goal

pub overflow_add-result : goal.overflow_add-result
overflow_add-result c =
    let a = c.args in
    omega (arith, led_le is_zero a.from a.token.now c.zeros.ensures (c.part.ensures.bytes ∙ part_left a.from a.token.now))

pub returns : goal.returns
returns c =
    let a = c.args in
    led_to is_zero a.from a.token.now c.zeros.ensures (c.part.ensures.bytes ∙ part_left a.from a.token.now)
