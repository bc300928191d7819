-- `divisors::reached` meets its contract: y is 0 or 1.
use Rattle.std.proofs.Common.{arith}
use Rattle.integers.specs.Binary.{going_zero, going_one}
use Rattle.divisors.proofs.reached.Goals as goal

pub with_twos-requires : goal.with_twos-requires
with_twos-requires c = (c.requires.0.positive_x, c.requires.0.positive_y, going_one _ _ _ _ c.requires.1 c.if-p-eq1.true)

pub with_twos-requires-else-p-eq1 : goal.with_twos-requires-else-p-eq1
with_twos-requires-else-p-eq1 c = (c.requires.0.positive_x, c.requires.0.positive_y, going_zero _ _ _ _ c.requires.1 (omega (arith, c.requires.2, c.if-p-eq1.false)))
