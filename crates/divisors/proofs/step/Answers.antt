-- `divisors::step` meets its contract, by `stepped_less` and `stepped_greater`.
use Rattle.std.proofs.Common.{refl, arith}
use Rattle.integers.specs.Binary.{stepped_less, stepped_greater, zeros_less, zeros_greater}
use Rattle.divisors.proofs.step.Goals as goal

pub returns-then-x-y : goal.returns-then-x-y
returns-then-x-y c =
    let h = c.requires in
    stepped_less 64 _ _ _ _ h (omega arith) (zeros_less 64 63 _ _ _ h.below-first h.below_second refl (omega (arith, h.below-first)) (omega arith))

pub returns-else-x-y : goal.returns-else-x-y
returns-else-x-y c =
    let h = c.requires in
    stepped_greater 64 _ _ _ _ h (omega arith) (λ l. zeros_greater 64 63 _ _ _ h.below-first h.below_second refl (omega (arith, h.below-first)) l)
