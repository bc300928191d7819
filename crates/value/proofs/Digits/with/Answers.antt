-- `value::Digits::with` meets its contract: a zero is held back; any other digit counts, with the zeros before it.
-- Assumes nothing.
use Prim.Native.Nat.{◌+◌, ◌*◌, ◌^◌, ◌<◌}
use native.Mathlib.Omega.{arith}
use Rattle.value.proofs.Steps.{longer_zero, one_place, longer_digit, ten_times, ten_times_fits}
use Rattle.value.proofs.Digits.with.Goals as goal

pub returns-then-digit-eq0 : goal.returns-then-digit-eq0
returns-then-digit-eq0 c = longer_zero _ _ c.if-digit-eq0.true c.requires.1

pub overflow_mul-result : goal.overflow_mul-result
overflow_mul-result c =
    let next_fits : c.args.self.number * 10 + c.args.digit < 2 ^ 64 = ten_times_fits _ _ c.if-self-eq0.true c.if-self-lt-MOST_DIGITS.true c.requires.1 c.requires.2 in
    record { fits = omega (arith, next_fits) }

pub overflow_add-result-then-self-lt-MOST_DIGITS : goal.overflow_add-result-then-self-lt-MOST_DIGITS
overflow_add-result-then-self-lt-MOST_DIGITS c =
    let next_fits : c.args.self.number * 10 + c.args.digit < 2 ^ 64 = ten_times_fits _ _ c.if-self-eq0.true c.if-self-lt-MOST_DIGITS.true c.requires.1 c.requires.2 in
    record { fits = next_fits }

pub returns-then-self-lt-MOST_DIGITS : goal.returns-then-self-lt-MOST_DIGITS
returns-then-self-lt-MOST_DIGITS c = longer_digit _ _ c.if-digit-eq0.false _ (ten_times _ _ c.if-self-eq0.true c.if-self-lt-MOST_DIGITS.true c.requires.1 c.requires.2)

pub appended-requires : goal.appended-requires
appended-requires c = (omega arith, c.requires.1, one_place _ _ c.requires.2)

pub returns : goal.returns
returns c = longer_digit _ _ c.if-digit-eq0.false _ c.appended.ensures
