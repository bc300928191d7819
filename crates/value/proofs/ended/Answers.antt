-- `value::ended` meets its contract: digits to the end, no digit, or digits and then something else.
-- Assumes nothing.
use mathlib.Core.Path.{refl}
use Rattle.std.proofs.Common.{⊎_elim}
use native.Mathlib.Omega.{arith}
use lib.ListN.{drop, length-drop}
use Rattle.numerals.proofs.Numbers.{numeral_none, numeral_part, numeral_whole}
use Rattle.value.proofs.ended.Goals as goal

pub returns-then-token-run : goal.returns-then-token-run
returns-then-token-run c =
    let a = c.args in
    (numeral_whole (drop a.from a.token.now) (omega (arith, length-drop a.from a.token.now)) (λ e. omega (arith, c.if-from-run.true)), refl)

pub returns-else-from-run : goal.returns-else-from-run
returns-else-from-run c =
    let t = drop c.args.from c.args.token.now in
    ⊎_elim (λ h. numeral_part t (omega (arith, h.1, length-drop c.args.from c.args.token.now))) (λ h. numeral_none t (omega (arith, h)))
    c.else-from-run.either
