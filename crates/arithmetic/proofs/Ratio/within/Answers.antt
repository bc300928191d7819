-- `arithmetic::Ratio::within` meets its contract, by the three ways of `Ways`.
use mathlib.Core.Path.{sym, ◌∙◌, ap₂}
use native.Mathlib.Omega.{arith}
use lib.IntN.{ℤ}
use Rattle.integers.proofs.Casts.{back_of, back_pos}
use Rattle.arithmetic.specs.Outcome.{Outcome, gives}
use Rattle.arithmetic.specs.declared.Fraction.{Fraction}
use Rattle.arithmetic.proofs.Ways.{wide_num, wide_den, narrow}
use Rattle.arithmetic.proofs.Ratio.within.Goals.{then-self-gt-LIMIT-via-then-self-gt-LIMIT, then-self-gt-LIMIT-via-else-self-gt-LIMIT+then-self-gt-LIMIT-2}
use Rattle.arithmetic.proofs.Ratio.within.Goals as goal

pub returns-then-self-gt-LIMIT : goal.returns-then-self-gt-LIMIT
returns-then-self-gt-LIMIT c =
    let q = c.args.self in
    elim c.then-self-gt-LIMIT.branch [
      | then-self-gt-LIMIT-via-then-self-gt-LIMIT w ↦ sym (wide_num q.negative q.top q.bottom (omega arith))
      | then-self-gt-LIMIT-via-else-self-gt-LIMIT+then-self-gt-LIMIT-2 w ↦ sym (wide_den q.negative q.top q.bottom (omega arith) (omega arith))
    ]

pub returns : goal.returns
returns c =
    let q = c.args.self in
    let n = c.signed.result in
    ap₂ {A = ℤ} {B = ℤ} {C = Outcome Fraction} (λ x y. gives (record { num = x; den = y }))
    (back_of n c.signed.type_inv ∙ c.signed.ensures)
    (back_pos (omega arith))
    ∙ sym (narrow q.negative q.top q.bottom (omega arith) (omega arith))
