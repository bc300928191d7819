-- `value::read_significant` meets its contract: the run of the digits after the leading zeros.
-- Assumes nothing.
use mathlib.Core.Path.{◌≡◌, subst}
use lib.ListN.{drop}
use Rattle.value.specs.Runs.{RunRead, no_digits}
use Rattle.value.specs.declared.Digits.{Digits}
use Rattle.value.proofs.Runs.{significant_read}
use Rattle.value.proofs.read_significant.Goals as goal

pub returns : goal.returns
returns c =
    let a = c.args in
    let first = c.skip_zeros.result in
    let e = c.default.ensures in
    let none : c.default.result ≡ no_digits = λ i. record { number = e.0 i; count = e.1.0 i; zeros = e.1.1 i } in
    significant_read a.token.now a.from first c.skip_zeros.ensures c.read_run.result
    (subst (λ (d : Digits). RunRead (drop first a.token.now) first d c.read_run.result) none c.read_run.ensures)
