-- `solutions::points::Point::check_rows` meets its contract: what is left to check, from row r on, gives what all given rows give.
use Rattle.std.specs.Prelude.{◌≡◌, Err}
use Rattle.std.proofs.Common.{sym, ap, ◌∙◌, rules}
use Rattle.rules.specs.Rows.{no_row}
use Rattle.rules.specs.Solutions.{check_row}
use Rattle.verdicts.specs.Verdicts.{verdict_says}
use Rattle.solutions.proofs.LeftSides.{given-row}
use Rattle.solutions.proofs.Lists.{checking_is}
use Rattle.solutions.proofs.points.Point.check_rows.Goals as goal

pub returns-in_err-check_row : goal.returns-in_err-check_row
returns-in_err-check_row c =
    λ tree s e p.
    let row = given-row e c.loop-r-test.true in
    let stopped : c.from_residual.result ≡ Err c.in_err-check_row.field-0.0 = search rules in
    ap verdict_says stopped
    ∙ checking_is (check_row tree s) tree.constraints.rows no_row row.0 (c.loop-r.invariant tree s e p)
    (sym (c.check_row.ensures tree s _ e.in_range.variables_most p row.1) ∙ ap verdict_says c.in_err-check_row.was)

pub loop-r-preserved : goal.loop-r-preserved
loop-r-preserved c =
    λ tree s e p.
    let row = given-row e c.loop-r-test.true in
    checking_is (check_row tree s) tree.constraints.rows no_row row.0 (c.loop-r.invariant tree s e p)
    (sym (c.check_row.ensures tree s _ e.in_range.variables_most p row.1) ∙ ap verdict_says c.in_ok-check_row.was)
