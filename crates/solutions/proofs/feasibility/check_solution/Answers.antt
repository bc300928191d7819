-- `solutions::feasibility::check_solution` meets its contract: the values of integer variables, then the given rows.
use Rattle.std.specs.Prelude.{◌≡◌, Err}
use Rattle.std.proofs.Common.{sym, ap, ◌∙◌, rules}
use Rattle.encoding.specs.Encodes.{solution_at}
use Rattle.verdicts.specs.Verdicts.{verdict_says}
use Rattle.solutions.specs.Points.{IsPoint}
use Rattle.solutions.proofs.LeftSides.{solution_is}
use Rattle.solutions.proofs.feasibility.check_solution.Goals as goal

pub returns-in_err-check_whole : goal.returns-in_err-check_whole
returns-in_err-check_whole c =
    λ tree e lt.
    let s = solution_at tree c.args.j in
    let point : IsPoint c.of-point.result s = c.of-point.ensures _ _ e.in_range.variables_most (e.solution c.args.j lt) in
    let stopped : c.from_residual.result ≡ Err c.in_err-check_whole.field-0.0 = search rules in
    ap verdict_says stopped ∙ solution_is tree s (sym (ap verdict_says c.in_err-check_whole.was) ∙ c.check_whole.ensures s point) (c.integers.ensures ∙ e.integers_are)

pub returns : goal.returns
returns c =
    λ tree e lt.
    let s = solution_at tree c.args.j in
    let point : IsPoint c.of-point.result s = c.of-point.ensures _ _ e.in_range.variables_most (e.solution c.args.j lt) in
    c.check_rows.ensures tree s e point ∙ solution_is tree s (sym (ap verdict_says c.in_ok-check_whole.was) ∙ c.check_whole.ensures s point) (c.integers.ensures ∙ e.integers_are)
