-- `solutions::objectives::objectives_of` meets its contract: the objectives before solution j are worked out.
use Rattle.std.specs.Prelude.{◌≡◌, Err, IfErr}
use Rattle.std.proofs.Common.{sym, ap, subst, ◌∙◌, rules, arith}
use Rattle.rules.specs.Rows.{objective}
use Rattle.encoding.specs.Encodes.{solution_at}
use Rattle.encoding.proofs.EncodesLaws.{maximize_is, solutions_are}
use Rattle.solutions.specs.Points.{IsTooWide, left_says}
use Rattle.encoding.specs.Claims.{end_says}
use Rattle.solutions.specs.Objectives.{ObjectivesSay}
use Rattle.solutions.proofs.LeftSides.{left_fraction}
use Rattle.solutions.proofs.ObjectivesLaws.{worked_on, worked_stop, worked_end}
use Rattle.solutions.proofs.objectives.objectives_of.Goals as goal

pub returns-in_err-o : goal.returns-in_err-o
returns-in_err-o c =
    λ tree e f.
    let stopped : c.from_residual.result ≡ Err c.in_err-o.field-0.0 = search rules in
    subst (ObjectivesSay tree (end_says c.args.to_reach)) (sym stopped) (
      worked_stop tree _ (c.loop-j.invariant tree e f) (omega (arith, c.loop-j-test.true, solutions_are e))
          (sym (c.objective_at.ensures.says tree e c.loop-j-test.true) ∙ ap left_says c.in_err-o.was),
      subst (λ r. IfErr r IsTooWide) c.in_err-o.was c.objective_at.ensures.reason,
    )

pub loop-j-preserved : goal.loop-j-preserved
loop-j-preserved c =
    λ tree e f.
    let s = solution_at tree c.loop-j.j in
    let g = c.loop-j.invariant tree e f in
    let o = sym (c.objective_at.ensures.says tree e c.loop-j-test.true) ∙ ap left_says c.in_ok-o.was in
    worked_on tree _ g (omega (arith, c.loop-j-test.true, solutions_are e)) o
    (c.with-best.ensures tree.objective.direction g.values (c.sense_towards-sense.ensures tree.objective.direction (maximize_is e)) f (left_fraction s.name.place s.values.terms (objective tree) o) g.best)

pub returns : goal.returns
returns c = λ tree e f. worked_end tree _ (c.loop-j.invariant tree e f) (omega (arith, c.loop-j-test.false, solutions_are e))
