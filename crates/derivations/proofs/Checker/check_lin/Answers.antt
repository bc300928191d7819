-- `derivations::Checker::check_lin` meets its contract: the suitable combination, and what it dominates.
use Rattle.std.proofs.Common.{ℕ, ◌∙◌, ap}
use Rattle.rules.specs.Result.{Result, bind}
use Rattle.rules.specs.Rows.{Constraint}
use Rattle.rules.specs.Combinations.{suitable_combination}
use Rattle.rules.specs.Derivations.{check_dominates, check_lin}
use Rattle.verdicts.specs.Verdicts.{verdict_says}
use Rattle.derivations.proofs.Refusals.{handed_up}
use Rattle.derivations.proofs.ReasonsLaws.{suitable_sense_by, suitable_made, bound_fraction, fetched_are}
use Rattle.derivations.proofs.Checker.check_lin.Goals as goal

pub returns-in_err-sense : goal.returns-in_err-sense
unfolding check_lin
returns-in_err-sense c =
    λ tree r ms e l m.
    let g = fetched_are c.of-multipliers.ensures.rows c.of-multipliers.ensures.factors m in
    ap verdict_says (handed_up c.from_residual.result c.in_err-sense.field-0.0 c.from_residual.ensures.1)
    ∙ ap (λ (u : Result Constraint). bind u (λ d. check_dominates tree d r))
    (suitable_sense_by tree _ g.same (c.in_err-sense.ensures tree e g.below) ∙ ap (λ (p : ℕ). suitable_combination tree p ms) l.is.place_is)

pub returns-in_err-bound : goal.returns-in_err-bound
unfolding check_lin
returns-in_err-bound c =
    λ tree r ms e l m.
    let g = fetched_are c.of-multipliers.ensures.rows c.of-multipliers.ensures.factors m in
    ap verdict_says (handed_up c.from_residual-in_err-bound.result c.in_err-bound.field-0.0 c.from_residual-in_err-bound.ensures.1)
    ∙ ap (λ (u : Result Constraint). bind u (λ d. check_dominates tree d r))
    (suitable_made tree _ g.same _ (c.in_ok-sense.ensures tree e g.below) c.combine-made.result (c.combine-made.ensures.says tree e g.below _) c.in_err-bound.ensures
    ∙ ap (λ (p : ℕ). suitable_combination tree p ms) l.is.place_is)

pub returns : goal.returns
unfolding check_lin
returns c =
    λ tree r ms e l m.
    let g = fetched_are c.of-multipliers.ensures.rows c.of-multipliers.ensures.factors m in
    let f = c.combine-made.ensures.fractions tree e g.below in
    c.check_dominates.ensures tree r l (record { coefficients = f.coefficients; right = bound_fraction _ _ _ c.in_ok-bound.ensures f.right })
    ∙ ap (λ (u : Result Constraint). bind u (λ d. check_dominates tree d r))
    (suitable_made tree _ g.same _ (c.in_ok-sense.ensures tree e g.below) c.combine-made.result (c.combine-made.ensures.says tree e g.below _) c.in_ok-bound.ensures
    ∙ ap (λ (p : ℕ). suitable_combination tree p ms) l.is.place_is)
