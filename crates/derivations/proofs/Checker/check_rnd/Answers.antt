-- `derivations::Checker::check_rnd` meets its contract: the suitable combination, whether it can be rounded, and what it then dominates.
use Rattle.std.proofs.Common.{ℕ, refl, ◌∙◌, ap}
use Rattle.rules.specs.Result.{Result, bind, ◌and_then◌, require}
use Rattle.rules.specs.Rows.{Constraint}
use Rattle.rules.specs.Combinations.{suitable_combination}
use Rattle.rules.specs.Rounding.{can_be_rounded, rounded}
use Rattle.rules.specs.Derivations.{check_dominates, check_rnd}
use Rattle.senses.specs.Senses.{sense_is, constraint_by}
use Rattle.linear.specs.Coefficients.{coefficients_of}
use Rattle.verdicts.specs.Verdicts.{verdict_says}
use Rattle.derivations.proofs.Refusals.{handed_up, require_is, then_on}
use Rattle.derivations.proofs.ReasonsLaws.{suitable_sense_by, suitable_made, bound_fraction, fetched_are}
use Rattle.derivations.proofs.Checker.check_rnd.Goals as goal

pub returns-in_err-sense : goal.returns-in_err-sense
unfolding check_rnd
returns-in_err-sense c =
    λ tree r ms h l m.
    let g = fetched_are c.of-multipliers.ensures.rows c.of-multipliers.ensures.factors m in
    ap verdict_says (handed_up c.from_residual.result c.in_err-sense.field-0.0 c.from_residual.ensures.1)
    ∙ ap (λ (u : Result Constraint). bind u (λ d. require (can_be_rounded tree d) 14 r.name.place and_then check_dominates tree (rounded d) r))
    (suitable_sense_by tree _ g.same (c.in_err-sense.ensures tree h.encodes g.below) ∙ ap (λ (p : ℕ). suitable_combination tree p ms) l.is.place_is)

pub returns-in_err-bound : goal.returns-in_err-bound
unfolding check_rnd
returns-in_err-bound c =
    λ tree r ms h l m.
    let g = fetched_are c.of-multipliers.ensures.rows c.of-multipliers.ensures.factors m in
    ap verdict_says (handed_up c.from_residual-in_err-bound.result c.in_err-bound.field-0.0 c.from_residual-in_err-bound.ensures.1)
    ∙ ap (λ (u : Result Constraint). bind u (λ d. require (can_be_rounded tree d) 14 r.name.place and_then check_dominates tree (rounded d) r))
    (suitable_made tree _ g.same _ (c.in_ok-sense.ensures tree h.encodes g.below) c.combine-made.result (c.combine-made.ensures.says tree h.encodes g.below _) c.in_err-bound.ensures
    ∙ ap (λ (p : ℕ). suitable_combination tree p ms) l.is.place_is)

pub returns-in_err-require : goal.returns-in_err-require
unfolding check_rnd
returns-in_err-require c =
    λ tree r ms h l m.
    let g = fetched_are c.of-multipliers.ensures.rows c.of-multipliers.ensures.factors m in
    let made : Constraint = constraint_by (coefficients_of c.combine-made.result.coefficients) c.in_ok-bound.bound in
    ap verdict_says (handed_up c.from_residual-in_err-require.result c.in_err-require.field-0.0 c.from_residual-in_err-require.ensures.1)
    ∙ then_on (check_dominates tree (rounded made) r)
    (c.in_err-require.ensures ∙ require_is 14 (c.can_be_rounded-rounds.ensures tree made refl (c.is_integral-integral.ensures tree h.integers_are made refl)) l.is.place_is)
    ∙ ap (λ (u : Result Constraint). bind u (λ d. require (can_be_rounded tree d) 14 r.name.place and_then check_dominates tree (rounded d) r))
    (suitable_made tree _ g.same _ (c.in_ok-sense.ensures tree h.encodes g.below) c.combine-made.result (c.combine-made.ensures.says tree h.encodes g.below _) c.in_ok-bound.ensures
    ∙ ap (λ (p : ℕ). suitable_combination tree p ms) l.is.place_is)

pub returns : goal.returns
unfolding check_rnd rounded
returns c =
    λ tree r ms h l m.
    let g = fetched_are c.of-multipliers.ensures.rows c.of-multipliers.ensures.factors m in
    let made : Constraint = constraint_by (coefficients_of c.combine-made.result.coefficients) c.in_ok-bound.bound in
    let f = c.combine-made.ensures.fractions tree h.encodes g.below in
    let e = c.rounded.ensures.right (bound_fraction _ _ _ c.in_ok-bound.ensures f.right) in
    c.check_dominates.ensures tree r l (record { coefficients = f.coefficients; right = e.1 })
    ∙ (λ i. check_dominates tree (record made { sense = sense_is (c.rounded.ensures.sense i); right = e.0 i }) r)
    ∙ then_on (check_dominates tree (rounded made) r)
    (c.in_ok-require.ensures ∙ require_is 14 (c.can_be_rounded-rounds.ensures tree made refl (c.is_integral-integral.ensures tree h.integers_are made refl)) l.is.place_is)
    ∙ ap (λ (u : Result Constraint). bind u (λ d. require (can_be_rounded tree d) 14 r.name.place and_then check_dominates tree (rounded d) r))
    (suitable_made tree _ g.same _ (c.in_ok-sense.ensures tree h.encodes g.below) c.combine-made.result (c.combine-made.ensures.says tree h.encodes g.below _) c.in_ok-bound.ensures
    ∙ ap (λ (p : ℕ). suitable_combination tree p ms) l.is.place_is)
