-- `derivations::constraints::check_by_terms` meets its contract: the coefficients are those of the terms.
use Rattle.std.proofs.Common.{◌∙◌, ap}
use Rattle.rules.specs.Rows.{Constraint}
use Rattle.rules.specs.Derivations.{check_dominates}
use Rattle.derivations.proofs.RowsLaws.{made_is, made_fractions}
use Rattle.derivations.proofs.constraints.check_by_terms.Goals as goal

pub returns : goal.returns
returns c =
    λ tree r l formed fraction.
    let by = c.args.by in
    c.check_dominates.ensures tree r l (record { coefficients = made_fractions l.few by formed c.coefficients-coefficients.result c.coefficients-coefficients.ensures; right = fraction })
    ∙ ap (λ (d : Constraint). check_dominates tree d r) (made_is l.few by formed c.coefficients-coefficients.result c.coefficients-coefficients.ensures)
