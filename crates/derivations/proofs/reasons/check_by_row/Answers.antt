-- `derivations::reasons::check_by_row` meets its contract: the constraint is the row's.
use Rattle.std.proofs.Common.{◌∙◌, ap}
use Rattle.rules.specs.Rows.{Constraint}
use Rattle.rules.specs.Derivations.{check_dominates}
use Rattle.derivations.proofs.RowsLaws.{lists_row}
use Rattle.derivations.proofs.reasons.check_by_row.Goals as goal

pub returns : goal.returns
returns c =
    λ tree r e l lt.
    let s = c.row_of-by.ensures tree _ (lists_row c.args.certificate e _ lt (c.row.ensures tree _ (e.row _ lt))) in
    c.check_by_terms.ensures tree r l s.formed s.fraction ∙ ap (λ (d : Constraint). check_dominates tree d r) s.is
