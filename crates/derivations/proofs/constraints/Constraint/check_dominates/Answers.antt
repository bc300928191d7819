-- `derivations::constraints::Constraint::check_dominates` meets its contract: the row is compared by its listed terms.
use Rattle.std.proofs.Common.{◌∙◌}
use Rattle.derivations.proofs.Refusals.{require_is}
use Rattle.derivations.proofs.RowsLaws.{dominates-row}
use Rattle.derivations.proofs.constraints.Constraint.check_dominates.Goals as goal

pub returns : goal.returns
returns c =
    λ tree r l h.
    let s = c.row_of-listed.ensures tree r l in
    c.require.ensures
    ∙ require_is 15 (dominates-row l s _ (c.dominates-dominates.ensures _ _ _ (c.compare-compared.ensures s.formed h.coefficients) h.right s.fraction)) l.is.place_is
