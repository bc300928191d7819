-- `row_reader::derivations::read_derivation` meets its contract: a row, and what follows it.
use native.Mathlib.Omega.{arith}
use Rattle.symbol_reader.proofs.FollowsLaws.{then_stops, then_follows, leads_always, view_follows}
use Rattle.row_reader.proofs.derivations.read_derivation.Goals as goal

pub returns-in_err-row : goal.returns-in_err-row
returns-in_err-row c = λ small own total prints. view_follows (λ p n t. t) (then_stops (c.read_row.ensures small own prints) c.in_err-row.was c.from_residual.ensures.1)

pub returns : goal.returns
returns c =
    λ small own total prints.
    view_follows (λ p n t. (t.1, t.0)) (then_follows (c.read_row.ensures small own prints) c.in_ok-row.was leads_always (λ r t. c.read_justification.ensures _ (omega (arith, own)) total))
