-- `row_reader::rows::read_row` meets its contract: a name, and what follows it.
use native.Mathlib.Omega.{arith}
use Rattle.symbol_reader.proofs.FollowsLaws.{then_stops, then_follows, leads_always, view_follows}
use Rattle.row_reader.proofs.rows.read_row.Goals as goal

pub returns-in_err-name : goal.returns-in_err-name
returns-in_err-name c = λ small few prints. view_follows (λ a k t. t) (then_stops (c.read_row_name.ensures.by_index _ _ (omega (arith, few)) prints) c.in_err-name.was c.from_residual.ensures.1)

pub returns : goal.returns
returns c =
    λ small few prints.
    view_follows (λ a k t. t.0) (then_follows (c.read_row_name.ensures.by_index _ _ (omega (arith, few)) prints) c.in_ok-name.was leads_always (λ a t. c.read_row_body.ensures _ small))
