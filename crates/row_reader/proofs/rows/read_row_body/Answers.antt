-- `row_reader::rows::read_row_body` meets its contract: a sense, a value, a left side.
use mathlib.Core.Path.{refl}
use Rattle.symbol_reader.proofs.FollowsLaws.{then_stops, then_stops_later, then_follows, leads_always, leads_value, follows_told}
use Rattle.row_reader.proofs.rows.read_row_body.Goals as goal

pub returns-in_err-sense : goal.returns-in_err-sense
returns-in_err-sense c = λ rs small. then_stops (c.read_sense.ensures.follows _ rs) c.in_err-sense.was c.from_residual.ensures.1

pub returns-in_err-right : goal.returns-in_err-right
returns-in_err-right c =
    let up = c.from_residual-in_err-right.ensures in
    λ rs small.
    then_stops_later (c.read_sense.ensures.follows _ rs) c.in_ok-sense.was (leads_value (λ a. refl)) (λ a t. then_stops (c.read_value.ensures.by_index _ rs) c.in_err-right.was up.1) up.0

pub returns : goal.returns
returns c =
    λ rs small.
    follows_told
    (then_follows (c.read_sense.ensures.follows _ rs) c.in_ok-sense.was (leads_value (λ a. refl))
    (λ a t. then_follows (c.read_value.ensures.by_index _ rs) c.in_ok-right.was leads_always (λ b u. c.read_side.ensures rs small)))
    (λ a x e t. tt)
