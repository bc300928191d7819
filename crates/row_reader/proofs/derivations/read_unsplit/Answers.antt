-- `row_reader::derivations::read_unsplit` meets its contract: four indices, one after the other.
use Prim.Native.Nat.{◌≤◌}
use native.Mathlib.Omega.{arith}
use Rattle.symbol_reader.proofs.FollowsLaws.{then_stops, then_stops_later, then_follows, leads_always, view_follows}
use Rattle.row_reader.proofs.derivations.read_unsplit.Goals as goal

pub returns-in_err-i1 : goal.returns-in_err-i1
returns-in_err-i1 c = λ vs rs small. view_follows (λ a n t. t) (then_stops (c.read_index.ensures.follows vs rs (omega (arith, small))) c.in_err-i1.was c.from_residual.ensures.1)

pub returns-in_err-l1 : goal.returns-in_err-l1
returns-in_err-l1 c =
    let up = c.from_residual-in_err-l1.ensures in
    λ vs rs small.
    let bound : c.args.own ≤ 65535 = omega (arith, small) in
    view_follows (λ a n t. t)
    (then_stops_later (c.read_index.ensures.follows vs rs bound) c.in_ok-i1.was leads_always (λ a t. then_stops (c.read_index-2.ensures.follows vs rs bound) c.in_err-l1.was up.1) up.0)

pub returns-in_err-i2 : goal.returns-in_err-i2
returns-in_err-i2 c =
    let up = c.from_residual-in_err-i2.ensures in
    λ vs rs small.
    let bound : c.args.own ≤ 65535 = omega (arith, small) in
    view_follows (λ a n t. t)
    (then_stops_later (c.read_index.ensures.follows vs rs bound) c.in_ok-i1.was leads_always
    (λ a t. then_stops_later (c.read_index-2.ensures.follows vs rs bound) c.in_ok-l1.was leads_always (λ a t. then_stops (c.read_index-3.ensures.follows vs rs bound) c.in_err-i2.was up.1) up.0) up.0)

pub returns : goal.returns
returns c =
    λ vs rs small.
    let bound : c.args.own ≤ 65535 = omega (arith, small) in
    view_follows (λ a n t. tt)
    (then_follows (c.read_index.ensures.follows vs rs bound) c.in_ok-i1.was leads_always
    (λ a t. then_follows (c.read_index-2.ensures.follows vs rs bound) c.in_ok-l1.was leads_always
    (λ a t. then_follows (c.read_index-3.ensures.follows vs rs bound) c.in_ok-i2.was leads_always (λ a t. c.read_index-4.ensures.follows vs rs bound))))
