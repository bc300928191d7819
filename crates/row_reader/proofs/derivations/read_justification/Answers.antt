-- `row_reader::derivations::read_justification` meets its contract: `{`, a reason, `}`, a last index; the cell of the reason's word is
-- handed back.
use Prim.Native.Nat.{◌≤◌}
use native.Mathlib.Omega.{arith}
use Rattle.symbol_reader.specs.Steps.{any}
use Rattle.symbol_reader.proofs.FollowsLaws.{then_stops, then_stops_later, then_follows, leads_always, view_follows, follows_stop, follows_next, follows_own}
use Rattle.row_reader.proofs.derivations.read_justification.Goals as goal

pub returns-in_err-open : goal.returns-in_err-open
returns-in_err-open c = λ rs small few. then_stops (c.read_word.ensures _ _ rs) c.in_err-open.was c.from_residual.ensures.1

pub returns-in_err-reason : goal.returns-in_err-reason
returns-in_err-reason c =
    let up = c.from_residual-in_err-reason.ensures in
    λ rs small few. then_stops_later (c.read_word.ensures _ _ rs) c.in_ok-open.was leads_always (λ a t. then_stops (c.read_reason.ensures rs small) c.in_err-reason.was up.1) up.0

pub returns-in_err-close : goal.returns-in_err-close
returns-in_err-close c =
    let up = c.from_residual-in_err-close.ensures in
    λ rs small few.
    then_stops_later (c.read_word.ensures _ _ rs) c.in_ok-open.was leads_always
    (λ a t. then_stops_later (c.read_reason.ensures rs small) c.in_ok-reason.was leads_always (λ a t. then_stops (c.read_word-2.ensures _ _ rs) c.in_err-close.was up.1) up.0) up.0

pub returns-in_err-last : goal.returns-in_err-last
returns-in_err-last c =
    let up = c.from_residual-in_err-last.ensures in
    λ rs small few.
    let bound : c.args.total ≤ 65535 = omega (arith, few) in
    then_stops_later (c.read_word.ensures _ _ rs) c.in_ok-open.was leads_always
    (λ a t. then_stops_later (c.read_reason.ensures rs small) c.in_ok-reason.was leads_always
    (λ a t. then_stops_later (c.read_word-2.ensures _ _ rs) c.in_ok-close.was leads_always
    (λ a t. view_follows (λ a n t. t) (follows_stop (c.read_index_or.ensures.follows _ rs bound) c.in_err-last.was up.1)) up.0) up.0) up.0

pub returns : goal.returns
returns c =
    λ rs small few.
    let bound : c.args.total ≤ 65535 = omega (arith, few) in
    follows_own
    (then_follows (c.read_word.ensures _ _ rs) c.in_ok-open.was leads_always
    (λ a t. then_follows (c.read_reason.ensures rs small) c.in_ok-reason.was leads_always
    (λ a t. then_follows (c.read_word-2.ensures _ _ rs) c.in_ok-close.was leads_always
    (λ a t. view_follows {tells = any} (λ a n t. tt) (follows_next (c.read_index_or.ensures.follows _ rs bound) c.in_ok-last.was {tells = any} (λ a h. tt))))))
    (λ j t. t.1.0)
