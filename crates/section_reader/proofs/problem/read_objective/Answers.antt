-- `section_reader::problem::read_objective` meets its contract: a word, a direction, a count and that many pairs.
use mathlib.Core.Path.{sym}
use native.Mathlib.Omega.{arith}
use Rattle.symbol_reader.proofs.FollowsLaws.{then_stops, follows_stop, follows_next, view_follows}
use Rattle.section_reader.proofs.SectionLaws.{step_up, then_known, section_follows, section_stops}
use Rattle.section_reader.proofs.ObjectiveLaws.{pairs_follow, objective_says}
use Rattle.section_reader.proofs.problem.read_objective.Goals as goal

pub returns-in_err-word : goal.returns-in_err-word
returns-in_err-word c = λ rs few. section_stops (c.read_word.ensures _ _ rs) c.in_err-word.was (step_up _ _ _ c.from_residual.ensures.1)

pub returns-in_err-direction : goal.returns-in_err-direction
returns-in_err-direction c =
    λ rs few.
    section_follows (c.read_word.ensures _ _ rs) c.in_ok-word.was (view_follows (λ a n t. t) (then_stops (c.read_direction.ensures.follows _ rs) c.in_err-direction.was (step_up _ _ _ c.from_residual-in_err-direction.ensures.1)))

pub returns-in_err-count : goal.returns-in_err-count
returns-in_err-count c =
    λ rs few.
    section_follows (c.read_word.ensures _ _ rs) c.in_ok-word.was
    (view_follows (λ a n t. t)
    (then_known (c.read_direction.ensures.follows _ rs) c.in_ok-direction.was
    (λ d b. view_follows (λ a n t. t) (then_stops (c.read_count.ensures.follows _ rs (omega (arith, few))) c.in_err-count.was (step_up _ _ _ c.from_residual-in_err-count.ensures.1)))))

-- the terms are as many as the count says
pub returns-in_err-end : goal.returns-in_err-end
returns-in_err-end c =
    let s = c.args in
    λ rs few.
    section_follows (c.read_word.ensures _ _ rs) c.in_ok-word.was
    (view_follows (λ a n t. t)
    (then_known (c.read_direction.ensures.follows _ rs) c.in_ok-direction.was
    (λ d b. view_follows (λ a n t. t)
    (then_known (c.read_count.ensures.follows _ rs (omega (arith, few))) c.in_ok-count.was
    (λ k e. follows_stop (pairs_follow (sym e.says.0) (c.read_pairs.ensures rs (omega (arith, few)))) c.in_err-end.was (step_up _ _ _ c.from_residual-in_err-end.ensures.1))))))

pub returns : goal.returns
returns c =
    let s = c.args in
    λ rs few.
    view_follows (λ a n t. t)
    (then_known (c.read_word.ensures _ _ rs) c.in_ok-word.was
    (λ u a. view_follows (λ y n t. t)
    (then_known (c.read_direction.ensures.follows _ rs) c.in_ok-direction.was
    (λ d b. view_follows (λ y n t. t)
    (then_known (c.read_count.ensures.follows _ rs (omega (arith, few))) c.in_ok-count.was
    (λ k e. follows_next (pairs_follow (sym e.says.0) (c.read_pairs.ensures rs (omega (arith, few)))) c.in_ok-end.was (λ t o. objective_says a b e t)))))))
