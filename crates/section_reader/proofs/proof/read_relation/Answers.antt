-- `section_reader::proof::read_relation` meets its contract: a word, whose place is handed back, and a claim.
use mathlib.Core.Path.{refl}
use Rattle.symbol_reader.proofs.Laws.{value-next}
use Rattle.symbol_reader.proofs.FollowsLaws.{then_stops, follows_stop, follows_next, view_follows}
use Rattle.section_reader.proofs.SectionLaws.{follows_held, then_known}
use Rattle.section_reader.proofs.proof.read_relation.Goals as goal

pub returns-in_err-place : goal.returns-in_err-place
returns-in_err-place c = λ rs. view_follows (λ a n t. t) (then_stops (c.read_placed.ensures _ _ rs) c.in_err-place.was c.from_residual.ensures.1)

pub returns-in_err-end : goal.returns-in_err-end
returns-in_err-end c =
    λ rs.
    view_follows (λ a n t. t)
    (then_known (c.read_placed.ensures _ _ rs) c.in_ok-place.was
    (λ p k. follows_stop (follows_held (c.read_claim.ensures rs) (value-next k.went refl k.room)) c.in_err-end.was c.from_residual-in_err-end.ensures.1))

pub returns : goal.returns
returns c =
    λ rs.
    view_follows (λ a n t. t)
    (then_known (c.read_placed.ensures _ _ rs) c.in_ok-place.was
    (λ p k. follows_next (follows_held (c.read_claim.ensures rs) (value-next k.went refl k.room)) c.in_ok-end.was (λ a t. k.says)))
