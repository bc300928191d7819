-- `section_reader::proof::read_claim` meets its contract: a word, and the ends that it asks for.
use Rattle.symbol_reader.proofs.FollowsLaws.{then_stops, view_follows}
use Rattle.section_reader.proofs.SectionLaws.{follows_where, follows_held, then_known}
use Rattle.section_reader.proofs.ClaimLaws.{after_word}
use Rattle.section_reader.proofs.proof.read_claim.Goals as goal

pub returns-in_err-word : goal.returns-in_err-word
returns-in_err-word c = λ rs. view_follows (λ a n t. t) (then_stops (follows_where (c.read_claim_word.ensures.follows _ rs) (λ x q. tt)) c.in_err-word.was c.from_residual.ensures.1)

pub returns : goal.returns
returns c =
    λ rs.
    view_follows (λ a n t. t)
    (then_known (follows_where (c.read_claim_word.ensures.follows _ rs) (λ x q. tt)) c.in_ok-word.was
    (λ w k. follows_held (c.read_ends.ensures w rs k.says) (after_word w k.went k.held)))
