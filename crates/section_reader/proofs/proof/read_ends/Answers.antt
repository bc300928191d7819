-- `section_reader::proof::read_ends` meets its contract: nothing after `infeas`, two ends after `range`.
use native.Mathlib.Omega.{arith}
use Rattle.symbol_reader.proofs.FollowsLaws.{then_stops}
use Rattle.section_reader.proofs.SectionLaws.{follows_where, follows_held, then_known}
use Rattle.section_reader.proofs.ClaimLaws.{end_follows, after_end, no_ends, two_ends}
use Rattle.section_reader.proofs.proof.read_ends.Goals as goal

pub returns-then-word-eq-INFEAS : goal.returns-then-word-eq-INFEAS
returns-then-word-eq-INFEAS c = λ w rs t. no_ends c.if-word-eq-INFEAS.true w t

pub returns-in_err-lower : goal.returns-in_err-lower
returns-in_err-lower c =
    λ w rs t.
    two_ends c.if-word-eq-INFEAS.false (then_stops (follows_where (end_follows (c.read_end.ensures.by_index rs)) (λ x q. omega (arith, q))) c.in_err-lower.was c.from_residual.ensures.1) w t

pub returns : goal.returns
returns c =
    λ w rs t.
    two_ends c.if-word-eq-INFEAS.false
    (then_known (follows_where (end_follows (c.read_end.ensures.by_index rs)) (λ x q. omega (arith, q))) c.in_ok-lower.was
    (λ e k. follows_held (end_follows (c.read_end-2.ensures.by_index rs)) (after_end e k.went k.held))) w t
