-- `section_reader::problem::read_integers` meets its contract: a section of a count and that many indices.
use mathlib.Core.Path.{refl}
use native.Mathlib.Omega.{arith}
use Rattle.symbol_reader.proofs.FollowsLaws.{then_stops, view_follows}
use Rattle.section_reader.proofs.SectionLaws.{section_follows, section_stops, counted_follows}
use Rattle.section_reader.proofs.problem.read_integers.Goals as goal

pub returns-in_err-word : goal.returns-in_err-word
returns-in_err-word c = λ vs rs small. section_stops (c.read_word.ensures _ vs rs) c.in_err-word.was c.from_residual.ensures.1

pub returns-in_err-count : goal.returns-in_err-count
returns-in_err-count c =
    λ vs rs small.
    section_follows (c.read_word.ensures _ vs rs) c.in_ok-word.was (view_follows (λ a n t. t) (then_stops (c.read_count.ensures.follows vs rs (omega (arith, small))) c.in_err-count.was c.from_residual-in_err-count.ensures.1))

pub returns : goal.returns
returns c =
    λ vs rs small.
    section_follows (c.read_word.ensures _ vs rs) c.in_ok-word.was (counted_follows (c.read_count.ensures.follows vs rs (omega (arith, small))) c.in_ok-count.was (λ y. refl) (λ few. c.read_indices.ensures vs rs small))
