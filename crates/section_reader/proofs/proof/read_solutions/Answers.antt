-- `section_reader::proof::read_solutions` meets its contract: a section of a count and that many solutions.
use mathlib.Core.Path.{refl}
use native.Mathlib.Omega.{arith}
use Rattle.symbol_reader.proofs.FollowsLaws.{then_stops, view_follows}
use Rattle.section_reader.proofs.SectionLaws.{section_follows, section_stops, counted_follows}
use Rattle.section_reader.proofs.proof.read_solutions.Goals as goal

pub returns-in_err-word : goal.returns-in_err-word
returns-in_err-word c = λ few. section_stops (c.read_word.ensures _ _ _) c.in_err-word.was c.from_residual.ensures.1

pub returns-in_err-count : goal.returns-in_err-count
returns-in_err-count c =
    λ few.
    section_follows (c.read_word.ensures _ _ _) c.in_ok-word.was (view_follows (λ a n t. t) (then_stops (c.read_count.ensures.follows _ _ (omega arith)) c.in_err-count.was c.from_residual-in_err-count.ensures.1))

pub returns : goal.returns
returns c =
    λ few.
    section_follows (c.read_word.ensures _ _ _) c.in_ok-word.was (counted_follows (c.read_count.ensures.follows _ _ (omega arith)) c.in_ok-count.was (λ y. refl) (λ most. c.read_solution_list.ensures few most))
