-- `section_reader::problem::read_version` meets its contract: two words.
use Rattle.symbol_reader.proofs.FollowsLaws.{follows_told}
use Rattle.section_reader.proofs.SectionLaws.{section_follows, section_stops}
use Rattle.section_reader.proofs.problem.read_version.Goals as goal

pub returns-in_err-word : goal.returns-in_err-word
returns-in_err-word c = λ ix vs rs. section_stops (c.read_word.ensures ix vs rs) c.in_err-word.was c.from_residual.ensures.1

pub returns : goal.returns
returns c = λ ix vs rs. section_follows (c.read_word.ensures ix vs rs) c.in_ok-word.was (follows_told (c.read_word-2.ensures ix vs rs) (λ a x e t. tt))
