-- `text::is_word` meets its contract: the part of the text is compared with the word.
-- Assumes nothing.
use borrow.Author.Rules.{rules}
use Rattle.text.proofs.Promised.{slice_compared}
use Rattle.text.proofs.is_word.Goals as goal

pub returns : goal.returns
returns c = slice_compared {part = c.part.result.now} (search rules) c.part.ensures.bytes
