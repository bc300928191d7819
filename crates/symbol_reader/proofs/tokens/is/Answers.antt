-- `symbol_reader::tokens::is` meets its contract: the whole token is held against the word.
-- Assumes nothing.
use mathlib.Core.Path.{ap, ◌∙◌}
use lib.Seq.{take-length}
use Rattle.text.specs.Bytes.{Bytes, same}
use Rattle.symbol_reader.proofs.tokens.is.Goals as goal

pub returns : goal.returns
returns c = c.is_word.ensures.by_definition ∙ ap (λ (w : Bytes). same w c.args.word.now) (take-length c.args.token.now)
