-- `symbol_reader::tokens::due` meets its contract: what the scan from the cursor's place says.
-- Assumes nothing.
use mathlib.Core.Path.{sym, subst}
use Rattle.symbol_reader.specs.Leaves.{Due}
use Rattle.symbol_reader.proofs.TokenLaws.{due_of}
use Rattle.symbol_reader.proofs.tokens.due.Goals as goal

pub returns : goal.returns
returns c = subst (Due c.args.text.now c.args.cursor.at) (sym c.ok_or.ensures.value) (due_of _ _ _ c.next_token.ensures.by_definition)
