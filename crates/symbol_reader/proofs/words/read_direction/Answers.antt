-- `symbol_reader::words::read_direction` meets its contract: `min` or `max`, whose number takes a cell.
-- Assumes nothing.
use mathlib.Core.Path.{refl}
use Rattle.grammar.specs.Certificate.{direction_cell}
use Rattle.symbol_reader.specs.Leaves.{directions}
use Rattle.symbol_reader.proofs.Decoding.{means_at, choice_means}
use Rattle.symbol_reader.proofs.TokenLaws.{missing_follows, filled_follows}
use Rattle.symbol_reader.proofs.words.read_direction.Goals as goal

pub returns-in_err-token-clause-follows : goal.returns-in_err-token-clause-follows
returns-in_err-token-clause-follows c = λ vs rs. missing_follows c.in_err-token.ensures c.from_residual.ensures.1

pub returns-clause-follows : goal.returns-clause-follows
returns-clause-follows c =
    λ vs rs.
    filled_follows c.in_ok-token.ensures (means_at c.bytes.ensures (choice_means direction_cell directions _ c.choice_in-meaning.ensures)) c.filled.ensures (λ a d. refl) (λ a. refl) (λ a d. refl)
    (λ a i v. refl)
