-- `symbol_reader::words::read_reason_word` meets its contract: one of the words, whose number takes a cell.
-- Assumes nothing.
use mathlib.Core.Path.{refl}
use Rattle.symbol_reader.proofs.Decoding.{means_at}
use Rattle.symbol_reader.proofs.TokenLaws.{missing_follows, filled_follows, stored_refuses}
use Rattle.symbol_reader.proofs.words.read_reason_word.Goals as goal

pub returns-in_err-token-clause-follows : goal.returns-in_err-token-clause-follows
returns-in_err-token-clause-follows c = λ vs rs. missing_follows c.in_err-token.ensures c.from_residual.ensures.1

pub returns-clause-follows : goal.returns-clause-follows
returns-clause-follows c =
    λ vs rs. filled_follows c.in_ok-token.ensures (means_at c.bytes.ensures (c.reason_in-meaning.ensures _)) c.filled.ensures (λ a d. refl) (λ a. refl) (λ a d. refl) (λ a i v. refl)

pub returns-clause-refuses : goal.returns-clause-refuses
returns-clause-refuses c = stored_refuses c.in_ok-token.ensures (means_at c.bytes.ensures (c.reason_in-meaning.ensures _)) c.filled.ensures (λ h. h) (λ e. e)
