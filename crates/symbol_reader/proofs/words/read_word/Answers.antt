-- `symbol_reader::words::read_word` meets its contract: a word takes nothing.
-- Assumes nothing.
use mathlib.Core.Path.{refl}
use Rattle.symbol_reader.proofs.Decoding.{means_at}
use Rattle.symbol_reader.proofs.TokenLaws.{missing_follows, passed_follows}
use Rattle.symbol_reader.proofs.words.read_word.Goals as goal

pub returns-in_err-token : goal.returns-in_err-token
returns-in_err-token c = λ ix vs rs. missing_follows c.in_err-token.ensures c.from_residual.ensures.1

pub returns : goal.returns
returns c =
    λ ix vs rs.
    passed_follows c.in_ok-token.ensures (means_at c.bytes.ensures (c.word_in.ensures.means_2 _)) c.passed.ensures (λ a d. refl) (λ a. refl) (λ a. refl) (λ a i v. refl)
