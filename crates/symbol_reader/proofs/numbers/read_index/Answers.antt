-- `symbol_reader::numbers::read_index` meets its contract: a number, which takes a cell.
-- Assumes nothing.
use mathlib.Core.Path.{refl}
use mathlib.Core.List.{[]}
use Rattle.symbol_reader.specs.Leaves.{token_at}
use Rattle.symbol_reader.proofs.Decoding.{means_at, number_in_range}
use Rattle.symbol_reader.proofs.TokenLaws.{missing_follows, token_filled, filled_follows, stored_refuses}
use Rattle.symbol_reader.proofs.numbers.read_index.Goals as goal

pub returns-in_err-token-clause-follows : goal.returns-in_err-token-clause-follows
returns-in_err-token-clause-follows c = λ vs rs small. missing_follows c.in_err-token.ensures c.from_residual.ensures.1

pub returns-clause-follows : goal.returns-clause-follows
returns-clause-follows c =
    let found = c.in_ok-token.ensures in
    λ vs rs small.
    filled_follows found (means_at c.bytes.ensures (c.number_in-meaning.ensures _ (token_filled found c.bytes.ensures) small)) c.filled.ensures
    (λ a d. (refl, number_in_range c.args.bound [] (token_at c.args.text.now c.in_ok-token.token) a d)) (λ a. refl) (λ a d. refl) (λ a i v. refl)

pub returns-clause-refuses : goal.returns-clause-refuses
returns-clause-refuses c =
    let found = c.in_ok-token.ensures in
    λ small. stored_refuses found (means_at c.bytes.ensures (c.number_in-meaning.ensures _ (token_filled found c.bytes.ensures) small)) c.filled.ensures (λ h. h) (λ e. e)
