-- `symbol_reader::names::read_free_name` meets its contract: a name takes a row.
-- Assumes nothing.
use mathlib.Core.Path.{refl}
use mathlib.Core.List.{[]}
use Rattle.symbol_reader.specs.Leaves.{token_at}
use Rattle.symbol_reader.proofs.Decoding.{means_at, name_mark}
use Rattle.symbol_reader.proofs.TokenLaws.{missing_follows, rowed_follows, stored_refuses}
use Rattle.symbol_reader.proofs.names.read_free_name.Goals as goal

pub returns-in_err-token-clause-by_index : goal.returns-in_err-token-clause-by_index
returns-in_err-token-clause-by_index c = λ ix vs few. missing_follows c.in_err-token.ensures c.from_residual.ensures.1

pub returns-clause-by_index : goal.returns-clause-by_index
returns-clause-by_index c =
    let s = c.args in
    λ ix vs few.
    rowed_follows c.in_ok-token.ensures (means_at c.bytes.ensures (c.name_in-meaning.ensures.by_index _ s.row)) c.rowed.ensures few (λ a d. refl) (λ a. refl) (λ a. refl)
    (name_mark s.row [] (λ a. 0) (token_at s.text.now c.in_ok-token.token))

pub returns-clause-refuses : goal.returns-clause-refuses
returns-clause-refuses c = stored_refuses c.in_ok-token.ensures (means_at c.bytes.ensures (c.name_in-meaning.ensures.by_index _ c.args.row)) c.rowed.ensures (λ h. h) (λ e. e)
