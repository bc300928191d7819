-- `symbol_reader::values::read_value` meets its contract: the token is read as a value, which is stored.
-- Assumes nothing.
use mathlib.Core.Path.{refl}
use mathlib.Core.List.{[]}
use Rattle.symbol_reader.proofs.Decoding.{means_at}
use Rattle.symbol_reader.proofs.TokenLaws.{missing_follows, valued_follows, stored_refuses}
use Rattle.symbol_reader.proofs.values.read_value.Goals as goal

pub returns-in_err-token-clause-by_index : goal.returns-in_err-token-clause-by_index
returns-in_err-token-clause-by_index c = λ ix rs. missing_follows c.in_err-token.ensures c.from_residual.ensures.1

pub returns-clause-by_index : goal.returns-clause-by_index
returns-clause-by_index c =
    λ ix rs. valued_follows c.in_ok-token.ensures (means_at c.bytes.ensures (c.value_in.ensures _ [])) c.valued.ensures (λ f. refl) (λ f d. refl) (λ f i v. refl)

pub returns-clause-refuses : goal.returns-clause-refuses
returns-clause-refuses c = stored_refuses c.in_ok-token.ensures (means_at c.bytes.ensures (c.value_in.ensures _ [])) c.valued.ensures (λ h. h) (λ e. e)
