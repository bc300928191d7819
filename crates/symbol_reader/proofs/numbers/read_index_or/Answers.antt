-- `symbol_reader::numbers::read_index_or` meets its contract: a word or a number, which takes a cell.
-- Assumes nothing.
use mathlib.Core.Path.{◌≡◌, refl}
use mathlib.Core.List.{[], ◌∷◌}
use Prim.Native.Nat.{ℕ}
use Rattle.text.specs.Bytes.{Bytes}
use Rattle.grammar.specs.Format.{Or, instead, given, number, or}
use Rattle.grammar.specs.Layout.{symbol_cells, symbol_values, symbol_marks}
use Rattle.symbol_reader.specs.Leaves.{token_at, or_cell}
use Rattle.symbol_reader.proofs.Decoding.{means_at, or_in_range}
use Rattle.symbol_reader.proofs.TokenLaws.{missing_follows, token_filled, filled_follows, stored_refuses}
use Rattle.symbol_reader.proofs.numbers.read_index_or.Goals as goal

-- what it takes: one cell
module _ (w : Bytes) (cell bound : ℕ) where
  a_cell : (a : Or ℕ) → symbol_cells (or w cell (number bound [])) a ≡ or_cell cell (λ (n : ℕ). n) a ∷ []
  a_cell instead = refl
  a_cell (given n) = refl

  no_value : (a : Or ℕ) → symbol_values (or w cell (number bound [])) a ≡ []
  no_value instead = refl
  no_value (given n) = refl

  no_mark : (a : Or ℕ) (i v : ℕ) → symbol_marks (or w cell (number bound [])) a i v ≡ []
  no_mark instead i v = refl
  no_mark (given n) i v = refl

pub returns-in_err-token-clause-follows : goal.returns-in_err-token-clause-follows
returns-in_err-token-clause-follows c = λ vs rs small. missing_follows c.in_err-token.ensures c.from_residual.ensures.1

pub returns-clause-follows : goal.returns-clause-follows
returns-clause-follows c =
    let s = c.args in
    let w = s.word.now in
    let found = c.in_ok-token.ensures in
    λ vs rs small.
    filled_follows found (means_at c.bytes.ensures (c.number_or_in-meaning.ensures _ (token_filled found c.bytes.ensures) small)) c.filled.ensures
    (λ a d. or_in_range w s.cell s.bound (token_at s.text.now c.in_ok-token.token) a _ refl d) (a_cell w s.cell s.bound) (λ x h. no_value w s.cell s.bound x) (no_mark w s.cell s.bound)

pub returns-clause-refuses : goal.returns-clause-refuses
returns-clause-refuses c =
    let found = c.in_ok-token.ensures in
    λ small. stored_refuses found (means_at c.bytes.ensures (c.number_or_in-meaning.ensures _ (token_filled found c.bytes.ensures) small)) c.filled.ensures (λ h. h) (λ e. e)
