-- `symbol_reader::numbers::number_or_in` meets its contract: a token that is not the word is read as a number.
use mathlib.Core.List.{[]}
use Prim.Native.Nat.{ℕ}
use mathlib.Core.Path.{sym, ◌∙◌}
use Rattle.grammar.specs.Format.{number}
use Rattle.symbol_reader.specs.Leaves.{token_of}
use Rattle.symbol_reader.proofs.Decoding.{or-given}
use Rattle.symbol_reader.proofs.numbers.number_or_in.Goals as goal

pub returns : goal.returns
returns c =
    let a = c.args in
    λ place filled small. or-given a.word.now a.cell (number a.bound []) (token_of place a.token.now) a.cell (λ (n : ℕ). n) (sym c.is.ensures ∙ c.if-is.false) (c.number_in.ensures place filled small)
