-- Where the tokens of a text stand in it, and with them the names of the row table: "the tables hold it, names by place and
-- length in the text" (document 01, "Tables lent by the caller").
-- Assumes nothing.
use Rattle.std.specs.Prelude.{◌≡◌, refl, ℕ, ◌+◌, ◌-◌, ◌≤◌}
use Rattle.std.proofs.Common.{sym, ◌∙◌, ap, subst, arith, drop-drop, drop_at, take_at}
use mathlib.Core.List.Memᴰ
use mathlib.Core.List.{List, [], ◌∷◌, ◌++◌, Memᴰ}
use lib.ListN.{length, drop, length-append, length-drop}
use Rattle.std.proofs.Math.Seq.{slice}
use Rattle.text.specs.Bytes.{Bytes}
use Rattle.text.proofs.BytesLaws.{slice_take}
use Rattle.text.specs.Tokens.{Token, FirstToken, HasTokens, TextHasTokens}
use Rattle.arithmetic.specs.declared.Fraction.{Fraction}
use Rattle.grammar.specs.Tree.{Tree}
use Rattle.grammar.specs.Format.{instead, given, Symbol, word, placed, choice, number, name, row_name, value, or, Format, symbol, then, items, nothing, view}
use Rattle.grammar.specs.Lists.{Each}
use Rattle.grammar.specs.Spelling.{SymbolSpelled, ItemsSpelled, Spells}
use Rattle.grammar.specs.Certificate.{certificate}
use Rattle.grammar.specs.Layout.{Mark, symbol_marks, gather_items, gather, cells, values, marks_items, marks}
use Rattle.grammar.specs.Texts.{SpellsTree}

-- ---- tokens

-- the text has the token's bytes at the token's place
pub record StandsIn (text : Bytes) (t : Token) : Type 0 where
  pub bytes : slice t.place (t.place + length t.bytes) text ≡ t.bytes
  pub inside : t.place + length t.bytes ≤ length text

-- ---- marks, for every format

-- a mark's name is one of these tokens, and at most so many cells and values stand before it
pub record MarkAmong (ts : List Token) (most-cells most_values : ℕ) (m : Mark) : Type 0 where
  pub name_among : Memᴰ m.name ts
  pub cells_most : m.cells ≤ most-cells
  pub values_most : m.values ≤ most_values
