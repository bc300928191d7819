-- The cells that a certificate takes are not more than the cells needed, and each number fits its cell: for every text of at
-- most 32,768 bytes that spells a tree (document 01, "Tables lent by the caller").
-- Assumes nothing.
use Rattle.std.specs.Prelude.{◌≡◌, refl, Bool, true, ℕ, suc, ◌+◌, ◌-◌, ◌*◌, ◌≤◌, ◌<◌, length, drop}
use Rattle.std.proofs.Common.{sym, ◌∙◌, ap, subst, arith, lit<, length-append, length-drop}
use mathlib.Core.List.Memᴰ
use mathlib.Core.List.{List, [], ◌∷◌, ◌++◌, Memᴰ}
use Rattle.text.specs.Bytes.{Bytes, every}
use Rattle.text.proofs.BytesLaws.{clash}
use Rattle.text.specs.Tokens.{Token, is_token_byte, is_ended, FirstToken, HasTokens, TextHasTokens}
use Rattle.text.proofs.TokensLaws.{first_byte}
use Rattle.text.specs.Words as W
use Rattle.tables.specs.Limits.{index_cells, value_cells, row_cells, most_variables, most_rows, most_entries, most_bytes}
use Rattle.tables.specs.Words as cell
use Rattle.arithmetic.specs.Fraction.{IsFraction}
use Rattle.arithmetic.specs.declared.Fraction.{Fraction}
use Rattle.numerals.specs.Spelling.{SpellsValue}
use Rattle.numerals.proofs.Agreement.{value_read}
use Rattle.grammar.specs.Tree.{Tree, Sense, Direction, Constraints, Solution}
use Rattle.grammar.specs.Format.{Word, Or, instead, given, Symbol, word, placed, choice, number, name, row_name, value, or, Format, symbol, then, items, nothing, view}
use Rattle.grammar.specs.Spelling.{SymbolSpelled, ItemsSpelled, Spells}
use Rattle.grammar.specs.Certificate.{count_to, index_below, plain_value, pair, pair_list, term_list, sense, listed_terms, side, row, unsplit, ReasonWord, asm_word, lin_word, rnd_word, uns_word, sol_word, reason_cell, detail, reason, last, assumptions, solution, end_or, ClaimWord, infeas_word, range_word, ends, claim, section, version, variables, integers, objective_section, constraints, relation, solution_section, derivation_section, certificate}
use Rattle.grammar.specs.Layout.{Mark, symbol_cells, symbol_values, gather_items, gather, cells, values, marks}
use Rattle.grammar.specs.Texts.{SpellsTree}
use Rattle.grammar.specs.Tables.{by_turns, row_of}
use Rattle.grammar.specs.Names.{StandsIn}
use Rattle.grammar.specs.Lists.{Each}

-- ---- what is said

-- a number of a u16 cell
abbrev pub FitsU16 : ℕ → Type 0
FitsU16 n = n < 65536

-- the four cells of a mark's row lie in the row table, and each number fits its cell
pub record RowFits (m : Mark) : Type 0 where
  pub inside : 4 * m.row + length (row_of m) ≤ row_cells
  pub numbers : Each FitsU16 (row_of m)

-- what a tree takes of the three tables fits them. A value in lowest terms within the limit fits two i32 cells
pub record Fits (tree : Tree) : Type 0 where
  pub index_inside : length (cells certificate tree) ≤ index_cells
  pub index_numbers : Each FitsU16 (cells certificate tree)
  pub values_inside : length (by_turns (values certificate tree)) ≤ value_cells
  pub values-within : Each IsFraction (values certificate tree)
  pub rows : Each RowFits (marks certificate tree 0 0)
