-- The tables of a certificate that was read.
-- Assumes nothing.
use Rattle.std.specs.Prelude.{◌≡◌, List, ℕ, ◌≤◌, ℤ, length}
use Rattle.text.specs.Bytes.{Bytes}
use Rattle.tables.specs.Limits.{row_cells}
use Rattle.grammar.specs.Tree.{Tree}
use Rattle.grammar.specs.Tables.{index_table, value_table, row_table}
use Rattle.grammar.specs.Texts.{SpellsTree}

-- the tables are as reading a text that spells this certificate leaves them
pub record Held (tree : Tree) (index : List ℕ) (values : List ℤ) (rows : List ℕ) : Type 0 where
  pub text : Bytes
  pub spelled : SpellsTree text tree
  pub index_is : index ≡ index_table (length index) tree
  pub values_is : values ≡ value_table (length values) tree
  pub rows_is : rows ≡ row_table (length rows) tree
  pub row-cells : row_cells ≤ length rows
