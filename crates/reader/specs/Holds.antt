-- What it means that tables hold a certificate, in the words of document 01, "Tables lent by the caller": "A certificate is three
-- lists in file order: the numbers that index cells take, the values, all names; the tables hold it, names by place and length in
-- the text, but for the variables' names, which the text alone holds". It follows from the equations that fix every cell.
-- Assumes nothing.
use Rattle.std.specs.Prelude.{◌≡◌, List, ◌∷◌, ◌++◌, map, ℕ, ◌+◌, ◌*◌, ℤ, pos, length, get_or}
use Rattle.std.proofs.Math.Seq.{slice}
use Rattle.text.specs.Bytes.{Bytes}
use Rattle.text.specs.Tokens.{Token}
use Rattle.tables.specs.Limits.{most_rows}
use Rattle.arithmetic.specs.declared.Fraction.{Fraction}
use Rattle.grammar.specs.Tree.{Term, Row, Solution, Tree}
use Rattle.grammar.specs.Lists.{Each}
use Rattle.grammar.specs.Certificate.{sense_cell}
use Rattle.grammar.specs.Texts.{Certificate}
use Rattle.grammar.specs.Tables.{filled, by_turns}
use Rattle.grammar.specs.Names.{StandsIn}
use Rattle.grammar.specs.AllNames.{name_tokens, spellings}
use Rattle.grammar.specs.Ranges.{rows_of}

-- cell k of row r of the row table, "4 for each row"
abbrev pub row_cell : List ℕ → ℕ → ℕ → ℕ
row_cell rows r k = get_or rows (4 * r + k) 0

-- value number k of the value table, "numerator, denominator by turns"
abbrev pub value_at : List ℤ → ℕ → Fraction
value_at values k = record { num = get_or values (2 * k) (pos 0); den = get_or values (2 * k + 1) (pos 0) }

-- "byte place of the name, its length", in row r; and the text has these bytes there
pub record NameHeld (text : Bytes) (rows : List ℕ) (r : ℕ) (name : Token) : Type 0 where
  pub place : row_cell rows r 0 ≡ name.place
  pub size : row_cell rows r 1 ≡ length name.bytes
  pub in_text : StandsIn text name

-- "Row r (0 to 1,023, constraint r) holds: byte place of the name, its length, index cell where its sense stands, number of its
-- right-hand value"
pub record RowHeld (text : Bytes) (index : List ℕ) (values : List ℤ) (rows : List ℕ) (r : ℕ) (x : Row) : Type 0 where
  pub name : NameHeld text rows r x.name
  pub sense : get_or index (row_cell rows r 2) 0 ≡ sense_cell x.sense
  pub right : value_at values (row_cell rows r 3) ≡ x.right

-- "Row 1,024+j, solution j: name place, length, cell of its count, number of values read before it": those from this number on
-- are its own
pub record SolutionHeld (text : Bytes) (index : List ℕ) (values : List ℤ) (rows : List ℕ) (j : ℕ) (x : Solution) : Type 0 where
  pub name : NameHeld text rows (most_rows + j) x.name
  pub count : get_or index (row_cell rows (most_rows + j) 2) 0 ≡ x.values.count
  pub own :
      let from = 2 * row_cell rows (most_rows + j) 3 in
      let its = by_turns (map (λ (t : Term). t.coefficient) x.values.terms) in
      slice from (from + length its) values ≡ its

-- these tables hold the certificate c, which is that of the tree
pub record Holds (text : Bytes) (index : List ℕ) (values : List ℤ) (rows : List ℕ) (c : Certificate) (tree : Tree) : Type 0 where
  pub numbers_held : index ≡ filled 0 (length index) c.numbers
  pub values_held : values ≡ filled (pos 0) (length values) (by_turns c.values)
  -- all names, in file order: those of the variables, the given rows, the solutions and the derived rows
  pub names_are : c.names ≡ spellings (name_tokens tree)
  pub variables_held : Each (StandsIn text) tree.variables.names
  pub rows_held : (before : List Row) (x : Row) (after : List Row) → rows_of tree ≡ before ++ (x ∷ after) → RowHeld text index values rows (length before) x
  pub solutions_held : (before : List Solution) (x : Solution) (after : List Solution) → tree.solutions.solutions ≡ before ++ (x ∷ after)
      → SolutionHeld text index values rows (length before) x
