-- What stands in the tables after a reading (document 01, "Tables lent by the caller"), for tables of any size that has the
-- cells needed: "After a reading every cell not named here is 0, also in cells beyond those needed".
-- Assumes nothing.
use Rattle.std.specs.Prelude.{List, [], ◌∷◌, ◌++◌, ℕ, ◌-◌, ◌*◌, ℤ, pos, length, replicate}
use Rattle.std.proofs.lemmas.List.Edits.{sets}
use Rattle.arithmetic.specs.declared.Fraction.{Fraction}
use Rattle.grammar.specs.Tree.{Tree}
use Rattle.grammar.specs.Certificate.{certificate}
use Rattle.grammar.specs.Layout.{Mark, cells, values, marks}

-- these cells, and the filler in every other of a table of this size
abbrev pub filled : {A : Type 0} → A → ℕ → List A → List A
filled filler size xs = xs ++ replicate (size - length xs) filler

-- "The index table holds, in file order, one cell for each count, variable or constraint index, and choice word"
unfoldable pub index_table : ℕ → Tree → List ℕ
index_table size tree = filled 0 size (cells certificate tree)

-- "The value table holds all values in file order", "numerator, denominator by turns"
abbrev pub by_turns : List Fraction → List ℤ
by_turns [] = []
by_turns (f ∷ fs) = f.num ∷ f.den ∷ by_turns fs

unfoldable pub value_table : ℕ → Tree → List ℤ
value_table size tree = filled (pos 0) size (by_turns (values certificate tree))

-- "Row r .. holds: byte place of the name, its length, index cell where its sense stands, number of its right-hand value";
-- of a solution "name place, length, cell of its count, number of values read before it". A row's sense and a solution's count
-- take the first cell after the name, and a row's right-hand value is the first value after it
abbrev pub row_of : Mark → List ℕ
row_of m = m.name.place ∷ length m.name.bytes ∷ m.cells ∷ m.values ∷ []

-- each name's row, "4 for each row", laid into a table
abbrev pub laid : List ℕ → List Mark → List ℕ
laid table [] = table
laid table (m ∷ ms) = laid (sets table (4 * m.row) (row_of m)) ms

unfoldable pub row_table : ℕ → Tree → List ℕ
row_table size tree = laid (replicate size 0) (marks certificate tree 0 0)
