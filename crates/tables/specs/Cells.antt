-- What is fetched from tables of any size, stored in them, and handed out as a part of them.
-- Assumes nothing.
use Rattle.std.specs.Prelude.{◌≡◌, cond, List, [], ◌∷◌, ℕ, ◌+◌, ◌*◌, ◌≤◌, leb, ℤ, pos, length, get_or, set, take, drop}
use Rattle.std.proofs.lemmas.List.Edits.{sets}
use Rattle.arithmetic.specs.declared.Fraction.{Fraction}
use Rattle.tables.specs.Limits.{largest}
use Rattle.tables.specs.declared.Entry.{Entry}

-- ---- fetching

-- the number in a cell; a cell that the table does not have is 0
pub record CellIs (table : List ℕ) (i r : ℕ) : Type 0 where
  pub is : r ≡ get_or table i 0
  pub small : r ≤ largest

-- the value with this number: "numerator, denominator by turns"; where the table does not have it, each of them is 0
unfoldable pub fraction_at : List ℤ → ℕ → Fraction
fraction_at values n = record { num = get_or values (2 * n) (pos 0); den = get_or values (2 * n + 1) (pos 0) }

-- "row table .. (4 for each row)": "byte place of the name, its length, index cell where its sense stands, number of its
-- right-hand value"
pub record EntryIs (rows : List ℕ) (r : ℕ) (e : Entry) : Type 0 where
  pub place : CellIs rows (4 * r) e.place
  pub size : CellIs rows (4 * r + 1) e.size
  pub cell : CellIs rows (4 * r + 2) e.cell
  pub number : CellIs rows (4 * r + 3) e.number

-- ---- storing

-- a table with a number in a cell: as it was where it has no such cell, or no cell can hold the number
unfoldable pub with_cell : ℕ → ℕ → List ℕ → List ℕ
with_cell i x table = cond (leb x largest) (set table i x) table

-- the value table with the value of this number
abbrev pub with_value : ℕ → Fraction → List ℤ → List ℤ
with_value n f values = sets values (2 * n) (f.num ∷ f.den ∷ [])

-- the row table with the entry of row r
abbrev pub with_entry : ℕ → Entry → List ℕ → List ℕ
with_entry r e rows =
    with_cell (4 * r + 3) e.number
    (with_cell (4 * r + 2) e.cell
    (with_cell (4 * r + 1) e.size
    (with_cell (4 * r) e.place rows)))

-- ---- parts

-- so many elements of a table, from this one on; none where it does not have them all
unfoldable pub part : {A : Type 0} → ℕ → ℕ → List A → List A
part from count table = cond (leb (from + count) (length table)) (take count (drop from table)) []
