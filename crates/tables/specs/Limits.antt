-- The limits of document 01, each once. src/limits.rt has the same numbers for the code; the proofs hold them to these.
-- Assumes nothing.
use Rattle.std.specs.Prelude.{Bool, ◌&&◌, List, ℕ, ◌+◌, leb, length}

-- "variables n 0 to 256"
abbrev pub most_variables : ℕ
most_variables = 256

-- "m 0 to 1,024", "d 0 to 1,024 - m": rows, given and derived
abbrev pub most_rows : ℕ
most_rows = 1024

-- "s 0 to 64"
abbrev pub most_solutions : ℕ
most_solutions = 64

-- "The 65th word `asm` is 5"
abbrev pub most_assumptions : ℕ
most_assumptions = 64

-- "Row r (0 to 1,023, constraint r)", "Row 1,024+j, solution j": the entries of the row table
abbrev pub most_entries : ℕ
most_entries = most_rows + most_solutions

-- "2 text over 32,768 bytes"
abbrev pub most_bytes : ℕ
most_bytes = 32768

abbrev pub is_short : List ℕ → Bool
is_short text = leb (length text) most_bytes

-- "cells needed"
abbrev pub index_cells : ℕ
index_cells = 16384

abbrev pub value_cells : ℕ
value_cells = 16384

abbrev pub row_cells : ℕ
row_cells = 4352

-- "1 a table is too small"
abbrev pub has_cells : ℕ → ℕ → ℕ → Bool
has_cells index values rows = leb index_cells index && (leb value_cells values && leb row_cells rows)

-- "index table, u16", "row table, u16": the largest number that a cell holds
abbrev pub largest : ℕ
largest = 65535
