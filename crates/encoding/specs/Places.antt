-- Where the parts of a certificate are looked for in tables of any size and content (document 01, "Tables lent by the caller"):
-- lists of pairs, the terms of rows and solutions, and the reasons of derived rows.
-- Assumes nothing.
use Rattle.std.specs.Prelude.{Bool, cond, ◌||◌, List, [], ℕ, ◌+◌, ◌*◌, eqb, ℤ, get_or}
use Rattle.arithmetic.specs.declared.Fraction.{Fraction}
use Rattle.tables.specs.Limits.{most_rows}
use Rattle.tables.specs.Words as word
use Rattle.tables.specs.Cells.{part}
use Rattle.tables.specs.Pairs.{listed_in}
use Rattle.tables.specs.declared.Pairs.{Pairs}
use Rattle.grammar.specs.Tree.{Term, Multiplier}

-- ---- lists

-- the indices of listed pairs, and their values by turns
abbrev pub indices_at : List ℕ → Pairs → List ℕ
indices_at index p = part p.cell p.count index

abbrev pub values_at : List ℤ → Pairs → List ℤ
values_at values p = part (2 * p.number) (2 * p.count) values

abbrev pub a_term : ℕ → Fraction → Term
a_term v f = record { variable = v; coefficient = f }

abbrev pub a_multiplier : ℕ → Fraction → Multiplier
a_multiplier r f = record { row = r; factor = f }

-- the terms, the multipliers that stand there
abbrev pub terms_at : List ℕ → List ℤ → Pairs → List Term
terms_at index values p = listed_in a_term (indices_at index p) (values_at values p)

abbrev pub multipliers_at : List ℕ → List ℤ → Pairs → List Multiplier
multipliers_at index values p = listed_in a_multiplier (indices_at index p) (values_at values p)

-- the pairs whose count stands in this cell, and whose first value has this number
abbrev pub pairs_from : List ℕ → ℕ → ℕ → Pairs
pairs_from index cell n = record { cell = cell + 1; number = n; count = get_or index cell 0 }

-- the integer variables: n and their count stand before them
abbrev pub integers_at : List ℕ → ℕ → List ℕ
integers_at index count = part 2 count index

-- ---- rows

-- "Row r .. holds: byte place of the name, its length, index cell where its sense stands, number of its right-hand value"
abbrev pub place_of : List ℕ → ℕ → ℕ
place_of rows r = get_or rows (4 * r) 0

abbrev pub cell_of : List ℕ → ℕ → ℕ
cell_of rows r = get_or rows (4 * r + 2) 0

abbrev pub number_of : List ℕ → ℕ → ℕ
number_of rows r = get_or rows (4 * r + 3) 0

-- the cell after its sense: the count of its terms, or `OBJ`
abbrev pub count_of : List ℕ → List ℕ → ℕ → ℕ
count_of index rows r = get_or index (cell_of rows r + 1) 0

-- where its terms stand, which may be the objective's: "`OBJ` instead of a term list is 65,535"
unfoldable pub side_at : List ℕ → Pairs → ℕ → ℕ → Pairs
side_at index objective cell number = cond (eqb (get_or index (cell + 1) 0) word.OBJ) objective (pairs_from index (cell + 1) (number + 1))

abbrev pub side_of : List ℕ → List ℕ → Pairs → ℕ → Pairs
side_of index rows objective r = side_at index objective (cell_of rows r) (number_of rows r)

-- "Row 1,024+j, solution j: name place, length, cell of its count, number of values read before it"
abbrev pub solution_of : List ℕ → List ℕ → ℕ → Pairs
solution_of index rows j = pairs_from index (cell_of rows (most_rows + j)) (number_of rows (most_rows + j))

-- ---- the reasons of derived rows

-- how many terms of its own a row lists
unfoldable pub own_terms : ℕ → ℕ
own_terms count = cond (eqb count word.OBJ) 0 count

-- the cell of the reason's word, after the row's cells
abbrev pub reason_of : List ℕ → List ℕ → ℕ → ℕ
reason_of index rows r = cell_of rows r + 2 + own_terms (count_of index rows r)

abbrev pub word_of : List ℕ → List ℕ → ℕ → ℕ
word_of index rows r = get_or index (reason_of index rows r) 0

-- `lin` or `rnd`: a count and that many pairs follow
abbrev pub is_combined : ℕ → Bool
is_combined w = eqb w word.lin || eqb w word.rnd

-- where its multipliers stand
abbrev pub multipliers_of : List ℕ → List ℕ → ℕ → Pairs
multipliers_of index rows r = pairs_from index (reason_of index rows r + 1) (number_of rows r + 1 + own_terms (count_of index rows r))

-- the rows that it names: i1 l1 i2 l2, or those of its pairs
unfoldable pub named_by : List ℕ → List ℕ → ℕ → List ℕ
named_by index rows r =
    cond (eqb (word_of index rows r) word.uns) (part (reason_of index rows r + 1) 4 index)
    (cond (is_combined (word_of index rows r)) (indices_at index (multipliers_of index rows r)) [])

-- how many cells follow the word, by the cell after it
unfoldable pub after_word : ℕ → ℕ → ℕ
after_word w count = cond (eqb w word.uns) 4 (cond (is_combined w) (1 + count) 0)

-- the last index, after the reason's cells
abbrev pub last_of : List ℕ → List ℕ → ℕ → ℕ
last_of index rows r =
    let reason = reason_of index rows r in
    get_or index (reason + 1 + after_word (get_or index reason 0) (get_or index (reason + 1) 0)) 0
