-- The one relation between a certificate and tables: its parts are found where they are looked for (Places.antt). The parts of the
-- relation are named for the part of the certificate that they speak of. That there are such tables for every certificate that
-- is read is `held_encodes` (HeldLaws.antt).
-- Assumes nothing.
use Rattle.std.specs.Prelude.{◌≡◌, List, [], ℕ, ◌+◌, ◌<◌, ℤ, get_or}
use Rattle.arithmetic.specs.Fraction.{IsFraction}
use Rattle.tables.specs.Limits.{most_rows}
use Rattle.tables.specs.Words as word
use Rattle.tables.specs.Cells.{fraction_at}
use Rattle.tables.specs.declared.Pairs.{Pairs}
use Rattle.tables.specs.declared.Header.{Header}
use Rattle.grammar.specs.Tree.{Row, End, infinite, finite, Claim, infeas, range, Solution, Multiplier, Reason, asm, lin, rnd, uns, sol, never, Derivation, Tree}
use Rattle.grammar.specs.Certificate.{sense_cell, reason_cell, of_reason}
use Rattle.grammar.specs.Contents.{last_cell, end_cell}
use Rattle.grammar.specs.Ranges.{LastInRange, TreeInRange}
use Rattle.grammar.specs.Header.{header_of}
use Rattle.rules.specs.Tests.{All}
use Rattle.rules.specs.Rows.{variables, objective, terms_of, no_row, row_at}
use Rattle.rules.specs.Derivations.{named}
use Rattle.rules.specs.Sentence.Formed.{Formed, RowFormed, WellFormed}
use Rattle.encoding.specs.declared.Certificate.{Certificate}
use Rattle.encoding.specs.Places.{terms_at, multipliers_at, integers_at, place_of, cell_of, number_of, side_of, solution_of, word_of, multipliers_of, named_by, last_of}

-- ---- rows

-- row r of the tables is this one
pub record EncodesRow (tree : Tree) (index : List ℕ) (values : List ℤ) (rows : List ℕ) (objective : Pairs) (r : ℕ) (row : Row) : Type 0 where
  pub place_is : place_of rows r ≡ row.name.place
  pub sense_is_lem : get_or index (cell_of rows r) 0 ≡ sense_cell row.sense
  pub right_is : fraction_at values (number_of rows r) ≡ row.right
  pub terms_are : terms_at index values (side_of index rows objective r) ≡ terms_of tree row
  pub formed : RowFormed tree row

-- ---- derivations

-- the multipliers of `lin` and `rnd`
abbrev pub EncodesMultipliers : List ℕ → List ℤ → Pairs → List Multiplier → Type 0
EncodesMultipliers index values p ms = (multipliers_at index values p ≡ ms) × All (λ (m : Multiplier). IsFraction m.factor) ms

abbrev pub EncodesReason : List ℕ → List ℤ → Pairs → Reason → Type 0
EncodesReason index values p asm = Unit {0}
EncodesReason index values p (lin ms) = EncodesMultipliers index values p ms.multipliers
EncodesReason index values p (rnd ms) = EncodesMultipliers index values p ms.multipliers
EncodesReason index values p (uns u) = Unit {0}
EncodesReason index values p sol = Unit {0}

-- row r of the tables is derived so
pub record EncodesDerivation (index : List ℕ) (values : List ℤ) (rows : List ℕ) (r : ℕ) (d : Derivation) : Type 0 where
  pub word_is : word_of index rows r ≡ reason_cell (of_reason d.reason).0
  pub named_are : named_by index rows r ≡ named d.reason
  pub named-below : All (λ i. i < r) (named d.reason)
  pub reason : EncodesReason index values (multipliers_of index rows r) d.reason
  pub last_is : last_of index rows r ≡ last_cell d.last
  pub last-below : LastInRange most_rows d.last

-- ---- solutions

-- solution j of the tables, over n variables, is this one
pub record EncodesSolution (n : ℕ) (index : List ℕ) (values : List ℤ) (rows : List ℕ) (j : ℕ) (s : Solution) : Type 0 where
  pub place_is : place_of rows (most_rows + j) ≡ s.name.place
  pub terms_are : terms_at index values (solution_of index rows j) ≡ s.values.terms
  pub formed : Formed n s.values.terms

-- ---- the claim

-- a finite end is the value with this number
abbrev pub EncodesEnd : List ℤ → ℕ → End → Type 0
EncodesEnd values n infinite = Unit {0}
EncodesEnd values n (finite f) = (fraction_at values n ≡ f) × IsFraction f

-- the word stands in this cell, and the ends' values begin with this number: "`infeas` 0, `range` 1"; "Each end of a range takes
-- a cell"
abbrev pub EncodesClaim : List ℕ → List ℤ → ℕ → ℕ → Claim → Type 0
EncodesClaim index values cell n infeas = get_or index cell 0 ≡ word.infeas
EncodesClaim index values cell n (range lower upper) =
    ((get_or index cell 0 ≡ word.range) × (get_or index (cell + 1) 0 ≡ end_cell lower) × (get_or index (cell + 2) 0 ≡ end_cell upper))
    × (EncodesEnd values n lower × EncodesEnd values (n + end_cell lower) upper)

-- ---- the whole

-- derivation k and solution j. In a certificate each number below the count has its own; any other stands for one that says
-- nothing
abbrev pub no_derivation : Derivation
no_derivation = record { row = no_row; reason = asm; last = never }

abbrev pub derivation_at : Tree → ℕ → Derivation
derivation_at tree k = get_or tree.derivations.derivations k no_derivation

abbrev pub no_solution : Solution
no_solution = record { name = record { place = 0; bytes = [] }; values = record { count = 0; terms = [] } }

abbrev pub solution_at : Tree → ℕ → Solution
solution_at tree j = get_or tree.solutions.solutions j no_solution

-- THE RELATION: these tables encode this certificate, whose header this is
pub record Encodes (tree : Tree) (h : Header) (index : List ℕ) (values : List ℤ) (rows : List ℕ) : Type 0 where
  pub in_range : TreeInRange tree
  pub formed : WellFormed tree
  pub header_is : h ≡ header_of tree
  pub integers_are : integers_at index h.integers ≡ tree.integers.indices
  pub objective_is : terms_at index values h.objective ≡ objective tree
  pub row : (r : ℕ) → r < h.rows → EncodesRow tree index values rows h.objective r (row_at tree r)
  pub derivation : (k : ℕ) → h.given + k < h.rows → EncodesDerivation index values rows (h.given + k) (derivation_at tree k)
  pub solution : (j : ℕ) → j < h.solutions → EncodesSolution (variables tree) index values rows j (solution_at tree j)
  pub claim : EncodesClaim index values h.claim h.ends tree.relation.claim

-- the same of a certificate of the code, which has its tables and its header: the whole, and row r
abbrev pub Holds : Tree → Certificate → Type 0
Holds tree c = Encodes tree c.header c.index.now c.values.now c.rows.now

abbrev pub HoldsRow : Tree → Certificate → ℕ → Row → Type 0
HoldsRow tree c r row = EncodesRow tree c.index.now c.values.now c.rows.now c.header.objective r row
