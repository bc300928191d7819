-- What a tree takes of the tables, written out: the index cells, the values and the rows of each of its parts, in file order
-- (document 01, "Tables lent by the caller"). Proved to be what Layout.antt gathers, for every tree.
-- Assumes nothing.
use Rattle.std.specs.Prelude.{◌≡◌, refl, ℕ, ◌+◌, length}
use Rattle.std.proofs.Common.{◌∙◌, ap, add-zero, arith, length-append}
use Rattle.std.proofs.Math.Path.{ap₂}
use mathlib.Core.List.{List, [], ◌∷◌, ◌++◌, map, map-append, append-nil}
use Rattle.text.specs.Bytes.{Bytes}
use Rattle.arithmetic.specs.declared.Fraction.{Fraction}
use Rattle.tables.specs.Limits.{most_rows}
use Rattle.tables.specs.Words as cell
use Rattle.grammar.specs.Tree.{Integers, Term, TermList, Objective, Side, obj, listed, Row, Constraints, End, infinite, finite, Claim, infeas, range, Solution, Solutions, Multiplier, MultiplierList, Reason, asm, lin, rnd, uns, sol, Last, never, index, Derivation, Derivations, Tree}
use Rattle.grammar.specs.Format.{Or, instead, given, Symbol, word, placed, choice, number, name, row_name, value, or, Format, symbol, then, items, nothing, view}
use Rattle.grammar.specs.Certificate.{Pair, pair, pair_list, of_term, of_multiplier, term_list, sense, sense_cell, Listed, listed_terms, side, row, row_names, multiplier_list, ReasonWord, assumptions, asm_word, lin_word, rnd_word, uns_word, sol_word, detail, Detail, reason, last, derivation, solution, end_or, ClaimWord, infeas_word, range_word, claim_cell, of_claim, Ends, ends, claim, direction_cell, section, variables, integers, objective_section, constraints, relation, solution_section, derivation_section, certificate}
use Rattle.grammar.specs.Layout.{Mark, symbol_cells, symbol_values, symbol_marks, gather_items, gather, cells, values, marks_items, marks}

-- ---- the index cells and the values of each part

-- of all elements of a list, one after the other
abbrev pub of_all : {A X : Type 0} → (A → List X) → List A → List X
of_all F [] = []
of_all F (x ∷ xs) = F x ++ of_all F xs

-- a term list: its count, and its variables' indices; its coefficients
abbrev pub term_cells : TermList → List ℕ
term_cells t = t.count ∷ map (λ (x : Term). x.variable) t.terms

abbrev pub term_values : TermList → List Fraction
term_values t = map (λ (x : Term). x.coefficient) t.terms

-- `OBJ` or a term list
abbrev pub side_cells : Side → List ℕ
side_cells obj = cell.OBJ ∷ []
side_cells (listed t) = term_cells t

abbrev pub side_values : Side → List Fraction
side_values obj = []
side_values (listed t) = term_values t

-- a row: its sense, and its side; its right-hand value, and its side's
abbrev pub row_index_cells : Row → List ℕ
row_index_cells r = sense_cell r.sense ∷ side_cells r.side

abbrev pub row_values : Row → List Fraction
row_values r = r.right ∷ side_values r.side

-- a reason: its word, and a count and the rows' indices, or i1 l1 i2 l2; its multipliers
abbrev pub multiplier_cells : MultiplierList → List ℕ
multiplier_cells m = m.count ∷ map (λ (x : Multiplier). x.row) m.multipliers

abbrev pub multiplier_values : MultiplierList → List Fraction
multiplier_values m = map (λ (x : Multiplier). x.factor) m.multipliers

abbrev pub reason_cells : Reason → List ℕ
reason_cells asm = cell.asm ∷ []
reason_cells (lin m) = cell.lin ∷ multiplier_cells m
reason_cells (rnd m) = cell.rnd ∷ multiplier_cells m
reason_cells (uns u) = cell.uns ∷ u.i1 ∷ u.l1 ∷ u.i2 ∷ u.l2 ∷ []
reason_cells sol = cell.sol ∷ []

abbrev pub reason_values : Reason → List Fraction
reason_values asm = []
reason_values (lin m) = multiplier_values m
reason_values (rnd m) = multiplier_values m
reason_values (uns u) = []
reason_values sol = []

abbrev pub last_cell : Last → ℕ
last_cell never = cell.never
last_cell (index i) = i

-- a derivation: its row, its reason, its last index
abbrev pub derivation_cells : Derivation → List ℕ
derivation_cells d = row_index_cells d.row ++ (reason_cells d.reason ++ (last_cell d.last ∷ []))

abbrev pub derivation_values : Derivation → List Fraction
derivation_values d = row_values d.row ++ reason_values d.reason

-- a claim: its word, and a cell for each end; the ends' values
abbrev pub end_cell : End → ℕ
end_cell infinite = cell.infinite
end_cell (finite f) = cell.finite

abbrev pub end_values : End → List Fraction
end_values infinite = []
end_values (finite f) = f ∷ []

abbrev pub claim_cells : Claim → List ℕ
claim_cells infeas = cell.infeas ∷ []
claim_cells (range lower upper) = cell.range ∷ end_cell lower ∷ end_cell upper ∷ []

abbrev pub claim_values : Claim → List Fraction
claim_values infeas = []
claim_values (range lower upper) = end_values lower ++ end_values upper

-- ---- of the sections, and of a whole tree

abbrev pub integers_cells : Integers → List ℕ
integers_cells i = i.count ∷ i.indices

abbrev pub objective_cells : Objective → List ℕ
objective_cells o = direction_cell o.direction ∷ term_cells o.terms

abbrev pub constraints_cells : Constraints → List ℕ
constraints_cells c = c.count ∷ c.bounds ∷ of_all row_index_cells c.rows

abbrev pub constraints_values : Constraints → List Fraction
constraints_values c = of_all row_values c.rows

abbrev pub solutions_cells : Solutions → List ℕ
solutions_cells s = s.count ∷ of_all (λ (x : Solution). term_cells x.values) s.solutions

abbrev pub solutions_values : Solutions → List Fraction
solutions_values s = of_all (λ (x : Solution). term_values x.values) s.solutions

abbrev pub derivations_cells : Derivations → List ℕ
derivations_cells d = d.count ∷ of_all derivation_cells d.derivations

abbrev pub derivations_values : Derivations → List Fraction
derivations_values d = of_all derivation_values d.derivations

abbrev pub tree_cells : Tree → List ℕ
tree_cells t =
    (t.variables.count ∷ [])
    ++ (integers_cells t.integers
    ++ (objective_cells t.objective
    ++ (constraints_cells t.constraints
    ++ (claim_cells t.relation.claim
    ++ (solutions_cells t.solutions
    ++ derivations_cells t.derivations)))))

abbrev pub tree_values : Tree → List Fraction
tree_values t =
    term_values t.objective.terms
    ++ (constraints_values t.constraints
    ++ (claim_values t.relation.claim
    ++ (solutions_values t.solutions
    ++ derivations_values t.derivations)))

-- as many numbers as the list has elements, from this one on
abbrev pub up_from : {A : Type 0} → ℕ → List A → List ℕ
up_from n [] = []
up_from n (x ∷ xs) = n ∷ up_from (n + 1) xs

-- the rows of the row table, in file order: constraint r has row r, solution j has row 1,024 + j
abbrev pub tree_rows : Tree → List ℕ
tree_rows t =
    up_from 0 t.constraints.rows
    ++ (up_from most_rows t.solutions.solutions
    ++ up_from t.constraints.count t.derivations.derivations)

-- ---- that this is what Layout.antt gathers

-- the row of each name that the row table keeps
abbrev pub symbol_rows : {A : Type 0} → Symbol A → A → List ℕ
symbol_rows (word w) u = []
symbol_rows (placed w) p = []
symbol_rows (choice cell words out) a = []
symbol_rows (number bound used) n = []
symbol_rows name t = []
symbol_rows (row_name row used) t = row ∷ []
symbol_rows (value cells) f = []
symbol_rows (or w cell s) instead = []
symbol_rows (or w cell s) (given a) = symbol_rows s a

abbrev pub row_numbers_of : (A : Type 0) → Symbol A → A → List ℕ
row_numbers_of A s a = symbol_rows s a

abbrev pub row_numbers : {A : Type 0} → Format A → A → List ℕ
row_numbers f a = gather row_numbers_of f a

-- what a format takes of each table, whatever is kept
pub record Lays {A : Type 0} (f : Format A) (C : A → List ℕ) (U : A → List Fraction) (R : A → List ℕ) : Type 0 where
  pub cells_are : (a : A) → cells f a ≡ C a
  pub values_are : (a : A) → values f a ≡ U a
  pub rows_are : (a : A) → row_numbers f a ≡ R a

-- ---- the whole

-- the rows of the marks, for every format
abbrev pub mark_rows : List Mark → List ℕ
mark_rows ms = map (λ (m : Mark). m.row) ms
