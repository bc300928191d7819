-- Term lists, rows and constraints: what a certificate's rows mean (source document 000, "Constraints", "Constraint format").
-- Assumes nothing.
use Rattle.std.specs.Prelude.{Bool, cond, List, [], ◌∷◌, ◌++◌, map, ℕ, eqb, get_or}
use Rattle.arithmetic.specs.Laws.{zero_f}
use Rattle.arithmetic.specs.declared.Fraction.{Fraction}
use Rattle.grammar.specs.Certificate.{sense_cell}
use Rattle.grammar.specs.Tree.{Term, Sense, equal, Side, obj, listed, Row, Derivation, Tree}

-- the number of variables; they "are indexed from 0 to n-1"
abbrev pub variables : Tree → ℕ
variables tree = tree.variables.count

-- the value that a term list gives a variable: "All other variables are assumed to have the value zero"; "Zero coefficients
-- are allowed and mean nothing"
unfoldable pub value_in : List Term → ℕ → Fraction
value_in [] v = zero_f
value_in (t ∷ ts) v = let later = value_in ts v in cond (eqb t.variable v) t.coefficient later

-- the objective's term list
abbrev pub objective : Tree → List Term
objective tree = tree.objective.terms.terms

-- a row's term list: its own, or "the keyword `OBJ` for indicating that [it] is the same as the objective function"
abbrev pub side_terms : Tree → Side → List Term
side_terms tree obj = objective tree
side_terms tree (listed ts) = ts.terms

abbrev pub terms_of : Tree → Row → List Term
terms_of tree row = side_terms tree row.side

-- ---- constraints

-- a constraint: its sense, the coefficient of each variable, its right side. Rows, combinations, rounded rows and claims are
-- all constraints
pub record Constraint : Type 0 where
  pub sense : Sense
  pub coefficient : ℕ → Fraction
  pub right : Fraction

-- two senses are the same
abbrev pub same_sense : Sense → Sense → Bool
same_sense s t = eqb (sense_cell s) (sense_cell t)

-- the constraint that a row is
unfoldable pub constraint_of : Tree → Row → Constraint
constraint_of tree row = record { sense = row.sense; coefficient = value_in (terms_of tree row); right = row.right }

-- OBJ with a sense and a right side
unfoldable pub objective_with : Tree → Sense → Fraction → Constraint
objective_with tree sense right = record { sense = sense; coefficient = value_in (objective tree); right = right }

-- ---- rows by their index

-- "two kinds of constraints: the constraints of the MILP problem and derived constraints"
pub data Entry : Type 0 where
  given_row : Row → Entry
  derived_row : Derivation → Entry

abbrev pub row_of : Entry → Row
row_of (given_row row) = row
row_of (derived_row d) = d.row

-- they "are assigned indices starting from 0 according to the order in which they appear in the certificate file"
unfoldable pub entries : Tree → List Entry
entries tree = map given_row tree.constraints.rows ++ map derived_row tree.derivations.derivations

-- the row with an index. In a certificate that was read every index has its row; any other stands for 0 = 0
abbrev pub no_row : Row
no_row = record { name = record { place = 0; bytes = [] }; sense = equal; right = zero_f; side = listed (record { count = 0; terms = [] }) }

unfoldable pub entry_at : Tree → ℕ → Entry
entry_at tree i = get_or (entries tree) i (given_row no_row)

abbrev pub row_at : Tree → ℕ → Row
row_at tree i = row_of (entry_at tree i)
