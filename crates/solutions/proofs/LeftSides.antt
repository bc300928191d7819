-- Left sides at a point, the rows that are tested by them, and what is asked of a solution.
-- Assumes nothing.
use Rattle.std.specs.Prelude.{◌≡◌, Bool, List, Result, Ok, Err, ℕ, ◌<◌, ℤ, length, get_or}
use Rattle.std.proofs.Common.{sym, ap, ap₂, subst, ◌∙◌, arith}
use Rattle.arithmetic.specs.Fraction.{IsFraction}
use Rattle.arithmetic.specs.declared.Fraction.{Fraction}
use Rattle.tables.specs.declared.Header.{Header}
use Rattle.grammar.specs.Refusals.{refusal_number}
use Rattle.grammar.specs.Tree.{Term, Row, Solution, Tree}
use Rattle.grammar.specs.declared.Stop.{Stop}
use Rattle.rules.specs.Result as result
use Rattle.rules.specs.Result.{bind, ◌and_then◌, require, each}
use Rattle.rules.specs.Rows.{terms_of, row_of, no_row}
use Rattle.rules.specs.Solutions.{left_side, holds, check_row, check_solution}
use Rattle.rules.proofs.SolutionsLaws.{gives_left-side, left-side_fraction}
use Rattle.senses.specs.Senses.{sense_is}
use Rattle.encoding.specs.Encodes.{EncodesRow, Encodes}
use Rattle.encoding.proofs.EncodesLaws.{given_are, rows_are, given-at}
use Rattle.encoding.specs.Rows.{RowIs}
use Rattle.encoding.specs.declared.rows.ListedRow.{ListedRow}
use Rattle.solutions.specs.Points.{whole_at, left_says}

pub left_fraction : (place : ℕ) (values terms : List Term) {left : Fraction} → left_side place values terms ≡ result.done left → IsFraction left
left_fraction place values terms {left} e = left-side_fraction values terms left ((gives_left-side place values terms left).0 e)

-- ---- a row at the point of a solution, by what comes of its left side

module _ (tree : Tree) (s : Solution) (row : Row) where
  abbrev tested : result.Result Fraction → result.Verdict
  tested o = bind o (λ left. require (holds row.sense left row.right) 9 s.name.place)

  row_is : {answer a : Result Fraction Stop} → left_says answer ≡ left_side s.name.place s.values.terms (terms_of tree row) → answer ≡ a → tested (left_says a) ≡ check_row tree s row
  unfolding check_row
  row_is q e = sym (ap (λ (a : Result Fraction Stop). tested (left_says a)) e) ∙ ap tested q

  module _ {answer : Result Fraction Stop} (q : left_says answer ≡ left_side s.name.place s.values.terms (terms_of tree row)) where
    pub row-refused : {stop : Stop} → answer ≡ Err stop → result.refused (refusal_number stop.reason) stop.place ≡ check_row tree s row
    row-refused e = row_is q e

    -- and by whether its sense holds there
    pub row_tested : {index : List ℕ} {values : List ℤ} {x : ListedRow} {left : Fraction} {answers test : Bool} {place : ℕ} → RowIs tree index values row x → IsFraction row.right
        → answer ≡ Ok left → (IsFraction left → IsFraction x.bound.right → answers ≡ holds (sense_is x.bound.sense) left x.bound.right) → answers ≡ test → place ≡ s.name.place
        → require test 9 place ≡ check_row tree s row
    row_tested {left = left} r f v h t at =
        ap₂ (λ (b : Bool) (n : ℕ). require b 9 n)
        (sym t ∙ h (left_fraction s.name.place s.values.terms (terms_of tree row) (sym q ∙ ap left_says v)) (subst IsFraction (sym r.right_is) f) ∙ ap₂ (λ c n. holds c left n) r.sense_is_lem r.right_is)
        at
        ∙ row_is q v

-- a given row of tables that encode a certificate
pub given-row : {tree : Tree} {h : Header} {index : List ℕ} {values : List ℤ} {rows : List ℕ} {r : ℕ} → Encodes tree h index values rows → r < h.given
    → (r < length tree.constraints.rows) × EncodesRow tree index values rows h.objective r (get_or tree.constraints.rows r no_row)
given-row {tree} {h} {index} {values} {rows} {r} e lt = (
  omega (arith, given_are e),
  subst (EncodesRow tree index values rows h.objective r) (ap row_of (given-at e r lt)) (e.row r (omega (arith, rows_are e))),
)

-- ---- a solution, by what comes of its values at integer variables

pub solution_is : (tree : Tree) (s : Solution) {v : result.Verdict} {listed : List ℕ} → v ≡ each (whole_at s) listed → listed ≡ tree.integers.indices
    → (v and_then each (check_row tree s) tree.constraints.rows) ≡ check_solution tree s
unfolding check_solution
solution_is tree s v l = ap (λ (v : result.Verdict). v and_then each (check_row tree s) tree.constraints.rows) (v ∙ ap (each (whole_at s)) l)
