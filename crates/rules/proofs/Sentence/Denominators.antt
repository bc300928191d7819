-- The denominators that the sentence about points compares are positive, of every certificate that is well formed.
-- Assumes nothing.
use Rattle.std.specs.Prelude.{List, [], ◌∷◌, ℕ}
use Rattle.std.proofs.Common.{mul-pos, arith}
use Rattle.arithmetic.specs.QuotientLaws.{Positive}
use Rattle.arithmetic.specs.Fraction.{exact}
use Rattle.arithmetic.proofs.Meaning.{exact_positive}
use Rattle.grammar.specs.Tree.{Term, Row, End, infinite, finite, Claim, infeas, range, Solution, Tree}
use Rattle.rules.specs.Tests.{All}
use Rattle.rules.specs.Rows.{variables, value_in, objective, terms_of}
use Rattle.rules.specs.Sentence.Points.{Point, value_at, IfFinite, EndsPositive, DenominatorsPositive}
use Rattle.rules.specs.Sentence.Formed.{Formed, RowFormed, EndFormed, ClaimFormed, WellFormed}
use Rattle.rules.proofs.Sentence.Lines.{value_fraction}

all_of : {A : Type 0} {P Q : A → Type 0} → ((a : A) → P a → Q a) → (xs : List A) → All P xs → All Q xs
all_of f [] h = tt
all_of f (x ∷ xs) h = (f x h.0, all_of f xs h.1)

sum_positive : (x : Point) (n : ℕ) (ts : List Term) → Formed n ts → Positive (value_at ts x)
sum_positive x n [] f = omega arith
sum_positive x n (t ∷ ts) f =
    mul-pos (mul-pos (exact_positive t.coefficient f.0.0) x.positive) (sum_positive x n ts f.1.1)

end_positive : (e : End) → EndFormed e → IfFinite e Positive
end_positive infinite f = tt
end_positive (finite bound) f = exact_positive bound f

ends_positive : (c : Claim) → ClaimFormed c → EndsPositive c
ends_positive infeas f = tt
ends_positive (range lower upper) f = (end_positive lower f.0, end_positive upper f.1)

pub formed_positive : (tree : Tree) → WellFormed tree → DenominatorsPositive tree
formed_positive tree formed =
    record {
      left_sides = λ x. all_of (λ row f. sum_positive x n (terms_of tree row) f.terms_formed) tree.constraints.rows formed.rows_formed;
      right_sides = all_of (λ row f. exact_positive row.right f.right_fraction) tree.constraints.rows formed.rows_formed;
      objectives = λ x. sum_positive x n (objective tree) formed.objective_formed;
      solutions = all_of (λ s f v. exact_positive (value_in s.values.terms v) (value_fraction n s.values.terms f v)) tree.solutions.solutions formed.solutions_formed;
      ends = ends_positive tree.relation.claim formed.claim_formed;
    }
  where
    n : ℕ
    n = variables tree
