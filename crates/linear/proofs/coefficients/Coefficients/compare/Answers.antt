-- `linear::coefficients::Coefficients::compare` meets its contract: the count of those that are not zero tells both.
use mathlib.Core.Path.{◌∙◌, ap}
use Prim.Native.Nat.{ℕ}
use lib.Dec.{eqb}
use Rattle.arithmetic.specs.Fraction.{exact}
use Rattle.rules.specs.Values.{is_zero}
use Rattle.linear.specs.Coefficients.{coefficients_of}
use Rattle.linear.proofs.CoefficientsLaws.{nonzeros_stored}
use Rattle.linear.proofs.Counting.{none_counted}
use Rattle.linear.proofs.coefficients.Coefficients.compare.Goals as goal

pub returns : goal.returns
returns c =
    λ formed are.
    let a = c.args in
    let many = c.nonzeros-nonzero.ensures ∙ nonzeros_stored a.self.now a.n in
    record {
      same = c.are_those_of.ensures _ formed are many;
      zero = ap (λ (k : ℕ). eqb k 0) many ∙ none_counted (λ v. is_zero (exact (coefficients_of a.self.now v))) a.n;
    }
