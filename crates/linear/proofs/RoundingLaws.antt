-- Integral coefficients.
-- Assumes nothing.
use mathlib.Core.Path.{◌≡◌, refl, sym, ◌∙◌, ap}
use mathlib.Core.Bool.{Bool, true}
use mathlib.Core.List.{List}
use Prim.Native.Nat.{ℕ, ◌≤◌}
use lib.ListN.{length}
use Rattle.arithmetic.specs.declared.Fraction.{Fraction}
use Rattle.grammar.specs.Tree.{Term, Tree}
use Rattle.rules.specs.Tests.{all_of, every_below}
use Rattle.rules.specs.Rows.{value_in, variables, Constraint}
use Rattle.rules.specs.Rounding.{is_integer, is_integral}
use Rattle.rules.specs.Sentence.Formed.{Formed}
use Rattle.senses.specs.Rounding.{may_stand}
use Rattle.linear.specs.Coefficients.{coefficients_of, marked, VariablesAre}
use Rattle.linear.specs.declared.coefficients.Coefficients.{Coefficients}
use Rattle.linear.proofs.CoefficientsLaws.{coefficient_beyond}
use Rattle.linear.proofs.Counting.{every-same}
use Rattle.linear.proofs.ListedLaws.{every-listed}

abbrev pub integral_at : (ℕ → Fraction) → List Bool → ℕ → Bool
integral_at coefficient integers v = may_stand (coefficient v) (marked integers v)

pub integral_beyond : (c : Coefficients) (integers : List Bool) (v : ℕ) → length c.of ≤ v → integral_at (coefficients_of c) integers v ≡ true
integral_beyond c integers v h = ap (λ (f : Fraction). may_stand f (marked integers v)) (coefficient_beyond c v h)

module _ (tree : Tree) (n : ℕ) (integers : List Bool) (are : VariablesAre tree n integers) (c : Constraint) where
  -- of the coefficients of a constraint
  pub integral_is : (coefficient : ℕ → Fraction) → c.coefficient ≡ coefficient → every_below n (integral_at coefficient integers) ≡ is_integral tree c
  unfolding is_integral
  integral_is coefficient e =
      every-same _ (λ v. may_stand (coefficient v) (is_integer tree v)) n (λ v l. ap (may_stand (coefficient v)) (are.integer v l))
      ∙ ap (λ (m : ℕ). every_below m (λ v. may_stand (coefficient v) (is_integer tree v))) (sym are.number)
      ∙ ap (λ (f : ℕ → Fraction). every_below (variables tree) (λ v. may_stand (f v) (is_integer tree v))) (sym e)

  -- of the listed terms of one
  pub integral_listed : (ts : List Term) → Formed n ts → c.coefficient ≡ value_in ts
      → all_of (λ (t : Term). may_stand t.coefficient (marked integers t.variable)) ts ≡ is_integral tree c
  integral_listed ts formed e =
      every-listed n ts formed (λ (v : ℕ) (f : Fraction). may_stand f (marked integers v)) (λ v. refl) ∙ integral_is (value_in ts) e
