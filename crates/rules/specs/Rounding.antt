-- Rounding (000, "Rounding"; document 01, **rnd**): refusal 14.
-- Assumes nothing.
use Rattle.std.specs.Prelude.{◌≡◌, Bool, not, ◌&&◌, ◌||◌, ℕ, eqb, ℤ}
use Rattle.arithmetic.specs.Quotient.{Quotient, ◌≈◌, floor_q, ceiling_q}
use Rattle.arithmetic.specs.Fraction.{exact}
use Rattle.arithmetic.specs.Meaning.{IsFloor, IsCeiling}
use Rattle.arithmetic.specs.declared.Fraction.{Fraction}
use Rattle.grammar.specs.Tree.{Sense, equal, at_most, at_least, Tree}
use Rattle.rules.specs.Tests.{EveryBelow, every_below, In, some_of}
use Rattle.rules.specs.Values.{whole_f, Whole, is_whole, zero_q, is_zero}
use Rattle.rules.specs.Rows.{variables, Constraint, same_sense}

-- ---- "a_ij is an integer and is nonzero only if i_j is an integer variable index"

abbrev pub IsInteger : Tree → ℕ → Type 0
IsInteger tree v = In v tree.integers.indices

abbrev pub is_integer : Tree → ℕ → Bool
is_integer tree v = some_of (λ i. eqb i v) tree.integers.indices

-- the left side takes whole values wherever the integer variables do
abbrev pub Integral : Tree → Constraint → Type 0
Integral tree c =
    EveryBelow (variables tree) (λ v. Whole (c.coefficient v) × ((exact (c.coefficient v) ≈ zero_q → ⊥) → IsInteger tree v))

unfoldable pub is_integral : Tree → Constraint → Bool
is_integral tree c =
    every_below (variables tree) (λ v. is_whole (c.coefficient v) && (is_zero (exact (c.coefficient v)) || is_integer tree v))

-- ---- "14 if it is an equality, or a coefficient is not whole, or a nonzero one stands at a variable that isn't integer"

pub record CanBeRounded (tree : Tree) (c : Constraint) : Type 0 where
  pub not_equality : c.sense ≡ equal → ⊥
  pub integral : Integral tree c

unfoldable pub can_be_rounded : Tree → Constraint → Bool
can_be_rounded tree c = not (same_sense c.sense equal) && is_integral tree c

-- ---- "β' = ⌊β⌋ if sense is ≤, ⌈β⌉ if sense is ≥"

-- z is what x is rounded to under a sense; an equality is not rounded
abbrev pub RoundsTo : Sense → Quotient → ℤ → Type 0
RoundsTo equal x z = ⊥
RoundsTo at_most x z = IsFloor x z
RoundsTo at_least x z = IsCeiling x z

-- the constraint d "is said to be obtained from rounding" c
pub record Rounded (c d : Constraint) : Type 0 where
  pub same-sense : c.sense ≡ d.sense
  pub same_coefficients_lem : c.coefficient ≡ d.coefficient
  pub whole : ℤ
  pub right_is : whole_f whole ≡ d.right
  pub rounds : RoundsTo c.sense (exact c.right) whole

abbrev pub rounded_right : Sense → Fraction → Fraction
rounded_right equal b = b
rounded_right at_most b = whole_f (floor_q (exact b))
rounded_right at_least b = whole_f (ceiling_q (exact b))

unfoldable pub rounded : Constraint → Constraint
rounded c = record { sense = c.sense; coefficient = c.coefficient; right = rounded_right c.sense c.right }
