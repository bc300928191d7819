-- Domination of constraints (000, "Domination of constraints"): "Domination is exactly 000's: absurdities dominate all;
-- otherwise equal coefficients" (document 01). Of n variables.
-- Assumes nothing.
use Rattle.std.specs.Prelude.{Bool, false, not, ◌&&◌, ◌||◌, ◌⊎◌, ℕ}
use Rattle.arithmetic.specs.Quotient.{◌≈◌, ◌<Q◌}
use Rattle.arithmetic.specs.Fraction.{exact}
use Rattle.arithmetic.specs.declared.Fraction.{Fraction}
use Rattle.grammar.specs.Tree.{Sense, equal, at_most, at_least}
use Rattle.rules.specs.Tests.{EveryBelow, every_below}
use Rattle.rules.specs.Values.{zero_q, is_zero, is_positive, is_negative, AtMost, Same, is_at_most, is_same}
use Rattle.rules.specs.Rows.{Constraint}

-- ---- "A constraint that is 0 ≥ β with β > 0, 0 ≤ β with β < 0, or 0 = β with β ≠ 0 is called an absurdity or falsehood"

-- 0 does not compare so with β
abbrev pub FailsAtZero : Sense → Fraction → Type 0
FailsAtZero equal b = exact b ≈ zero_q → ⊥
FailsAtZero at_most b = exact b <Q zero_q
FailsAtZero at_least b = zero_q <Q exact b

abbrev pub fails_at_zero : Sense → Fraction → Bool
fails_at_zero equal b = not (is_zero (exact b))
fails_at_zero at_most b = is_negative (exact b)
fails_at_zero at_least b = is_positive (exact b)

pub record Absurd (n : ℕ) (c : Constraint) : Type 0 where
  pub all-zero : EveryBelow n (λ v. exact (c.coefficient v) ≈ zero_q)
  pub fails : FailsAtZero c.sense c.right

unfoldable pub is_absurd : ℕ → Constraint → Bool
is_absurd n c = every_below n (λ v. is_zero (exact (c.coefficient v))) && fails_at_zero c.sense c.right

-- ---- "a = a'"

abbrev pub SameCoefficients : ℕ → Constraint → Constraint → Type 0
SameCoefficients n c d = EveryBelow n (λ v. Same (c.coefficient v) (d.coefficient v))

unfoldable pub same_coefficients : ℕ → Constraint → Constraint → Bool
same_coefficients n c d = every_below n (λ v. is_same (c.coefficient v) (d.coefficient v))

-- ---- the senses and right sides, where the coefficients are equal

-- of the constraint that dominates, and of the one that is dominated
abbrev pub Tighter : Sense → Fraction → Sense → Fraction → Type 0
-- "a^Tx ≥ β or a^Tx = β dominates a'^Tx ≥ β' if a = a' and β ≥ β'"
Tighter at_least b at_least b' = AtMost b' b
Tighter equal b at_least b' = AtMost b' b
-- "a^Tx ≤ β or a^Tx = β dominates a'^Tx ≤ β' if a = a' and β ≤ β'"
Tighter at_most b at_most b' = AtMost b b'
Tighter equal b at_most b' = AtMost b b'
-- "a^Tx = β dominates a'^Tx = β' if a = a' and β = β'"
Tighter equal b equal b' = Same b b'
-- and no other
Tighter at_most b at_least b' = ⊥
Tighter at_most b equal b' = ⊥
Tighter at_least b at_most b' = ⊥
Tighter at_least b equal b' = ⊥

abbrev pub is_tighter : Sense → Fraction → Sense → Fraction → Bool
is_tighter at_least b at_least b' = is_at_most b' b
is_tighter equal b at_least b' = is_at_most b' b
is_tighter at_most b at_most b' = is_at_most b b'
is_tighter equal b at_most b' = is_at_most b b'
is_tighter equal b equal b' = is_same b b'
is_tighter at_most b at_least b' = false
is_tighter at_most b equal b' = false
is_tighter at_least b at_most b' = false
is_tighter at_least b equal b' = false

-- ---- "Such a constraint dominates any other constraint"

abbrev pub Dominates : ℕ → Constraint → Constraint → Type 0
Dominates n c d = Absurd n c ⊎ (SameCoefficients n c d × Tighter c.sense c.right d.sense d.right)

unfoldable pub dominates : ℕ → Constraint → Constraint → Bool
dominates n c d = is_absurd n c || (same_coefficients n c d && is_tighter c.sense c.right d.sense d.right)
