-- The tests of `Domination` decide its words.
-- Assumes nothing.
use Rattle.std.specs.Prelude.{Bool, ◌&&◌, ℕ}
use Rattle.arithmetic.specs.Quotient.{◌≈◌}
use Rattle.arithmetic.specs.Fraction.{exact}
use Rattle.arithmetic.specs.declared.Fraction.{Fraction}
use Rattle.grammar.specs.Tree.{Sense, equal, at_most, at_least}
use Rattle.rules.specs.Tests.{Decides, every_below}
use Rattle.rules.proofs.Tests.{not-true, decides_as, decides_and, decides_or, decides_not, decides_below}
use Rattle.rules.specs.Values.{zero_q, is_zero, Same}
use Rattle.rules.proofs.ValuesLaws.{decides_zero, decides_positive, decides_negative, decides_at_most, decides_same}
use Rattle.rules.specs.Rows.{Constraint}
use Rattle.rules.specs.Domination.{FailsAtZero, fails_at_zero, Absurd, is_absurd, SameCoefficients, same_coefficients, Tighter, is_tighter, Dominates, dominates}

decides_fails : (s : Sense) (b : Fraction) → Decides (fails_at_zero s b) (FailsAtZero s b)
decides_fails equal b = decides_not (is_zero (exact b)) (decides_zero (exact b))
decides_fails at_most b = decides_negative (exact b)
decides_fails at_least b = decides_positive (exact b)

pub decides_absurd : (n : ℕ) (c : Constraint) → Decides (is_absurd n c) (Absurd n c)
unfolding is_absurd
decides_absurd n c =
    decides_as (λ h. record { all-zero = h.0; fails = h.1 }) (λ h. (h.all-zero, h.fails))
    (decides_and (every_below n (λ v. is_zero (exact (c.coefficient v)))) (fails_at_zero c.sense c.right)
    (decides_below _ (λ v. exact (c.coefficient v) ≈ zero_q) (λ v. decides_zero (exact (c.coefficient v))) n)
    (decides_fails c.sense c.right))

pub decides_same_coefficients : (n : ℕ) (c d : Constraint) → Decides (same_coefficients n c d) (SameCoefficients n c d)
unfolding same_coefficients
decides_same_coefficients n c d =
    decides_below _ (λ v. Same (c.coefficient v) (d.coefficient v)) (λ v. decides_same (c.coefficient v) (d.coefficient v)) n

never_tighter : Decides Bool.false ⊥
never_tighter = ((λ e. not-true e), λ h. absurd h)

decides_tighter : (s : Sense) (b : Fraction) (s' : Sense) (b' : Fraction) → Decides (is_tighter s b s' b') (Tighter s b s' b')
decides_tighter at_least b at_least b' = decides_at_most b' b
decides_tighter equal b at_least b' = decides_at_most b' b
decides_tighter at_most b at_most b' = decides_at_most b b'
decides_tighter equal b at_most b' = decides_at_most b b'
decides_tighter equal b equal b' = decides_same b b'
decides_tighter at_most b at_least b' = never_tighter
decides_tighter at_most b equal b' = never_tighter
decides_tighter at_least b at_most b' = never_tighter
decides_tighter at_least b equal b' = never_tighter

pub decides_dominates : (n : ℕ) (c d : Constraint) → Decides (dominates n c d) (Dominates n c d)
unfolding dominates
decides_dominates n c d =
    decides_or (is_absurd n c) (same_coefficients n c d && is_tighter c.sense c.right d.sense d.right) (decides_absurd n c)
    (decides_and (same_coefficients n c d) (is_tighter c.sense c.right d.sense d.right) (decides_same_coefficients n c d)
    (decides_tighter c.sense c.right d.sense d.right))
