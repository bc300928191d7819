-- What the rules ask of values: whole, zero, positive, at most, equal; and products and sums within the limit. Each in words,
-- of the rational numbers that fractions stand for, and as a test or a computation. ValuesLaws.antt proves that they agree.
-- Assumes nothing.
use Rattle.std.specs.Prelude.{◌≡◌, Bool, true, false, ℕ, eqb, ℤ, pos, negsuc}
use Rattle.std.specs.Int.Signed.{lt_z}
use Rattle.arithmetic.specs.Outcome.{Outcome, gives, refuses}
use Rattle.arithmetic.specs.Quotient.{Quotient, ◌≈◌, ◌≤Q◌, ◌+Q◌, ◌*Q◌, whole_q}
use Rattle.arithmetic.specs.Fraction.{IsFraction, exact, product_of, sum_of, compare_of}
use Rattle.arithmetic.specs.declared.Fraction.{Fraction}
use Rattle.std.specs.declared.cmp.Ordering.{Ordering}
use Rattle.std.specs.declared.cmp.Ordering.TheVariants.{Less, Equal, Greater}
use Rattle.rules.specs.Result.{Result, done, refused}

-- ---- whole values

abbrev pub whole_f : ℤ → Fraction
whole_f z = record { num = z; den = pos 1 }

-- "whole": z / 1 for a whole number z, for fractions are in lowest terms
abbrev pub Whole : Fraction → Type 0
Whole f = (z : ℤ) × (f ≡ whole_f z)

abbrev pub same_z : ℤ → ℤ → Bool
same_z (pos a) (pos b) = eqb a b
same_z (pos a) (negsuc b) = false
same_z (negsuc a) (pos b) = false
same_z (negsuc a) (negsuc b) = eqb a b

abbrev pub is_whole : Fraction → Bool
is_whole f = same_z f.den (pos 1)

-- ---- signs, which a rational number has from its numerator

abbrev pub zero_q : Quotient
zero_q = whole_q (pos 0)

-- x ≈ zero_q
abbrev pub is_zero : Quotient → Bool
is_zero x = same_z x.top (pos 0)

-- zero_q <Q x
abbrev pub is_positive : Quotient → Bool
is_positive x = lt_z (pos 0) x.top

-- x <Q zero_q
abbrev pub is_negative : Quotient → Bool
is_negative x = lt_z x.top (pos 0)

-- ---- "Comparisons are exact, never 12": a comparison holds of fractions only

-- both are fractions, and the rational numbers that they stand for compare so
pub record Compared (R : Quotient → Quotient → Type 0) (a b : Fraction) : Type 0 where
  pub fractions : IsFraction a × IsFraction b
  pub compared : R (exact a) (exact b)

-- a is at most b; a is equal to b
abbrev pub AtMost : Fraction → Fraction → Type 0
AtMost a b = Compared ◌≤Q◌ a b

abbrev pub Same : Fraction → Fraction → Type 0
Same a b = Compared ◌≈◌ a b

abbrev pub not_greater : Ordering → Bool
not_greater Less = true
not_greater Equal = true
not_greater Greater = false

abbrev pub is_equal : Ordering → Bool
is_equal Less = false
is_equal Equal = true
is_equal Greater = false

abbrev pub passes : (Ordering → Bool) → Outcome Ordering → Bool
passes test (gives o) = test o
passes test (refuses n) = false

abbrev pub is_at_most : Fraction → Fraction → Bool
is_at_most a b = passes not_greater (compare_of a b)

abbrev pub is_same : Fraction → Fraction → Bool
is_same a b = passes is_equal (compare_of a b)

-- ---- "Every product and every sum is brought to lowest terms; numerator magnitude or denominator above 2,147,483,647 is
-- refusal 12"

-- p is the product of a and b, s is their sum, within the limit: all are fractions, and it is exact
abbrev pub IsProduct : Fraction → Fraction → Fraction → Type 0
IsProduct a b p = (IsFraction a × IsFraction b) × (IsFraction p × (exact p ≈ (exact a *Q exact b)))

abbrev pub IsSum : Fraction → Fraction → Fraction → Type 0
IsSum a b s = (IsFraction a × IsFraction b) × (IsFraction s × (exact s ≈ (exact a +Q exact b)))

-- 12 at a place. The other refusal of arithmetic, 4 for an operand that is no fraction, never falls on a certificate that was
-- read; here it counts as 12
abbrev pub within12 : ℕ → Outcome Fraction → Result Fraction
within12 place (gives f) = done f
within12 place (refuses n) = refused 12 place

abbrev pub product_at : ℕ → Fraction → Fraction → Result Fraction
product_at place a b = within12 place (product_of a b)

abbrev pub sum_at : ℕ → Fraction → Fraction → Result Fraction
sum_at place a b = within12 place (sum_of a b)
