-- What is known of the exact result of a product or a sum before it is brought to lowest terms: the terms of contracts that no
-- caller sees.
-- Assumes nothing.
use Rattle.std.specs.Prelude.{◌≡◌, Bool, ◌&&◌, ℕ, ◌*◌, ◌<◌, nat_abs}
use Rattle.std.specs.Int.{◌∣◌}
use Rattle.arithmetic.specs.Outcome.{Outcome}
use Rattle.arithmetic.specs.Quotient.{lowest}
use Rattle.arithmetic.specs.Fraction.{ratio_of, on_fractions, within}
use Rattle.arithmetic.specs.Parts.{lowest_terms}
use Rattle.arithmetic.specs.declared.Fraction.{Fraction}
use Rattle.arithmetic.specs.declared.Ratio.{Ratio}
use Rattle.fraction.specs.declared.Operation.{Operation}

-- numerator and denominator have no common divisor but 1
abbrev pub in_lowest_terms : Fraction → Bool
in_lowest_terms f = lowest_terms f.num (nat_abs f.den)

-- what divides both parts of f divides n
abbrev pub Shared : Fraction → ℕ → Type 0
Shared f n = (k : ℕ) → k ∣ nat_abs f.num → k ∣ nat_abs f.den → k ∣ n

-- q is over the product of the denominators, and what divides both parts of an operand divides its numerator
pub record ResultOf (a b : Fraction) (q : Ratio) : Type 0 where
  pub bottom_is : q.bottom ≡ nat_abs a.den * nat_abs b.den
  pub positive : 0 < q.bottom
  pub first : Shared a q.top
  pub second : Shared b q.top

-- the exact result brought to lowest terms, if both operands are in lowest terms
abbrev pub result_in_lowest_terms : Operation → Outcome Fraction
result_in_lowest_terms o = on_fractions (in_lowest_terms o.a && in_lowest_terms o.b) (within (lowest (ratio_of o.ratio)))
