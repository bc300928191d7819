-- Parts of the definitions: a quotient by its numerator and denominator, lowest terms as a test, and the test that is left of a
-- fraction in numbers of 32 bits.
-- Assumes nothing.
use Rattle.std.specs.Prelude.{Bool, ◌&&◌, ℕ, leb, eqb, ℤ, pos, nat_abs}
use Rattle.std.specs.Int.Signed.{lt_z}
use Rattle.integers.specs.Gcd.{gcd}
use Rattle.arithmetic.specs.Quotient.{Quotient}
use Rattle.arithmetic.specs.Fraction.{limit}
use Rattle.arithmetic.specs.declared.Fraction.{Fraction}

-- n / d
abbrev pub over : ℤ → ℕ → Quotient
over n d = record { top = n; bottom = d }

-- n / d is in lowest terms: the greatest common divisor is 1
abbrev pub lowest_terms : ℤ → ℕ → Bool
lowest_terms n d = eqb (gcd (nat_abs n) d) 1

-- within the limit: a denominator of 32 bits is, if it is positive
abbrev pub is_shaped : Fraction → Bool
is_shaped f = lt_z (pos 0) f.den && leb (nat_abs f.num) limit
