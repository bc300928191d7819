-- Laws of the operations for those who call them: products and sums commute; 0 and 1; what is given is a fraction.
-- Assumes nothing.
use Rattle.std.specs.Prelude.{pos}
use Rattle.arithmetic.specs.declared.Fraction.{Fraction}

-- ---- 0 and 1

abbrev pub zero_f : Fraction
zero_f = record { num = pos 0; den = pos 1 }

abbrev pub one_f : Fraction
one_f = record { num = pos 1; den = pos 1 }
