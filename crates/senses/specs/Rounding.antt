-- Rounding: the coefficients that it allows, and right sides that are rounded.
-- Assumes nothing.
use Rattle.std.specs.Prelude.{Bool, ◌&&◌, ◌||◌, ℤ}
use Rattle.arithmetic.specs.Outcome.{Outcome, gives, refuses}
use Rattle.arithmetic.specs.Fraction.{exact}
use Rattle.arithmetic.specs.declared.Fraction.{Fraction}
use Rattle.rules.specs.Values.{is_whole, is_zero, whole_f}

-- whole, and "nonzero only at integer variables"
abbrev pub may_stand : Fraction → Bool → Bool
may_stand f integer = is_whole f && (is_zero (exact f) || integer)

-- the right side that a rounding gives; where there is none, the one that was to be rounded
abbrev pub with_rounding : Fraction → Outcome ℤ → Fraction
with_rounding right (gives z) = whole_f z
with_rounding right (refuses n) = right
