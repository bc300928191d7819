-- What is proved of the definitions in specs/Cases.antt.
-- Assumes nothing.
use Rattle.std.specs.Prelude.{refl}
use Rattle.integers.specs.Gcd.{gcd, euclid}
use Rattle.text.specs.Bytes.{is_digit}
use Rattle.arithmetic.specs.Quotient.{lowest, floor_z, ceiling_z}
use Rattle.arithmetic.specs.Fraction.{is_fraction, within, on_fractions}
use Rattle.numerals.specs.Spelling.{quotient_of}
use Rattle.numerals.specs.Reading.{narrowed, outcome_of, read_value}
use Rattle.numerals.specs.Cases.{All, cases}

pub cases_hold : All cases
unfolding read_value outcome_of narrowed quotient_of is_digit lowest floor_z ceiling_z is_fraction within on_fractions gcd euclid
cases_hold =
    (refl, (refl, (refl, (refl, (refl, (refl, (refl, (refl, (refl, (refl, (refl, (refl, (refl, (refl, (refl, (refl, (refl, (refl, (refl, (refl, (refl, (refl, (refl, tt)))))))))))))))))))))))
