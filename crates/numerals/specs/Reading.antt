-- What reading one value gives: the fraction, or 01's number of its refusal, 4 or 7. A definition that computes.
-- Assumes nothing.
use Rattle.std.specs.Prelude.{Bool, true, false, cond, not, ◌&&◌, ◌||◌, [], ◌∷◌, ◌++◌, ◌+◌, ltb, eqb, nat_abs, length, take, drop}
use Rattle.std.proofs.Math.Option.{Option, none, some}
use Rattle.text.specs.Bytes.{Bytes, is_digit, every, leading, is_numeral}
use Rattle.arithmetic.specs.Outcome.{Outcome, gives, refuses}
use Rattle.arithmetic.specs.Quotient.{Quotient, lowest}
use Rattle.arithmetic.specs.Fraction.{limit}
use Rattle.arithmetic.specs.declared.Fraction.{Fraction}
use Rattle.numerals.specs.Spelling.{Sign, unsigned, plus, minus, Exponent, Tail, nothing, point, slash, scaled, Written, is_zero, places, significand, power_of, quotient_of, as_fraction, most_digits, whole_digits, decimal_digits, most_power}

-- ---- the form that a token is written in, where it has one

-- the digits that some bytes start with, and what is left after them
abbrev pub digits_of : Bytes → Bytes
digits_of t = take (leading is_digit t) t

abbrev pub after_digits : Bytes → Bytes
after_digits t = drop (leading is_digit t) t

-- the exponent that some bytes are, where they are one: the letter, the optional sign, digits
abbrev pub exponent_with : Bool → Sign → Bytes → Option Exponent
exponent_with capital sign t = cond (is_numeral t) (some (record { capital = capital; sign = sign; digits = t })) none

abbrev pub after_letter : Bool → Bytes → Option Exponent
after_letter capital [] = none
after_letter capital (b ∷ t) = cond (eqb b 43) (exponent_with capital plus t) (cond (eqb b 45) (exponent_with capital minus t) (exponent_with capital unsigned (b ∷ t)))

abbrev pub exponent_from : Bytes → Option Exponent
exponent_from [] = none
exponent_from (b ∷ t) = cond (eqb b 69) (after_letter true t) (cond (eqb b 101) (after_letter false t) none)

abbrev pub scaled_by : Option Bytes → Option Exponent → Option Tail
scaled_by d none = none
scaled_by d (some e) = some (scaled d e)

-- what follows the digits after a point: nothing, or an exponent
abbrev pub after_point : Bytes → Bytes → Option Tail
after_point d [] = some (point d)
after_point d (b ∷ t) = scaled_by (some d) (exponent_from (b ∷ t))

-- what the bytes after the first digits are, where they are a tail
abbrev pub tail_of : Bytes → Option Tail
tail_of [] = some nothing
tail_of (b ∷ t) =
    cond (eqb b 46) (cond (is_numeral (digits_of t)) (after_point (digits_of t) (after_digits t)) none)
    (cond (eqb b 47) (cond (is_numeral t && not (every is_zero t)) (some (slash t)) none)
    (scaled_by none (exponent_from (b ∷ t))))

abbrev pub with_tail : Bool → Bytes → Option Tail → Option Written
with_tail n w none = none
with_tail n w (some tail) = some (record { negative = n; whole = w; tail = tail })

-- the form of what follows the optional `-`, and of a token
abbrev pub unsigned_form : Bool → Bytes → Option Written
unsigned_form n t = cond (is_numeral (digits_of t)) (with_tail n (digits_of t) (tail_of (after_digits t))) none

abbrev pub form_of : Bytes → Option Written
form_of [] = none
form_of (b ∷ t) = cond (eqb b 45) (unsigned_form true t) (unsigned_form false (b ∷ t))

-- ---- the tests of width

abbrev pub too_many_digits : Bytes → Tail → Bool
too_many_digits w nothing = ltb most_digits (whole_digits w)
too_many_digits w (point d) = ltb most_digits (whole_digits w + decimal_digits d)
too_many_digits w (slash d) = ltb most_digits (whole_digits w) || ltb most_digits (whole_digits d)
too_many_digits w (scaled d e) = ltb most_digits (length (significand (w ++ places d)))

abbrev pub power_outside : Bytes → Tail → Bool
power_outside w nothing = false
power_outside w (point d) = false
power_outside w (slash d) = false
power_outside w (scaled d e) = not (every is_zero (w ++ places d)) && ltb most_power (nat_abs (power_of w d e))

abbrev pub beyond_limit : Quotient → Bool
beyond_limit x = ltb limit (nat_abs x.top) || ltb limit x.bottom

-- ---- reading

-- a quotient in lowest terms: 7 beyond the limit
unfoldable pub narrowed : Quotient → Outcome Fraction
narrowed x = cond (beyond_limit x) (refuses 7) (gives (as_fraction x))

-- "token not of the kind due" is 4, "value too wide" 7
unfoldable pub outcome_of : Option Written → Outcome Fraction
outcome_of none = refuses 4
outcome_of (some w) = cond (too_many_digits w.whole w.tail || power_outside w.whole w.tail) (refuses 7) (narrowed (lowest (quotient_of w)))

unfoldable pub read_value : Bytes → Outcome Fraction
read_value token = outcome_of (form_of token)
