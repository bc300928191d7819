-- What the code's digits stand for: the terms of its private contracts. No public contract cites this file.
-- Assumes nothing.
use Rattle.std.specs.Prelude.{◌≡◌, Bool, true, false, cond, [], ◌∷◌, ◌++◌, ℕ, ◌+◌, ◌*◌, ◌^◌, ◌≤◌, ◌<◌, ltb, eqb, ℤ, nat_abs, length}
use Rattle.std.specs.Prelude.{Option as Answer, Some, None, Result, Ok, Err}
use Rattle.std.proofs.Math.Option.{Option}
use Rattle.integers.specs.Signs.{with_sign}
use Rattle.text.specs.Bytes.{Bytes, is_digit, every, leading, is_numeral, number_after, number_of}
use Rattle.arithmetic.specs.Outcome.{Outcome, refuses}
use Rattle.arithmetic.specs.Quotient.{lowest}
use Rattle.arithmetic.specs.Parts.{over}
use Rattle.arithmetic.specs.declared.Fraction.{Fraction}
use Rattle.numerals.specs.Spelling.{Tail, places, top_scaled, bottom_scaled, drop_leading, drop_trailing, most_digits, most_power, whole_digits, decimal_digits}
use Rattle.numerals.specs.Reading.{digits_of, after_letter, exponent_from, scaled_by, with_tail, narrowed, outcome_of}
use Rattle.exponents.specs.Exponents.{room}
use Rattle.value.specs.declared.Digits.{Digits}
use Rattle.value.specs.declared.Run.{Run}
use Rattle.value.specs.declared.Ratio.{Ratio}
use Rattle.value.specs.declared.ValueError.{ValueError}
use Rattle.value.specs.declared.ValueError.TheVariants.{NotAValue, TooWide}

-- d has at most n digits, and its number is below the power of ten of those that count: so nothing overflows
pub record Bounded (n : ℕ) (d : Digits) : Type 0 where
  pub short : d.count + d.zeros ≤ n
  pub small : d.number < 10 ^ d.count

-- d is s with the digits q after it, of which the trailing zeros are held back
pub record Grown (s : Digits) (q : Bytes) (d : Digits) : Type 0 where
  pub counts : d.count ≡ s.count + decimal_digits q
  pub spells : d.count ≤ most_digits → d.number ≡ number_after s.number (drop_trailing q)
  pub trails : d.zeros + decimal_digits q ≡ length q

-- r is d with so many more digits that count, which spell `last`: the number itself, where at most 18 count then
pub record Appended (d : Digits) (places last : ℕ) (r : Digits) : Type 0 where
  pub counts : r.count ≡ d.count + places
  pub spells : r.count ≤ most_digits → r.number ≡ d.number * 10 ^ places + last
  pub none_left : r.zeros ≡ 0
  pub small : r.number < 10 ^ r.count

-- r is d with one digit more
pub record Longer (d : Digits) (digit : ℕ) (r : Digits) : Type 0 where
  pub by_one : r.count + r.zeros ≡ d.count + d.zeros + 1
  pub small : r.number < 10 ^ r.count
  pub grows : (s : Digits) (q : Bytes) → Grown s q d → Grown s (q ++ ((48 + digit) ∷ [])) r

-- the run r of the digits that t starts with, where t stands at a place, after the digits of d
pub record RunRead (t : Bytes) (from : ℕ) (d : Digits) (r : Run) : Type 0 where
  pub next_is : r.next ≡ from + leading is_digit t
  pub grows : (s : Digits) (q : Bytes) → Grown s q d → Grown s (q ++ digits_of t) r.digits
  pub bounded : Bounded r.next r.digits

-- no digits
abbrev pub no_digits : Digits
no_digits = record { number = 0; count = 0; zeros = 0 }

-- d is the digits v without their leading zeros, and the trailing ones are held back
pub record Significant (v : Bytes) (d : Digits) : Type 0 where
  pub all_digits : every is_digit v ≡ true
  pub grown : Grown no_digits (drop_leading v) d

-- the run r of the digits that t starts with, without their leading zeros
pub record SignificantRead (t : Bytes) (from : ℕ) (r : Run) : Type 0 where
  pub next_is : r.next ≡ from + leading is_digit t
  pub significant : Significant (digits_of t) r.digits
  pub bounded : Bounded r.next r.digits

-- r is d with the digits that t starts with after it, without the leading zeros of both together
pub record Continued (t : Bytes) (d : Digits) (r : Digits) : Type 0 where
  pub significant : (w : Bytes) → Significant w d → Significant (w ++ digits_of t) r
  pub bounded : Bounded room r

-- d is the whole part w, of which no zero is held back
pub record Stands (w : Bytes) (d : Digits) : Type 0 where
  pub counts : d.count ≡ whole_digits w
  pub spells : d.count ≤ most_digits → d.number ≡ number_of w
  pub none_left : d.zeros ≡ 0

-- the run r of the whole part that t starts with
pub record WholeRead (t : Bytes) (from : ℕ) (r : Run) : Type 0 where
  pub next_is : r.next ≡ from + leading is_digit t
  pub stands : Stands (digits_of t) r.digits
  pub bounded : Bounded r.next r.digits

-- the digits d of the run that t starts with, where they are all of t; or t is no numeral
abbrev pub Ended : Bytes → Digits → Answer Digits → Type 0
Ended t d (Some e) = (is_numeral t ≡ true) × (e ≡ d)
Ended t d None = is_numeral t ≡ false

-- ---- outcomes

-- the outcome of a ratio with a sign; its denominator is positive
abbrev pub ratio_says : Bool → Result Ratio ValueError → Outcome Fraction
ratio_says s (Ok r) = narrowed (lowest (over (with_sign s r.top) r.bottom))
ratio_says s (Err NotAValue) = refuses 4
ratio_says s (Err TooWide) = refuses 7

abbrev pub PositiveRatio : Result Ratio ValueError → Type 0
PositiveRatio (Ok r) = 0 < r.bottom
PositiveRatio (Err e) = Unit {0}

-- the outcome of a whole number that d is
abbrev pub whole_outcome : Bool → Digits → Outcome Fraction
whole_outcome s d = cond (ltb most_digits d.count) (refuses 7) (narrowed (lowest (over (with_sign s d.number) 1)))

-- the outcome of n times ten to the power x, where n is not 0
abbrev pub scaled_outcome : Bool → ℕ → ℤ → Outcome Fraction
scaled_outcome s n x = cond (ltb most_power (nat_abs x)) (refuses 7) (narrowed (lowest (over (with_sign s (top_scaled n x)) (bottom_scaled x))))

-- r is the ratio of the form with the whole part that d is and this tail, with either sign
abbrev pub WithTail : Digits → Option Tail → Result Ratio ValueError → Type 0
WithTail d tail r = (s : Bool) (w : Bytes) → Stands w d → ratio_says s r ≡ outcome_of (with_tail s w tail)

-- the same, where d is the whole part without the zeros on both sides
abbrev pub WithSignificant : Digits → Option Tail → Result Ratio ValueError → Type 0
WithSignificant d tail r = (s : Bool) (w : Bytes) → Significant w d → ratio_says s r ≡ outcome_of (with_tail s w tail)

-- the same, with these digits after the point if there is one, and then an exponent where the rest is one
abbrev pub Extended : Digits → Bytes → Bytes → Result Ratio ValueError → Type 0
Extended d decimals rest r =
    (s : Bool) (w : Bytes) (after : Option Bytes) → Significant w d → places after ≡ decimals
    → ratio_says s r ≡ outcome_of (with_tail s w (scaled_by after (exponent_from rest)))

-- the same, where d are all the digits without the zeros on both sides, so many of them after the point, and t is what stands
-- after the letter
abbrev pub Scaled : Digits → ℕ → Bytes → Result Ratio ValueError → Type 0
Scaled d p t r =
    (s : Bool) (w : Bytes) (after : Option Bytes) (capital : Bool) → Significant (w ++ places after) d → length (places after) ≡ p
    → ratio_says s r ≡ outcome_of (with_tail s w (scaled_by after (after_letter capital t)))

-- the place after the byte b at a place, if it is a point
abbrev pub AfterPoint : ℕ → ℕ → ℕ → Type 0
AfterPoint b at next = next ≡ cond (eqb b 46) (at + 1) at
