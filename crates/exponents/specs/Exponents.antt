-- What the code's exponents stand for: their digits, their number, and the power of ten that they come to.
-- Assumes nothing.
use Rattle.std.specs.Prelude.{◌≡◌, Bool, true, false, cond, ◌||◌, ◌⊎◌, ℕ, ◌*◌, ◌^◌, ◌≤◌, ltb, eqb, ℤ, pos, neg_ℤ, nat_abs}
use Rattle.std.specs.Prelude.{Option as Answer, Some, None}
use Rattle.std.proofs.Math.Option.{Option, none, some}
use Rattle.text.specs.Bytes.{Bytes, is_numeral, number_of}
use Rattle.numerals.specs.Spelling.{Sign, is_minus, most_power}
use Rattle.numerals.specs.Reading.{after_letter}
use Rattle.exponents.specs.declared.Exponent.{Exponent}
use Rattle.exponents.specs.declared.Power.{Power}
use Rattle.exponents.specs.declared.Power.TheVariants as power

-- no slice has as many bytes
abbrev pub room : ℕ
room = 2 ^ 63

-- `E` or `e`
abbrev pub is_letter : ℕ → Bool
is_letter b = eqb b 69 || eqb b 101

-- e is the number n; or both are so large that no number of digits makes up for it
abbrev pub large : ℕ
large = 2 ^ 60

abbrev pub Saturated : ℕ → ℕ → Type 0
Saturated n e = (e ≡ n) ⊎ ((large * 10 ≤ e) × (large * 10 ≤ n))

-- the digits t spell the number that e is; or t is no numeral
abbrev pub NumberRead : Bytes → Bool → Answer Exponent → Type 0
NumberRead t minus (Some e) = (is_numeral t ≡ true) × (e.minus ≡ minus) × Saturated (number_of t) e.number
NumberRead t minus None = is_numeral t ≡ false

-- after the letter, t is a sign and digits
pub record ExponentIs (t : Bytes) (m : Bool) (e : ℕ) : Type 0 where
  pub sign : Sign
  pub digits : Bytes
  pub form : (capital : Bool) → after_letter capital t ≡ some (record { capital = capital; sign = sign; digits = digits })
  pub sign_is : is_minus sign ≡ m
  pub number_is : Saturated (number_of digits) e

abbrev pub ExponentRead : Bytes → Answer Exponent → Type 0
ExponentRead t (Some e) = ExponentIs t e.minus e.number
ExponentRead t None = (capital : Bool) → after_letter capital t ≡ none

-- ---- powers of ten

-- the power that a case stands for, and the one that an answer stands for
abbrev pub power_value : Power → ℤ
power_value (power.Up k) = pos k
power_value (power.Down k) = neg_ℤ (pos k)

abbrev pub power_says : Answer Power → Option ℤ
power_says (Some x) = some (power_value x)
power_says None = none

-- 02: "x outside -18 to 18"
abbrev pub power_within : ℤ → Option ℤ
power_within x = cond (ltb most_power (nat_abs x)) none (some x)
