-- What a token spells as a value (document 01, "Spelling", the paragraph "Value"; document 02, request 1, for the exponent).
-- This is a relation between bytes and fractions, and no way of reading: a token spells a fraction where some written form has
-- these bytes, is well formed, is not too wide, and stands for that fraction.
-- Assumes nothing.
use Rattle.std.specs.Prelude.{◌≡◌, Bool, true, false, cond, [], ◌∷◌, ◌++◌, ◌⊎◌, ℕ, suc, ◌+◌, ◌-◌, ◌*◌, ◌^◌, ◌<◌, eqb, ℤ, pos, negsuc, nat_abs, ◌+ℤ◌, ◌-ℤ◌, length, drop}
use Rattle.std.proofs.Math.Option.{Option, none, some}
use Rattle.integers.specs.Signs.{with_sign}
use Rattle.text.specs.Bytes.{Bytes, every, leading, is_numeral, number_of}
use Rattle.arithmetic.specs.Quotient.{Quotient, lowest}
use Rattle.arithmetic.specs.Fraction.{limit}
use Rattle.arithmetic.specs.declared.Fraction.{Fraction}

-- ---- the written form

-- 02: "`E` or `e`, an optional sign and digits"
pub data Sign : Type 0 where
  unsigned : Sign
  plus : Sign
  minus : Sign

pub record Exponent : Type 0 where
  pub capital : Bool
  pub sign : Sign
  pub digits : Bytes

-- "then nothing, or `.` and digits, or `/` and digits". 02: "A whole or decimal value may end in" an exponent; "a fraction
-- may not", so `scaled` has what may stand between the first digits and the letter: nothing, or a point and these digits
pub data Tail : Type 0 where
  nothing : Tail
  point : Bytes → Tail
  slash : Bytes → Tail
  scaled : Option Bytes → Exponent → Tail

-- "optional `-`, digits; then ..": each part as its bytes
pub record Written : Type 0 where
  pub negative : Bool
  pub whole : Bytes
  pub tail : Tail

-- the bytes that it is written with: `-` is 45, `.` is 46, `/` is 47, `E` is 69, `e` is 101, `+` is 43
abbrev pub sign_bytes : Bool → Bytes
sign_bytes true = 45 ∷ []
sign_bytes false = []

abbrev pub letter_byte : Bool → ℕ
letter_byte true = 69
letter_byte false = 101

abbrev pub exponent_sign : Sign → Bytes
exponent_sign unsigned = []
exponent_sign plus = 43 ∷ []
exponent_sign minus = 45 ∷ []

abbrev pub exponent_bytes : Exponent → Bytes
exponent_bytes e = letter_byte e.capital ∷ (exponent_sign e.sign ++ e.digits)

abbrev pub tail_bytes : Tail → Bytes
tail_bytes nothing = []
tail_bytes (point d) = 46 ∷ d
tail_bytes (slash d) = 47 ∷ d
tail_bytes (scaled none e) = exponent_bytes e
tail_bytes (scaled (some d) e) = 46 ∷ (d ++ exponent_bytes e)

abbrev pub bytes_of : Written → Bytes
bytes_of w = sign_bytes w.negative ++ (w.whole ++ tail_bytes w.tail)

-- the digit `0`
abbrev pub is_zero : ℕ → Bool
is_zero b = eqb b 48

-- each part is digits; those after a slash are "digits not all zero"
abbrev pub TailWellFormed : Tail → Type 0
TailWellFormed nothing = Unit {0}
TailWellFormed (point d) = is_numeral d ≡ true
TailWellFormed (slash d) = (is_numeral d ≡ true) × (every is_zero d ≡ false)
TailWellFormed (scaled none e) = is_numeral e.digits ≡ true
TailWellFormed (scaled (some d) e) = (is_numeral d ≡ true) × (is_numeral e.digits ≡ true)

pub record WellFormed (w : Written) : Type 0 where
  pub whole-digits : is_numeral w.whole ≡ true
  pub tail_digits : TailWellFormed w.tail

-- the token is w, written out: it has the shape of a value
pub record Writes (w : Written) (token : Bytes) : Type 0 where
  pub well_formed : WellFormed w
  pub bytes : bytes_of w ≡ token

-- ---- zeros that are dropped

-- "after dropping leading zeros of each whole part": of a numerator, of a denominator (`1/00002`), of what stands before a
-- point. A lone `0` is a leading zero too, so `0.000003814697265625` has 18 digits
abbrev pub drop_leading : Bytes → Bytes
drop_leading w = drop (leading is_zero w) w

-- "and trailing zeros of a decimal part": of what stands after a point. Its other zeros count
abbrev pub drop_trailing : Bytes → Bytes
drop_trailing [] = []
drop_trailing (b ∷ d) = cond (every is_zero (b ∷ d)) [] (b ∷ drop_trailing d)

-- ---- with an exponent: N times ten to the power x

-- the digits after the point
abbrev pub places : Option Bytes → Bytes
places none = []
places (some d) = d

-- "Take the digits without the point, leading and trailing zeros dropped: N", of these digits, as digits. Of zeros alone no
-- digit is left, and N is zero
abbrev pub significand : Bytes → Bytes
significand v = drop_trailing (drop_leading v)

-- how many zeros N drops at the end
abbrev pub trailing_zeros : Bytes → ℕ
trailing_zeros v = length (drop_leading v) - length (significand v)

-- the exponent as it is written
abbrev pub is_minus : Sign → Bool
is_minus unsigned = false
is_minus plus = false
is_minus minus = true

abbrev pub exponent_of : Exponent → ℤ
exponent_of e = with_sign (is_minus e.sign) (number_of e.digits)

-- "to be multiplied by ten to the power x": the exponent, less the digits after the point, plus the trailing zeros dropped.
-- With this x, N times ten to the power x is the number that is written (`scaled_as_written` of proofs/AsWritten.antt)
abbrev pub power_of : Bytes → Option Bytes → Exponent → ℤ
power_of w d e = exponent_of e -ℤ pos (length (places d)) +ℤ pos (trailing_zeros (w ++ places d))

-- n times ten to the power x, as a quotient
abbrev pub top_scaled : ℕ → ℤ → ℕ
top_scaled n (pos x) = n * 10 ^ x
top_scaled n (negsuc x) = n

abbrev pub bottom_scaled : ℤ → ℕ
bottom_scaled (pos x) = 1
bottom_scaled (negsuc x) = 10 ^ suc x

-- ---- the number that it stands for

-- a quotient of whole numbers, of any size: of a decimal, all its digits over a power of ten
abbrev pub top_of : Bytes → Tail → ℕ
top_of w nothing = number_of w
top_of w (point d) = number_of (w ++ d)
top_of w (slash d) = number_of w
top_of w (scaled d e) = top_scaled (number_of (significand (w ++ places d))) (power_of w d e)

abbrev pub bottom_of : Bytes → Tail → ℕ
bottom_of w nothing = 1
bottom_of w (point d) = 10 ^ length d
bottom_of w (slash d) = number_of d
bottom_of w (scaled d e) = bottom_scaled (power_of w d e)

unfoldable pub quotient_of : Written → Quotient
quotient_of w = record { top = with_sign w.negative (top_of w.whole w.tail); bottom = bottom_of w.whole w.tail }

-- a quotient's top and bottom as a numerator and a denominator
abbrev pub as_fraction : Quotient → Fraction
as_fraction x = record { num = x.top; den = pos x.bottom }

-- ---- its width

-- "more than 18 digits in numerator, denominator or decimal (both its parts together)". The digits are counted as they are
-- written, before lowest terms: `0/1000000000000000000` has 19
abbrev pub most_digits : ℕ
most_digits = 18

abbrev pub whole_digits : Bytes → ℕ
whole_digits w = length (drop_leading w)

abbrev pub decimal_digits : Bytes → ℕ
decimal_digits d = length (drop_trailing d)

abbrev pub TooManyDigits : Bytes → Tail → Type 0
TooManyDigits w nothing = most_digits < whole_digits w
TooManyDigits w (point d) = most_digits < whole_digits w + decimal_digits d
TooManyDigits w (slash d) = (most_digits < whole_digits w) ⊎ (most_digits < whole_digits d)
-- 02: "N over 18 digits"
TooManyDigits w (scaled d e) = most_digits < length (significand (w ++ places d))

-- 02: "or x outside -18 to 18". But "N zero gives 0", whatever x is: `0E99999` is 0
abbrev pub most_power : ℕ
most_power = 18

abbrev pub PowerOutside : Bytes → Tail → Type 0
PowerOutside w nothing = ⊥
PowerOutside w (point d) = ⊥
PowerOutside w (slash d) = ⊥
PowerOutside w (scaled d e) = (every is_zero (w ++ places d) ≡ false) × (most_power < nat_abs (power_of w d e))

-- "or, in lowest terms, numerator magnitude or denominator above 2,147,483,647"
abbrev pub BeyondLimit : Quotient → Type 0
BeyondLimit x = (limit < nat_abs x.top) ⊎ (limit < x.bottom)

abbrev pub TooWide : Written → Type 0
TooWide w = TooManyDigits w.whole w.tail ⊎ PowerOutside w.whole w.tail ⊎ BeyondLimit (lowest (quotient_of w))

-- ---- what a token spells

-- a fraction: the number that is written, in lowest terms
pub record SpellsValue (f : Fraction) (token : Bytes) : Type 0 where
  pub written : Written
  pub writes : Writes written token
  pub not_too_wide : TooWide written → ⊥
  pub value : as_fraction (lowest (quotient_of written)) ≡ f

-- nothing, since it has the shape of a value and is too wide: 7
pub record SpellsTooWide (token : Bytes) : Type 0 where
  pub written : Written
  pub writes : Writes written token
  pub too_wide : TooWide written

-- "Anything else is 4", however wide: `1/0` with 30 digits before the slash is. So are the empty token and bytes that are no
-- token, as `1 2`
abbrev pub Misspelled : Bytes → Type 0
Misspelled token = (w : Written) → Writes w token → ⊥
