-- Digits, zeros and the numbers that they spell.
-- Assumes nothing.
use mathlib.Core.Path.{◌≡◌, refl, sym, ◌∙◌, ap, subst}
use mathlib.Core.Bool.{Bool, true, false, ◌&&◌, and-false}
use mathlib.Core.List.{[], ◌∷◌, ◌++◌, append-nil}
use Prim.Native.Nat.{ℕ, suc, ◌+◌, ◌-◌, ◌*◌, ◌^◌, ◌≤◌, ◌<◌}
use native.Mathlib.Nat.{mul-one, one-mul, mul_assoc, mul-le-mul, le_refl, pow-suc, pow-succ'}
use native.Mathlib.Omega.{arith}
use borrow.Author.Tests.{eqb-true, leb-true}
use lib.Dec.{leb}
use lib.ListN.{length, drop, length-append}
use lib.Seq.{length-take-le, take_all}
use Rattle.text.specs.Bytes.{Bytes, is_digit, every, leading, is_numeral, number_after, number_of}
use Rattle.text.proofs.BytesLaws.{both, leading_le, leading-every}
use Rattle.numerals.specs.Spelling.{is_zero, drop_leading, drop_trailing, significand, whole_digits, decimal_digits}
use Rattle.numerals.specs.Reading.{digits_of}
use Rattle.numerals.proofs.Forms.{by_test, digits_are, numeral_digits}
use Rattle.numerals.proofs.Agreement.{digit_positive}

-- ---- a digit

pub digit_bounds : (b : ℕ) → is_digit b ≡ true → (48 ≤ b) × (b ≤ 57)
unfolding is_digit
digit_bounds b e = (leb-true 48 b (both (leb 48 b) (leb b 57) e).0, leb-true b 57 (both (leb 48 b) (leb b 57) e).1)

-- ---- the number of digits that are put together

pub number_append : (n : ℕ) (u v : Bytes) → number_after n (u ++ v) ≡ number_after (number_after n u) v
number_append n [] v = refl
number_append n (b ∷ u) v = number_append (n * 10 + (b - 48)) u v

-- ---- zeros at the end

all_zeros : (n : ℕ) (d : Bytes) → every is_zero d ≡ true → number_after n d ≡ n * 10 ^ length d
all_zeros n [] e = sym (mul-one n)
all_zeros n (b ∷ d) e =
    let zero_is : b ≡ 48 = eqb-true b 48 (both (is_zero b) (every is_zero d) e).0 in
    let step : n * 10 + (b - 48) ≡ n * 10 = omega arith in
    ap (λ (m : ℕ). number_after m d) step ∙ all_zeros (n * 10) d (both (is_zero b) (every is_zero d) e).1 ∙ mul_assoc n 10 (10 ^ length d) ∙ ap (λ (m : ℕ). n * m) (sym (pow-succ' 10 (length d)))

-- trailing zeros left out, and put in as a power of ten
pub trailing_number : (n z : ℕ) (d : Bytes) → z + decimal_digits d ≡ length d → number_after n d ≡ number_after n (drop_trailing d) * 10 ^ z
trailing_number n z [] e = let none : z ≡ 0 = omega arith in sym (ap (λ (k : ℕ). n * 10 ^ k) none ∙ mul-one n)
trailing_number n z (b ∷ d) e =
    by_test (every is_zero (b ∷ d))
    (λ t. let f : z + 0 ≡ suc (length d) = rw t at e in
    rw t (all_zeros n (b ∷ d) t ∙ ap (λ (k : ℕ). n * 10 ^ k) (omega arith)))
    (λ t. let f : z + suc (decimal_digits d) ≡ suc (length d) = rw t at e in
    rw t (trailing_number (n * 10 + (b - 48)) z d (omega arith)))

pub trailing_shorter : (d : Bytes) → decimal_digits d ≤ length d
trailing_shorter [] = omega arith
trailing_shorter (b ∷ d) = by_test (every is_zero (b ∷ d)) (λ t. rw t (omega arith)) (λ t. rw t (omega (arith, trailing_shorter d)))

-- ---- one digit more

every-and : (p : ℕ → Bool) (u v : Bytes) → every p (u ++ v) ≡ every p u && every p v
every-and p [] v = refl
every-and p (b ∷ u) v = by_test (p b) (λ t. rw t (every-and p u v)) (λ t. rw t)

-- a zero after other digits is one more that trails
pub zero_trails : (d : Bytes) → drop_trailing (d ++ (48 ∷ [])) ≡ drop_trailing d
zero_trails [] = refl
zero_trails (b ∷ d) =
    let e : every is_zero ((b ∷ d) ++ (48 ∷ [])) ≡ every is_zero (b ∷ d) && true = every-and is_zero (b ∷ d) (48 ∷ []) in
    by_test (every is_zero (b ∷ d)) (λ t. simp (e, t)) (λ t. simp (e, t, zero_trails d))

-- after another digit no zero trails
pub digit_trails : (d : Bytes) (b : ℕ) → is_zero b ≡ false → drop_trailing (d ++ (b ∷ [])) ≡ d ++ (b ∷ [])
digit_trails [] b z = rw z
digit_trails (a ∷ d) b z =
    let last : every is_zero (d ++ (b ∷ [])) ≡ false = every-and is_zero d (b ∷ []) ∙ (rw z) ∙ and-false (every is_zero d) in
    let e : is_zero a && every is_zero (d ++ (b ∷ [])) ≡ false = rw last (and-false (is_zero a)) in
    rw (e, digit_trails d b z)

pub length_more : (d : Bytes) (b : ℕ) → length (d ++ (b ∷ [])) ≡ length d + 1
length_more d b = length-append d (b ∷ [])

-- ---- zeros at the start

pub leading_none : (w : Bytes) → whole_digits w ≡ 0 → every is_zero w ≡ true
leading_none [] e = refl
leading_none (b ∷ w) e = by_test (is_zero b) (λ t. rw t (leading_none w (rw t at e))) (λ t. let f : suc (length w) ≡ 0 = rw t at e in absurd (omega arith))

pub leading_some : (w : Bytes) → 0 < whole_digits w → every is_zero w ≡ false
leading_some [] h = absurd (omega arith)
leading_some (b ∷ w) h = by_test (is_zero b) (λ t. rw t (leading_some w (rw t at h))) (λ t. rw t)

-- a digit is left between the zeros exactly where one is not zero
starts_with_digit : (b : ℕ) (w : Bytes) → is_zero b ≡ false → 0 < length (drop_trailing (b ∷ w))
starts_with_digit b w z = rw z (omega arith)

pub digit_left : (w : Bytes) → 0 < length (significand w) → every is_zero w ≡ false
digit_left [] h = absurd (omega arith)
digit_left (b ∷ w) h = by_test (is_zero b) (λ t. rw t (digit_left w (rw t at h))) (λ t. rw t)

pub no_digit_left : (w : Bytes) → length (significand w) ≡ 0 → every is_zero w ≡ true
no_digit_left [] e = refl
no_digit_left (b ∷ w) e =
    by_test (is_zero b) (λ t. rw t (no_digit_left w (rw t at e)))
    (λ t. absurd (let f : length (drop_trailing (b ∷ w)) ≡ 0 = rw t at e in omega (arith, starts_with_digit b w t)))

-- the number of so many digits
number_least : (n : ℕ) (d : Bytes) → n * 10 ^ length d ≤ number_after n d
number_least n [] = omega (arith, mul-one n)
number_least n (b ∷ d) =
    let step : n * 10 ^ suc (length d) ≡ n * 10 * 10 ^ length d = ap (λ (m : ℕ). n * m) (pow-succ' 10 (length d)) ∙ sym (mul_assoc n 10 (10 ^ length d)) in
    let more : n * 10 * 10 ^ length d ≤ (n * 10 + (b - 48)) * 10 ^ length d = mul-le-mul (le_add (n * 10) (b - 48)) (le_refl (10 ^ length d)) in
    omega (arith, number_least (n * 10 + (b - 48)) d)
  where
    le_add : (m k : ℕ) → m ≤ m + k
    le_add m k = omega arith

-- between the zeros the first digit is not 0, so the number has as many digits as are left
pub number-length : (v : Bytes) → every is_digit v ≡ true → 0 < length (significand v) → 10 ^ length (significand v) ≤ number_of (significand v) * 10
number-length [] e h = absurd (omega arith)
number-length (b ∷ v) e h =
    by_test (is_zero b)
    (λ t. rw t (number-length v (both (is_digit b) (every is_digit v) e).1 (rw t at h)))
    (λ t. let q = drop_trailing v in
    let first : 1 ≤ 0 * 10 + (b - 48) = omega (arith, digit_positive b (both (is_digit b) (every is_digit v) e).0 t) in
    let least : 1 * 10 ^ length q ≤ (0 * 10 + (b - 48)) * 10 ^ length q = mul-le-mul first (le_refl (10 ^ length q)) in
    let begins : significand (b ∷ v) ≡ b ∷ q = simp t in
    subst (λ (u : Bytes). 10 ^ length u ≤ number_of u * 10) (sym begins) (omega (arith, number_least (0 * 10 + (b - 48)) q, pow-suc 10 (length q), one-mul (10 ^ length q))))

pub leading-number : (w : Bytes) → number_of (drop_leading w) ≡ number_of w
leading-number [] = refl
leading-number (b ∷ w) =
    by_test (is_zero b)
    (λ t. let zero_is : b ≡ 48 = eqb-true b 48 t in
    let step : 0 ≡ 0 * 10 + (b - 48) = omega arith in
    rw t (leading-number w ∙ ap (λ (m : ℕ). number_after m w) step))
    (λ t. rw t)

zero_digit : (b : ℕ) → is_zero b ≡ true → is_digit b ≡ true
unfolding is_digit
zero_digit b z = rw (eqb-true b 48 z)

-- the digits after the zeros that some bytes start with
pub skip_digits : (t : Bytes) → digits_of (drop (leading is_zero t) t) ≡ drop_leading (digits_of t)
skip_digits [] = refl
skip_digits (b ∷ t) =
    by_test (is_zero b) (λ z. simp (z, zero_digit b z) (skip_digits t))
    (λ z. by_test (is_digit b) (λ d. simp (z, d)) (λ d. simp (z, d)))

pub skip_length : (t : Bytes) → leading is_zero t + leading is_digit (drop (leading is_zero t) t) ≡ leading is_digit t
skip_length [] = refl
skip_length (b ∷ t) =
    by_test (is_zero b) (λ z. simp (z, zero_digit b z) (omega (arith, skip_length t)))
    (λ z. simp z (omega arith))

-- ---- a numeral

pub length_digits : (t : Bytes) → length (digits_of t) ≡ leading is_digit t
length_digits t = length-take-le (leading is_digit t) t (leading_le is_digit t)

pub numeral_none : (t : Bytes) → leading is_digit t ≡ 0 → is_numeral t ≡ false
numeral_none [] e = refl
numeral_none (b ∷ t) e = by_test (is_digit b) (λ d. let f : suc (leading is_digit t) ≡ 0 = rw d at e in absurd (omega arith)) (λ d. rw d)

pub numeral_part : (t : Bytes) → leading is_digit t < length t → is_numeral t ≡ false
numeral_part [] h = refl
numeral_part (b ∷ t) h = part (b ∷ t) h
  where
    part : (t : Bytes) → leading is_digit t < length t → every is_digit t ≡ false
    part [] h = absurd (omega arith)
    part (b ∷ t) h = by_test (is_digit b) (λ d. let f : suc (leading is_digit t) < suc (length t) = rw d at h in rw d (part t (omega arith))) (λ d. rw d)

pub numeral_whole : (t : Bytes) → length t ≤ leading is_digit t → (leading is_digit t ≡ 0 → ⊥) → is_numeral t ≡ true
numeral_whole [] h n = absurd (n refl)
numeral_whole (b ∷ t) h n = subst (λ (u : Bytes). every is_digit u ≡ true) (take_all (leading is_digit (b ∷ t)) (b ∷ t) h) (leading-every is_digit (b ∷ t))

pub digits_numeral : (t : Bytes) → is_numeral t ≡ true → digits_of t ≡ t
digits_numeral t e = rw append-nil at (digits_are t [] (numeral_digits t e) tt)
