-- The outcome of a value with an exponent, by what the code has read of its digits and made of its power of ten.
-- Assumes nothing.
use mathlib.Core.Path.{◌≡◌, refl, sym, ◌∙◌, ap, subst}
use mathlib.Core.Bool.{Bool, true}
use mathlib.Core.List.{[], ◌++◌}
use mathlib.Core.Option.{Option, none, some}
use Prim.Native.Nat.{ℕ, zero, suc, ◌+◌, ◌*◌, ◌^◌, ◌≤◌, ◌<◌}
use native.Mathlib.Nat.{mul-one, mul_assoc, mul_comm, add-zero, zero-mul, mul-le-mul, le_refl, pow-le-pow_right}
use native.Mathlib.Omega.{arith}
use borrow.Author.Tests.{lt-ltb, le-ltb, ltb-true, ltb-false}
use lib.Dec.{ltb, lit<}
use lib.IntN.{ℤ, pos, negsuc, neg_ℤ, nat_abs, ◌+ℤ◌, ◌-ℤ◌}
use lib.ListN.{length, drop_of_length-le}
use lib.Pow.{pow-add}
use Rattle.integers.specs.Signs.{with_sign, nat_abs-with_sign}
use Rattle.text.specs.Bytes.{Bytes, number_of}
use Rattle.arithmetic.specs.Outcome.{refuses}
use Rattle.arithmetic.specs.Quotient.{lowest}
use Rattle.arithmetic.specs.Parts.{over}
use Rattle.arithmetic.specs.Fraction.{limit}
use Rattle.numerals.specs.Spelling.{Exponent, scaled, significand, places, trailing_zeros, power_of, top_scaled, bottom_scaled, quotient_of, most_digits, most_power}
use Rattle.numerals.specs.Reading.{after_letter, scaled_by, with_tail, narrowed, outcome_of}
use Rattle.numerals.proofs.Forms.{by_test}
use Rattle.powers.specs.Powers.{power_of_ten}
use Rattle.exponents.specs.Exponents.{ExponentIs}
use Rattle.value.specs.Runs.{Appended, Significant, whole_outcome, scaled_outcome}
use Rattle.value.specs.declared.Digits.{Digits}
use Rattle.powers.proofs.PowersLaws.{ten_positive, power-within}
use Rattle.numerals.proofs.Numbers.{number-length}
use Rattle.numerals.proofs.Widths.{lowest-scaled, whole_beyond}
use Rattle.value.proofs.Outcomes.{whole_wide, whole_narrow}
use Rattle.value.proofs.Runs.{significant_zero, significant_digit}

-- ---- n times ten to the power x

down_top : (n k : ℕ) → top_scaled n (neg_ℤ (pos k)) ≡ n
down_top n zero = mul-one n
down_top n (suc k) = refl

down_bottom : (k : ℕ) → bottom_scaled (neg_ℤ (pos k)) ≡ 10 ^ k
down_bottom zero = refl
down_bottom (suc k) = refl

-- zero, whatever the power
zero-scaled : (s : Bool) (x : ℤ) → lowest (over (with_sign s (top_scaled 0 x)) (bottom_scaled x)) ≡ lowest (over (with_sign s 0) 1)
zero-scaled s (pos x) = ap (λ (n : ℕ). lowest (over (with_sign s n) 1)) (zero-mul (10 ^ x))
zero-scaled s (negsuc x) =
    let c = 10 ^ suc x in
    ap (λ (n : ℕ). lowest (over (with_sign s n) c)) (sym (zero-mul c)) ∙ ap (λ (n : ℕ). lowest (over (with_sign s (0 * c)) n)) (sym (mul-one c)) ∙ lowest-scaled s 0 1 c (omega arith) (ten_positive (suc x))

-- up: zeros are put after the digits; beyond 18 digits the number is beyond the limit
module _ (s : Bool) (d : Digits) (great : 10 ^ d.count ≤ d.number * 10) (k : ℕ) (h : k ≤ most_power) (r : Digits) (a : Appended d k 0 r) where
  too_great : most_digits < r.count → limit < d.number * 10 ^ k
  too_great w =
      let product : 10 ^ (d.count + k) ≤ d.number * 10 * 10 ^ k = rw (pow-add 10 d.count k) (mul-le-mul great (le_refl (10 ^ k))) in
      let many : 19 ≤ d.count + k = omega (arith, a.counts) in
      let power : 10 ^ 19 ≤ 10 ^ (d.count + k) = pow-le-pow_right (lit< tt) many in
      let turned : d.number * 10 * 10 ^ k ≡ d.number * 10 ^ k * 10 = omega_swap d.number (10 ^ k) in
      omega arith
    where
      omega_swap : (n p : ℕ) → n * 10 * p ≡ n * p * 10
      omega_swap n p = mul_assoc n 10 p ∙ ap (λ (x : ℕ). n * x) (mul_comm 10 p) ∙ sym (mul_assoc n p 10)

  pub times-up : whole_outcome s r ≡ scaled_outcome s d.number (pos k)
  times-up =
      by_test (ltb most_digits r.count)
      (λ e. whole_wide s r (ltb-true _ _ e) ∙ sym (rw (le-ltb most_power k h) (whole_beyond s (d.number * 10 ^ k) (too_great (ltb-true _ _ e)))))
      (λ e. let small : r.count ≤ most_digits = ltb-false _ _ e in
      whole_narrow s r small ∙ sym (rw (le-ltb most_power k h, a.spells small, add-zero)))

-- down: a power of ten below
module _ (k : ℕ) (h : k ≤ most_power) (p : ℕ) (e : p ≡ power_of_ten k) where
  power : p ≡ 10 ^ k
  power = e ∙ power-within k (omega arith)

  pub down_positive : 0 < p
  down_positive = rw power (ten_positive k)

  pub times_down : (s : Bool) (n : ℕ) → narrowed (lowest (over (with_sign s n) p)) ≡ scaled_outcome s n (neg_ℤ (pos k))
  times_down s n = sym (rw (nat_abs-with_sign true k, le-ltb most_power k h, down_top n k, down_bottom k, power))

pub times_outside : (s : Bool) (n : ℕ) (x : ℤ) → most_power < nat_abs x → scaled_outcome s n x ≡ refuses 7
times_outside s n x h = rw (lt-ltb most_power (nat_abs x) h)

-- ---- the digits

-- the first is not 0
pub first_digit : (v : Bytes) (d : Digits) → Significant v d → (d.count ≡ 0 → ⊥) → d.count ≤ most_digits → 10 ^ d.count ≤ d.number * 10
first_digit v d g n k =
    let count_is : length (significand v) ≡ d.count = omega (arith, g.grown.counts) in
    rw (g.grown.spells k) (subst (λ (c : ℕ). 10 ^ c ≤ number_of (significand v) * 10) count_is (number-length v g.all_digits (omega arith)))

-- ---- the outcome of the form

pub misspelled_exponent : (s : Bool) (w : Bytes) (after : Option Bytes) (o : Option Exponent) → o ≡ none → outcome_of (with_tail s w (scaled_by after o)) ≡ refuses 4
unfolding outcome_of
misspelled_exponent s w after o e = rw e

module _ (s : Bool) (w : Bytes) (after : Option Bytes) (d : Digits) (g : Significant (w ++ places after) d) where
  abbrev all : Bytes
  all = w ++ places after

  count_is : length (significand all) ≡ d.count
  count_is = omega (arith, g.grown.counts)

  module _ (e : Exponent) where
    zero_outcome : d.count ≡ 0 → outcome_of (with_tail s w (some (scaled after e))) ≡ whole_outcome s d
    unfolding outcome_of quotient_of
    zero_outcome z =
        let x = power_of w after e in
        let none_left : significand all ≡ [] = drop_of_length-le (significand all) {i = 0} (omega (arith, count_is)) in
        let number_is : d.number ≡ 0 = g.grown.spells (omega arith) ∙ ap number_of none_left in
        let form : outcome_of (with_tail s w (some (scaled after e))) ≡ narrowed (lowest (over (with_sign s (top_scaled (number_of (significand all)) x)) (bottom_scaled x))) =
        rw (le-ltb most_digits (length (significand all)) (omega (arith, count_is)), significant_zero all d g z) in
        form
        ∙ ap (λ (v : Bytes). narrowed (lowest (over (with_sign s (top_scaled (number_of v) x)) (bottom_scaled x)))) none_left
        ∙ ap narrowed (zero-scaled s x)
        ∙ ap (λ (n : ℕ). narrowed (lowest (over (with_sign s n) 1))) (sym number_is)
        ∙ sym (whole_narrow s d (omega arith))

    wide_outcome : most_digits < d.count → outcome_of (with_tail s w (some (scaled after e))) ≡ refuses 7
    unfolding outcome_of
    wide_outcome k = rw (lt-ltb most_digits (length (significand all)) (omega (arith, count_is)))

    power_outcome : (d.count ≡ 0 → ⊥) → d.count ≤ most_digits → outcome_of (with_tail s w (some (scaled after e))) ≡ scaled_outcome s d.number (power_of w after e)
    unfolding outcome_of quotient_of
    power_outcome n k =
        rw (le-ltb most_digits (length (significand all)) (omega (arith, count_is)), significant_digit all d g n, g.grown.spells k)

  -- with the exponent as it was read, after its letter
  module _ (capital : Bool) (t : Bytes) (m : Bool) (number : ℕ) (x : ExponentIs t m number) where
    abbrev exponent : Exponent
    exponent = record { capital = capital; sign = x.sign; digits = x.digits }

    found : outcome_of (with_tail s w (scaled_by after (after_letter capital t))) ≡ outcome_of (with_tail s w (some (scaled after exponent)))
    found = ap (λ (o : Option Exponent). outcome_of (with_tail s w (scaled_by after o))) (x.form capital)

    pub scaled-zero : d.count ≡ 0 → outcome_of (with_tail s w (scaled_by after (after_letter capital t))) ≡ whole_outcome s d
    scaled-zero z = found ∙ zero_outcome exponent z

    pub scaled_wide : most_digits < d.count → outcome_of (with_tail s w (scaled_by after (after_letter capital t))) ≡ refuses 7
    scaled_wide k = found ∙ wide_outcome exponent k

    module _ (p : ℕ) (q : length (places after) ≡ p) where
      power_is : power_of w after exponent ≡ with_sign m (number_of x.digits) -ℤ pos p +ℤ pos d.zeros
      power_is =
          let zeros-are : trailing_zeros all ≡ d.zeros = omega (arith, g.grown.trails) in
          ap (λ (b : Bool). with_sign b (number_of x.digits) -ℤ pos (length (places after)) +ℤ pos (trailing_zeros all)) x.sign_is
          ∙ ap (λ (n : ℕ). with_sign m (number_of x.digits) -ℤ pos n +ℤ pos (trailing_zeros all)) q
          ∙ ap (λ (n : ℕ). with_sign m (number_of x.digits) -ℤ pos p +ℤ pos n) zeros-are

      pub scaled-power : (d.count ≡ 0 → ⊥) → d.count ≤ most_digits → outcome_of (with_tail s w (scaled_by after (after_letter capital t))) ≡ scaled_outcome s d.number (with_sign m (number_of x.digits) -ℤ pos p +ℤ pos d.zeros)
      scaled-power n k = found ∙ power_outcome exponent n k ∙ ap (scaled_outcome s d.number) power_is
