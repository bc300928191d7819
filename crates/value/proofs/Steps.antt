-- Digits put after others: the ways out of `Digits::appended` and `Digits::with`.
-- Assumes nothing.
use mathlib.Core.Path.{◌≡◌, refl, sym, ◌∙◌, ap, subst}
use mathlib.Core.Bool.{false}
use mathlib.Core.List.{[], ◌∷◌, ◌++◌}
use Prim.Native.Nat.{ℕ, ◌+◌, ◌*◌, ◌^◌, ◌≤◌, ◌<◌}
use native.Mathlib.Nat.{lt_trans, mul_assoc}
use native.Mathlib.Omega.{arith}
use borrow.Author.Tests.{ne_eqb}
use Rattle.text.specs.Bytes.{Bytes, number_after}
use Rattle.numerals.specs.Spelling.{is_zero, drop_trailing, most_digits}
use Rattle.powers.specs.Powers.{power_of_ten}
use Rattle.value.specs.Runs.{Grown, Appended, Longer}
use Rattle.value.specs.declared.Digits.{Digits}
use Rattle.powers.proofs.PowersLaws.{ten_positive, ten_fits, ten_next, power-within, appended_below}
use Rattle.numerals.proofs.Numbers.{number_append, trailing_number, zero_trails, digit_trails, length_more}

-- ---- digits that count

module _ (d : Digits) (places last : ℕ) where
  pub appended_wide : most_digits < d.count + places → Appended d places last (record { number = 0; count = d.count + places; zeros = 0 })
  appended_wide h = record { counts = refl; spells = λ k. absurd (omega arith); none_left = refl; small = ten_positive (d.count + places) }

  -- at most 18: p is the power of ten of their places
  module _ (p : ℕ) (e : p ≡ power_of_ten places) (h : d.count + places ≤ most_digits) (b : d.number < 10 ^ d.count) (l : last < 10 ^ places) where
    power : p ≡ 10 ^ places
    power = e ∙ power-within places (omega arith)

    below : d.number * p + last < 10 ^ (d.count + places)
    below = rw power (appended_below d.number last d.count places b l)

    pub appended_fits : d.number * p + last < 2 ^ 64
    appended_fits = lt_trans below (ten_fits (d.count + places) h)

    pub appended_narrow : Appended d places last (record { number = d.number * p + last; count = d.count + places; zeros = 0 })
    appended_narrow = record { counts = refl; spells = λ k. ap (λ (n : ℕ). d.number * n + last) power; none_left = refl; small = below }

-- ---- one digit more

-- a zero is held back
pub longer_zero : (d : Digits) (digit : ℕ) → digit ≡ 0 → d.number < 10 ^ d.count → Longer d digit (record { number = d.number; count = d.count; zeros = d.zeros + 1 })
longer_zero d digit e b =
    rw e
    (record {
      by_one = omega arith;
      small = b;
      grows = λ s q g. record {
        counts = rw zero_trails g.counts;
        spells = λ k. rw zero_trails (g.spells k);
        trails = rw (zero_trails q, length_more q 48) (omega (arith, g.trails));
      };
    })

-- any other digit counts, and the zeros before it
pub one_place : (digit i : ℕ) → digit ≤ 9 → digit < 10 ^ (i + 1)
one_place digit i h = omega (arith, ten_next i, ten_positive i)

-- where no zero is held back, ten times the number
module _ (d : Digits) (digit : ℕ) (e : d.zeros ≡ 0) (h : d.count < most_digits) (b : d.number < 10 ^ d.count) (l : digit ≤ 9) where
  ten : 10 ≡ power_of_ten 1
  unfolding power_of_ten
  ten = refl

  pub ten_times_fits : d.number * 10 + digit < 2 ^ 64
  ten_times_fits = appended_fits d 1 digit 10 ten (omega arith) b (omega arith)

  pub ten_times : Appended d (d.zeros + 1) digit (record { number = d.number * 10 + digit; count = d.count + 1; zeros = 0 })
  ten_times =
      subst (λ (n : ℕ). Appended d (n + 1) digit (record { number = d.number * 10 + digit; count = d.count + 1; zeros = 0 })) (sym e)
      (appended_narrow d 1 digit 10 ten (omega arith) b (omega arith))

module _ (d : Digits) (digit : ℕ) (z : digit ≡ 0 → ⊥) (r : Digits) (t : Appended d (d.zeros + 1) digit r) where
  abbrev byte : ℕ
  byte = 48 + digit

  not-zero : is_zero byte ≡ false
  not-zero = ne_eqb byte 48 (λ e. z (omega arith))

  grown : (s : Digits) (q : Bytes) → Grown s q d → Grown s (q ++ (byte ∷ [])) r
  grown s q g = record {
    counts = rw (digit_trails q byte not-zero, length_more q byte) (omega (arith, t.counts, g.counts, g.trails));
    spells = λ k.
        let before : d.number ≡ number_after s.number (drop_trailing q) = g.spells (omega (arith, t.counts)) in
        let all : d.number * 10 ^ d.zeros ≡ number_after s.number q =
        ap (λ (n : ℕ). n * 10 ^ d.zeros) before ∙ sym (trailing_number s.number d.zeros q g.trails) in
        let next : d.number * 10 ^ (d.zeros + 1) ≡ d.number * 10 ^ d.zeros * 10 =
        ap (λ (n : ℕ). d.number * n) (sym (ten_next d.zeros)) ∙ sym (mul_assoc d.number (10 ^ d.zeros) 10) in
        t.spells k ∙ (rw (digit_trails q byte not-zero, number_append s.number q (byte ∷ [])) (omega arith));
    trails = rw (digit_trails q byte not-zero) (omega (arith, t.none_left));
  }

  pub longer_digit : Longer d digit r
  longer_digit = record { by_one = omega (arith, t.counts, t.none_left); small = t.small; grows = grown }
