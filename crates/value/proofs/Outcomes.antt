-- The outcome of a written form, by what the code has read of its parts.
-- Assumes nothing.
use mathlib.Core.Path.{◌≡◌, sym, ◌∙◌, ap}
use mathlib.Core.Bool.{Bool, true, false}
use mathlib.Core.List.{◌∷◌, ◌++◌}
use mathlib.Core.Option.{Option, none, some}
use Prim.Native.Nat.{ℕ, ◌+◌, ◌-◌, ◌*◌, ◌^◌, ◌≤◌, ◌<◌}
use native.Mathlib.Omega.{arith}
use borrow.Author.Tests.{ltb-true, ltb-false, lt-ltb, le-ltb}
use lib.Dec.{ltb}
use lib.ListN.{length}
use lib.Pow.{pow-add}
use Rattle.integers.specs.Signs.{with_sign}
use Rattle.text.specs.Bytes.{Bytes, every, is_numeral, number_after, number_of}
use Rattle.arithmetic.specs.Outcome.{refuses}
use Rattle.arithmetic.specs.Quotient.{lowest}
use Rattle.arithmetic.specs.Parts.{over}
use Rattle.numerals.specs.Spelling.{Tail, nothing, point, is_zero, quotient_of, most_digits, whole_digits, decimal_digits}
use Rattle.numerals.specs.Reading.{tail_of, with_tail, narrowed, outcome_of}
use Rattle.numerals.proofs.Forms.{by_test, numeral_digits}
use Rattle.numerals.proofs.Agreement.{number_positive}
use Rattle.powers.specs.Powers.{power_of_ten}
use Rattle.value.specs.Runs.{Grown, Stands, whole_outcome}
use Rattle.value.specs.declared.Digits.{Digits}
use Rattle.powers.proofs.PowersLaws.{ten_positive, power-within}
use Rattle.numerals.proofs.Numbers.{number_append, trailing_number, leading_none, leading_some}
use Rattle.numerals.proofs.Widths.{lowest-scaled}

-- the power of ten for the digits of a decimal part that are no trailing zeros
module _ (d : Digits) (t : Bytes) (r : Digits) (g : Grown d t r) (k : r.count ≤ most_digits) (p : ℕ) (q : p ≡ power_of_ten (length t - r.zeros)) where
  decimal-power : p ≡ 10 ^ decimal_digits t
  decimal-power =
      let places : length t - r.zeros ≡ decimal_digits t = omega (arith, g.trails) in
      q ∙ ap power_of_ten places ∙ power-within (decimal_digits t) (omega (arith, g.counts))

  pub decimal_positive : 0 < p
  decimal_positive = rw decimal-power (ten_positive (decimal_digits t))

-- a denominator that is not all zero
module _ (t : Bytes) (r : Digits) (g : Stands t r) (n : r.count ≡ 0 → ⊥) where
  not-all-zero : every is_zero t ≡ false
  not-all-zero = leading_some t (omega (arith, g.counts))

  pub slash_positive : is_numeral t ≡ true → r.count ≤ most_digits → 0 < r.number
  slash_positive e l = rw (g.spells l) (number_positive 0 t (numeral_digits t e) not-all-zero)

-- no tail, no form
pub no_form : (s : Bool) (w : Bytes) {o : Option Tail} → o ≡ none → outcome_of (with_tail s w o) ≡ refuses 4
unfolding outcome_of
no_form s w e = ap (λ (o : Option Tail). outcome_of (with_tail s w o)) e

-- ---- a whole number

pub whole_wide : (s : Bool) (d : Digits) → most_digits < d.count → whole_outcome s d ≡ refuses 7
whole_wide s d k = rw (lt-ltb most_digits d.count k)

pub whole_narrow : (s : Bool) (d : Digits) → d.count ≤ most_digits → whole_outcome s d ≡ narrowed (lowest (over (with_sign s d.number) 1))
whole_narrow s d k = rw (le-ltb most_digits d.count k)

module _ (s : Bool) (w : Bytes) (d : Digits) (h : Stands w d) where
  pub whole_outcome_lem : whole_outcome s d ≡ outcome_of (with_tail s w (some nothing))
  unfolding outcome_of quotient_of
  whole_outcome_lem =
      by_test (ltb most_digits d.count)
      (λ e. let k : most_digits < d.count = ltb-true _ _ e in
      whole_wide s d k ∙ sym (rw (lt-ltb most_digits (whole_digits w) (omega (arith, h.counts)))))
      (λ e. let k : d.count ≤ most_digits = ltb-false _ _ e in
      whole_narrow s d k ∙ sym (rw (le-ltb most_digits (whole_digits w) (omega (arith, h.counts)), h.spells k)))

  -- ---- a decimal

  module _ (t : Bytes) where
    module _ (r : Digits) (g : Grown d t r) where
      pub decimal_wide : most_digits < r.count → outcome_of (with_tail s w (some (point t))) ≡ refuses 7
      unfolding outcome_of
      decimal_wide k = rw (lt-ltb most_digits (whole_digits w + decimal_digits t) (omega (arith, h.counts, g.counts)))

      module _ (k : r.count ≤ most_digits) (p : ℕ) (q : p ≡ power_of_ten (length t - r.zeros)) where
        pub decimal_narrow : outcome_of (with_tail s w (some (point t))) ≡ narrowed (lowest (over (with_sign s r.number) p))
        unfolding outcome_of quotient_of
        decimal_narrow =
            let top : number_of (w ++ t) ≡ r.number * 10 ^ r.zeros =
            number_append 0 w t
            ∙ ap (λ (n : ℕ). number_after n t) (sym (h.spells (omega (arith, g.counts))))
            ∙ trailing_number d.number r.zeros t g.trails
            ∙ ap (λ (n : ℕ). n * 10 ^ r.zeros) (sym (g.spells k)) in
            let bottom : 10 ^ length t ≡ 10 ^ r.zeros * 10 ^ decimal_digits t = ap (λ (n : ℕ). 10 ^ n) (sym g.trails) ∙ pow-add 10 r.zeros (decimal_digits t) in
            rw (le-ltb most_digits (whole_digits w + decimal_digits t) (omega (arith, h.counts, g.counts)), top, bottom, decimal-power d t r g k p q)
            (ap narrowed (lowest-scaled s r.number (10 ^ decimal_digits t) (10 ^ r.zeros) (ten_positive (decimal_digits t)) (ten_positive r.zeros)))

    -- ---- a quotient

    pub slash_misspelled : is_numeral t ≡ false → outcome_of (with_tail s w (tail_of (47 ∷ t))) ≡ refuses 4
    unfolding outcome_of
    slash_misspelled e = rw e

    module _ (e : is_numeral t ≡ true) (r : Digits) (g : Stands t r) where
      pub slash_zero : r.count ≡ 0 → outcome_of (with_tail s w (tail_of (47 ∷ t))) ≡ refuses 4
      unfolding outcome_of
      slash_zero k = rw (e, leading_none t (omega (arith, g.counts)))

      module _ (n : r.count ≡ 0 → ⊥) where
        pub slash_wide_num : most_digits < d.count → outcome_of (with_tail s w (tail_of (47 ∷ t))) ≡ refuses 7
        unfolding outcome_of
        slash_wide_num k = rw (e, not-all-zero t r g n, lt-ltb most_digits (whole_digits w) (omega (arith, h.counts)))

        module _ (k : d.count ≤ most_digits) where
          pub slash_wide_den : most_digits < r.count → outcome_of (with_tail s w (tail_of (47 ∷ t))) ≡ refuses 7
          unfolding outcome_of
          slash_wide_den l =
              rw (e, not-all-zero t r g n, le-ltb most_digits (whole_digits w) (omega (arith, h.counts)), lt-ltb most_digits (whole_digits t) (omega (arith, g.counts)))

          pub slash_narrow : r.count ≤ most_digits → outcome_of (with_tail s w (tail_of (47 ∷ t))) ≡ narrowed (lowest (over (with_sign s d.number) r.number))
          unfolding outcome_of quotient_of
          slash_narrow l =
              rw (e, not-all-zero t r g n, le-ltb most_digits (whole_digits w) (omega (arith, h.counts)), le-ltb most_digits (whole_digits t) (omega (arith, g.counts)), h.spells k, g.spells l)
