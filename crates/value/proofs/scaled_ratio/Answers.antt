-- `value::scaled_ratio` meets its contract: the exponent's spelling, then N zero, its width, and the power of ten.
-- Assumes nothing.
use mathlib.Core.Path.{◌≡◌, ◌∙◌, sym, ap, subst}
use native.Mathlib.Omega.{arith}
use mathlib.Core.Bool.{Bool}
use Prim.Native.Nat.{ℕ}
use lib.IntN.{ℤ, pos, ◌+ℤ◌, ◌-ℤ◌}
use lib.ListN.{drop}
use Rattle.integers.specs.Signs.{with_sign}
use Rattle.text.specs.Bytes.{number_of}
use Rattle.numerals.specs.Reading.{after_letter}
use Rattle.exponents.specs.Exponents.{ExponentIs, ExponentRead, power_says, power_within}
use Rattle.exponents.proofs.ExponentLaws.{PowerIs, power_is, saturated_power}
use Rattle.value.proofs.Scaled.{misspelled_exponent, first_digit, scaled-zero, scaled_wide, scaled-power, times_outside}
use Rattle.value.proofs.scaled_ratio.Goals as goal

-- the power of ten that an exponent's number n comes to
abbrev power : Bool → (places zeros : ℕ) → ℕ → ℤ
power minus places zeros n = with_sign minus n -ℤ pos places +ℤ pos zeros

-- no exponent was read
pub returns-in_default : goal.returns-in_default
returns-in_default c =
    let a = c.args in
    let t = drop a.from a.token.now in
    (tt, λ s w after capital g q. sym (misspelled_exponent s w after (after_letter capital t) (subst (ExponentRead t) c.in_default.is c.read_exponent.ensures capital)))

-- the exponent was read
pub returns-then-digits-eq0 : goal.returns-then-digits-eq0
returns-then-digits-eq0 c =
    let t = drop c.args.from c.args.token.now in
    let e : ExponentIs t c.in-Some.exponent.minus c.in-Some.exponent.number = subst (ExponentRead t) c.in-Some.is c.read_exponent.ensures in
    (c.whole_ratio.ensures.0, λ s w after capital g q. c.whole_ratio.ensures.1 s ∙ sym (scaled-zero s w after _ g capital t _ _ e c.if-digits-eq0.true))

pub returns-then-digits-gt-MOST_DIGITS : goal.returns-then-digits-gt-MOST_DIGITS
returns-then-digits-gt-MOST_DIGITS c =
    let t = drop c.args.from c.args.token.now in
    let e : ExponentIs t c.in-Some.exponent.minus c.in-Some.exponent.number = subst (ExponentRead t) c.in-Some.is c.read_exponent.ensures in
    (tt, λ s w after capital g q. sym (scaled_wide s w after _ g capital t _ _ e c.if-digits-gt-MOST_DIGITS.true))

-- the power of ten is outside -18 to 18
pub returns-in_default-power_of : goal.returns-in_default-power_of
returns-in_default-power_of c =
    let t = drop c.args.from c.args.token.now in
    let x = c.in-Some.exponent in
    let e : ExponentIs t x.minus x.number = subst (ExponentRead t) c.in-Some.is c.read_exponent.ensures in
    let a = c.args in
    let h = c.requires in
    let p = power x.minus a.places a.digits.zeros in
    let z = p (number_of e.digits) in
    let same : power_within (p x.number) ≡ power_within z =
    saturated_power x.minus (number_of e.digits) x.number a.places a.digits.zeros e.number_is h.1 (omega (arith, h.0.short)) in
    let outside = subst (PowerIs z) c.in_default-power_of.is (power_is z c.power_of.result (c.power_of.ensures ∙ same)) in (
      tt,
      λ s w after capital g q.
          sym (scaled-power s w after _ g capital t _ _ e _ q c.if-digits-eq0.false c.if-digits-gt-MOST_DIGITS.false ∙ times_outside s a.digits.number z outside),
    )

pub returns : goal.returns
returns c =
    let t = drop c.args.from c.args.token.now in
    let x = c.in-Some.exponent in
    let e : ExponentIs t x.minus x.number = subst (ExponentRead t) c.in-Some.is c.read_exponent.ensures in
    let narrow = c.if-digits-gt-MOST_DIGITS.false in
    let a = c.args in
    let h = c.requires in
    let p = power x.minus a.places a.digits.zeros in
    let z = p (number_of e.digits) in
    let same : power_within (p x.number) ≡ power_within z =
    saturated_power x.minus (number_of e.digits) x.number a.places a.digits.zeros e.number_is h.1 (omega (arith, h.0.short)) in
    let says = sym (ap power_says c.in-Some-power_of.is) ∙ c.power_of.ensures ∙ same in (
      c.times_power.ensures.0,
      λ s w after capital g q.
          c.times_power.ensures.1 (first_digit _ _ g c.if-digits-eq0.false narrow) z says s
          ∙ sym (scaled-power s w after _ g capital t _ _ e _ q c.if-digits-eq0.false narrow),
    )
