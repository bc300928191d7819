-- `value::decimal_ratio` meets its contract: the digits after a point are read on from those before it, and the zeros at their
-- end are left out of the number and of the power of ten. Where they do not end the token, or there is no point,
-- `extended_ratio` goes on.
-- Assumes nothing.
use mathlib.Core.Path.{◌≡◌, ◌∙◌, sym, ap}
use mathlib.Core.List.{[]}
use mathlib.Core.Option.{Option, some}
use Prim.Native.Nat.{ℕ, ◌-◌}
use native.Mathlib.Omega.{arith}
use lib.ListN.{length, drop}
use Rattle.numerals.specs.Spelling.{Tail, point}
use Rattle.numerals.specs.Reading.{digits_of, tail_of, with_tail, outcome_of}
use Rattle.powers.specs.Powers.{power_of_ten}
use Rattle.value.specs.Runs.{Grown}
use Rattle.numerals.proofs.Numbers.{length_digits}
use Rattle.value.proofs.Runs.{grown_none, counted_stands}
use Rattle.value.proofs.Outcomes.{no_form, decimal_wide, decimal_positive, decimal_narrow}
use Rattle.value.proofs.Tokens.{no_decimals, decimals_end, goes_on}
use Rattle.value.proofs.decimal_ratio.Goals as goal

pub returns-then-end-at : goal.returns-then-end-at
returns-then-end-at c =
    let a = c.args in
    let h = c.requires in
    (tt, λ s w g. sym (no_form s w (no_decimals a.token.now a.at h.1 h.2 h.3 _ c.after_point-first.ensures _ c.read_run-run.ensures.next_is c.if-end-at.true)))

pub returns-then-end-token : goal.returns-then-end-token
returns-then-end-token c =
    let a = c.args in
    let h = c.requires in
    let on = goes_on a.token.now a.at h.1 h.2 h.3 _ c.after_point-first.ensures _ c.read_run-run.ensures.next_is c.if-end-at.false c.if-end-token.true in (
      c.extended_ratio.ensures.0,
      λ s w g. c.extended_ratio.ensures.1 s w on.0 g on.1 ∙ ap (λ (o : Option Tail). outcome_of (with_tail s w o)) (sym on.2),
    )

-- the digits after the point end the token
pub returns-then-d-gt-MOST_DIGITS : goal.returns-then-d-gt-MOST_DIGITS
returns-then-d-gt-MOST_DIGITS c =
    let a = c.args in
    let h = c.requires in
    let token = a.token.now in
    let first = c.after_point-first.result in
    let t = digits_of (drop first token) in
    let d = c.read_run-run.result.digits in
    let grown : Grown c.counted.result t d = c.read_run-run.ensures.grows c.counted.result [] (grown_none _ c.counted.ensures.none_left) in
    let tail : tail_of (drop a.at token) ≡ some (point t) =
    decimals_end token a.at h.1 h.2 h.3 _ c.after_point-first.ensures _ c.read_run-run.ensures.next_is c.if-end-at.false c.if-end-token.false in
    (tt, λ s w g. sym (ap (λ (o : Option Tail). outcome_of (with_tail s w o)) tail ∙ decimal_wide s w _ (counted_stands w _ _ g c.counted.ensures) t d grown c.if-d-gt-MOST_DIGITS.true))

pub overflow_sub-end-2 : goal.overflow_sub-end-2
overflow_sub-end-2 c =
    let token = c.args.token.now in
    let first = c.after_point-first.result in
    let t = digits_of (drop first token) in
    let d = c.read_run-run.result.digits in
    let grown : Grown c.counted.result t d = c.read_run-run.ensures.grows c.counted.result [] (grown_none _ c.counted.ensures.none_left) in
    let places : length t ≡ c.read_run-run.result.next - first = omega (arith, length_digits (drop first token), c.read_run-run.ensures.next_is) in
    omega (arith, grown.trails, places)

pub returns : goal.returns
returns c =
    let a = c.args in
    let h = c.requires in
    let token = a.token.now in
    let first = c.after_point-first.result in
    let t = digits_of (drop first token) in
    let d = c.read_run-run.result.digits in
    let grown : Grown c.counted.result t d = c.read_run-run.ensures.grows c.counted.result [] (grown_none _ c.counted.ensures.none_left) in
    let places : length t ≡ c.read_run-run.result.next - first = omega (arith, length_digits (drop first token), c.read_run-run.ensures.next_is) in
    let tail : tail_of (drop a.at token) ≡ some (point t) =
    decimals_end token a.at h.1 h.2 h.3 _ c.after_point-first.ensures _ c.read_run-run.ensures.next_is c.if-end-at.false c.if-end-token.false in
    let power : c.power_of_ten.result ≡ power_of_ten (length t - d.zeros) =
    c.power_of_ten.ensures ∙ ap (λ (n : ℕ). power_of_ten (n - d.zeros)) (sym places) in (
      decimal_positive _ t d grown c.if-d-gt-MOST_DIGITS.false _ power,
      λ s w g. sym (ap (λ (o : Option Tail). outcome_of (with_tail s w o)) tail ∙ decimal_narrow s w _ (counted_stands w _ _ g c.counted.ensures) t d grown c.if-d-gt-MOST_DIGITS.false _ power),
    )
