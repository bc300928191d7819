-- `value::quotient_ratio` meets its contract: the denominator's digits run to the token's end and are not all zero; then
-- both widths.
-- Assumes nothing.
use mathlib.Core.Path.{sym}
use Rattle.std.proofs.Common.{⊎_elim}
use lib.ListN.{drop}
use Rattle.value.proofs.Parts.{part_misspelled, part_numeral, part_stands}
use Rattle.value.proofs.Outcomes.{slash_misspelled, slash_zero, slash_wide_num, slash_wide_den, slash_positive, slash_narrow}
use Rattle.value.proofs.quotient_ratio.Goals as goal

pub returns-in_default : goal.returns-in_default
returns-in_default c =
    let t = drop c.args.from c.args.token.now in
    (tt, λ s w h. sym (slash_misspelled s w c.args.whole h t (part_misspelled t _ _ c.ended.ensures c.in_default.is)))

-- the digits of the denominator
pub returns-then-d-eq0 : goal.returns-then-d-eq0
returns-then-d-eq0 c =
    let t = drop c.args.from c.args.token.now in
    let d = c.in-Some.d in
    let numeral = part_numeral t _ _ c.ended.ensures d c.in-Some.is in
    let stands = part_stands t _ _ c.ended.ensures d c.in-Some.is c.read_whole.ensures.stands in
    (tt, λ s w h. sym (slash_zero s w _ h t numeral d stands c.if-d-eq0.true))

pub returns-then-whole-gt-MOST_DIGITS : goal.returns-then-whole-gt-MOST_DIGITS
returns-then-whole-gt-MOST_DIGITS c =
    let t = drop c.args.from c.args.token.now in
    let d = c.in-Some.d in
    let numeral = part_numeral t _ _ c.ended.ensures d c.in-Some.is in
    let stands = part_stands t _ _ c.ended.ensures d c.in-Some.is c.read_whole.ensures.stands in (
      tt,
      λ s w h.
          ⊎_elim (λ k. sym (slash_wide_num s w _ h t numeral d stands c.if-d-eq0.false k))
          (λ k. sym (slash_wide_den s w _ h t numeral d stands c.if-d-eq0.false k.0 k.1)) c.then-whole-gt-MOST_DIGITS.either,
    )

pub returns : goal.returns
returns c =
    let t = drop c.args.from c.args.token.now in
    let d = c.in-Some.d in
    let numeral = part_numeral t _ _ c.ended.ensures d c.in-Some.is in
    let stands = part_stands t _ _ c.ended.ensures d c.in-Some.is c.read_whole.ensures.stands in (
      slash_positive t d stands c.if-d-eq0.false numeral c.if-d-gt-MOST_DIGITS.false,
      λ s w h. sym (slash_narrow s w _ h t numeral d stands c.if-d-eq0.false c.if-whole-gt-MOST_DIGITS.false c.if-d-gt-MOST_DIGITS.false),
    )
