-- `value::read_ratio` meets its contract, by where the first digits end and the byte that stands there.
-- Assumes nothing.
use mathlib.Core.Path.{◌∙◌, sym, ap}
use Rattle.numerals.specs.Reading.{outcome_of}
use Rattle.value.proofs.Runs.{counted_stands}
use Rattle.value.proofs.Outcomes.{whole_outcome_lem}
use Rattle.value.proofs.Tokens.{no_digits_lem, no_tail, tail_from, run_stops}
use Rattle.value.proofs.read_ratio.Goals as goal

pub returns-then-next-from : goal.returns-then-next-from
returns-then-next-from c =
    let a = c.args in
    (tt, λ s. sym (no_digits_lem s a.token.now a.from _ c.read_significant-next.ensures.next_is c.if-next-from.true))

pub returns-then-token-next : goal.returns-then-token-next
returns-then-token-next c =
    let a = c.args in (
      c.whole_ratio.ensures.0,
      λ s. c.whole_ratio.ensures.1 s
          ∙ whole_outcome_lem s _ _ (counted_stands _ _ _ c.read_significant-next.ensures.significant c.counted.ensures)
          ∙ ap outcome_of (sym (no_tail s a.token.now a.from _ c.read_significant-next.ensures.next_is c.if-next-from.false c.if-token-next.true)),
    )

pub returns-then-token-next-eq47 : goal.returns-then-token-next-eq47
returns-then-token-next-eq47 c =
    let a = c.args in (
      c.quotient_ratio.ensures.0,
      λ s. c.quotient_ratio.ensures.1 s _ (counted_stands _ _ _ c.read_significant-next.ensures.significant c.counted-then-token-next-eq47.ensures)
          ∙ ap outcome_of (sym (tail_from s a.token.now a.from _ c.read_significant-next.ensures.next_is c.if-next-from.false c.if-token-next.false 47 c.if-token-next-eq47.true)),
    )

pub decimal_ratio-requires : goal.decimal_ratio-requires
decimal_ratio-requires c =
    let a = c.args in
    let h = c.read_significant-next.ensures in
    (h.bounded, c.if-token-next.false, run_stops a.token.now a.from _ h.next_is c.if-token-next.false, c.if-token-next-eq47.false)
