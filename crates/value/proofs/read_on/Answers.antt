-- `value::read_on` meets its contract: after zeros alone the zeros that follow are leading ones too.
-- Assumes nothing.
use native.Mathlib.Omega.{arith}
use lib.ListN.{drop, length-drop}
use Rattle.text.specs.Bytes.{is_digit}
use Rattle.text.proofs.BytesLaws.{leading_le}
use Rattle.value.proofs.Runs.{read_short, continued_zeros, continued_digits}
use Rattle.value.proofs.read_on.Goals as goal

pub returns-then-whole-eq0 : goal.returns-then-whole-eq0
returns-then-whole-eq0 c =
    let a = c.args in
    let h = c.read_significant.ensures in
    record {
      significant = continued_zeros (drop a.from a.token.now) a.whole c.if-whole-eq0.true _ h.significant;
      bounded = record { short = omega (arith, read_short a.token.now a.from _ h); small = h.bounded.small };
    }

pub returns : goal.returns
returns c =
    let a = c.args in
    let t = drop a.from a.token.now in
    let h = c.read_run.ensures in
    record {
      significant = continued_digits t a.from a.whole c.if-whole-eq0.false _ h;
      bounded = record { short = omega (arith, h.bounded.short, h.next_is, leading_le is_digit t, length-drop a.from a.token.now, c.requires.1); small = h.bounded.small };
    }
