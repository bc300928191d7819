-- At a mark the text before it ends; where none stands it goes on.
use Rattle.std.proofs.Common.{sym, arith}
use Rattle.case_texts.proofs.Cutting.{before_here, before_more, from_more}
use Rattle.case_texts.proofs.cut.Goals as goal

pub returns-then-starts_with-clause-before : goal.returns-then-starts_with-clause-before
returns-then-starts_with-clause-before c =
    before_here c.args.mark.now c.args.text.now c.loop-at.at (sym c.if-starts_with.ensures.value) c.loop-at.invariant.0

pub loop-at-preserved : goal.loop-at-preserved
loop-at-preserved c = (
  before_more c.args.mark.now c.args.text.now c.loop-at.at (omega arith) (sym c.if-starts_with.ensures.value) c.loop-at.invariant.0,
  from_more c.args.mark.now c.args.text.now c.loop-at.at (omega arith) (sym c.if-starts_with.ensures.value) c.loop-at.invariant.1,
)
