-- `text::comments_end` meets its contract. The invariant: a line begins at `at`, and the comments from there on end where all of them end.
-- The measure is what is left of the text.
-- Assumes nothing.
use Prim.Native.Nat.{◌+◌}
use mathlib.Core.Path.{sym, ◌∙◌}
use native.Mathlib.Omega.{arith}
use Rattle.text.specs.Comments.{is_line_byte}
use Rattle.text.proofs.BytesLaws.{led_to, led_le}
use Rattle.text.proofs.Turns.{comment_first, comment_past, comment_none, CommentLine, comment_more}
use Rattle.text.proofs.Promised.{comments_passed}
use Rattle.text.proofs.comments_end.Goals as goal

pub loop-at-init : goal.loop-at-init
loop-at-init c = comment_first c.args.text.now

pub overflow_add-at : goal.overflow_add-at
overflow_add-at c = omega (arith, led_le is_line_byte c.loop-at.at c.args.text.now c.line_len.ensures c.tail.ensures)

pub overflow_add-at-in-loop-at : goal.overflow_add-at-in-loop-at
overflow_add-at-in-loop-at c = omega (arith, led_le is_line_byte c.loop-at.at c.args.text.now c.line_len.ensures c.tail.ensures, c.loop-at-test.true)

pub loop-at-preserved : goal.loop-at-preserved
loop-at-preserved c =
    let this-line : CommentLine c.args.text.now c.loop-at.at (c.loop-at.at + c.line_len.result) = record {
      inside = c.loop-at-test.true;
      percent = c.if-text-at-eq37.true;
      goes_to = led_to is_line_byte c.loop-at.at c.args.text.now c.line_len.ensures c.tail.ensures;
    } in
    sym (comment_more this-line c.min-at.ensures) ∙ c.loop-at.invariant

pub returns-else-text-at-eq37 : goal.returns-else-text-at-eq37
returns-else-text-at-eq37 c =
    let text = c.args.text.now in
    comments_passed text (omega (arith, c.loop-at.invariant, comment_none text c.loop-at.at c.loop-at-test.true c.if-text-at-eq37.false))

pub returns-after-loop-at : goal.returns-after-loop-at
returns-after-loop-at c =
    let text = c.args.text.now in
    comments_passed text (omega (arith, c.loop-at.invariant, comment_past text c.loop-at.at c.loop-at-test.false))
