-- `text::line_of` meets its contract: the LF bytes of the part before the place are counted.
-- Assumes nothing.
use Prim.Native.Nat.{◌+◌}
use mathlib.Core.Path.{◌∙◌, ap}
use native.Mathlib.Omega.{arith}
use Rattle.text.proofs.Turns.{feeds_le, line_done}
use Rattle.text.proofs.line_of.Goals as goal

pub overflow_add-result : goal.overflow_add-result
overflow_add-result c = omega (arith, c.line_feeds.ensures, feeds_le c.part.result.now)

pub returns : goal.returns
returns c = ap (λ n. 1 + n) c.line_feeds.ensures ∙ line_done c.args.text.now c.args.place c.part.ensures.bytes
