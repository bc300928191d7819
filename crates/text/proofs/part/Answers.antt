-- `text::part` meets its contract: the part that the text has of `from` .. `to`.
-- Assumes nothing.
use mathlib.Core.Path.{refl}
use native.Mathlib.Omega.{arith}
use Rattle.text.proofs.Parts.{part_at}
use Rattle.text.proofs.Promised.{part_taken}
use Rattle.text.proofs.part.Goals as goal

pub returns : goal.returns
returns c =
    part_taken c.args.from c.args.to
    (part_at c.min.result c.min-to.result (omega arith) (omega arith) (omega arith) (omega arith) refl (omega arith) refl)
