-- What is written is the text of the cells so far.
use Rattle.std.proofs.Common.{take, IfSome}
use Rattle.std.specs.Fmt.{HasWritten, IsPlainFormatter}
use Rattle.case_texts.specs.Cells.{cells_text}
use Rattle.case_texts.proofs.CellsDisplay.fmt.Given as goal

abbrev pub invariant-loop-cell : goal.invariant-loop-cell
invariant-loop-cell g l = IsPlainFormatter l.fn.f
    → IfSome (cells_text g.T.Display.output (take l.cell-index l.self.0.now)) (λ bs. HasWritten g.W.Write.write_str_gives l.fn.f bs l.f)
