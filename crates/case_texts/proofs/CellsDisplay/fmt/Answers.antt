-- One cell more is written after those so far.
use Rattle.std.proofs.Common.{sym, subst, arith, List, ℕ, Option, Some, codes, take, IfSome}
use Rattle.std.specs.Fmt.{HasWritten, ◌++?◌}
use Rattle.case_texts.specs.Cells.{cells_text}
use Rattle.case_texts.proofs.Rows.{cells_more, written_more}
use Rattle.case_texts.proofs.CellsDisplay.fmt.Goals as goal

pub loop-cell-preserved : goal.loop-cell-preserved
loop-cell-preserved g c = λ plain.
    let xs = c.args.self.now.0.now in
    let i = c.loop-cell.cell-index in
    let x = c.cell-item.result in
    subst (λ (o : Option (List ℕ)). IfSome o (λ bs. HasWritten g.W.Write.write_str_gives c.args.f.now bs c.write.new.self))
    (sym (cells_more g.T.Display.output xs i x (omega arith) c.cell-item.is))
    (written_more g.W.Write.write_str_gives c.args.f.now c.loop-cell.f c.write.new.self (cells_text g.T.Display.output (take i xs))
    (Some (codes " ") ++? g.T.Display.output x) c.in_ok-write.field-0 (c.loop-cell.invariant plain) c.in_ok-write.ensures.writes)
