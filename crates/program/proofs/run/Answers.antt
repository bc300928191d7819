-- `program::run` meets its contract: the line is that for the bytes that came.
use Rattle.std.proofs.Common.{◌≡◌, sym, ap, ◌∙◌, take, rules}
use Rattle.program.proofs.Inputs.{line_known, no_line}
use Rattle.program.specs.Transcript.{line_after, after-means}
use Rattle.program.proofs.run.Goals as goal
use Rattle.program.proofs.run.Goals.{then-is_some, else-is_some}

pub returns-clause-answered : goal.returns-clause-answered
returns-clause-answered g c =
    let r = c.read_input-came in
    let text = take r.result.came r.new.text in
    let made : c.if-is_some.line.bytes ≡ line_after r.result.last text = elim c.if-is_some.branch [
      | then-is_some w ↦ line_known r.result.last text (sym c.is_some.ensures ∙ w.if-is_some.true) (ap (λ l. l.bytes) w.line-is ∙ w.answer-line.ensures.line_made)
      | else-is_some w ↦ no_line r.result.last text (sym c.is_some.ensures ∙ w.if-is_some.false) (ap (λ l. l.bytes) w.line-is ∙ w.new-line.ensures)
    ] in
    record {
      stopped = search rules;
      line_made = made;
      verified_means = λ verified. after-means r.result.last text (sym made ∙ verified);
    }
