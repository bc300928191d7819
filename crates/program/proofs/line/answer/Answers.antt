-- The tables have as many cells as needed, and the room is greater than the longest text.
use Rattle.std.proofs.Common.{ℕ, ap, ◌∙◌, ◌<◌, length, take, take_all, rules, pos}
use Rattle.std.proofs.lemmas.List.{length-replicate}
use Rattle.tables.specs.Limits.{most_bytes}
use Rattle.program.specs.Line.{printed, long_refused}
use Rattle.program.proofs.Lines.{line_of, at_most_all}
use Rattle.program.proofs.line.answer.Goals as goal

pub returns : goal.returns
returns c =
    let text = c.args.text.now in
    let long : most_bytes < length text = search rules in
    let cells = line_of (take c.min-came.result text) (length-replicate {A = ℕ} 16384 0) (length-replicate 16384 (pos 0)) (length-replicate {A = ℕ} 4352 0) in
    let made = cells c.line_of.ensures c.verify-answer.ensures.answer ∙ ap printed (at_most_all text c.args.came (search rules)) in
    record {
      line_made = made;
      full_refused = λ full. made ∙ ap printed (take_all c.args.came text full) ∙ long_refused text long;
    }
