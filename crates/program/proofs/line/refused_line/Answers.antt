-- The five parts of the line stand one after another.
use Rattle.std.proofs.Common.{◌≡◌, ◌∙◌, ap, rules}
use Rattle.grammar.specs.Refusals.{refusal_number}
use Rattle.program.proofs.Decimals.{shown_decimal}
use Rattle.program.specs.Line.{decimal, line_for}
use Rattle.program.proofs.line.refused_line.Goals as goal

pub returns : goal.returns
unfolding line_for
returns c =
    let reason : c.format.result.now ≡ decimal (refusal_number c.args.refused.reason) = c.format.ensures.text ∙ shown_decimal c.from.result (search rules) ∙ ap decimal c.from.ensures in
    let line : c.format-2.result.now ≡ decimal c.args.refused.line = c.format-2.ensures.text ∙ shown_decimal c.args.refused.line (search rules) in
    rw (c.push_str-5.ensures.bytes, c.push_str-4.ensures.bytes, c.push_str-3.ensures.bytes, c.push_str-2.ensures.bytes, c.push_str.ensures.bytes, c.new-line.ensures, reason, line)
