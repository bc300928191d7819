-- The line where the answer is that the text is verified.
use Rattle.std.proofs.Common.{sym, ap, ◌∙◌, ◌++◌, Result}
use Rattle.std.specs.Prelude.{⊤}
use Rattle.text.specs.Ascii.{ascii}
use Rattle.grammar.specs.declared.Refused.{Refused}
use Rattle.checker.specs.Promise.{verification_says}
use Rattle.program.specs.Line.{line_for}
use Rattle.program.proofs.line.line_of.Goals as goal

pub returns-in-Ok : goal.returns-in-Ok
unfolding line_for
returns-in-Ok c =
    c.push_str.ensures.bytes ∙ ap (λ b. b ++ ascii "verified\n") c.new-line.ensures ∙ ap (λ (a : Result ⊤ Refused). line_for (verification_says a)) (sym c.in-Ok.is)
