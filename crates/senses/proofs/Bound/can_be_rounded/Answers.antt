-- `senses::Bound::can_be_rounded` meets its contract: no equality, and integral.
use mathlib.Core.Path.{◌≡◌, sym, ◌∙◌, ap}
use mathlib.Core.Bool.{not}
use borrow.Author.Rules.{rules}
use Rattle.grammar.specs.Tree.{Sense, equal}
use Rattle.rules.specs.Rows.{same_sense}
use Rattle.rules.specs.Rounding.{is_integral, can_be_rounded}
use Rattle.senses.specs.Senses.{sense_is}
use Rattle.senses.proofs.Truth.{and_yes, and_no}
use Rattle.senses.proofs.Bound.can_be_rounded.Goals as goal

pub returns-then-ne : goal.returns-then-ne
unfolding can_be_rounded
returns-then-ne c =
    λ tree d e integral.
    let test : c.ne.result ≡ not (same_sense (sense_is c.args.self.sense) equal) = search rules in
    integral ∙ and_yes (is_integral tree d) (test ∙ ap (λ (s : Sense). not (same_sense s equal)) (sym e)) c.if-ne.true

pub returns-else-ne : goal.returns-else-ne
unfolding can_be_rounded
returns-else-ne c =
    λ tree d e integral.
    let test : c.ne.result ≡ not (same_sense (sense_is c.args.self.sense) equal) = search rules in
    c.if-ne.false ∙ and_no (is_integral tree d) (test ∙ ap (λ (s : Sense). not (same_sense s equal)) (sym e)) c.if-ne.false
