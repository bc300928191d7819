-- `senses::signs::Signs::are_suitable` meets its contract: one of the two tests passes.
use mathlib.Core.Path.{refl, ◌∙◌}
use Rattle.senses.specs.Signs.{suitable_by}
use Rattle.senses.proofs.Truth.{or_yes, or_no}
use Rattle.senses.proofs.signs.Signs.are_suitable.Goals as goal

pub returns-then-self : goal.returns-then-self
returns-then-self c = λ tree ms are. c.if-self.true ∙ or_yes _ refl c.if-self.true ∙ suitable_by are

pub returns-else-self : goal.returns-else-self
returns-else-self c = λ tree ms are. or_no _ refl c.if-self.false ∙ suitable_by are
