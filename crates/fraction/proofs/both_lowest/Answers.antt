-- `fraction::both_lowest` meets its contract: a whole number is in lowest terms; of others one loop tells it.
use mathlib.Core.Path.{sym, ◌∙◌}
use Rattle.fraction.specs.Results.{in_lowest_terms}
use Rattle.fraction.proofs.Tested.{whole-lowest-terms, true_first, true_second}
use Rattle.fraction.proofs.both_lowest.Goals as goal

pub returns-then-p-eq1 : goal.returns-then-p-eq1
returns-then-p-eq1 c = c.is_lowest.ensures ∙ sym (true_first (in_lowest_terms c.args.a) (in_lowest_terms c.args.b) (whole-lowest-terms _ _ (sym c.parts-p.ensures.1 ∙ c.if-p-eq1.true)))

pub returns-then-q-eq1 : goal.returns-then-q-eq1
returns-then-q-eq1 c = c.is_lowest-then-q-eq1.ensures ∙ sym (true_second (in_lowest_terms c.args.a) (in_lowest_terms c.args.b) (whole-lowest-terms _ _ (sym c.parts-q.ensures.1 ∙ c.if-q-eq1.true)))
