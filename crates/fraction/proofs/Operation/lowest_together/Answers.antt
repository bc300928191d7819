-- `fraction::Operation::lowest_together` meets its contract: the loop finds whether a and b are in lowest terms, and what divides both parts of q.
use mathlib.Core.Path.{sym, ◌∙◌}
use Rattle.arithmetic.proofs.Ways.{on_fractions_lem, not_fractions}
use Rattle.fraction.specs.Results.{in_lowest_terms}
use Rattle.fraction.proofs.Tested.{found_one, found_more, true_first, first_false, second_false}
use Rattle.fraction.proofs.Operation.lowest_together.Goals.{else-v-eq1-via-then-v-eq1+else-v-eq1-2, else-v-eq1-via-else-v-eq1}
use Rattle.fraction.proofs.Operation.lowest_together.Goals as goal

pub returns-then-v-eq1-2 : goal.returns-then-v-eq1-2
returns-then-v-eq1-2 c =
    let a = found_one c.args.self.a _ _ _ c.parts.ensures.0 c.parts.ensures.1 c.gcds-v.ensures.0 c.if-v-eq1.true in
    let b = found_one c.args.self.b _ _ _ c.parts-2.ensures.0 c.parts-2.ensures.1 c.gcds-v.ensures.1 c.if-v-eq1-2.true in
    c.by_divisor.ensures ∙ sym (on_fractions_lem _ _ (true_first (in_lowest_terms c.args.self.a) (in_lowest_terms c.args.self.b) a ∙ b))

pub returns-else-v-eq1 : goal.returns-else-v-eq1
returns-else-v-eq1 c =
    let a = in_lowest_terms c.args.self.a in
    let b = in_lowest_terms c.args.self.b in
    elim c.else-v-eq1.branch [
      | else-v-eq1-via-then-v-eq1+else-v-eq1-2 w ↦ sym (not_fractions _ _ (second_false a b (found_more c.args.self.b _ _ _ c.parts-2.ensures.0 c.parts-2.ensures.1 c.gcds-v.ensures.1 w.if-v-eq1-2.false)))
      | else-v-eq1-via-else-v-eq1 w ↦ sym (not_fractions _ _ (first_false a b (found_more c.args.self.a _ _ _ c.parts.ensures.0 c.parts.ensures.1 c.gcds-v.ensures.0 w.if-v-eq1.false)))
    ]
