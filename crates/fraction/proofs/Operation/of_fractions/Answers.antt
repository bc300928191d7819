-- `fraction::Operation::of_fractions` meets its contract: shaped pairs are fractions if they are in lowest terms.
use Rattle.std.proofs.Common.{rules}
use mathlib.Core.Path.{sym, ◌∙◌}
use Rattle.arithmetic.proofs.Ways.{Told}
use Rattle.fraction.proofs.Tested.{of_shaped, of_unshaped}
use Rattle.fraction.proofs.Operation.of_fractions.Goals as goal

pub returns-then-both_shaped : goal.returns-then-both_shaped
returns-then-both_shaped c =
    let told_a : Told c.args.self.a = search rules in
    let told_b : Told c.args.self.b = search rules in
    c.lowest.ensures ∙ of_shaped c.args.self.a c.args.self.b told_a told_b _ (sym c.both_shaped.ensures ∙ c.if-both_shaped.true)

pub returns-else-both_shaped : goal.returns-else-both_shaped
returns-else-both_shaped c =
    let told_a : Told c.args.self.a = search rules in
    let told_b : Told c.args.self.b = search rules in
    sym (of_unshaped c.args.self.a c.args.self.b told_a told_b _ (sym c.both_shaped.ensures ∙ c.if-both_shaped.false))
