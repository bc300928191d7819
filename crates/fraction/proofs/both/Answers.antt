-- `fraction::both` meets its contract: pairs that are shaped are fractions if they are in lowest terms.
use Rattle.std.proofs.Common.{rules}
use mathlib.Core.Path.{sym, ◌∙◌}
use Rattle.arithmetic.proofs.Ways.{Told}
use Rattle.fraction.proofs.Tested.{both_shaped, not_both_shaped}
use Rattle.fraction.proofs.both.Goals as goal

pub returns-then-both_shaped : goal.returns-then-both_shaped
returns-then-both_shaped c =
    let told_a : Told c.args.a = search rules in
    let told_b : Told c.args.b = search rules in
    c.both_lowest.ensures ∙ sym (both_shaped c.args.a c.args.b told_a told_b (sym c.both_shaped.ensures ∙ c.if-both_shaped.true))

pub returns-else-both_shaped : goal.returns-else-both_shaped
returns-else-both_shaped c =
    let told_a : Told c.args.a = search rules in
    let told_b : Told c.args.b = search rules in
    c.if-both_shaped.false ∙ sym (not_both_shaped c.args.a c.args.b told_a told_b (sym c.both_shaped.ensures ∙ c.if-both_shaped.false))
