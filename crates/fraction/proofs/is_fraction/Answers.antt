-- `fraction::is_fraction` meets its contract: a shaped pair in lowest terms.
use Rattle.std.proofs.Common.{rules}
use mathlib.Core.Path.{sym, ◌∙◌}
use Rattle.arithmetic.proofs.Ways.{Told}
use Rattle.fraction.proofs.Tested.{shaped_fraction, unshaped}
use Rattle.fraction.proofs.is_fraction.Goals as goal

pub returns-then-is_shaped : goal.returns-then-is_shaped
returns-then-is_shaped c =
    let told : Told c.args.f = search rules in
    c.is_lowest.ensures ∙ sym (shaped_fraction c.args.f told (sym c.is_shaped.ensures ∙ c.if-is_shaped.true))

pub returns-else-is_shaped : goal.returns-else-is_shaped
returns-else-is_shaped c =
    let told : Told c.args.f = search rules in
    c.if-is_shaped.false ∙ sym (unshaped c.args.f told (sym c.is_shaped.ensures ∙ c.if-is_shaped.false))
