-- `fraction::add_product` meets its contract: all three are tested before anything is worked out.
use mathlib.Core.Path.{sym, ◌∙◌}
use Rattle.arithmetic.proofs.Meaning.{all_are, add-product-means}
use Rattle.arithmetic.proofs.Ways.{not_fractions}
use Rattle.fraction.proofs.Promised.{meant}
use Rattle.fraction.proofs.add_product.Goals as goal

pub returns-then-all_three : goal.returns-then-all_three
returns-then-all_three c =
    let v = all_are c.args.sum c.args.a c.args.b (sym c.all_three.ensures ∙ c.if-all_three.true) in
    meant (add-product-means c.args.sum c.args.a c.args.b) (c.add_product.ensures v.0 v.1 v.2)

pub returns-else-all_three : goal.returns-else-all_three
returns-else-all_three c = meant (add-product-means c.args.sum c.args.a c.args.b) (sym (not_fractions _ _ (sym c.all_three.ensures ∙ c.if-all_three.false)))
