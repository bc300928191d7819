-- `senses::values::plus_product` meets its contract: what `add_product` refuses is 12 here.
use mathlib.Core.Path.{◌≡◌, refl, ap, ◌∙◌}
use Prim.Native.Nat.{ℕ}
use borrow.Author.Rules.{rules}
use Rattle.arithmetic.specs.declared.Fraction.{Fraction}
use Rattle.arithmetic.specs.Outcome.{Outcome, gives, refuses}
use Rattle.arithmetic.specs.Fraction.{product_of, sum_of, after}
use Rattle.arithmetic.proofs.Meaning.{product_then_sum}
use Rattle.rules.specs.Result.{bind}
use Rattle.rules.specs.Values.{within12, sum_at}
use Rattle.senses.proofs.values.plus_product.Goals as goal

in_two : (place : ℕ) (sum : Fraction) (product : Outcome Fraction) → within12 place (after product (sum_of sum)) ≡ bind (within12 place product) (λ p. sum_at place sum p)
in_two place sum (gives p) = refl
in_two place sum (refuses n) = refl

pub returns : goal.returns
returns c =
    λ u v w place.
    ap (within12 place) (c.add_product.ensures (search rules) (search rules) (search rules) ∙ product_then_sum c.args.sum c.args.a c.args.b (u, v, w))
    ∙ in_two place c.args.sum (product_of c.args.a c.args.b)
