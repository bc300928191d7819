-- `arithmetic::add_product_any` meets its contract: the sum with what the product gave, or what it refused.
use Rattle.std.proofs.Common.{rules, Err}
use mathlib.Core.Path.{◌≡◌, sym, ◌∙◌, ap}
use Rattle.arithmetic.specs.Outcome.{Outcome}
use Rattle.arithmetic.specs.Fraction.{sum_of, after, arithmetic_says}
use Rattle.arithmetic.specs.declared.Fraction.{Fraction}
use Rattle.arithmetic.proofs.Laws.{product_is}
use Rattle.arithmetic.proofs.Meaning.{product_then_sum}
use Rattle.arithmetic.proofs.add_product_any.Goals as goal

pub returns-in_err-product : goal.returns-in_err-product
returns-in_err-product c = λ u v w.
    let same : c.from_residual.result ≡ Err c.in_err-product.field-0.0 = search rules in
    ap arithmetic_says same ∙ ap (λ (o : Outcome Fraction). after o (sum_of c.args.s)) (c.in_err-product.ensures v w)
    ∙ sym (product_then_sum c.args.s c.args.a c.args.b (u, v, w))

pub returns : goal.returns
returns c = λ u v w.
    let gave = c.in_ok-product.ensures v w in
    c.sum.ensures u (product_is c.args.a c.args.b _ (sym gave)) ∙ ap (λ (o : Outcome Fraction). after o (sum_of c.args.s)) gave
    ∙ sym (product_then_sum c.args.s c.args.a c.args.b (u, v, w))
