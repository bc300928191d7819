-- `arithmetic::product` meets its contract: the exact product, brought to lowest terms.
use mathlib.Core.Path.{sym, ◌∙◌}
use native.Mathlib.Nat.{mul-pos}
use Rattle.arithmetic.proofs.Meaning.{are_both, exact_positive}
use Rattle.arithmetic.proofs.Ways.{on_fractions_lem, reduced_exact}
use Rattle.arithmetic.proofs.product.Goals as goal

pub returns : goal.returns
returns c = λ v w.
    let q = c.multiplied in
    c.reduced.ensures ∙ reduced_exact q.result _ q.ensures (mul-pos (exact_positive c.args.a v) (exact_positive c.args.b w))
    ∙ sym (on_fractions_lem _ _ (are_both c.args.a c.args.b (v, w)))
