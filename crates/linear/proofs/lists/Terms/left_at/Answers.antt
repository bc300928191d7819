-- `linear::lists::Terms::left_at` meets its contract: what is left to add gives the left side, from the sum so far on.
use mathlib.Core.Path.{◌∙◌}
use native.Mathlib.Omega.{arith}
use Rattle.std.proofs.lemmas.Result.{err_from_is_err_and}
use Rattle.linear.proofs.PointsLaws.{adding, adding_on, adding_stop, adding_end, left-side}
use Rattle.linear.proofs.lists.Terms.left_at.Goals as goal

pub loop-k-init : goal.loop-k-init
loop-k-init c = adding _ _ _

pub returns-in_err-sum : goal.returns-in_err-sum
returns-in_err-sum c =
    λ below are place point e.
    let t = c.term-v.ensures in
    let p = err_from_is_err_and c.from_residual.result c.from_residual.ensures.1 in
    rw p.1
    (adding_stop _ _ _ c.loop-k.invariant (omega arith) t.variable t.coefficient c.at.ensures c.plus_product.result c.plus_product.ensures c.in_err-sum.was (record { terms-below = below; fractions = are; place = place })
    ∙ left-side _ _ _ (record { terms-below = below; fractions = are; place = place }) point e)

pub loop-k-preserved : goal.loop-k-preserved
loop-k-preserved c =
    let t = c.term-v.ensures in
    adding_on _ _ _ c.loop-k.invariant (omega arith) t.variable t.coefficient c.at.ensures c.plus_product.result c.plus_product.ensures c.in_ok-sum.was

pub returns : goal.returns
returns c =
    λ below are place point e.
    adding_end _ _ _ c.loop-k.invariant (omega arith) (record { terms-below = below; fractions = are; place = place })
    ∙ left-side _ _ _ (record { terms-below = below; fractions = are; place = place }) point e
