-- `linear::combinations::Combination::next` meets its contract: what is left to add gives the same as all terms; then the right
-- side.
use native.Mathlib.Omega.{arith}
use Rattle.linear.proofs.CombinationsLaws.{stays, combining_on, combining_stop, stopped_fractions, combined, combined_fractions, combined_not}
use Rattle.linear.proofs.combinations.Combination.next.Goals as goal

pub returns-in_default-clause-says : goal.returns-in_default-clause-says
returns-in_default-clause-says c = λ takes place. stays place _ c.in_default.not-Some _

pub returns-in_default-plus_product-clause-says : goal.returns-in_default-plus_product-clause-says
returns-in_default-plus_product-clause-says c =
    λ takes place.
    let t = c.term-v.ensures in
    combining_stop _ _ _ _ _ _ c.loop-k.invariant (omega arith) t.variable t.coefficient c.at.ensures c.plus_product.result c.plus_product.ensures c.in_default-plus_product.not-Ok
    (record { takes = takes; so_far_is = c.in-Some.is; place = place })

pub returns-in_default-plus_product-clause-fractions : goal.returns-in_default-plus_product-clause-fractions
returns-in_default-plus_product-clause-fractions c =
    λ takes. stopped_fractions _ _ _ _ _ _ c.loop-k.invariant (record { takes = takes; so_far_is = c.in-Some.is; place = 0 })

pub loop-k-preserved : goal.loop-k-preserved
loop-k-preserved c =
    let t = c.term-v.ensures in
    combining_on _ _ _ _ _ _ c.loop-k.invariant (omega arith) t.variable t.coefficient c.at.ensures c.plus_product.result c.plus_product.ensures c.in-Ok.is _ c.set.ensures

pub returns-in_default-plus_product-2-clause-says : goal.returns-in_default-plus_product-2-clause-says
returns-in_default-plus_product-2-clause-says c =
    λ takes place.
    combined_not _ _ _ _ _ _ c.loop-k.invariant (omega arith) c.plus_product-2.result c.plus_product-2.ensures c.in_default-plus_product-2.not-Ok (record { takes = takes; so_far_is = c.in-Some.is; place = place })

pub returns-in_default-plus_product-2-clause-fractions : goal.returns-in_default-plus_product-2-clause-fractions
returns-in_default-plus_product-2-clause-fractions c =
    λ takes. stopped_fractions _ _ _ _ _ _ c.loop-k.invariant (record { takes = takes; so_far_is = c.in-Some.is; place = 0 })

pub returns-clause-says : goal.returns-clause-says
returns-clause-says c =
    λ takes place.
    combined _ _ _ _ _ _ c.loop-k.invariant (omega arith) c.plus_product-2.result c.plus_product-2.ensures c.in-Ok-plus_product.is (record { takes = takes; so_far_is = c.in-Some.is; place = place })

pub returns-clause-fractions : goal.returns-clause-fractions
returns-clause-fractions c =
    λ takes.
    combined_fractions _ _ _ _ _ _ c.loop-k.invariant (omega arith) c.plus_product-2.result c.plus_product-2.ensures c.in-Ok-plus_product.is (record { takes = takes; so_far_is = c.in-Some.is; place = 0 })
