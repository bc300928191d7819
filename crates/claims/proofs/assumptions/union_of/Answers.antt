use Rattle.std.proofs.Common.{ap, add-one, arith}
use Rattle.sets.specs.Sets.{bit}
use Rattle.claims.proofs.ReasonsLaws.{union_next}
use Rattle.claims.proofs.assumptions.union_of.Goals as goal

pub loop-r-preserved : goal.loop-r-preserved
loop-r-preserved c =
    λ j.
    rw add-one
    (omega (arith, c.union-union.ensures j, ap (λ m. bit m j) c.set_at.ensures, c.loop-r.invariant j, union_next c.args.all.now c.args.named.now c.loop-r.r-index j c.loop-r-test.true))
