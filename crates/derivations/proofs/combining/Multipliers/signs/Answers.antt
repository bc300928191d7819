-- `derivations::combining::Multipliers::signs` meets its contract: the signs so far, with those of the multipliers that are left, are those of all.
use Rattle.std.proofs.Common.{ℕ, ◌≤◌, ◌<◌, subst}
use Rattle.tables.specs.Pairs.{pairs_in}
use Rattle.linear.specs.ListsLaws.{listed_next, listed_none}
use Rattle.encoding.specs.Places.{a_multiplier}
use Rattle.derivations.proofs.CombiningLaws.{multiplier-below, signing_on, signing_end, signed_is}
use Rattle.derivations.proofs.combining.Multipliers.signs.Goals as goal

pub loop-k-preserved : goal.loop-k-preserved
loop-k-preserved c =
    let inside : let a = c.args in c.loop-k.k < pairs_in a.self.rows.now a.self.factors.now = subst (λ (n : ℕ). c.loop-k.k < n) c.count-k-end.ensures c.loop-k-test.true in
    λ tree e below.
    signing_on (listed_next a_multiplier _ _ _ inside) (c.loop-k.invariant tree e below) _ c.next-signs.ensures
    (signed_is tree _ (c.sense-sense.ensures tree _ _ _ (e.row _ (multiplier-below _ _ _ below _ inside).0)) c.value_at.ensures)

pub returns : goal.returns
returns c =
    λ tree e below.
    signing_end (listed_none a_multiplier _ _ _ (subst (λ (n : ℕ). n ≤ c.loop-k.k) c.count-k-end.ensures c.loop-k-test.false)) (c.loop-k.invariant tree e below)
