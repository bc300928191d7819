-- `derivations::combining::Multipliers::combine` meets its contract: the combination so far gives, with the rows that are left, that of all.
use Rattle.std.proofs.Common.{rules, ◌≡◌, ℕ, ◌≤◌, ◌<◌, None, subst}
use Rattle.tables.specs.Pairs.{pairs_in}
use Rattle.linear.specs.ListsLaws.{listed_none}
use Rattle.encoding.specs.Places.{a_multiplier}
use Rattle.derivations.proofs.RowsLaws.{lists_row}
use Rattle.derivations.proofs.CombiningLaws.{combining, multiplier-below, combining_on, combining_stop, combining_end}
use Rattle.derivations.proofs.combining.Multipliers.combine.Goals as goal

pub loop-k-init : goal.loop-k-init
loop-k-init c = λ tree e below. combining tree _ c.empty-made.ensures.empty c.empty-made.ensures.fractions

pub returns-then-is_none-clause-says : goal.returns-then-is_none-clause-says
returns-then-is_none-clause-says c =
    let inside : let a = c.args in c.loop-k.k < pairs_in a.self.rows.now a.self.factors.now = subst (λ (n : ℕ). c.loop-k.k < n) c.count-k-end.ensures c.loop-k-test.true in
    let none : c.next-made.result.right ≡ None = search rules in
    λ tree e below place.
    let one = (multiplier-below _ _ _ below _ inside).0 in
    let l = lists_row c.args.certificate e _ one (c.row.ensures tree _ (e.row _ one)) in
    combining_stop none
    (combining_on c.args.certificate _ _ below inside l.few (c.loop-k.invariant tree e below) (c.row_of-row.ensures tree _ l) c.value_at-factor.ensures c.next-made.result c.next-made.ensures.says c.next-made.ensures.fractions)
    place

pub returns-then-is_none-clause-fractions : goal.returns-then-is_none-clause-fractions
returns-then-is_none-clause-fractions c =
    let inside : let a = c.args in c.loop-k.k < pairs_in a.self.rows.now a.self.factors.now = subst (λ (n : ℕ). c.loop-k.k < n) c.count-k-end.ensures c.loop-k-test.true in
    λ tree e below.
    let one = (multiplier-below _ _ _ below _ inside).0 in
    let l = lists_row c.args.certificate e _ one (c.row.ensures tree _ (e.row _ one)) in
    (combining_on c.args.certificate _ _ below inside l.few (c.loop-k.invariant tree e below) (c.row_of-row.ensures tree _ l) c.value_at-factor.ensures c.next-made.result c.next-made.ensures.says c.next-made.ensures.fractions).fractions

pub loop-k-preserved : goal.loop-k-preserved
loop-k-preserved c =
    let inside : let a = c.args in c.loop-k.k < pairs_in a.self.rows.now a.self.factors.now = subst (λ (n : ℕ). c.loop-k.k < n) c.count-k-end.ensures c.loop-k-test.true in
    λ tree e below.
    let one = (multiplier-below _ _ _ below _ inside).0 in
    let l = lists_row c.args.certificate e _ one (c.row.ensures tree _ (e.row _ one)) in
    combining_on c.args.certificate _ _ below inside l.few (c.loop-k.invariant tree e below) (c.row_of-row.ensures tree _ l) c.value_at-factor.ensures c.next-made.result c.next-made.ensures.says c.next-made.ensures.fractions

pub returns-clause-says : goal.returns-clause-says
returns-clause-says c =
    λ tree e below place.
    combining_end (listed_none a_multiplier _ _ _ (subst (λ (n : ℕ). n ≤ c.loop-k.k) c.count-k-end.ensures c.loop-k-test.false)) (c.loop-k.invariant tree e below) place
