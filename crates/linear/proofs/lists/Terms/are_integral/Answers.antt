-- `linear::lists::Terms::are_integral` meets its contract: each listed term is tested.
use mathlib.Core.Path.{◌∙◌, ap, ap₂}
use native.Mathlib.Omega.{arith}
use Rattle.senses.specs.Rounding.{may_stand}
use Rattle.linear.specs.Lists.{a_term}
use Rattle.linear.specs.ListsLaws.{listed_next, listed_none}
use Rattle.linear.specs.Coefficients.{marked}
use Rattle.linear.proofs.TestsLaws.{tests_on, tests_stop, tests_end}
use Rattle.linear.proofs.RoundingLaws.{integral_listed}
use Rattle.linear.proofs.lists.Terms.are_integral.Goals as goal

pub returns-then-not-may_stand : goal.returns-then-not-may_stand
returns-then-not-may_stand c =
    λ tree n are formed d e.
    let s = c.args.self in
    let t = c.term-v.ensures in
    let tested = c.may_stand.ensures ∙ ap₂ may_stand t.coefficient (c.is_marked.ensures ∙ ap (marked c.args.integers.now) t.variable) in
    tests_stop _ c.loop-k.invariant (listed_next a_term s.variables.now s.parts.now c.loop-k.k (omega arith)) tested c.if-not-may_stand.true
    ∙ integral_listed tree n _ are d _ formed e

pub loop-k-preserved : goal.loop-k-preserved
loop-k-preserved c =
    let s = c.args.self in
    let t = c.term-v.ensures in
    let tested = c.may_stand.ensures ∙ ap₂ may_stand t.coefficient (c.is_marked.ensures ∙ ap (marked c.args.integers.now) t.variable) in
    tests_on _ c.loop-k.invariant (listed_next a_term s.variables.now s.parts.now c.loop-k.k (omega arith)) tested c.if-not-may_stand.false

pub returns : goal.returns
returns c =
    λ tree n are formed d e.
    let s = c.args.self in
    tests_end _ c.loop-k.invariant (listed_none a_term s.variables.now s.parts.now c.loop-k.k (omega arith)) ∙ integral_listed tree n _ are d _ formed e
