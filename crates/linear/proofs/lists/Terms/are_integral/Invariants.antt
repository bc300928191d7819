-- `linear::lists::Terms::are_integral` meets its contract: each listed term is tested.
use mathlib.Core.Path.{◌≡◌}
use Rattle.grammar.specs.Tree.{Term}
use Rattle.rules.specs.Tests.{all_of}
use Rattle.senses.specs.Rounding.{may_stand}
use Rattle.linear.specs.Lists.{a_term, terms_of}
use Rattle.linear.specs.ListsLaws.{listed_from}
use Rattle.linear.specs.Coefficients.{marked}
use Rattle.linear.proofs.lists.Terms.are_integral.Given as goal

abbrev pub invariant-loop-k : goal.invariant-loop-k
invariant-loop-k l =
    all_of (λ (t : Term). may_stand t.coefficient (marked l.integers t.variable)) (listed_from a_term l.self.variables.now l.self.parts.now l.k)
    ≡ all_of (λ (t : Term). may_stand t.coefficient (marked l.integers t.variable)) (terms_of l.self)
