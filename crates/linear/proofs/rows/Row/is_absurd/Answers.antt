-- `linear::rows::Row::is_absurd` meets its contract: the sense fails at 0, and all coefficients are 0.
use mathlib.Core.Path.{refl, ◌∙◌}
use Prim.Native.Nat.{ℕ}
use Rattle.arithmetic.specs.Fraction.{exact}
use Rattle.arithmetic.specs.declared.Fraction.{Fraction}
use Rattle.grammar.specs.Tree.{Term}
use Rattle.rules.specs.Tests.{every_below}
use Rattle.rules.specs.Values.{is_zero}
use Rattle.rules.specs.Rows.{value_in}
use Rattle.rules.specs.Domination.{is_absurd}
use Rattle.senses.proofs.Truth.{and_first, and_neither}
use Rattle.linear.specs.Lists.{terms_of}
use Rattle.linear.proofs.ListedLaws.{every-listed}
use Rattle.linear.proofs.TestsLaws.{tests_of_all}
use Rattle.linear.proofs.rows.Row.is_absurd.Goals as goal

pub returns-then-fails_at_zero : goal.returns-then-fails_at_zero
unfolding is_absurd
returns-then-fails_at_zero c =
    λ n formed.
    c.are_zero.ensures
    ∙ tests_of_all _ _ (λ (t : Term). is_zero (exact t.coefficient))
    ∙ every-listed n _ formed (λ (v : ℕ) (f : Fraction). is_zero (exact f)) (λ v. refl)
    ∙ and_first _ c.fails_at_zero.ensures c.if-fails_at_zero.true

pub returns-else-fails_at_zero : goal.returns-else-fails_at_zero
unfolding is_absurd
returns-else-fails_at_zero c =
    λ n formed.
    c.if-fails_at_zero.false
    ∙ and_neither (every_below n (λ v. is_zero (exact (value_in (terms_of c.args.self.terms) v)))) c.fails_at_zero.ensures c.if-fails_at_zero.false
