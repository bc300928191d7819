-- `linear::rows::Row::is_split` meets its contract: adjacent one way or the other, integral, and equal coefficients.
use mathlib.Core.Path.{◌≡◌, refl, sym, ◌∙◌, subst}
use Rattle.rules.specs.Rows.{value_in, variables}
use Rattle.rules.specs.Domination.{same_coefficients}
use Rattle.rules.specs.Splits.{is_split}
use Rattle.senses.specs.Senses.{constraint_by}
use Rattle.linear.specs.Coefficients.{coefficients_of, AreFractions}
use Rattle.linear.specs.Lists.{terms_of}
use Rattle.linear.specs.ListsLaws.{formed_below, fractions_in}
use Rattle.linear.proofs.SplitsLaws.{not-adjacent, not_integral, split_by, same_are}
use Rattle.linear.proofs.rows.Row.is_split.Goals as goal
use Rattle.linear.proofs.rows.Row.is_split.Goals.{then-is_adjacent, else-is_adjacent}

pub returns-then-are_integral : goal.returns-then-are_integral
returns-then-are_integral c =
    λ tree are few formed formed2.
    let s = c.args.self in
    let o = c.args.other in
    let r = constraint_by (value_in (terms_of s.terms)) s.bound in
    let r2 = constraint_by (value_in (terms_of o.terms)) o.bound in
    let below = formed_below _ 256 _ few formed in
    let e = c.coefficients.ensures below in
    let rest : same_coefficients (variables tree) r r2 ≡ is_split tree r r2 = elim c.if-is_adjacent.branch [
      | then-is_adjacent w ↦ split_by tree r r2 (w.are_integral.ensures tree _ are formed r refl) (sym w.value-is ∙ c.if-are_integral.true) c.is_adjacent.ensures w.if-is_adjacent.true
      | else-is_adjacent w ↦ cc (c.if-are_integral.true, w.value-is, w.if-is_adjacent.false)
    ] in
    (c.compare.ensures formed2 (subst AreFractions (sym e) (fractions_in _ _ below))).same
    ∙ same_are r r2 (coefficients_of c.coefficients.result) e are.number
    ∙ rest

pub returns-else-are_integral : goal.returns-else-are_integral
returns-else-are_integral c =
    λ tree are few formed formed2.
    let s = c.args.self in
    let o = c.args.other in
    let r = constraint_by (value_in (terms_of s.terms)) s.bound in
    let r2 = constraint_by (value_in (terms_of o.terms)) o.bound in
    elim c.if-is_adjacent.branch [
      | then-is_adjacent w ↦ c.if-are_integral.false ∙ not_integral tree r r2 (w.are_integral.ensures tree _ are formed r refl) (sym w.value-is ∙ c.if-are_integral.false)
      | else-is_adjacent w ↦ c.if-are_integral.false ∙ not-adjacent tree r r2 c.is_adjacent.ensures w.if-is_adjacent.false
    ]
