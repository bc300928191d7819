-- `solutions::points::Point::of` meets its contract: the values that the solution lists, each at its variable.
use Rattle.std.proofs.Common.{sym, ap, ap₂, subst, ◌∙◌}
use Rattle.rules.specs.Rows.{value_in}
use Rattle.linear.specs.Lists.{terms_in, TermsBelow}
use Rattle.linear.specs.ListsLaws.{formed_below, fractions_in}
use Rattle.linear.specs.Coefficients.{AreFractions}
use Rattle.encoding.specs.Places.{terms_at}
use Rattle.solutions.proofs.points.Point.of.Goals as goal

pub returns : goal.returns
returns c =
    λ n s few g.
    let q =
    ap₂ terms_in c.terms.ensures.variables c.terms.ensures.parts
    ∙ ap (terms_at c.args.certificate.index.now c.args.certificate.values.now) c.solution.ensures
    ∙ g.terms_are
    in
    let below = formed_below n 256 s.values.terms few g.formed in
    let e = c.coefficients.ensures (subst (TermsBelow 256) (sym q) below) ∙ ap value_in q in
    record { place_is = c.solution_at.ensures.place.is ∙ g.place_is; values_are = e; fractions = subst AreFractions (sym e) (fractions_in 256 s.values.terms below) }
