-- `solutions::points::Point::left_at` meets its contract: the terms that stand there are those of the two parts.
use Rattle.std.specs.Prelude.{◌≡◌, ℕ}
use Rattle.std.proofs.Common.{sym, ap, ap₂, subst, ◌∙◌, rules}
use Rattle.rules.specs.Solutions.{left_side}
use Rattle.linear.specs.Lists.{terms_in, TermsBelow}
use Rattle.linear.specs.ListsLaws.{formed_below}
use Rattle.solutions.specs.Points.{left_says}
use Rattle.arithmetic.specs.Fraction.{arithmetic_says}
use Rattle.rules.specs.Values.{within12}
use Rattle.solutions.proofs.points.Point.left_at.Goals as goal

pub returns-clause-says : goal.returns-clause-says
returns-clause-says c =
    λ n s ts few p e f.
    let q = ap₂ terms_in c.terms.ensures.variables c.terms.ensures.parts ∙ e in
    let same : left_says c.map_err.result ≡ within12 c.args.self.now.place (arithmetic_says c.left_at.result) = search rules in
    same
    ∙ ap (λ (place : ℕ). within12 place (arithmetic_says c.left_at.result)) p.place_is
    ∙ c.left_at.ensures (subst (TermsBelow 256) (sym q) (formed_below n 256 ts few f)) p.fractions s.name.place s.values.terms p.values_are
    ∙ ap (left_side s.name.place s.values.terms) q
