-- `derivations::Checker::check_sol` meets its contract: the objective's terms with the best value on the right.
use Rattle.std.proofs.Common.{ℕ, sym, ◌∙◌, ap, subst, Option}
use Rattle.std.proofs.Math.Path.{ap₂}
use Rattle.std.proofs.lemmas.Option.{MatchOption-at_some}
use Rattle.arithmetic.specs.Fraction.{IsFraction}
use Rattle.arithmetic.specs.declared.Fraction.{Fraction}
use Rattle.rules.specs.Rows.{value_in, objective, objective_with}
use Rattle.rules.specs.Derivations.{check_dominates, check_sol}
use Rattle.rules.specs.Sentence.Formed.{Formed}
use Rattle.linear.specs.Lists.{terms_in}
use Rattle.encoding.proofs.EncodesLaws.{maximize_is}
use Rattle.verdicts.specs.Best.{best_says}
use Rattle.derivations.proofs.Checker.check_sol.Goals as goal

pub returns : goal.returns
unfolding objective_with
returns c =
    λ tree r e l f.
    let s = c.sense_towards.ensures tree.objective.direction (maximize_is e) in
    let q = ap₂ terms_in c.terms.ensures.variables c.terms.ensures.parts ∙ e.objective_is in
    let n = c.args.self.now.certificate.header.variables in
    let formed = subst (Formed n) (sym q) (subst (λ (k : ℕ). Formed k (objective tree)) l.number e.formed.objective_formed) in
    let fraction = MatchOption-at_some _ IsFraction _ c.in-Some.is f in
    c.check_by_terms.ensures tree r l formed fraction
    ∙ (λ i. check_dominates tree (record { sense = s i; coefficient = value_in (q i); right = c.in-Some.best }) r)
    ∙ sym (ap (λ (o : Option Fraction). check_sol tree (best_says o) r) c.in-Some.is)
