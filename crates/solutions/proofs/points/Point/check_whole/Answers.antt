-- `solutions::points::Point::check_whole` meets its contract: one test of all, and what comes of it.
use Rattle.std.specs.Prelude.{◌≡◌, Err, ℕ}
use Rattle.std.proofs.Common.{sym, ap, ◌∙◌, rules}
use Rattle.std.specs.List.{list_all}
use Rattle.arithmetic.specs.declared.Fraction.{Fraction}
use Rattle.rules.specs.Values.{is_whole}
use Rattle.rules.specs.Result.{refused}
use Rattle.rules.specs.Rows.{value_in}
use Rattle.verdicts.specs.Verdicts.{verdict_says}
use Rattle.solutions.proofs.Lists.{each-require}
use Rattle.solutions.proofs.points.Point.check_whole.Goals as goal

pub returns-then-is_whole_at : goal.returns-then-is_whole_at
returns-then-is_whole_at c =
    λ s p.
    each-require (λ v. is_whole (value_in s.values.terms v)) 9 s.name.place c.args.integers.now
    (sym (c.is_whole_at.ensures ∙ ap (λ (value : ℕ → Fraction). list_all (λ v. is_whole (value v)) c.args.integers.now) p.values_are) ∙ c.if-is_whole_at.true)

pub returns-else-is_whole_at : goal.returns-else-is_whole_at
returns-else-is_whole_at c =
    λ s p.
    let stopped : verdict_says (Err c.stop.result) ≡ refused 9 c.args.self.now.place = search rules in
    stopped
    ∙ ap (refused 9) p.place_is
    ∙ each-require (λ v. is_whole (value_in s.values.terms v)) 9 s.name.place c.args.integers.now
    (sym (c.is_whole_at.ensures ∙ ap (λ (value : ℕ → Fraction). list_all (λ v. is_whole (value v)) c.args.integers.now) p.values_are) ∙ c.if-is_whole_at.false)
