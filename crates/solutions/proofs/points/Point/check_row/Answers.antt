-- `solutions::points::Point::check_row` meets its contract: the left side, then the sense.
use Rattle.std.specs.Prelude.{◌≡◌, Err}
use Rattle.std.proofs.Common.{ap, ◌∙◌, rules}
use Rattle.rules.specs.Result.{refused}
use Rattle.verdicts.specs.Verdicts.{verdict_says}
use Rattle.solutions.proofs.LeftSides.{row-refused, row_tested}
use Rattle.solutions.proofs.points.Point.check_row.Goals as goal

pub returns-in_err-left : goal.returns-in_err-left
returns-in_err-left c =
    λ tree s row few p e.
    let f : c.from_residual.result ≡ Err c.in_err-left.field-0.0 = search rules in
    let r = c.row-row.ensures tree row e in
    ap verdict_says f ∙ row-refused tree s row (c.left_at.ensures.says _ s _ few p r.terms_are e.formed.terms_formed) c.in_err-left.was

pub returns-then-holds_of : goal.returns-then-holds_of
returns-then-holds_of c =
    λ tree s row few p e.
    let r = c.row-row.ensures tree row e in
    row_tested tree s row (c.left_at.ensures.says _ s _ few p r.terms_are e.formed.terms_formed) r e.formed.right_fraction c.in_ok-left.was c.holds_of.ensures c.if-holds_of.true p.place_is

pub returns-else-holds_of : goal.returns-else-holds_of
returns-else-holds_of c =
    λ tree s row few p e.
    let r = c.row-row.ensures tree row e in
    let stopped : verdict_says (Err c.stop.result) ≡ refused 9 c.args.self.now.place = search rules in
    stopped
    ∙ row_tested tree s row (c.left_at.ensures.says _ s _ few p r.terms_are e.formed.terms_formed) r e.formed.right_fraction c.in_ok-left.was c.holds_of.ensures c.if-holds_of.false p.place_is
