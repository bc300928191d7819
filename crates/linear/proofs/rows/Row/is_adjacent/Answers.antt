-- `linear::rows::Row::is_adjacent` meets its contract, whatever the terms are: one bound is below the other, or the other below it.
use Rattle.std.proofs.Common.{◌∙◌}
use Rattle.rules.specs.Rows.{value_in}
use Rattle.senses.proofs.Truth.{or_yes, or_no}
use Rattle.linear.specs.Lists.{terms_of}
use Rattle.linear.proofs.rows.Row.is_adjacent.Goals as goal

pub returns-then-is_below : goal.returns-then-is_below
returns-then-is_below c =
    let a = c.args in
    c.if-is_below.true ∙ or_yes _ (c.is_below.ensures (value_in (terms_of a.self.terms)) (value_in (terms_of a.other.terms))) c.if-is_below.true

pub returns-else-is_below : goal.returns-else-is_below
returns-else-is_below c =
    let own = value_in (terms_of c.args.self.terms) in
    let other = value_in (terms_of c.args.other.terms) in
    c.is_below-else-is_below.ensures other own ∙ or_no _ (c.is_below.ensures own other) c.if-is_below.false
