-- `vipr_c::vipr_read_value` meets its contract: each arm returns and stores what `value_says` says of its case.
use Rattle.std.proofs.Common.{rules, ap, ap₂, ◌∙◌, Err}
use Rattle.value.specs.Promise.{value_says}
use Rattle.fraction.specs.Stored.{pair}
use Rattle.vipr_c.proofs.ValueLaws.{value-given, value-refused}
use Rattle.vipr_c.proofs.vipr_read_value.Goals as goal

pub returns-in-Ok : goal.returns-in-Ok
returns-in-Ok c = value-given _ c.read_value.ensures (ap value_says c.in-Ok.is) (ap₂ pair (search rules) (search rules))

pub returns-in-Err-TooWide : goal.returns-in-Err-TooWide
returns-in-Err-TooWide c =
    value-refused _ c.read_value.ensures (ap value_says (c.in-Err-TooWide.is ∙ ap Err c.in-Err-TooWide.field-0-is)) c.into-in-Err-TooWide.ensures
