-- `value::Digits::counted` meets its contract: it is `appended` with the zeros held back.
-- Assumes nothing.
use Rattle.powers.proofs.PowersLaws.{ten_positive}
use Rattle.value.proofs.Digits.counted.Goals as goal

pub appended-requires : goal.appended-requires
appended-requires c = (c.requires.0, c.requires.1, ten_positive _)
