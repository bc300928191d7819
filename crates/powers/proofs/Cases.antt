-- What is proved of the definitions in specs/Cases.antt.
-- Assumes nothing.
use Rattle.std.specs.Prelude.{refl}
use Rattle.powers.specs.Powers.{power_of_ten}
use Rattle.powers.specs.Cases.{All, cases}

pub cases_hold : All cases
unfolding power_of_ten
cases_hold = (refl, (refl, (refl, (refl, (refl, tt)))))
