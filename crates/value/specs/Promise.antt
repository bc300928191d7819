-- What Read one value promises: `ValueRead` (crates/numerals) of the outcome that its answer stands for.
-- Assumes nothing.
use Rattle.arithmetic.specs.Outcome.{Outcome, gives, refuses}
use Rattle.arithmetic.specs.declared.Fraction.{Fraction}
use Rattle.std.specs.Prelude.{Result, Ok, Err}
use Rattle.value.specs.declared.ValueError.{ValueError}
use Rattle.value.specs.declared.ValueError.TheVariants.{NotAValue, TooWide}

-- 01's number and value for each case of the answer
abbrev pub value_says : Result Fraction ValueError → Outcome Fraction
value_says (Ok f) = gives f
value_says (Err NotAValue) = refuses 4
value_says (Err TooWide) = refuses 7
