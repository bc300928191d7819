-- What the code's best objective says, in the words of the rules.
-- Assumes nothing.
use Rattle.std.specs.Prelude.{Option, Some, None}
use Rattle.std.proofs.Math.Option as maybe
use Rattle.arithmetic.specs.declared.Fraction.{Fraction}

-- the best objective, if there is any
abbrev pub best_says : Option Fraction → maybe.Option Fraction
best_says None = maybe.none
best_says (Some best) = maybe.some best
