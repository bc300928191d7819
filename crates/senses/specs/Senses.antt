-- What the code's senses stand for, and the constraints that it makes of coefficients and a bound.
-- Assumes nothing.
use Rattle.std.specs.Prelude.{ℕ}
use Rattle.arithmetic.specs.declared.Fraction.{Fraction}
use Rattle.grammar.specs.Tree as tree
use Rattle.rules.specs.Rows as rows
use Rattle.senses.specs.declared.Bound.{Bound}
use Rattle.senses.specs.declared.Sense.{Sense}
use Rattle.senses.specs.declared.Sense.TheVariants.{Equal, AtMost, AtLeast}

-- `E`, `L`, `G`
abbrev pub sense_is : Sense → tree.Sense
sense_is Equal = tree.equal
sense_is AtMost = tree.at_most
sense_is AtLeast = tree.at_least

-- the constraint of coefficients and a bound of their left side: its sense and its right side
abbrev pub constraint_by : (ℕ → Fraction) → Bound → rows.Constraint
constraint_by coefficient bound = record { sense = sense_is bound.sense; coefficient = coefficient; right = bound.right }
