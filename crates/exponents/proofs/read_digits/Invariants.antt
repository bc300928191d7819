-- `exponents::read_digits` meets its contract. The loop's invariant: `number` stands for the digits so far, and with those that
-- are left they spell the number of all (`Counting`).
-- Assumes nothing.
use Rattle.exponents.proofs.ExponentLaws.{Counting}
use Rattle.exponents.proofs.read_digits.Given as goal

abbrev pub invariant-loop-b : goal.invariant-loop-b
invariant-loop-b l = Counting l.digits l.b-index l.number
