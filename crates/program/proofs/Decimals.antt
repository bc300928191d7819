-- A number as it is printed is the number in decimal.
-- Assumes nothing.
use Rattle.std.proofs.Common.{◌≡◌, sym, rules, ℕ, suc, ◌<◌, ◌^◌, arith}
use Rattle.std.specs.Fmt.{decimal as shown}
use Rattle.std.proofs.lemmas.Fmt.{AppendsLastDigit, decimal_from_appends, length-decimal-le_succ}
use Rattle.std.proofs.lemmas.Bool.Decides.{nat_tests}
use Rattle.program.specs.Line.{decimal_by, decimal}

by_digits : AppendsLastDigit decimal_by
unfolding decimal_by
by_digits = record {
  one = λ k n small. grind (arith, nat_tests);
  more = λ k n large. grind (arith, nat_tests);
}

pub shown_decimal : (n : ℕ) → n < 2 ^ 64 → shown n ≡ decimal n
shown_decimal n fits = sym (decimal_from_appends decimal_by by_digits (suc n) n fits (search (rules, length-decimal-le_succ)))
