-- The ends of a claim, and what fetching one gives.
-- Assumes nothing.
use Rattle.std.specs.Prelude.{Bool, true, false, cond, Option, Some, None}
use Rattle.arithmetic.specs.declared.Fraction.{Fraction}
use Rattle.grammar.specs.Tree.{infinite, finite, Claim, infeas, range}
use Rattle.grammar.specs.Tree as tree

-- the end that an answer is: none is infinite
abbrev pub end_says : Option Fraction → tree.End
end_says None = infinite
end_says (Some f) = finite f

-- the claim is `infeas`
abbrev pub is_infeas : Claim → Bool
is_infeas infeas = true
is_infeas (range lower upper) = false

-- the upper or the lower end of a range; none of `infeas`
abbrev pub end_in : Bool → Claim → tree.End
end_in upper infeas = infinite
end_in upper (range low high) = cond upper high low
