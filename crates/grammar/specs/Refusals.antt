-- The number that document 01 gives each reason of refusal (its table "Reasons of refusal").
-- Assumes nothing.
use Rattle.std.specs.Prelude.{ℕ}
use Rattle.grammar.specs.declared.Refusal.{Refusal}
use Rattle.grammar.specs.declared.Refusal.TheVariants.{TableTooSmall, TextTooLong, TokenMissing, WrongKind, OutOfRange, UsedBefore, ValueTooWide, TokenLeft, SolutionFails, ClaimNotReached, RowSpent, ResultTooWide, MultipliersNotSuitable, CannotBeRounded, NoDomination, NoProperSplit, ClaimNotProved, NoSolutionListed}

abbrev pub refusal_number : Refusal → ℕ
-- a table is too small
refusal_number TableTooSmall = 1
-- text over 32,768 bytes
refusal_number TextTooLong = 2
-- text ends, a token is due
refusal_number TokenMissing = 3
-- token not of the kind due
refusal_number WrongKind = 4
-- count or index out of range
refusal_number OutOfRange = 5
-- index twice in one list, or constraint name used before
refusal_number UsedBefore = 6
-- value too wide
refusal_number ValueTooWide = 7
-- a token after the last derivation
refusal_number TokenLeft = 8
-- solution not integral or not feasible
refusal_number SolutionFails = 9
-- no solution reaches the claim
refusal_number ClaimNotReached = 10
-- reason names a spent row
refusal_number RowSpent = 11
-- product or sum too wide
refusal_number ResultTooWide = 12
-- multipliers not suitable
refusal_number MultipliersNotSuitable = 13
-- cannot be rounded
refusal_number CannotBeRounded = 14
-- no domination
refusal_number NoDomination = 15
-- no proper split
refusal_number NoProperSplit = 16
-- claim not proved
refusal_number ClaimNotProved = 17
-- `sol` with no solution listed
refusal_number NoSolutionListed = 18
