-- What the claim asks of the last derived row (document 01, "Claim, else 17"), and what the code's answers say of it.
-- Assumes nothing.
use Rattle.std.specs.Prelude.{Bool, true}
use Rattle.arithmetic.specs.Fraction.{IsFraction}
use Rattle.grammar.specs.Tree.{Direction, minimize, maximize, Sense, at_most, at_least, Tree}
use Rattle.rules.specs.Rows.{variables, Constraint, objective_with}
use Rattle.rules.specs.Domination.{is_absurd, dominates}
use Rattle.rules.specs.Claims as claims
use Rattle.senses.specs.Senses.{sense_is}
use Rattle.claims.specs.declared.proving.Asked.{Asked}
use Rattle.claims.specs.declared.proving.Asked.TheVariants as ask

-- "dominates OBJ ≥ lb (min ..) or OBJ ≤ ub (max ..)": the sense of the bound
abbrev pub against : Direction → Sense
against minimize = at_least
against maximize = at_most

-- for each case of the enum, what is asked
abbrev pub asked_says : Tree → Asked → claims.Asked
asked_says tree ask.Nothing = claims.nothing
asked_says tree ask.Absurdity = claims.absurdity
asked_says tree (ask.Domination bound) = claims.domination (objective_with tree (sense_is bound.sense) bound.right)

-- the right side of a bound is a fraction
abbrev pub AskedFormed : Asked → Type 0
AskedFormed ask.Nothing = Unit {0}
AskedFormed ask.Absurdity = Unit {0}
AskedFormed (ask.Domination bound) = IsFraction bound.right

-- whether a constraint meets what is asked
abbrev pub meets : Tree → claims.Asked → Constraint → Bool
meets tree claims.nothing c = true
meets tree claims.absurdity c = is_absurd (variables tree) c
meets tree (claims.domination d) c = dominates (variables tree) c d
