-- Terms as two lists: of variables, and of numbers, "numerator, denominator by turns" (document 01, "Tables lent by the caller").
-- They may come from anywhere.
-- Assumes nothing.
use Rattle.std.specs.Prelude.{List, ℕ, ◌<◌, ℤ}
use Rattle.arithmetic.specs.Fraction.{IsFraction}
use Rattle.arithmetic.specs.declared.Fraction.{Fraction}
use Rattle.tables.specs.Pairs.{listed_in}
use Rattle.grammar.specs.Tree.{Term}
use Rattle.rules.specs.Tests.{All}
use Rattle.linear.specs.declared.lists.Terms.{Terms}

abbrev pub a_term : ℕ → Fraction → Term
a_term v f = record { variable = v; coefficient = f }

-- the terms that two lists are
abbrev pub terms_in : List ℕ → List ℤ → List Term
terms_in variables parts = listed_in a_term variables parts

-- the terms that two slices lent together are
abbrev pub terms_of : Terms → List Term
terms_of terms = terms_in terms.variables.now terms.parts.now

-- each coefficient is a fraction, and each variable below n
abbrev pub TermsBelow : ℕ → List Term → Type 0
TermsBelow n terms = All (λ (t : Term). IsFraction t.coefficient × (t.variable < n)) terms
