-- Lists of pairs and the sides of rows, in tables in which their cells and values stand.
-- Assumes nothing.
use Rattle.std.specs.Prelude.{◌≡◌, refl, List, ℕ, ◌*◌, ℤ}
use Rattle.arithmetic.specs.declared.Fraction.{Fraction}
use Rattle.grammar.specs.Tree.{Term, Multiplier}
use Rattle.grammar.specs.Positions.{StandsAt}
use Rattle.grammar.specs.Tables.{by_turns}
use Rattle.encoding.specs.Places.{a_term, a_multiplier}

-- ---- lists of pairs

-- what is an index and a value
pub record Paired (A : Type 0) : Type 0 where
  pub make : ℕ → Fraction → A
  pub key : A → ℕ
  pub val : A → Fraction
  pub back : (x : A) → make (key x) (val x) ≡ x

abbrev pub term : Paired Term
term = record { make = a_term; key = λ x. x.variable; val = λ x. x.coefficient; back = λ x. refl }

abbrev pub multiplier : Paired Multiplier
multiplier = record { make = a_multiplier; key = λ x. x.row; val = λ x. x.factor; back = λ x. refl }

-- values by their numbers stand in a table of values
pub record Turns (all : List Fraction) (values : List ℤ) : Type 0 where
  pub stand : {n : ℕ} {fs : List Fraction} → StandsAt all n fs → StandsAt values (2 * n) (by_turns fs)
