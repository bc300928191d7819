-- Why the definitions of `Fraction` can be believed. The test `is_fraction` decides 01's words. A product or a sum gives
-- exactly the one fraction that equals the exact result, and 12 exactly where no fraction within the limit does. Comparison is
-- the order of the rational numbers; floor is the greatest whole number at most the value and ceiling the least at least it.
-- Assumes nothing.
use Rattle.std.proofs.Math.Path.{◌≡◌}
use Rattle.std.specs.Prelude.{◌↔◌, ◌⊎◌, ℤ, ◌≤ℤ◌}
use Rattle.arithmetic.specs.Outcome.{Outcome, gives, refuses}
use Rattle.arithmetic.specs.Quotient.{Quotient, ◌≈◌, ◌≤Q◌, ◌<Q◌, whole_q}
use Rattle.arithmetic.specs.Fraction.{IsFraction, exact}
use Rattle.arithmetic.specs.declared.Fraction.{Fraction}
use Rattle.std.specs.declared.cmp.Ordering.{Ordering}
use Rattle.std.specs.declared.cmp.Ordering.TheVariants.{Less, Equal, Greater}

-- some fraction equals x; and x is too wide where none does
abbrev pub Fits : Quotient → Type 0
Fits x = (f : Fraction) × IsFraction f × (exact f ≈ x)

abbrev pub TooWide : Quotient → Type 0
TooWide x = (f : Fraction) → IsFraction f → exact f ≈ x → ⊥

-- "4 if an operand is not a fraction in lowest terms within the limit, else 12 for a product or sum too wide": what an outcome
-- says of the exact result x of an operation
pub record Means (Operands : Type 0) (x : Quotient) (o : Outcome Fraction) : Type 0 where
  pub refuses_4 : (o ≡ refuses 4) ↔ (Operands → ⊥)
  pub gives_exactly : (f : Fraction) → (o ≡ gives f) ↔ (Operands × (IsFraction f × (exact f ≈ x)))
  pub refuses_12 : (o ≡ refuses 12) ↔ (Operands × TooWide x)

-- ---- a sum and a product more

-- the same of a product p and then the sum x with it: 12 where either is too wide
pub record MeansInTwo (Operands : Type 0) (p x : Quotient) (o : Outcome Fraction) : Type 0 where
  pub refuses_4 : (o ≡ refuses 4) ↔ (Operands → ⊥)
  pub gives_exactly : (f : Fraction) → (o ≡ gives f) ↔ (Operands × Fits p × (IsFraction f × (exact f ≈ x)))
  pub refuses_12 : (o ≡ refuses 12) ↔ (Operands × (TooWide p ⊎ TooWide x))

-- ---- comparison: the order of the rational numbers, which `QuotientLaws` proves total and transitive

-- what an order says of two quotients
abbrev pub Says : Quotient → Quotient → Ordering → Type 0
Says x y Less = x <Q y
Says x y Equal = x ≈ y
Says x y Greater = y <Q x

-- an operation that is never too wide: 4 exactly where an operand is no fraction, else its result, of which `Result` says what it is
pub record Answers {A : Type 0} (Operands : Type 0) (Result : A → Type 0) (o : Outcome A) : Type 0 where
  pub refuses_4 : (o ≡ refuses 4) ↔ (Operands → ⊥)
  pub gives_it : (r : A) → (o ≡ gives r) ↔ (Operands × Result r)
  pub never_12 : o ≡ refuses 12 → ⊥

-- ---- floor and ceiling

-- z is the greatest whole number that is at most x; the least that is at least x
pub record IsFloor (x : Quotient) (z : ℤ) : Type 0 where
  pub below : whole_q z ≤Q x
  pub greatest : (k : ℤ) → whole_q k ≤Q x → k ≤ℤ z

pub record IsCeiling (x : Quotient) (z : ℤ) : Type 0 where
  pub above : x ≤Q whole_q z
  pub least : (k : ℤ) → x ≤Q whole_q k → z ≤ℤ k
