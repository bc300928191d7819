-- What the public functions promise of the outcome of an operation on any pairs of numbers: it is that of the definition, and
-- it means what document 01 says. The definitions are those of crates/arithmetic/specs/Fraction.antt, the meanings those of
-- its Meaning.antt.
-- Assumes nothing.
use Rattle.std.specs.Prelude.{◌≡◌, Bool, ℕ, ◌<◌, ℤ}
use Rattle.integers.specs.Signs.{with_sign}
use Rattle.arithmetic.specs.Outcome.{Outcome}
use Rattle.arithmetic.specs.Quotient.{◌+Q◌, ◌*Q◌}
use Rattle.arithmetic.specs.Fraction.{IsFraction, exact, product_of, sum_of, add_product_of, reduced_of, compare_of, floor_of, ceiling_of}
use Rattle.arithmetic.specs.Meaning.{Means, MeansInTwo, Answers, Says, IsFloor, IsCeiling}
use Rattle.arithmetic.specs.Parts.{over}
use Rattle.arithmetic.specs.declared.Fraction.{Fraction}
use Rattle.std.specs.declared.cmp.Ordering.{Ordering}

pub record Meant {A : Type 0} (definition : Outcome A) (Meaning : Outcome A → Type 0) (outcome : Outcome A) : Type 0 where
  pub equation : outcome ≡ definition
  pub meaning : Meaning outcome

-- "Every product and every sum is brought to lowest terms; numerator magnitude or denominator above 2,147,483,647 is refusal
-- 12": the fraction that equals the exact result; "4 if an operand is not a fraction in lowest terms within the limit, else 12
-- for a product or sum too wide"
abbrev pub ProductMeant : Fraction → Fraction → Outcome Fraction → Type 0
ProductMeant a b = Meant (product_of a b) (Means (IsFraction a × IsFraction b) (exact a *Q exact b))

abbrev pub SumMeant : Fraction → Fraction → Outcome Fraction → Type 0
SumMeant a b = Meant (sum_of a b) (Means (IsFraction a × IsFraction b) (exact a +Q exact b))

-- the same of a quotient of whole numbers, whose denominator must not be 0
abbrev pub ReducedMeant : Bool → ℕ → ℕ → Outcome Fraction → Type 0
ReducedMeant negative n d = Meant (reduced_of negative n d) (Means (0 < d) (over (with_sign negative n) d))

-- "product, then sum": the same of three operands, 12 where the product or the sum is too wide
abbrev pub AddProductMeant : Fraction → Fraction → Fraction → Outcome Fraction → Type 0
AddProductMeant sum a b =
    Meant (add_product_of sum a b) (MeansInTwo (IsFraction sum × IsFraction a × IsFraction b) (exact a *Q exact b) (exact sum +Q exact a *Q exact b))

-- "Comparisons are exact, never 12": the order of the rational numbers; 4 as above
abbrev pub ComparisonMeant : Fraction → Fraction → Outcome Ordering → Type 0
ComparisonMeant a b = Meant (compare_of a b) (Answers (IsFraction a × IsFraction b) (Says (exact a) (exact b)))

-- "floor(-1/2) = -1", "ceiling(-1/2) = 0": the greatest whole number that is at most the value, the least that is at least it; 4
-- as above
abbrev pub FloorMeant : Fraction → Outcome ℤ → Type 0
FloorMeant a = Meant (floor_of a) (Answers (IsFraction a) (IsFloor (exact a)))

abbrev pub CeilingMeant : Fraction → Outcome ℤ → Type 0
CeilingMeant a = Meant (ceiling_of a) (Answers (IsFraction a) (IsCeiling (exact a)))
