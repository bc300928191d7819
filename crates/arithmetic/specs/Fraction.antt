-- Fractions within the limit, and the operations on them (document 01, "Reasons of refusal" and "Solutions, then
-- derivations"): what each gives or refuses, for every pair of numbers whatever.
-- Assumes nothing.
use Rattle.std.specs.Prelude.{◌≡◌, Bool, cond, not, ◌&&◌, ℕ, ◌≤◌, leb, eqb, ℤ, pos, nat_abs, ◌*ℤ◌, ◌<ℤ◌, Result, Ok, Err}
use Rattle.std.specs.Int.{◌∣◌}
use Rattle.std.specs.Int.Signed.{lt_z}
use Rattle.integers.specs.Gcd.{gcd}
use Rattle.integers.specs.Signs.{with_sign}
use Rattle.arithmetic.specs.Outcome.{Outcome, gives, refuses}
use Rattle.arithmetic.specs.Quotient.{Quotient, ◌+Q◌, ◌*Q◌, lowest, floor_q, ceiling_q}
use Rattle.arithmetic.specs.declared.Fraction.{Fraction}
use Rattle.arithmetic.specs.declared.Ratio.{Ratio}
use Rattle.arithmetic.specs.declared.ArithmeticError.{ArithmeticError}
use Rattle.arithmetic.specs.declared.ArithmeticError.TheVariants as error
use Rattle.arithmetic.specs.declared.NotAFraction.{NotAFraction}
use Rattle.std.specs.declared.cmp.Ordering.{Ordering}
use Rattle.std.specs.declared.cmp.Ordering.TheVariants.{Less, Equal, Greater}

-- "numerator magnitude or denominator above 2,147,483,647 is refusal 12"
abbrev pub limit : ℕ
limit = 2147483647

-- "a fraction in lowest terms within the limit": in words, where lowest terms are that no whole number but 1 divides both
-- parts, and as a test
pub record IsFraction (f : Fraction) : Type 0 where
  pub positive : pos 0 <ℤ f.den
  pub num_within : nat_abs f.num ≤ limit
  pub den_within : nat_abs f.den ≤ limit
  pub lowest-terms : (k : ℕ) → k ∣ nat_abs f.num → k ∣ nat_abs f.den → k ≡ 1

unfoldable pub is_fraction : Fraction → Bool
is_fraction f =
    lt_z (pos 0) f.den
    && (leb (nat_abs f.num) limit
    && (leb (nat_abs f.den) limit
    && eqb (gcd (nat_abs f.num) (nat_abs f.den)) 1))

-- the rational number that a fraction stands for
abbrev pub exact : Fraction → Quotient
exact f = record { top = f.num; bottom = nat_abs f.den }

-- and the one that an exact result stands for
abbrev pub ratio_of : Ratio → Quotient
ratio_of q = record { top = with_sign q.negative q.top; bottom = q.bottom }

-- a quotient as a fraction, where its numerator and denominator are within the limit; else 12
unfoldable pub within : Quotient → Outcome Fraction
within x =
    cond (leb (nat_abs x.top) limit && leb x.bottom limit)
    (gives (record { num = x.top; den = pos x.bottom }))
    (refuses 12)

-- "Arithmetic gives 4 if an operand is not a fraction in lowest terms within the limit, else 12 for a product or sum too
-- wide"; "Every product and every sum is brought to lowest terms"
unfoldable pub on_fractions : {A : Type 0} → Bool → Outcome A → Outcome A
on_fractions operands x = cond operands x (refuses 4)

-- a numerator with its sign over a denominator, brought to lowest terms; a denominator of 0 makes no fraction
abbrev pub reduced_of : Bool → ℕ → ℕ → Outcome Fraction
reduced_of negative n d = on_fractions (not (eqb d 0)) (within (lowest (record { top = with_sign negative n; bottom = d })))

abbrev pub product_of : Fraction → Fraction → Outcome Fraction
product_of a b = on_fractions (is_fraction a && is_fraction b) (within (lowest (exact a *Q exact b)))

abbrev pub sum_of : Fraction → Fraction → Outcome Fraction
sum_of a b = on_fractions (is_fraction a && is_fraction b) (within (lowest (exact a +Q exact b)))

-- what follows an outcome that gives a fraction; a refusal stays
abbrev pub after : Outcome Fraction → (Fraction → Outcome Fraction) → Outcome Fraction
after (gives p) next = next p
after (refuses n) next = refuses n

-- "(product, then sum for that variable)": a sum and a product more. 4 if one of the three is no fraction; else the product, then
-- the sum with what it gives, and 12 at the first too wide
abbrev pub add_product_of : Fraction → Fraction → Fraction → Outcome Fraction
add_product_of sum a b = on_fractions (is_fraction sum && (is_fraction a && is_fraction b)) (after (product_of a b) (sum_of sum))

-- "Comparisons are exact, never 12"
unfoldable pub order : ℤ → ℤ → Ordering
order x y = cond (lt_z x y) Less (cond (lt_z y x) Greater Equal)

abbrev pub order_q : Quotient → Quotient → Ordering
order_q x y = order (x.top *ℤ pos y.bottom) (y.top *ℤ pos x.bottom)

abbrev pub compare_of : Fraction → Fraction → Outcome Ordering
compare_of a b = on_fractions (is_fraction a && is_fraction b) (gives (order_q (exact a) (exact b)))

abbrev pub floor_of : Fraction → Outcome ℤ
floor_of a = on_fractions (is_fraction a) (gives (floor_q (exact a)))

abbrev pub ceiling_of : Fraction → Outcome ℤ
ceiling_of a = on_fractions (is_fraction a) (gives (ceiling_q (exact a)))

-- ---- 01's number of each refusal, and what an answer says by it

abbrev pub number : ArithmeticError → ℕ
number error.NotAFraction = 4
number error.TooWide = 12

abbrev pub says : {A E : Type 0} → (E → ℕ) → Result A E → Outcome A
says refusal (Ok a) = gives a
says refusal (Err e) = refuses (refusal e)

abbrev pub arithmetic_says : Result Fraction ArithmeticError → Outcome Fraction
arithmetic_says = says number

abbrev pub comparison_says : Result Ordering NotAFraction → Outcome Ordering
comparison_says = says (λ e. 4)

abbrev pub rounding_says : Result ℤ NotAFraction → Outcome ℤ
rounding_says = says (λ e. 4)
