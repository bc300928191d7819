-- Quotients brought to lowest terms: what is worked out is `lowest` of the exact result.
-- Assumes nothing.
use mathlib.Core.Path.{◌≡◌, refl, sym, ◌∙◌, ap, ap₂, subst}
use mathlib.Core.Bool.{Bool, true, false}
use mathlib.Core.Logic.{◌⊎◌, inl, inr}
use Prim.Native.Nat.{ℕ, zero, suc, ◌*◌, ◌/◌, ◌<◌}
use native.Mathlib.Nat.{zero-div, zero-mul, mul-zero, zero-lt-suc, mul-pos, mul-one}
use native.Mathlib.Omega.{arith}
use lib.IntN.{ℤ, pos, negsuc, nat_abs, ◌*ℤ◌}
use lib.Signed.{quot_z}
use Rattle.integers.specs.Signs.{is_negative, with_sign, nat_abs-with_sign}
use Rattle.integers.specs.Integers.{*ℤ-neg_l}
use Rattle.integers.specs.Gcd.{gcd, gcd_positive}
use Rattle.integers.specs.Coprime.{Coprime, coprime_one, sum_coprime}
use Rattle.arithmetic.specs.Quotient.{Quotient, ◌≈◌, ◌+Q◌, lowest}
use Rattle.arithmetic.specs.QuotientLaws.{Positive}
use Rattle.arithmetic.proofs.QuotientLaws.{lowest_is}
use Rattle.arithmetic.specs.Parts.{over}

-- ---- signs

sign_mul : (s : Bool) (a b : ℕ) → with_sign s a *ℤ pos b ≡ with_sign s (a * b)
sign_mul true a b = *ℤ-neg_l (pos a) (pos b)
sign_mul false a b = refl

quot_sign : (z : ℤ) (h : ℕ) → quot_z z (pos h) ≡ with_sign (is_negative z) (nat_abs z / h)
quot_sign (pos n) h = refl
quot_sign (negsuc n) h = refl

quot_with_sign : (s : Bool) (n g : ℕ) → quot_z (with_sign s n) (pos g) ≡ with_sign s (n / g)
quot_with_sign true zero g = rw (zero-div g)
quot_with_sign true (suc n) g = refl
quot_with_sign false n g = refl

-- by sign and magnitude: both parts divided by their greatest common divisor
pub lowest_by : (s : Bool) (p q g : ℕ) → g ≡ gcd p q → lowest (over (with_sign s p) q) ≡ over (with_sign s (p / g)) (q / g)
unfolding lowest
lowest_by s p q g e = rw (nat_abs-with_sign s p, ← e, quot_with_sign s p g)

pub divisor_positive : (a b g : ℕ) → 0 < b → g ≡ gcd a b → 0 < g
divisor_positive a b g h e = subst (λ (k : ℕ). 0 < k) (sym e) (gcd_positive a b h)

-- ---- the factors of a product that is 0, and of one that is not

pub factor_zero : (p q : ℕ) → p * q ≡ 0 → (p ≡ 0) ⊎ (q ≡ 0)
factor_zero zero q e = inl refl
factor_zero (suc p) zero e = inr refl
factor_zero (suc p) (suc q) e = absurd (omega (arith, mul-pos (zero-lt-suc p) (zero-lt-suc q)))

pub factors_positive : (p q : ℕ) → 0 < p * q → (0 < p) × (0 < q)
factors_positive zero q h = absurd (omega (arith, zero-mul q))
factors_positive (suc p) zero h = absurd (omega (arith, mul-zero (suc p)))
factors_positive (suc p) (suc q) h = (omega arith, omega arith)

-- ---- whole numbers

-- x is whole already
pub whole-lowest : (z : ℤ) (x : Quotient) → x.top ≡ z → x.bottom ≡ 1 → over z 1 ≡ lowest x
unfolding ◌≈◌
whole-lowest z x t b =
    sym (lowest_is x (over z 1) (omega (arith, b)) (omega arith) (coprime_one (nat_abs z)) (ap₂ (λ (w : ℤ) (k : ℕ). w *ℤ pos k) (sym t) b))

-- ---- 0

pub zero-lowest : (s : Bool) (n b : ℕ) → n ≡ 0 → 0 < b → over (with_sign s 0) 1 ≡ lowest (over (with_sign s n) b)
unfolding ◌≈◌
zero-lowest s n b z h =
    sym
    (lowest_is (over (with_sign s n) b) (over (with_sign s 0) 1) h (omega arith) (coprime_one (nat_abs (with_sign s 0)))
    (sign_mul s 0 b ∙ ap (with_sign s) (zero-mul b ∙ sym z ∙ sym (mul-one n)) ∙ sym (sign_mul s n 1)))

-- ---- a sum of quotients in lowest terms, whose denominators have no common divisor but 1, is in lowest terms

pub sum_lowest : (x y : Quotient) → Positive x → Positive y → Coprime (nat_abs x.top) x.bottom → Coprime (nat_abs y.top) y.bottom
    → Coprime x.bottom y.bottom → x +Q y ≡ lowest (x +Q y)
unfolding ◌≈◌
sum_lowest x y h i c d e =
    sym (lowest_is (x +Q y) (x +Q y) (mul-pos h i) (mul-pos h i) (sum_coprime x.top y.top x.bottom y.bottom c d e) refl)
