-- Signed machine integers: what is read back from the bits of one, its negation, its magnitude, its tests.
-- Assumes nothing.
use mathlib.Core.Path.{◌≡◌, refl, sym, ◌∙◌, ap, subst}
use mathlib.Core.Bool.{Bool, true, false, not}
use Prim.Native.Nat.{ℕ, zero, suc, ◌+◌, ◌*◌, ◌-◌, ◌^◌, ◌≤◌, ◌<◌}
use native.Mathlib.Nat.{lt_of_le_of_lt, mul-le-mul}
use native.Mathlib.Omega.{arith}
use borrow.Author.Tests.{lt-ltb}
use lib.Dec.{T, leb-zero, leb-suc-zero, leb-suc-suc, lit<}
use lib.IntN.{ℤ, pos, negsuc, neg_ℤ, nat_abs, sub_ℕ, ◌+ℤ◌, ◌-ℤ◌, ◌*ℤ◌, +ℤ_idl}
use lib.Signed.{mag, lt_z, le_z, non_neg}
use mir.Syntax.{Width, w32, w64}
use mir.Val.{Fits, SFits, hbits, to_z, of_z}
use mir.Facts.{to_z-of_z, to_z_pos, sfits_widen}
use Rattle.integers.specs.Signs.{is_negative, nat_abs_mul, nat_abs-sub, nat_abs-mag, mag-nat_abs}

-- ---- reading back

-- a signed integer from its bits, at any width
pub back : {w : Width} {z : ℤ} → SFits w z → to_z w (of_z w z) ≡ z
back h = to_z-of_z h

-- the same of a field of a struct, or of a call's result, of which the bound alone is told; and of an i32
pub back_at : (w : Width) (z : ℤ) → mag z < 2 ^ hbits w → to_z w (of_z w z) ≡ z
back_at w z h = back {w = w} {z = z} (record { sfits = h })

pub back_of : (z : ℤ) → mag z < 2147483648 → to_z w32 (of_z w32 z) ≡ z
back_of = back_at w32

-- what fits 32 bits fits 64
pub widen : {z : ℤ} → SFits w32 z → SFits w64 z
widen h = sfits_widen tt h

-- an unsigned number below 2 ^ 31
pub back_pos : {m : ℕ} → m ≤ 2147483647 → to_z w32 m ≡ pos m
back_pos h = to_z_pos w32 (omega arith)

-- ---- tests

-- z < 0
pub below-zero : (z : ℤ) → lt_z z (pos 0) ≡ is_negative z
below-zero (pos n) = leb-suc-zero n
below-zero (negsuc n) = refl

-- z <= 0, as the negation of 0 < z
pub at_most_zero : (z : ℤ) → le_z z (pos 0) ≡ not (lt_z (pos 0) z)
at_most_zero (pos zero) = refl
at_most_zero (pos (suc n)) = leb-suc-zero n ∙ ap not (sym (leb-suc-suc 0 n ∙ leb-zero n))
at_most_zero (negsuc n) = refl

-- a positive number is its magnitude
pub positive_mag : (z : ℤ) → lt_z (pos 0) z ≡ true → nat_abs z ≡ mag z
positive_mag (pos n) e = refl
positive_mag (negsuc n) e = absurd (subst (λ (b : Bool). T (not b)) e tt)

-- ---- negations and magnitudes

pub zero_minus : (z : ℤ) → pos 0 -ℤ z ≡ neg_ℤ z
zero_minus z = +ℤ_idl (neg_ℤ z)

mag-neg : (z : ℤ) → mag (neg_ℤ z) ≤ nat_abs z
mag-neg (pos zero) = omega arith
mag-neg (pos (suc n)) = omega arith
mag-neg (negsuc n) = omega arith

-- a negative number is one less than the negation of its rest, which is one less than its magnitude and always fits
pub record Negative (z : ℤ) : Type 0 where
  pub rest : ℕ
  pub next : z +ℤ pos 1 ≡ neg_ℤ (pos rest)
  pub size : nat_abs z ≡ rest + 1
  pub small : rest < 9223372036854775808

pub negative : (z : ℤ) → is_negative z ≡ true → mag z < 9223372036854775808 → Negative z
negative (pos n) e h = absurd (subst (λ (b : Bool). T (not b)) e tt)
negative (negsuc zero) e h = record { rest = 0; next = refl; size = refl; small = omega arith }
negative (negsuc (suc n)) e h =
    let below : suc (suc n) - 2 ≡ n = omega arith in
    record { rest = suc n; next = rw (lt-ltb 1 (suc (suc n)) (omega arith)) (ap negsuc below); size = omega arith; small = omega arith }

pub minus_negation : (m : ℕ) → pos 0 -ℤ neg_ℤ (pos m) ≡ pos m
minus_negation zero = refl
minus_negation (suc m) = +ℤ_idl (pos (suc m))

-- at any width, whose most negative number alone has no negation; and of a magnitude in 32 bits
pub neg_fits : (w : Width) (z : ℤ) → nat_abs z < 2 ^ hbits w → SFits w (neg_ℤ z)
neg_fits w z h = record { sfits = lt_of_le_of_lt (mag-neg z) h }

pub neg-pos_fits : (m : ℕ) → m ≤ 2147483647 → SFits w32 (neg_ℤ (pos m))
neg-pos_fits m h = neg_fits w32 (pos m) (omega arith)

pub nat_abs_fits : (z : ℤ) → nat_abs z < 9223372036854775808 → Fits w64 (nat_abs z)
nat_abs_fits z h = record { fits = omega arith }

pub nat_abs_small : (z : ℤ) → SFits w32 z → nat_abs z ≤ 2147483648
nat_abs_small z h = omega (arith, nat_abs-mag z, h.sfits)

pub neg_non_neg : (z : ℤ) → is_negative z ≡ true → T (non_neg (neg_ℤ z))
neg_non_neg (pos zero) e = tt
neg_non_neg (pos (suc n)) e = subst (λ (b : Bool). T (not b)) e tt
neg_non_neg (negsuc n) e = tt

pub pos_non_neg : (z : ℤ) → is_negative z ≡ false → T (non_neg z)
pos_non_neg (pos n) e = tt
pos_non_neg (negsuc n) e = subst T e tt

-- ---- whole products of 32 bits fit 64

pub product_fits : {a b : ℕ} → a < 4294967296 → b < 4294967296 → Fits w64 (a * b)
product_fits {a} {b} h k =
    let i : a ≤ 4294967295 = omega arith in
    let j : b ≤ 4294967295 = omega arith in
    record { fits = lt_of_le_of_lt (mul-le-mul i j) (lit< tt) }

pub product_fits_signed : (x : ℤ) (b : ℕ) → SFits w32 x → b < 4294967296 → SFits w64 (x *ℤ pos b)
product_fits_signed x b f h =
    let j : b ≤ 4294967295 = omega arith in
    let n : nat_abs (x *ℤ pos b) ≤ 2147483648 * 4294967295 = rw (nat_abs_mul x (pos b)) (mul-le-mul (nat_abs_small x f) j) in
    record { sfits = omega (arith, mag-nat_abs (x *ℤ pos b)) }

-- ---- and so do products of two i32, and sums of such products

pub product_of_two_fits : (x y : ℤ) → SFits w32 x → SFits w32 y → SFits w64 (x *ℤ y)
product_of_two_fits x y f g =
    let n : nat_abs (x *ℤ y) ≤ 2147483648 * 2147483648 = rw (nat_abs_mul x y) (mul-le-mul (nat_abs_small x f) (nat_abs_small y g)) in
    record { sfits = omega (arith, mag-nat_abs (x *ℤ y)) }

mag-neg-pos : (m : ℕ) → mag (neg_ℤ (pos m)) ≤ m - 1
mag-neg-pos zero = omega arith
mag-neg-pos (suc m) = omega arith

pub product-mag : (x : ℤ) (b : ℕ) → SFits w32 x → b ≤ 2147483648 → mag (x *ℤ pos b) < 4611686018427387904
product-mag (pos n) b f h =
    let i : n ≤ 2147483647 = omega (arith, f.sfits) in
    omega (arith, mul-le-mul i h)
product-mag (negsuc n) b f h =
    let i : suc n ≤ 2147483648 = omega (arith, f.sfits) in
    omega (arith, mul-le-mul i h, mag-neg-pos (suc n * b))

mag-sub : (a b : ℕ) → mag (sub_ℕ a b) ≤ a + b
mag-sub a b = omega (arith, mag-nat_abs (sub_ℕ a b), nat_abs-sub a b)

mag-add : (x y : ℤ) → mag (x +ℤ y) ≤ mag x + mag y + 1
mag-add (pos a) (pos b) = omega arith
mag-add (pos a) (negsuc b) = omega (arith, mag-sub a (suc b))
mag-add (negsuc a) (pos b) = omega (arith, mag-sub b (suc a))
mag-add (negsuc a) (negsuc b) = omega arith

pub sum_fits : (x y : ℤ) → mag x < 4611686018427387904 → mag y < 4611686018427387904 → SFits w64 (x +ℤ y)
sum_fits x y f g = record { sfits = omega (arith, mag-add x y) }
