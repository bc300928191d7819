-- Floor by the signed division, which rounds toward zero: a negative remainder takes one more off.
-- Assumes nothing.
use mathlib.Core.Path.{◌≡◌, refl, sym, ◌∙◌, ap, subst}
use mathlib.Core.Bool.{Bool, true, false, not}
use Prim.Native.Nat.{ℕ, zero, suc, one, ◌*◌, ◌/◌, ◌%◌, ◌≤◌, ◌<◌}
use native.Mathlib.Nat.{div-eq_of_lt-le, div-add-mod', mod-lt, add-mul, one-mul, suc-mul, zero-mul, div-le_self, lt_of_le_of_lt}
use native.Mathlib.Omega.{arith}
use lib.Dec.{T, ltb→lt}
use lib.IntN.{ℤ, pos, negsuc, neg_ℤ, nat_abs, pred_ℤ, ◌-ℤ◌, -ℤ_one}
use lib.Signed.{mag, mag_rem, lt_z, quot_z, rem_z, ◌<ℤ◌}
use borrow.Author.Tests.{ltb-true}
use mir.Syntax.{w32}
use mir.Val.{SFits, of_z}
use Rattle.integers.specs.Signs.{nat_abs-neg, mag-nat_abs}
use Rattle.arithmetic.specs.Quotient.{floor_z, ceiling_z}
use Rattle.arithmetic.specs.Fraction.{limit}

-- one step up, with and without a remainder
div-suc-same : (a d : ℕ) → 0 < d → 0 < suc a % d → a / d ≡ suc a / d
div-suc-same a d h r =
    div-eq_of_lt-le d (omega (arith, div-add-mod' (suc a) d)) (omega (arith, div-add-mod' (suc a) d, mod-lt (suc a) h, add-mul (suc a / d) one d, one-mul d))

div-exact : (a d k : ℕ) → 0 < d → k * d ≡ suc a → suc (a / d) ≡ k
div-exact a d zero h e = absurd (omega (arith, zero-mul d))
div-exact a d (suc j) h e =
    ap suc (div-eq_of_lt-le d (omega (arith, suc-mul j d)) (omega (arith, suc-mul j d, add-mul j one d, one-mul d)))

div-suc-next : (a d : ℕ) → 0 < d → suc a % d ≡ 0 → suc (a / d) ≡ suc a / d
div-suc-next a d h r = div-exact a d (suc a / d) h (omega (arith, div-add-mod' (suc a) d))

-- a positive divisor
pub pos_bits : (d : ℤ) → pos 0 <ℤ d → 0 < of_z w32 d
pos_bits (pos n) h = ltb→lt 0 n h.lt
pos_bits (negsuc n) h = absurd h.lt

below : (n : ℕ) → pos 0 <ℤ pos n → 0 < n
below n h = ltb→lt 0 n h.lt

neg-mag : (r a : ℕ) → r ≤ suc a → mag (neg_ℤ (pos r)) ≤ a
neg-mag zero a h = omega arith
neg-mag (suc r) a h = omega arith

quot_mag : (n d : ℤ) → pos 0 <ℤ d → mag (quot_z n d) ≤ mag n
quot_mag (pos a) (pos b) h = div-le_self a b
quot_mag (negsuc a) (pos b) h = neg-mag (suc a / b) a (div-le_self (suc a) b)
quot_mag (pos a) (negsuc b) h = absurd h.lt
quot_mag (negsuc a) (negsuc b) h = absurd h.lt

pub quot_fits : (n d : ℤ) → pos 0 <ℤ d → SFits w32 n → SFits w32 (quot_z n d)
quot_fits n d h f = record { sfits = lt_of_le_of_lt (quot_mag n d h) f.sfits }

pub rem_fits : (n d : ℤ) → SFits w32 n → SFits w32 (rem_z n d)
rem_fits n d f = record { sfits = lt_of_le_of_lt (mag_rem n d) f.sfits }

-- the sign of a remainder
neg-below : (r : ℕ) → lt_z (neg_ℤ (pos r)) (pos 0) ≡ true → 0 < r
neg-below zero e = absurd (subst (λ (x : Bool). T (not x)) e tt)
neg-below (suc r) e = omega arith

neg-not-below : (r : ℕ) → lt_z (neg_ℤ (pos r)) (pos 0) ≡ false → r ≡ 0
neg-not-below zero e = refl
neg-not-below (suc r) e = absurd (subst T e tt)

pred_neg : (m : ℕ) → pred_ℤ (neg_ℤ (pos m)) ≡ negsuc m
pred_neg zero = refl
pred_neg (suc m) = refl

-- floor
pub floor_down : (n d : ℤ) → pos 0 <ℤ d → lt_z (rem_z n d) (pos 0) ≡ true → quot_z n d -ℤ pos 1 ≡ floor_z n (nat_abs d)
unfolding floor_z
floor_down (pos a) (pos b) h e = absurd (omega (arith, ltb-true (a % b) 0 e))
floor_down (negsuc a) (pos b) h e =
    -ℤ_one (neg_ℤ (pos (suc a / b))) ∙ pred_neg (suc a / b) ∙ ap negsuc (sym (div-suc-same a b (below b h) (neg-below (suc a % b) e)))
floor_down (pos a) (negsuc b) h e = absurd h.lt
floor_down (negsuc a) (negsuc b) h e = absurd h.lt

pub floor_stay : (n d : ℤ) → pos 0 <ℤ d → lt_z (rem_z n d) (pos 0) ≡ false → quot_z n d ≡ floor_z n (nat_abs d)
unfolding floor_z
floor_stay (pos a) (pos b) h e = refl
floor_stay (negsuc a) (pos b) h e = ap (λ (m : ℕ). neg_ℤ (pos m)) (sym (div-suc-next a b (below b h) (neg-not-below (suc a % b) e)))
floor_stay (pos a) (negsuc b) h e = absurd h.lt
floor_stay (negsuc a) (negsuc b) h e = absurd h.lt

floor_mag : (n : ℤ) (d : ℕ) → mag (floor_z n d) ≤ mag n
unfolding floor_z
floor_mag (pos a) d = div-le_self a d
floor_mag (negsuc a) d = div-le_self a d

pub floor_fits : (n : ℤ) (d : ℕ) → SFits w32 n → SFits w32 (floor_z n d)
floor_fits n d f = record { sfits = lt_of_le_of_lt (floor_mag n d) f.sfits }

-- the floor of -n, and its negation
floor_abs : (n : ℤ) (d : ℕ) → nat_abs (floor_z n d) ≤ nat_abs n
unfolding floor_z
floor_abs (pos a) d = div-le_self a d
floor_abs (negsuc a) d = omega (arith, div-le_self a d)

pub neg_small : (n : ℤ) → nat_abs n ≤ limit → SFits w32 (neg_ℤ n)
neg_small n h = record { sfits = omega (arith, mag-nat_abs (neg_ℤ n), nat_abs-neg n) }

neg_floor_small : (n : ℤ) (d : ℕ) → nat_abs n ≤ limit → nat_abs (floor_z (neg_ℤ n) d) ≤ limit
neg_floor_small n d h = omega (arith, floor_abs (neg_ℤ n) d, nat_abs-neg n)

pub neg_floor_fits : (r n : ℤ) (d : ℕ) → r ≡ floor_z (neg_ℤ n) d → nat_abs n ≤ limit → SFits w32 (neg_ℤ r)
neg_floor_fits r n d e h = rw e (neg_small (floor_z (neg_ℤ n) d) (neg_floor_small n d h))

pub ceiling_is : (n : ℤ) (d : ℕ) → ceiling_z n d ≡ neg_ℤ (floor_z (neg_ℤ n) d)
unfolding ceiling_z
ceiling_is n d = refl
