-- What `|`, `&`, `!` and `1 << k` do to each bit of a mask.
-- Assumes nothing.
use mathlib.Core.Path.{◌≡◌, refl, sym, ap, subst, ◌∙◌}
use mathlib.Core.Bool.{Bool, true, false, ◌&&◌}
use Prim.Native.Nat.{ℕ, zero, suc, ◌+◌, ◌*◌, ◌-◌, ◌/◌, ◌%◌, ◌^◌, ◌≤◌, ◌<◌, min, max}
use native.Mathlib.Nat.{mod-lt, div-eq_of_lt, div_self, mul-div_cancel, mul-mod_left, pow-suc, mul-sub, mul_comm, mul-le-mul_right, one-mul, lt_of_lt_of_le}
use native.Mathlib.Decide.{dec_lt}
use native.Mathlib.Omega.{arith}
use borrow.Author.Tests.{eqb-true, eqb-false, lt-ltb, le-ltb}
use lib.Pow.{pow_pos, pow-lt, pow-add, ones_split, high, split, le_ones, shr_lt, ones_sub-lt, shl_exact, pow_mono}
use lib.Bits.{bit_and, bit_or, and_step, or_step, and_shr, or_shr}
use lib.Dec.{lit<, eqb, ltb}
use Rattle.sets.specs.Sets.{bit, one}
use Rattle.sets.specs.SetsLaws.{bit_lt, bit-zero}

-- ---- | and &

or_odd : (a b : ℕ) → bit_or a b % 2 ≡ max (a % 2) (b % 2)
or_odd a b = omega (arith, or_step a b)

and_odd : (a b : ℕ) → bit_and a b % 2 ≡ min (a % 2) (b % 2)
and_odd a b = omega (arith, and_step a b)

pub bit-or : (a b k : ℕ) → bit (bit_or a b) k ≡ max (bit a k) (bit b k)
bit-or a b k = ap (λ (x : ℕ). x % 2) (or_shr a b k) ∙ or_odd (a / 2 ^ k) (b / 2 ^ k)

bit-and : (a b k : ℕ) → bit (bit_and a b) k ≡ min (bit a k) (bit b k)
bit-and a b k = ap (λ (x : ℕ). x % 2) (and_shr a b k) ∙ and_odd (a / 2 ^ k) (b / 2 ^ k)

-- ---- ! of a mask of w bits

sub-mul : (a b c : ℕ) → (a - b) * c ≡ a * c - b * c
sub-mul a b c = mul_comm (a - b) c ∙ mul-sub c a b ∙ ap (λ (x : ℕ). x - c * b) (mul_comm c a) ∙ ap (λ (x : ℕ). a * c - x) (mul_comm c b)

not-shr : (d j s : ℕ) → s < 2 ^ (d + j) → (2 ^ (d + j) - 1 - s) / 2 ^ j ≡ 2 ^ d - 1 - s / 2 ^ j
not-shr d j s h =
    let q : s / 2 ^ j ≤ 2 ^ d - 1 = le_ones d (shr_lt d j h) in
    let r : s % 2 ^ j ≤ 2 ^ j - 1 = le_ones j (mod-lt s (pow_pos j)) in
    let m : (2 ^ d - 1 - s / 2 ^ j) * 2 ^ j ≡ (2 ^ d - 1) * 2 ^ j - s / 2 ^ j * 2 ^ j = sub-mul (2 ^ d - 1) (s / 2 ^ j) (2 ^ j) in
    let l : s / 2 ^ j * 2 ^ j ≤ (2 ^ d - 1) * 2 ^ j = mul-le-mul_right (2 ^ j) q in
    let e : 2 ^ (d + j) - 1 - s ≡ (2 ^ d - 1 - s / 2 ^ j) * 2 ^ j + (2 ^ j - 1 - s % 2 ^ j) = omega (arith, ones_split d j, split s j) in
    ap (λ (x : ℕ). x / 2 ^ j) e ∙ high (2 ^ d - 1 - s / 2 ^ j) j (ones_sub-lt j (s % 2 ^ j))

bit_not : (w j s : ℕ) → j < w → s < 2 ^ w → bit (2 ^ w - 1 - s) j ≡ 1 - bit s j
bit_not w j s h l =
    let e : w ≡ suc (w - suc j) + j = omega arith in
    let l' : s < 2 ^ (suc (w - suc j) + j) = subst (λ (x : ℕ). s < 2 ^ x) e l in
    let q : s / 2 ^ j < 2 ^ suc (w - suc j) = shr_lt (suc (w - suc j)) j l' in
    ap (λ (x : ℕ). (2 ^ x - 1 - s) / 2 ^ j % 2) e ∙ ap (λ (x : ℕ). x % 2) (not-shr (suc (w - suc j)) j s l') ∙ omega (arith, pow-suc 2 (w - suc j))

bit_high : (a j : ℕ) → a < 2 ^ 64 → 64 ≤ j → bit a j ≡ 0
bit_high a j h l = ap (λ (x : ℕ). x % 2) (div-eq_of_lt (lt_of_lt_of_le h (pow_mono l)))

-- a & !b
pub bit-without : (a b j : ℕ) → a < 2 ^ 64 → b < 2 ^ 64 → bit (bit_and a (2 ^ 64 - 1 - b)) j ≡ bit a j - bit b j
bit-without a b j p q = bit-and a (2 ^ 64 - 1 - b) j ∙ go (dec_lt j 64)
  where
    go : Dec (j < 64) → min (bit a j) (bit (2 ^ 64 - 1 - b) j) ≡ bit a j - bit b j
    go (yes h) = omega (arith, bit_not 64 j b h q, bit_lt a j, bit_lt b j)
    go (no h) = omega (arith, bit_high a j p (omega arith))

-- ---- 1 << k

pow_even : (d : ℕ) → 0 < d → 2 ^ d % 2 ≡ 0
pow_even zero h = omega arith
pow_even (suc e) h = ap (λ (x : ℕ). x % 2) (pow-suc 2 e) ∙ mul-mod_left (2 ^ e) 2

bit-pow_above : (j k : ℕ) → j < k → bit (2 ^ k) j ≡ 0
bit-pow_above j k h =
    let e : k ≡ (k - j) + j = omega arith in
    ap (λ (x : ℕ). 2 ^ x / 2 ^ j % 2) e ∙ ap (λ (x : ℕ). x / 2 ^ j % 2) (pow-add 2 (k - j) j) ∙ ap (λ (x : ℕ). x % 2) (mul-div_cancel (2 ^ (k - j)) (pow_pos j)) ∙ pow_even (k - j) (omega arith)

bit-pow : (j k : ℕ) → bit (2 ^ k) j ≡ one (eqb j k)
bit-pow j k = go (eqb j k) refl
  where
    other : (j ≡ k → ⊥) → Dec (j < k) → bit (2 ^ k) j ≡ 0
    other ne (yes h) = bit-pow_above j k h
    other ne (no h) = ap (λ (x : ℕ). x % 2) (div-eq_of_lt (pow-lt (omega arith)))

    go : (t : Bool) → eqb j k ≡ t → bit (2 ^ k) j ≡ one t
    go true e = ap (λ (x : ℕ). bit (2 ^ k) x) (eqb-true j k e) ∙ ap (λ (x : ℕ). x % 2) (div_self (pow_pos k))
    go false e = other (eqb-false j k e) (dec_lt j k)

and-true : (a b : Bool) → b ≡ true → a ≡ (a && b)
and-true true b e = sym e
and-true false b e = refl

and-false : (a b : Bool) → b ≡ false → false ≡ (a && b)
and-false true b e = sym e
and-false false b e = refl

-- 1 << k at 64 bits, as the code computes it
pub bit_single : (k : ℕ) → k < 64 → (j : ℕ) → bit ((1 * 2 ^ k) % 2 ^ 64) j ≡ one (eqb j k && ltb k 64)
bit_single k h j =
    ap (λ (x : ℕ). bit x j) (shl_exact 1 k 64 (lit< tt) (omega arith) ∙ one-mul (2 ^ k)) ∙ bit-pow j k ∙ ap one (and-true (eqb j k) (ltb k 64) (lt-ltb k 64 h))

-- no mask has 64 or more
pub bit_none : (k : ℕ) → 64 ≤ k → (j : ℕ) → bit 0 j ≡ one (eqb j k && ltb k 64)
bit_none k h j = bit-zero j ∙ ap one (and-false (eqb j k) (ltb k 64) (le-ltb k 64 h))
