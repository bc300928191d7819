-- Powers of ten, and numbers below them.
-- Assumes nothing.
use mathlib.Core.Path.{◌≡◌, sym, ◌∙◌, ap}
use Prim.Native.Nat.{ℕ, suc, ◌+◌, ◌*◌, ◌^◌, ◌≤◌, ◌<◌}
use native.Mathlib.Nat.{pow-suc, pow-le-pow_right, one-le-pow, lt_of_le_of_lt, mul-le-mul, suc-mul, le_refl}
use native.Mathlib.Numerals.{add-one}
use native.Mathlib.Omega.{arith}
use borrow.Author.Tests.{le-leb, lt-leb}
use lib.Dec.{lit<}
use lib.Pow.{pow-add}
use Rattle.powers.specs.Powers.{power_of_ten}

pub ten_next : (i : ℕ) → 10 ^ i * 10 ≡ 10 ^ (i + 1)
ten_next i = sym (pow-suc 10 i) ∙ ap (λ (n : ℕ). 10 ^ n) (sym (add-one i))

pub ten_positive : (i : ℕ) → 0 < 10 ^ i
ten_positive i = one-le-pow i 10 (omega arith)

-- a power of at most 18 fits 64 bits
pub ten_fits : (i : ℕ) → i ≤ 18 → 10 ^ i < 2 ^ 64
ten_fits i h = lt_of_le_of_lt (pow-le-pow_right (lit< tt) h) (lit< tt)

-- the two answers of `power_of_ten`
pub power-within : (k : ℕ) → k ≤ 18 → power_of_ten k ≡ 10 ^ k
unfolding power_of_ten
power-within k h = rw (le-leb k 18 h)

pub power_beyond : (k : ℕ) → 18 < k → power_of_ten k ≡ 0
unfolding power_of_ten
power_beyond k h = rw (lt-leb k 18 h)

-- a number below a power, with so many digits after it
pub appended_below : (n m i j : ℕ) → n < 10 ^ i → m < 10 ^ j → n * 10 ^ j + m < 10 ^ (i + j)
appended_below n m i j h k =
    let whole : suc n * 10 ^ j ≤ 10 ^ i * 10 ^ j = mul-le-mul h (le_refl (10 ^ j)) in
    rw (pow-add 10 i j) (omega (arith, suc-mul n (10 ^ j)))
