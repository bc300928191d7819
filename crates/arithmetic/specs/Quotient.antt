-- Exact quotients of integers: the rational numbers that the arithmetic is about, of any size. Equality and order are by
-- cross products, so nothing is divided; `lowest` brings a quotient to lowest terms by the greatest common divisor.
-- Every statement about a quotient asks that its bottom is positive.
-- Assumes nothing.
use Rattle.std.specs.Prelude.{◌≡◌, ℕ, ◌*◌, ◌/◌, ℤ, pos, negsuc, neg_ℤ, nat_abs, ◌+ℤ◌, ◌*ℤ◌, ◌≤ℤ◌, ◌<ℤ◌}
use Rattle.std.specs.Int.Signed.{quot_z}
use Rattle.integers.specs.Gcd.{gcd}

-- top / bottom
pub record Quotient : Type 0 where
  pub top : ℤ
  pub bottom : ℕ

infix 4 ◌≈◌ ◌≤Q◌ ◌<Q◌
-- they are the same rational number
unfoldable pub ◌≈◌ : Quotient → Quotient → Type 0
x ≈ y = x.top *ℤ pos y.bottom ≡ y.top *ℤ pos x.bottom

-- the order of the rational numbers
unfoldable pub ◌≤Q◌ : Quotient → Quotient → Type 0
x ≤Q y = (x.top *ℤ pos y.bottom) ≤ℤ (y.top *ℤ pos x.bottom)

unfoldable pub ◌<Q◌ : Quotient → Quotient → Type 0
x <Q y = (x.top *ℤ pos y.bottom) <ℤ (y.top *ℤ pos x.bottom)

-- exact product and sum
infixl 7 ◌*Q◌
abbrev pub ◌*Q◌ : Quotient → Quotient → Quotient
x *Q y = record { top = x.top *ℤ y.top; bottom = x.bottom * y.bottom }

infixl 6 ◌+Q◌
abbrev pub ◌+Q◌ : Quotient → Quotient → Quotient
x +Q y = record { top = x.top *ℤ pos y.bottom +ℤ y.top *ℤ pos x.bottom; bottom = x.bottom * y.bottom }

-- a whole number
abbrev pub whole_q : ℤ → Quotient
whole_q z = record { top = z; bottom = 1 }

-- the same quotient in lowest terms: top and bottom divided by their greatest common divisor
unfoldable pub lowest : Quotient → Quotient
lowest x =
    let g = gcd (nat_abs x.top) x.bottom in
    record { top = quot_z x.top (pos g); bottom = x.bottom / g }

-- z / d rounded down; negsuc n is -(n + 1), which rounds down to -(n / d + 1)
unfoldable pub floor_z : ℤ → ℕ → ℤ
floor_z (pos n) d = pos (n / d)
floor_z (negsuc n) d = negsuc (n / d)

-- z / d rounded up
unfoldable pub ceiling_z : ℤ → ℕ → ℤ
ceiling_z z d = neg_ℤ (floor_z (neg_ℤ z) d)

-- the greatest whole number that is at most x, and the least that is at least x
abbrev pub floor_q : Quotient → ℤ
floor_q x = floor_z x.top x.bottom

abbrev pub ceiling_q : Quotient → ℤ
ceiling_q x = ceiling_z x.top x.bottom
