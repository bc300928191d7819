-- What is proved of the definitions in specs/QuotientLaws.antt.
-- Assumes nothing.
use Rattle.std.specs.Prelude.{◌≡◌, refl, ◌⊎◌, ℤ, negsuc, nat_abs, ◌+ℤ◌, ◌*ℤ◌, ◌≤ℤ◌, ◌<ℤ◌}
use Rattle.std.proofs.Common.{sym, ◌∙◌, ap, ap₂, ⊎_elim, mul_comm, pos_of_ne-zero, mul-zero, suc-mul, add-mul, one-mul, div-mul-le_self, arith, le→leb, lt→ltb}
use Rattle.std.proofs.Math.Path.{subst}
use Prim.Native.Nat.{ℕ, zero, suc, one, ◌+◌, ◌*◌, ◌/◌, ◌≤◌, ◌<◌, ◌∣◌}
use Rattle.std.proofs.Math.Nat.{mul-div_cancel', lt-div-mul-add}
use Rattle.std.proofs.Math.IntN.{pos, neg_ℤ, suc_ℤ, *ℤ_comm, +ℤ_comm, +ℤ_one, neg_ℤ-neg_ℤ}
use Rattle.std.specs.Int.Signed.{quot_z, ≤ℤ_refl, clash_ℤ}
use Rattle.integers.specs.Signs.{nat_abs-neg, nat_abs_mul, *ℤ_cancel}
use Rattle.integers.specs.Integers.{ring, *ℤ-pos-one, *ℤ-neg_l, *ℤ_mono, *ℤ_le_cancel, +ℤ_mono, ≤ℤ_trans, ≤ℤ-total, ≤ℤ_antisym, ≤ℤ_of_eq, ≤ℤ_of_<, ≤ℤ-neg, <ℤ-suc}
use Rattle.integers.specs.Gcd.{gcd, gcd-left, gcd_right}
use Rattle.integers.specs.Coprime.{Coprime, coprime_quotients, lowest_unique, exchange}
use Rattle.arithmetic.specs.Quotient.{Quotient, ◌≈◌, ◌≤Q◌, ◌<Q◌, ◌+Q◌, ◌*Q◌, whole_q, lowest, floor_z, floor_q, ceiling_z, ceiling_q}
use Rattle.arithmetic.specs.QuotientLaws.{Positive}

-- ---- equality

pub ≈_refl : (x : Quotient) → x ≈ x
unfolding ◌≈◌
≈_refl x = refl

pub ≈_sym : (x y : Quotient) → x ≈ y → y ≈ x
unfolding ◌≈◌
≈_sym x y e = sym e

pub ≈_trans : (x y z : Quotient) → Positive y → x ≈ y → y ≈ z → x ≈ z
unfolding ◌≈◌
≈_trans x y z h e f =
    let p = pos x.bottom in
    let q = pos y.bottom in
    let r = pos z.bottom in
    let left : (x.top *ℤ r) *ℤ q ≡ (x.top *ℤ q) *ℤ r = simp ring in
    let middle : (y.top *ℤ p) *ℤ r ≡ (y.top *ℤ r) *ℤ p = simp ring in
    let right : (z.top *ℤ q) *ℤ p ≡ (z.top *ℤ p) *ℤ q = simp ring in
    *ℤ_cancel (x.top *ℤ r) (z.top *ℤ p) y.bottom h
    (left ∙ ap (λ (w : ℤ). w *ℤ r) e ∙ middle ∙ ap (λ (w : ℤ). w *ℤ p) f ∙ right)

-- ---- the order

pub ≤Q-total : (x y : Quotient) → (x ≤Q y) ⊎ (y <Q x)
unfolding ◌≤Q◌ ◌<Q◌
≤Q-total x y = ≤ℤ-total (x.top *ℤ pos y.bottom) (y.top *ℤ pos x.bottom)

pub ≤Q_antisym : (x y : Quotient) → x ≤Q y → y ≤Q x → x ≈ y
unfolding ◌≤Q◌ ◌≈◌
≤Q_antisym x y h k = ≤ℤ_antisym (x.top *ℤ pos y.bottom) (y.top *ℤ pos x.bottom) h k

pub ≤Q_of_≈ : (x y : Quotient) → x ≈ y → x ≤Q y
unfolding ◌≤Q◌ ◌≈◌
≤Q_of_≈ x y e = ≤ℤ_of_eq (x.top *ℤ pos y.bottom) (y.top *ℤ pos x.bottom) e

pub ≤Q_of_< : (x y : Quotient) → x <Q y → x ≤Q y
unfolding ◌≤Q◌ ◌<Q◌
≤Q_of_< x y h = ≤ℤ_of_< (x.top *ℤ pos y.bottom) (y.top *ℤ pos x.bottom) h

pub <Q_clash : (x y : Quotient) → x <Q y → y ≤Q x → ⊥
unfolding ◌≤Q◌ ◌<Q◌
<Q_clash x y h k = clash_ℤ h k

pub ≤Q_trans : (x y z : Quotient) → Positive y → x ≤Q y → y ≤Q z → x ≤Q z
unfolding ◌≤Q◌
≤Q_trans x y z p h k =
    let a = pos x.bottom in
    let b = pos y.bottom in
    let c = pos z.bottom in
    let first : (c *ℤ (x.top *ℤ b)) ≤ℤ (c *ℤ (y.top *ℤ a)) = *ℤ_mono z.bottom (x.top *ℤ b) (y.top *ℤ a) h in
    let second : (a *ℤ (y.top *ℤ c)) ≤ℤ (a *ℤ (z.top *ℤ b)) = *ℤ_mono x.bottom (y.top *ℤ c) (z.top *ℤ b) k in
    let middle : c *ℤ (y.top *ℤ a) ≡ a *ℤ (y.top *ℤ c) = simp ring in
    let left : c *ℤ (x.top *ℤ b) ≡ b *ℤ (x.top *ℤ c) = simp ring in
    let right : a *ℤ (z.top *ℤ b) ≡ b *ℤ (z.top *ℤ a) = simp ring in
    *ℤ_le_cancel y.bottom (x.top *ℤ c) (z.top *ℤ a) p
    (subst (λ (w : ℤ). w ≤ℤ (b *ℤ (z.top *ℤ a))) left
    (subst (λ (w : ℤ). (c *ℤ (x.top *ℤ b)) ≤ℤ w) right
    (≤ℤ_trans (c *ℤ (x.top *ℤ b)) (a *ℤ (y.top *ℤ c)) (a *ℤ (z.top *ℤ b)) (subst (λ (w : ℤ). (c *ℤ (x.top *ℤ b)) ≤ℤ w) middle first) second)))

-- ---- sums and products keep equality and order

pub +Q_mono : (x y z : Quotient) → x ≤Q y → (x +Q z) ≤Q (y +Q z)
unfolding ◌≤Q◌
+Q_mono x y z h =
    let a = pos x.bottom in
    let b = pos y.bottom in
    let c = pos z.bottom in
    let k = (z.top *ℤ a) *ℤ (b *ℤ c) in
    let scaled : (pos (z.bottom * z.bottom) *ℤ (x.top *ℤ b)) ≤ℤ (pos (z.bottom * z.bottom) *ℤ (y.top *ℤ a)) =
    *ℤ_mono (z.bottom * z.bottom) (x.top *ℤ b) (y.top *ℤ a) h in
    let left : (c *ℤ c) *ℤ (x.top *ℤ b) +ℤ k ≡ (x.top *ℤ c +ℤ z.top *ℤ a) *ℤ (b *ℤ c) = simp ring in
    let right : (c *ℤ c) *ℤ (y.top *ℤ a) +ℤ k ≡ (y.top *ℤ c +ℤ z.top *ℤ b) *ℤ (a *ℤ c) = simp ring in
    subst (λ (w : ℤ). w ≤ℤ ((y.top *ℤ c +ℤ z.top *ℤ b) *ℤ (a *ℤ c))) left
    (subst (λ (w : ℤ). ((c *ℤ c) *ℤ (x.top *ℤ b) +ℤ k) ≤ℤ w) right
    (+ℤ_mono ((c *ℤ c) *ℤ (x.top *ℤ b)) ((c *ℤ c) *ℤ (y.top *ℤ a)) k k scaled (≤ℤ_refl k)))

pub +Q_cong : (x y z : Quotient) → x ≈ y → (x +Q z) ≈ (y +Q z)
+Q_cong x y z e =
    ≤Q_antisym (x +Q z) (y +Q z) (+Q_mono x y z (≤Q_of_≈ x y e)) (+Q_mono y x z (≤Q_of_≈ y x (≈_sym x y e)))

pub +Q_comm : (x y : Quotient) → x +Q y ≡ y +Q x
+Q_comm x y = rw (+ℤ_comm (x.top *ℤ pos y.bottom) (y.top *ℤ pos x.bottom), mul_comm x.bottom y.bottom)

pub +Q_cong_right : (x y z : Quotient) → x ≈ y → (z +Q x) ≈ (z +Q y)
+Q_cong_right x y z e = rw (+Q_comm z x, +Q_comm z y) (+Q_cong x y z e)

pub *Q_cong : (x y z : Quotient) → x ≈ y → (x *Q z) ≈ (y *Q z)
unfolding ◌≈◌
*Q_cong x y z e =
    let a = pos x.bottom in
    let b = pos y.bottom in
    let c = pos z.bottom in
    let left : (x.top *ℤ z.top) *ℤ (b *ℤ c) ≡ (x.top *ℤ b) *ℤ (z.top *ℤ c) = simp ring in
    let right : (y.top *ℤ a) *ℤ (z.top *ℤ c) ≡ (y.top *ℤ z.top) *ℤ (a *ℤ c) = simp ring in
    left ∙ ap (λ (w : ℤ). w *ℤ (z.top *ℤ c)) e ∙ right

-- ---- lowest terms

quot_abs : (z : ℤ) (g : ℕ) → nat_abs (quot_z z (pos g)) ≡ nat_abs z / g
quot_abs (pos n) g = refl
quot_abs (negsuc n) g = nat_abs-neg (pos (suc n / g))

quot_exchange : (z : ℤ) (b g : ℕ) → g ∣ nat_abs z → g ∣ b → quot_z z (pos g) *ℤ pos b ≡ z *ℤ pos (b / g)
quot_exchange (pos n) b g p q = ap pos (exchange n b g p q)
quot_exchange (negsuc n) b g p q = *ℤ-neg_l (pos (suc n / g)) (pos b) ∙ ap (λ (m : ℕ). neg_ℤ (pos m)) (exchange (suc n) b g p q)

pub quotient_positive : (b g : ℕ) → g ∣ b → 0 < b → 0 < b / g
quotient_positive b g d h = pos_of_ne-zero (λ e. absurd (omega (arith, sym (mul-div_cancel' g d) ∙ ap (λ (m : ℕ). g * m) e ∙ mul-zero g)))

module _ (x : Quotient) (h : Positive x) where
  abbrev divisor : ℕ
  divisor = gcd (nat_abs x.top) x.bottom

  pub lowest_positive : Positive (lowest x)
  unfolding lowest
  lowest_positive = quotient_positive x.bottom divisor (gcd_right (nat_abs x.top) x.bottom) h

  pub lowest_coprime : Coprime (nat_abs (lowest x).top) (lowest x).bottom
  unfolding lowest
  lowest_coprime = rw (quot_abs x.top divisor) (coprime_quotients (nat_abs x.top) x.bottom h)

  pub lowest_equal : lowest x ≈ x
  unfolding lowest ◌≈◌
  lowest_equal = quot_exchange x.top x.bottom divisor (gcd-left (nat_abs x.top) x.bottom) (gcd_right (nat_abs x.top) x.bottom)

-- two quotients in lowest terms that are equal as rational numbers are one
pub lowest-terms_unique : (x y : Quotient) → Positive x → Positive y → Coprime (nat_abs x.top) x.bottom → Coprime (nat_abs y.top) y.bottom → x ≈ y → x ≡ y
unfolding ◌≈◌
lowest-terms_unique x y h k e f q =
    let magnitudes : nat_abs x.top * y.bottom ≡ nat_abs y.top * x.bottom = sym (nat_abs_mul x.top (pos y.bottom)) ∙ ap nat_abs q ∙ nat_abs_mul y.top (pos x.bottom) in
    let same = lowest_unique (nat_abs x.top) x.bottom (nat_abs y.top) y.bottom e f h magnitudes in
    let bottoms : x.bottom ≡ y.bottom = same.1 in
    let tops : x.top ≡ y.top = *ℤ_cancel x.top y.top y.bottom k (q ∙ ap (λ (b : ℕ). y.top *ℤ pos b) bottoms) in
    ap₂ {A = ℤ} {B = ℕ} {C = Quotient} (λ t b. record { top = t; bottom = b }) tops bottoms

-- so `lowest x` is the one quotient in lowest terms that equals x
pub lowest_is : (x y : Quotient) → Positive x → Positive y → Coprime (nat_abs y.top) y.bottom → y ≈ x → lowest x ≡ y
lowest_is x y h k e q =
    lowest-terms_unique (lowest x) y (lowest_positive x h) k (lowest_coprime x h) e
    (≈_trans (lowest x) x y h (lowest_equal x h) (≈_sym y x q))

pub lowest_cong : (x y : Quotient) → Positive x → Positive y → x ≈ y → lowest x ≡ lowest y
lowest_cong x y h k e =
    lowest_is x (lowest y) h (lowest_positive y k) (lowest_coprime y k) (≈_trans (lowest y) y x k (lowest_equal y k) (≈_sym x y e))

-- ---- floor and ceiling

neg_le : (k n : ℕ) → suc n ≤ k → neg_ℤ (pos k) ≤ℤ negsuc n
neg_le zero n h = absurd (omega arith)
neg_le (suc k) n h = record { le = le→leb n k (omega arith) }

neg_lt : (k n : ℕ) → k ≤ n → negsuc n <ℤ neg_ℤ (pos k)
neg_lt zero n h = record { lt = tt }
neg_lt (suc k) n h = record { lt = lt→ltb k n h }

suc-neg : (n : ℕ) → suc_ℤ (negsuc n) ≡ neg_ℤ (pos n)
suc-neg zero = refl
suc-neg (suc n) = refl

floor_z-below : (z : ℤ) (d : ℕ) → 0 < d → (floor_z z d *ℤ pos d) ≤ℤ z
unfolding floor_z
floor_z-below (pos n) d h = record { le = le→leb (n / d * d) n (div-mul-le_self n d) }
floor_z-below (negsuc n) d h = neg_le (suc (n / d) * d) n (omega (arith, suc-mul (n / d) d, lt-div-mul-add {a = n} h))

floor_z_above : (z : ℤ) (d : ℕ) → 0 < d → z <ℤ ((floor_z z d +ℤ pos 1) *ℤ pos d)
unfolding floor_z
floor_z_above (pos n) d h = record { lt = lt→ltb n ((n / d + 1) * d) (omega (arith, add-mul (n / d) one d, one-mul d, lt-div-mul-add {a = n} h)) }
floor_z_above (negsuc n) d h =
    rw (+ℤ_one (negsuc (n / d)), suc-neg (n / d), *ℤ-neg_l (pos (n / d)) (pos d)) (neg_lt (n / d * d) n (div-mul-le_self n d))

floor_z_greatest : (z : ℤ) (d : ℕ) → 0 < d → (k : ℤ) → (k *ℤ pos d) ≤ℤ z → k ≤ℤ floor_z z d
floor_z_greatest z d h k e = ⊎_elim (λ r. r) (λ r. absurd (clash_ℤ (floor_z_above z d h) (≤ℤ_trans _ _ _ (next r) e))) (≤ℤ-total k (floor_z z d))
  where
    next : floor_z z d <ℤ k → ((floor_z z d +ℤ pos 1) *ℤ pos d) ≤ℤ (k *ℤ pos d)
    next r =
        subst (λ (w : ℤ). w ≤ℤ (k *ℤ pos d)) (*ℤ_comm (pos d) (floor_z z d +ℤ pos 1))
        (subst (λ (w : ℤ). (pos d *ℤ (floor_z z d +ℤ pos 1)) ≤ℤ w) (*ℤ_comm (pos d) k)
        (*ℤ_mono d (floor_z z d +ℤ pos 1) k (<ℤ-suc (floor_z z d) k r)))

module _ (x : Quotient) (h : Positive x) where
  -- floor: at most x, and every whole number that is at most x is at most it
  pub floor_below : whole_q (floor_q x) ≤Q x
  unfolding ◌≤Q◌
  floor_below = subst (λ (w : ℤ). (floor_q x *ℤ pos x.bottom) ≤ℤ w) (sym (*ℤ-pos-one x.top)) (floor_z-below x.top x.bottom h)

  pub floor_greatest : (k : ℤ) → whole_q k ≤Q x → k ≤ℤ floor_q x
  unfolding ◌≤Q◌
  floor_greatest k e = floor_z_greatest x.top x.bottom h k (subst (λ (w : ℤ). (k *ℤ pos x.bottom) ≤ℤ w) (*ℤ-pos-one x.top) e)

  -- ceiling: at least x, and every whole number that is at least x is at least it
  pub ceiling_above : x ≤Q whole_q (ceiling_q x)
  unfolding ◌≤Q◌ ceiling_z
  ceiling_above =
      let f = floor_z (neg_ℤ x.top) x.bottom in
      let e : neg_ℤ (neg_ℤ x.top) ≤ℤ neg_ℤ (f *ℤ pos x.bottom) = ≤ℤ-neg (f *ℤ pos x.bottom) (neg_ℤ x.top) (floor_z-below (neg_ℤ x.top) x.bottom h) in
      rw (*ℤ-pos-one x.top, *ℤ-neg_l f (pos x.bottom)) (subst (λ (w : ℤ). w ≤ℤ neg_ℤ (f *ℤ pos x.bottom)) (neg_ℤ-neg_ℤ x.top) e)

  pub ceiling_least : (k : ℤ) → x ≤Q whole_q k → ceiling_q x ≤ℤ k
  unfolding ◌≤Q◌ ceiling_z
  ceiling_least k e =
      let f = floor_z (neg_ℤ x.top) x.bottom in
      let turned : (neg_ℤ k *ℤ pos x.bottom) ≤ℤ neg_ℤ x.top =
      subst (λ (w : ℤ). w ≤ℤ neg_ℤ x.top) (sym (*ℤ-neg_l k (pos x.bottom)))
      (≤ℤ-neg x.top (k *ℤ pos x.bottom) (subst (λ (w : ℤ). w ≤ℤ (k *ℤ pos x.bottom)) (*ℤ-pos-one x.top) e)) in
      subst (λ (w : ℤ). neg_ℤ f ≤ℤ w) (neg_ℤ-neg_ℤ k) (≤ℤ-neg (neg_ℤ k) f (floor_z_greatest (neg_ℤ x.top) x.bottom h (neg_ℤ k) turned))
