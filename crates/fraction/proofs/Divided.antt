-- Common divisors of an operand's parts and of a result's: the first divide the second, and they are found by them.
-- Assumes nothing.
use mathlib.Core.Path.{◌≡◌, refl, sym, ◌∙◌, ap, subst}
use Prim.Native.Nat.{ℕ, ◌*◌, ◌%◌, ◌<◌, ◌∣◌}
use native.Mathlib.Nat.{dvd_trans, dvd_antisymm, dvd-mul_left_of_dvd, dvd-mul_right_of_dvd, eq-one_of_dvd-one, div-one}
use borrow.Author.Tests.{eq-eqb}
use mathlib.Core.Bool.{true}
use lib.IntN.{ℤ, pos, nat_abs, ◌*ℤ◌}
use Rattle.integers.specs.Signs.{nat_abs-with_sign, nat_abs_mul}
use Rattle.integers.specs.Gcd.{gcd, gcd-left, gcd_right, gcd_greatest, gcd-step}
use Rattle.integers.specs.Binary.{gcd_comm}
use Rattle.integers.specs.Coprime.{dvd-add_ℤ}
use Rattle.arithmetic.specs.Quotient.{Quotient, ◌+Q◌, ◌*Q◌, lowest}
use Rattle.arithmetic.specs.Fraction.{exact, ratio_of}
use Rattle.arithmetic.specs.declared.Fraction.{Fraction}
use Rattle.arithmetic.specs.declared.Ratio.{Ratio}
use Rattle.arithmetic.proofs.Lowest.{lowest_by}
use Rattle.fraction.specs.Results.{in_lowest_terms, Shared, ResultOf}

-- ---- greatest common divisors by remainders

pub gcd-rest : (a b : ℕ) → 0 < b → gcd (a % b) b ≡ gcd a b
gcd-rest a b h = gcd_comm (a % b) b ∙ sym (gcd-step a b h)

-- of a part x, which is p
pub by_rest : (x p g h : ℕ) → 0 < g → x ≡ p → h ≡ gcd (x % g) g → h ≡ gcd p g
by_rest x p g h k i e = e ∙ gcd-rest x g k ∙ ap (λ (n : ℕ). gcd n g) i

-- where what divides p and d divides g, what divides p and g is all that need be looked at
pub gcd_by : (p d g h : ℕ) → gcd p d ∣ g → h ≡ gcd p g → gcd d h ≡ gcd p d
gcd_by p d g h m e =
    let h-left : h ∣ p = subst (λ (n : ℕ). n ∣ p) (sym e) (gcd-left p g) in
    let k-h : gcd p d ∣ h = subst (λ (n : ℕ). gcd p d ∣ n) (sym e) (gcd_greatest p g (gcd p d) (gcd-left p d) m) in
    dvd_antisymm (gcd_greatest p d (gcd d h) (dvd_trans (gcd d h) (gcd_right d h) h-left) (gcd-left d h)) (gcd_greatest d h (gcd p d) (gcd_right p d) k-h)

-- ---- products and sums

top_is : (q : Ratio) (x : Quotient) → ratio_of q ≡ x → q.top ≡ nat_abs x.top
top_is q x e = sym (nat_abs-with_sign q.negative q.top) ∙ ap (λ (y : Quotient). nat_abs y.top) e

module _ (a b : Fraction) (q : Ratio) (h : 0 < nat_abs a.den * nat_abs b.den) where
  result : (x : Quotient) → ratio_of q ≡ x → x.bottom ≡ nat_abs a.den * nat_abs b.den → Shared a (nat_abs x.top) → Shared b (nat_abs x.top) → ResultOf a b q
  result x e d f g =
      let top = top_is q x e in
      let bottom : q.bottom ≡ nat_abs a.den * nat_abs b.den = ap (λ (y : Quotient). y.bottom) e ∙ d in
      record {
        bottom_is = bottom;
        positive = subst (λ (n : ℕ). 0 < n) (sym bottom) h;
        first = λ k i j. subst (λ (n : ℕ). k ∣ n) (sym top) (f k i j);
        second = λ k i j. subst (λ (n : ℕ). k ∣ n) (sym top) (g k i j);
      }

  pub product_result : ratio_of q ≡ exact a *Q exact b → ResultOf a b q
  product_result e =
      result (exact a *Q exact b) e refl
      (λ k i j. subst (λ (n : ℕ). k ∣ n) (sym (nat_abs_mul a.num b.num)) (dvd-mul_right_of_dvd k i (nat_abs b.num)))
      (λ k i j. subst (λ (n : ℕ). k ∣ n) (sym (nat_abs_mul a.num b.num)) (dvd-mul_left_of_dvd k i (nat_abs a.num)))

  pub sum_result : ratio_of q ≡ exact a +Q exact b → ResultOf a b q
  sum_result e =
      let over : (k : ℕ) (z : ℤ) (d : ℕ) → k ∣ nat_abs z * d → k ∣ nat_abs (z *ℤ pos d) = λ k z d i. subst (λ (n : ℕ). k ∣ n) (sym (nat_abs_mul z (pos d))) i in
      result (exact a +Q exact b) e refl
      (λ k i j. dvd-add_ℤ k (a.num *ℤ pos (nat_abs b.den)) (b.num *ℤ pos (nat_abs a.den)) (over k a.num _ (dvd-mul_right_of_dvd k i (nat_abs b.den))) (over k b.num _ (dvd-mul_left_of_dvd k j (nat_abs b.num))))
      (λ k i j. dvd-add_ℤ k (a.num *ℤ pos (nat_abs b.den)) (b.num *ℤ pos (nat_abs a.den)) (over k a.num _ (dvd-mul_left_of_dvd k j (nat_abs a.num))) (over k b.num _ (dvd-mul_right_of_dvd k i (nat_abs a.den))))

-- ---- what a result shows of its operands

module _ {a b : Fraction} {q : Ratio} (r : ResultOf a b q) where
  pub first_divides : gcd (nat_abs a.num) (nat_abs a.den) ∣ gcd q.top q.bottom
  first_divides =
      let k = gcd (nat_abs a.num) (nat_abs a.den) in
      let d = gcd_right (nat_abs a.num) (nat_abs a.den) in
      gcd_greatest q.top q.bottom k (r.first k (gcd-left (nat_abs a.num) (nat_abs a.den)) d)
      (subst (λ (n : ℕ). k ∣ n) (sym r.bottom_is) (dvd-mul_right_of_dvd k d (nat_abs b.den)))

  pub second_divides : gcd (nat_abs b.num) (nat_abs b.den) ∣ gcd q.top q.bottom
  second_divides =
      let k = gcd (nat_abs b.num) (nat_abs b.den) in
      let d = gcd_right (nat_abs b.num) (nat_abs b.den) in
      gcd_greatest q.top q.bottom k (r.second k (gcd-left (nat_abs b.num) (nat_abs b.den)) d)
      (subst (λ (n : ℕ). k ∣ n) (sym r.bottom_is) (dvd-mul_left_of_dvd k d (nat_abs a.den)))

-- what divides 1 is 1
pub lowest_of : (f : Fraction) (g : ℕ) → gcd (nat_abs f.num) (nat_abs f.den) ∣ g → g ≡ 1 → in_lowest_terms f ≡ true
lowest_of f g i e = eq-eqb _ 1 (eq-one_of_dvd-one (subst (λ (n : ℕ). gcd (nat_abs f.num) (nat_abs f.den) ∣ n) e i))

-- a result in lowest terms is its own
pub already_lowest : (q : Ratio) → gcd q.top q.bottom ≡ 1 → ratio_of q ≡ lowest (ratio_of q)
already_lowest q e = sym (lowest_by q.negative q.top q.bottom 1 (sym e) ∙ (rw (div-one q.top, div-one q.bottom)))
