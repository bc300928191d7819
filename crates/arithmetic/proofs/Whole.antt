-- Products and sums of whole numbers, and a sum and a product more.
-- Assumes nothing.
use mathlib.Core.Path.{◌≡◌, refl, sym, ◌∙◌, ap}
use mathlib.Core.Bool.{Bool, true, false}
use Prim.Native.Nat.{◌≤◌, ◌<◌}
use borrow.Author.Tests.{leb-true, leb-false, le-leb, lt-leb}
use lib.Dec.{leb}
use lib.IntN.{ℤ, pos, nat_abs, ◌+ℤ◌, ◌*ℤ◌, zero-*ℤ}
use Rattle.integers.specs.Integers.{*ℤ-pos-one}
use Rattle.arithmetic.specs.Outcome.{Outcome, gives, refuses}
use Rattle.arithmetic.specs.Quotient.{◌≈◌, ◌+Q◌, ◌*Q◌}
use Rattle.arithmetic.specs.Fraction.{limit, IsFraction, exact, within, product_of, sum_of, after, add_product_of}
use Rattle.arithmetic.proofs.Meaning.{are_both, exact_unique, product_then_sum}
use Rattle.arithmetic.specs.Laws.{zero_f}
use Rattle.arithmetic.proofs.Laws.{zero_is, sum_zero, product-zero, product_is}
use Rattle.arithmetic.specs.Parts.{over}
use Rattle.arithmetic.specs.declared.Fraction.{Fraction}
use Rattle.arithmetic.proofs.Ways.{on_fractions_lem, read_wide}
use lib.Signed.{mag}
use Rattle.std.proofs.Common.{arith}
use Rattle.std.proofs.lemmas.Int.{ints}
use Rattle.arithmetic.proofs.Lowest.{whole-lowest}

-- a fraction that is a whole number
pub record IsWhole (f : Fraction) : Type 0 where
  pub is : IsFraction f
  pub one : nat_abs f.den ≡ 1

module _ (a b : Fraction) (v : IsWhole a) (w : IsWhole b) where
  pub whole-product_of : product_of a b ≡ within (over (a.num *ℤ b.num) 1)
  whole-product_of =
      on_fractions_lem _ _ (are_both a b (v.is, w.is))
      ∙ ap within (sym (whole-lowest (a.num *ℤ b.num) (exact a *Q exact b) refl (rw (v.one, w.one))))

  pub whole-sum_of : sum_of a b ≡ within (over (a.num +ℤ b.num) 1)
  whole-sum_of =
      on_fractions_lem _ _ (are_both a b (v.is, w.is))
      ∙ ap within (sym (whole-lowest (a.num +ℤ b.num) (exact a +Q exact b) (rw (v.one, w.one, *ℤ-pos-one a.num, *ℤ-pos-one b.num)) (rw (v.one, w.one))))

-- a whole number within the limit, and one that is not
module _ (z : ℤ) where
  pub whole_narrow : nat_abs z ≤ limit → within (over z 1) ≡ gives (record { num = z; den = pos 1 })
  unfolding within
  whole_narrow h = rw (le-leb (nat_abs z) limit h)

  pub whole_wide : limit < nat_abs z → within (over z 1) ≡ refuses 12
  unfolding within
  whole_wide h = rw (lt-leb (nat_abs z) limit h)

-- the sum with another, in 64 bits
pub sum_read : (s z : ℤ) → mag s < 2147483648 → nat_abs z ≤ limit → read_wide (s +ℤ z) ≡ s +ℤ z
sum_read s z h k = omega (arith, ints)

abbrev pub whole_sum : ℤ → ℤ → ℤ → Outcome Fraction
whole_sum s n m = after (within (over (n *ℤ m) 1)) (λ p. within (over (s +ℤ p.num) 1))

pub whole-add : (s a b : Fraction) → IsWhole s → IsWhole a → IsWhole b → whole_sum s.num a.num b.num ≡ add_product_of s a b
whole-add s a b u v w = go (leb (nat_abs (a.num *ℤ b.num)) limit) refl ∙ sym (product_then_sum s a b (u.is, v.is, w.is))
  where
    go : (t : Bool) → leb (nat_abs (a.num *ℤ b.num)) limit ≡ t → whole_sum s.num a.num b.num ≡ after (product_of a b) (sum_of s)
    go true e =
        let z = a.num *ℤ b.num in
        let p : Fraction = record { num = z; den = pos 1 } in
        let g : within (over z 1) ≡ gives p = whole_narrow z (leb-true (nat_abs z) limit e) in
        let product : product_of a b ≡ gives p = whole-product_of a b v w ∙ g in
        ap (λ (o : Outcome Fraction). after o (λ p. within (over (s.num +ℤ p.num) 1))) g
        ∙ sym (whole-sum_of s p u (record { is = product_is a b p product; one = refl }))
        ∙ sym (ap (λ (o : Outcome Fraction). after o (sum_of s)) product)
    go false e =
        let z = a.num *ℤ b.num in
        let g : within (over z 1) ≡ refuses 12 = whole_wide z (leb-false (nat_abs z) limit e) in
        ap (λ (o : Outcome Fraction). after o (λ p. within (over (s.num +ℤ p.num) 1))) g
        ∙ sym (ap (λ (o : Outcome Fraction). after o (sum_of s)) (whole-product_of a b v w ∙ g))

-- ---- a product with 0, added: a numerator 0 is the fraction 0

pub zero_added : (s a b : Fraction) → IsFraction s → IsFraction a → IsFraction b → b.num ≡ pos 0 → add_product_of s a b ≡ gives s
unfolding ◌≈◌
zero_added s a b u v w e =
    let zero : b ≡ zero_f = exact_unique b zero_f w zero_is (rw (e, zero-*ℤ (pos (nat_abs b.den)))) in
    product_then_sum s a b (u, v, w) ∙ ap (λ (g : Fraction). after (product_of a g) (sum_of s)) zero
    ∙ ap (λ (o : Outcome Fraction). after o (sum_of s)) (product-zero a v) ∙ sum_zero s u
