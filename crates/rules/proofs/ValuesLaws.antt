-- The tests of `Values` decide its words; a product or a sum is given exactly if it is one within the limit, and 12 exactly if
-- there is none.
-- Assumes nothing.
use Rattle.std.specs.Prelude.{◌≡◌, refl, Bool, true, false, not, ◌↔◌, ℕ, T, ℤ, pos, negsuc, nat_abs, ◌<ℤ◌}
use Rattle.std.proofs.Math.Path.{sym}
use Rattle.std.proofs.Common.{◌∙◌, ap, subst, ⊎_elim, arith}
use Rattle.std.proofs.Math.Logic.Iff.{trans as iff_trans}
use Rattle.std.proofs.Math.Nat.{eq-one_of_dvd-one}
use Rattle.std.proofs.Math.IntN.{zero-*ℤ}
use Rattle.std.specs.Int.Signed.{lt_z}
use Rattle.integers.specs.Integers.{*ℤ-pos-one}
use Rattle.integers.specs.Gcd.{gcd_right}
use Rattle.arithmetic.specs.Outcome.{Outcome, gives, refuses}
use Rattle.arithmetic.specs.Quotient.{Quotient, ◌≈◌, ◌≤Q◌, ◌<Q◌, whole_q}
use Rattle.arithmetic.proofs.QuotientLaws.{≈_refl, ≈_sym, ≤Q-total, ≤Q_of_≈, ≤Q_of_<, <Q_clash, lowest-terms_unique}
use Rattle.arithmetic.specs.Fraction.{IsFraction, exact, order_q, product_of, sum_of, compare_of}
use Rattle.arithmetic.specs.Meaning.{Says}
use Rattle.arithmetic.proofs.Meaning.{product-means, sum_means, order-says, compare_answers, den_is, parts_coprime, exact_positive, exact_unique}
use Rattle.arithmetic.specs.declared.Fraction.{Fraction}
use Rattle.std.specs.declared.cmp.Ordering.{Ordering}
use Rattle.std.specs.declared.cmp.Ordering.TheVariants.{Less, Equal, Greater}
use Rattle.rules.specs.Tests.{Decides}
use Rattle.rules.proofs.Tests.{not-true, decides_as, decides_equal, decides_not}
use Rattle.rules.specs.Result.{refused, Gives}
use Rattle.rules.proofs.Result.{no_value, done_same}
use Rattle.rules.specs.Values.{Whole, same_z, is_whole, zero_q, is_zero, is_positive, is_negative, Compared, AtMost, Same, not_greater, is_equal, passes, is_at_most, is_same, IsProduct, IsSum, within12, product_at, sum_at}

-- ---- integers

pub decides_same_integer : (x y : ℤ) → Decides (same_z x y) (x ≡ y)
decides_same_integer (pos a) (pos b) = decides_as (ap pos) (λ e. cc) (decides_equal a b)
decides_same_integer (pos a) (negsuc b) = ((λ e. not-true e), λ e. absurd (let z : ◌≡◌ {A = ℕ} 0 1 = cc in omega arith))
decides_same_integer (negsuc a) (pos b) = ((λ e. not-true e), λ e. absurd (let z : ◌≡◌ {A = ℕ} 0 1 = cc in omega arith))
decides_same_integer (negsuc a) (negsuc b) = decides_as (ap negsuc) (λ e. cc) (decides_equal a b)

decides_truth : (b : Bool) → Decides b (T b)
decides_truth true = ((λ e. tt), λ t. refl)
decides_truth false = ((λ e. not-true e), λ t. absurd t)

pub decides_less : (x y : ℤ) → Decides (lt_z x y) (x <ℤ y)
decides_less x y = decides_as (λ t. record { lt = t }) (λ h. h.lt) (decides_truth (lt_z x y))

-- ---- whole values

pub decides_whole : (f : Fraction) → Decides (is_whole f) (Whole f)
decides_whole f =
    decides_as (λ e. (f.num, λ i. record { num = f.num; den = e i })) (λ w. ap (λ (g : Fraction). g.den) w.1)
    (decides_same_integer f.den (pos 1))

-- a fraction is whole exactly if the rational number that it stands for is
pub whole-exact : (f : Fraction) → IsFraction f → Whole f ↔ ((z : ℤ) × (exact f ≈ whole_q z))
whole-exact f v = (to, from)
  where
    to : Whole f → (z : ℤ) × (exact f ≈ whole_q z)
    to w = (w.0, subst (λ (g : Fraction). exact g ≈ whole_q w.0) (sym w.1) (≈_refl (whole_q w.0)))

    from : (z : ℤ) × (exact f ≈ whole_q z) → Whole f
    from w =
        let one : exact f ≡ whole_q w.0 = lowest-terms_unique (exact f) (whole_q w.0) (exact_positive f v) (omega arith) (parts_coprime f v) (eq-one_of_dvd-one (gcd_right (nat_abs w.0) 1)) w.1 in
        (decides_whole f).0 ((decides_same_integer f.den (pos 1)).1 (den_is f v ∙ ap (λ (x : Quotient). pos x.bottom) one))

-- ---- signs

module _ (x : Quotient) where
  pub decides_zero : Decides (is_zero x) (x ≈ zero_q)
  unfolding ◌≈◌
  decides_zero =
      decides_as (λ e. *ℤ-pos-one x.top ∙ e ∙ sym (zero-*ℤ (pos x.bottom))) (λ e. sym (*ℤ-pos-one x.top) ∙ e ∙ zero-*ℤ (pos x.bottom))
      (decides_same_integer x.top (pos 0))

  pub decides_positive : Decides (is_positive x) (zero_q <Q x)
  unfolding ◌<Q◌
  decides_positive = rw (zero-*ℤ (pos x.bottom), *ℤ-pos-one x.top) (decides_less (pos 0) x.top)

  pub decides_negative : Decides (is_negative x) (x <Q zero_q)
  unfolding ◌<Q◌
  decides_negative = rw (zero-*ℤ (pos x.bottom), *ℤ-pos-one x.top) (decides_less x.top (pos 0))

pub decides_not_less : (x y : Quotient) (t : Bool) → Decides t (x <Q y) → Decides (not t) (y ≤Q x)
decides_not_less x y t d =
    decides_as (λ f. ⊎_elim (λ h. h) (λ h. absurd (f h)) (≤Q-total y x)) (λ h k. <Q_clash x y k h) (decides_not t d)

-- ---- comparisons

module _ (a b : Fraction) where
  decides_compared : (test : Ordering → Bool) (R : Quotient → Quotient → Type 0)
      → ((o : Ordering) → Says (exact a) (exact b) o → Decides (test o) (R (exact a) (exact b)))
      → Decides (passes test (compare_of a b)) (Compared R a b)
  decides_compared test R d = (holds, enough)
    where
      result : Ordering
      result = order_q (exact a) (exact b)

      holds : passes test (compare_of a b) ≡ true → Compared R a b
      holds = go (compare_of a b) refl
        where
          go : (o : Outcome Ordering) → compare_of a b ≡ o → passes test o ≡ true → Compared R a b
          go (gives o) e t =
              let p = ((compare_answers a b).gives_it o).0 e in
              record { fractions = p.0; compared = (d o p.1).0 t }
          go (refuses n) e t = not-true t

      enough : Compared R a b → passes test (compare_of a b) ≡ true
      enough c =
          ap (passes test) (((compare_answers a b).gives_it (order_q (exact a) (exact b))).1 (c.fractions, order-says (exact a) (exact b)))
          ∙ (d (order_q (exact a) (exact b)) (order-says (exact a) (exact b))).1 c.compared

  pub decides_at_most : Decides (is_at_most a b) (AtMost a b)
  decides_at_most = decides_compared not_greater ◌≤Q◌ go
    where
      go : (o : Ordering) → Says (exact a) (exact b) o → Decides (not_greater o) (exact a ≤Q exact b)
      go Less s = ((λ t. ≤Q_of_< (exact a) (exact b) s), λ h. refl)
      go Equal s = ((λ t. ≤Q_of_≈ (exact a) (exact b) s), λ h. refl)
      go Greater s = ((λ t. not-true t), λ h. absurd (<Q_clash (exact b) (exact a) s h))

  pub decides_same : Decides (is_same a b) (Same a b)
  decides_same = decides_compared is_equal ◌≈◌ go
    where
      go : (o : Ordering) → Says (exact a) (exact b) o → Decides (is_equal o) (exact a ≈ exact b)
      go Less s = ((λ t. not-true t), λ h. absurd (<Q_clash (exact a) (exact b) s (≤Q_of_≈ (exact b) (exact a) (≈_sym (exact a) (exact b) h))))
      go Equal s = ((λ t. s), λ h. refl)
      go Greater s = ((λ t. not-true t), λ h. absurd (<Q_clash (exact b) (exact a) s (≤Q_of_≈ (exact a) (exact b) h)))

-- values that are the same are one
pub same-one : (a b : Fraction) → Same a b → a ≡ b
same-one a b s = exact_unique a b s.fractions.0 s.fractions.1 s.compared

-- ---- products and sums

gives_within : (place : ℕ) (o : Outcome Fraction) → Gives (within12 place o) (λ f. o ≡ gives f)
gives_within place (gives g) f = ((λ e. ap gives (done_same e)), λ e. cc)
gives_within place (refuses n) f = ((λ e. no_value e), λ e. absurd (let z : ◌≡◌ {A = ℕ} 0 1 = cc in omega arith))

-- 12 exactly where nothing is given
within-refused : (place : ℕ) (o : Outcome Fraction) → (within12 place o ≡ refused 12 place) ↔ ((f : Fraction) → o ≡ gives f → ⊥)
within-refused place (gives g) = ((λ e. no_value (sym e)), λ none. absurd (none g refl))
within-refused place (refuses n) = ((λ e f g. absurd (let z : ◌≡◌ {A = ℕ} 0 1 = cc in omega arith)), λ none. refl)

module _ (place : ℕ) (a b : Fraction) where
  pub gives_product : Gives (product_at place a b) (IsProduct a b)
  gives_product f = iff_trans (gives_within place (product_of a b) f) ((product-means a b).gives_exactly f)

  pub gives_sum : Gives (sum_at place a b) (IsSum a b)
  gives_sum f = iff_trans (gives_within place (sum_of a b) f) ((sum_means a b).gives_exactly f)

  pub product_too_wide : (product_at place a b ≡ refused 12 place) ↔ ((p : Fraction) → IsProduct a b p → ⊥)
  product_too_wide =
      let r = within-refused place (product_of a b) in
      ((λ e p h. r.0 e p (((product-means a b).gives_exactly p).1 h)), λ none. r.1 (λ p e. none p (((product-means a b).gives_exactly p).0 e)))

  pub sum_too_wide : (sum_at place a b ≡ refused 12 place) ↔ ((s : Fraction) → IsSum a b s → ⊥)
  sum_too_wide =
      let r = within-refused place (sum_of a b) in
      ((λ e s h. r.0 e s (((sum_means a b).gives_exactly s).1 h)), λ none. r.1 (λ s e. none s (((sum_means a b).gives_exactly s).0 e)))
