-- What is proved of the definitions in specs/Meaning.antt.
-- Assumes nothing.
use Rattle.std.proofs.Math.Path.{◌≡◌, refl, ap, subst}
use Rattle.std.proofs.Common.{sym, ◌∙◌, ap₂, inl, inr, mul-pos, pos_of_ne-zero, arith}
use Rattle.std.specs.Prelude.{◌↔◌, ◌⊎◌, Bool, not, ◌&&◌, ℕ, ◌<◌, T, eqb, ℤ, pos, negsuc, nat_abs, ◌*ℤ◌, ◌<ℤ◌}
use Rattle.std.proofs.Math.Logic.{⊎_elim}
use Rattle.std.proofs.Math.Bool.{true, false, cond}
use borrow.Author.Tests.{not-true, ltb-true, leb-true, eqb-true, eqb-false, le-leb, lt-ltb, eq-eqb, ne_eqb}
use Rattle.std.proofs.Math.Dec.{leb}
use Rattle.std.specs.Int.Signed.{lt_z, lt_z_no}
use Rattle.integers.specs.Integers.{≤ℤ_antisym}
use Rattle.integers.specs.Gcd.{gcd}
use Rattle.integers.specs.Coprime.{Coprime, coprime_of, coprime_common}
use Rattle.integers.specs.Signs.{with_sign}
use Rattle.arithmetic.specs.Outcome.{Outcome, gives, refuses}
use Rattle.arithmetic.specs.Quotient.{Quotient, ◌≈◌, ◌<Q◌, ◌+Q◌, ◌*Q◌, lowest, floor_q, ceiling_q}
use Rattle.arithmetic.specs.QuotientLaws.{Positive}
use Rattle.arithmetic.proofs.QuotientLaws.{≈_sym, ≈_trans, +Q_cong_right, ≤Q_of_≈, ≤Q_of_<, <Q_clash, lowest_positive, lowest_coprime, lowest_equal, lowest-terms_unique, lowest_is, floor_below, floor_greatest, ceiling_above, ceiling_least}
use Rattle.arithmetic.specs.Fraction.{limit, IsFraction, is_fraction, exact, within, on_fractions, reduced_of, product_of, sum_of, after, add_product_of, order, order_q, compare_of, floor_of, ceiling_of}
use Rattle.arithmetic.specs.declared.Fraction.{Fraction}
use Rattle.std.specs.declared.cmp.Ordering.{Ordering}
use Rattle.std.specs.declared.cmp.Ordering.TheVariants.{Less, Equal, Greater}
use Rattle.arithmetic.specs.Meaning.{TooWide, Means, MeansInTwo, Says, Answers, IsFloor, IsCeiling}

-- ---- the test and the words

pub and-true : (a b : Bool) → a && b ≡ true → (a ≡ true) × (b ≡ true)
and-true true b e = (refl, e)
and-true false b e = absurd (subst (λ (x : Bool). T (not x)) e tt)

pub true_and : (a b : Bool) → a ≡ true → b ≡ true → a && b ≡ true
true_and a b e f = rw (e, f)

pub fraction_is : (f : Fraction) → is_fraction f ≡ true → IsFraction f
unfolding is_fraction
fraction_is f e =
    let a = lt_z (pos 0) f.den in
    let b = leb (nat_abs f.num) limit in
    let c = leb (nat_abs f.den) limit in
    let d = eqb (gcd (nat_abs f.num) (nat_abs f.den)) 1 in
    let p = and-true a (b && (c && d)) e in
    let q = and-true b (c && d) p.1 in
    let r = and-true c d q.1 in
    record {
      positive = record { lt = subst T (sym p.0) tt };
      num_within = leb-true _ _ q.0;
      den_within = leb-true _ _ r.0;
      lowest-terms = λ k. coprime_common (nat_abs f.num) (nat_abs f.den) k (eqb-true _ _ r.1);
    }

-- in lowest terms: the greatest common divisor is 1
pub parts_coprime : (f : Fraction) → IsFraction f → Coprime (nat_abs f.num) (nat_abs f.den)
parts_coprime f v = coprime_of (nat_abs f.num) (nat_abs f.den) v.lowest-terms

pub truth : (b : Bool) → T b → b ≡ true
truth true t = refl
truth false t = absurd t

pub is_fraction_lem : (f : Fraction) → IsFraction f → is_fraction f ≡ true
unfolding is_fraction
is_fraction_lem f v =
    rw (truth (lt_z (pos 0) f.den) v.positive.lt, le-leb (nat_abs f.num) limit v.num_within, le-leb (nat_abs f.den) limit v.den_within, eq-eqb _ 1 (parts_coprime f v))

-- a fraction's denominator is its magnitude, and positive
pub den_is : (f : Fraction) → IsFraction f → f.den ≡ pos (nat_abs f.den)
den_is f v = go f.den v.positive
  where
    go : (z : ℤ) → pos 0 <ℤ z → z ≡ pos (nat_abs z)
    go (pos n) h = refl
    go (negsuc n) h = absurd h.lt

pub exact_positive : (f : Fraction) → IsFraction f → Positive (exact f)
exact_positive f v = go f.den v.positive
  where
    go : (z : ℤ) → pos 0 <ℤ z → 0 < nat_abs z
    go (pos n) h = ltb-true 0 n (truth _ h.lt)
    go (negsuc n) h = absurd h.lt

-- fractions that stand for one rational number are one
pub exact_unique : (f g : Fraction) → IsFraction f → IsFraction g → exact f ≈ exact g → f ≡ g
exact_unique f g v w e =
    let same : exact f ≡ exact g = lowest-terms_unique (exact f) (exact g) (exact_positive f v) (exact_positive g w) (parts_coprime f v) (parts_coprime g w) e in
    let nums : f.num ≡ g.num = ap (λ (x : Quotient). x.top) same in
    let dens : f.den ≡ g.den = den_is f v ∙ ap (λ (x : Quotient). pos x.bottom) same ∙ sym (den_is g w) in
    ap₂ {A = ℤ} {B = ℤ} {C = Fraction} (λ n d. record { num = n; den = d }) nums dens

-- ---- products and sums

module _ (x : Quotient) (h : Positive x) where
  abbrev low : Quotient
  low = lowest x

  abbrev made : Fraction
  made = record { num = low.top; den = pos low.bottom }

  made_is : leb (nat_abs low.top) limit && leb low.bottom limit ≡ true → IsFraction made
  made_is e =
      let p = and-true (leb (nat_abs low.top) limit) (leb low.bottom limit) e in
      record {
        positive = record { lt = subst T (sym (lt-ltb 0 low.bottom (lowest_positive x h))) tt };
        num_within = leb-true _ _ p.0;
        den_within = leb-true _ _ p.1;
        lowest-terms = λ k. coprime_common (nat_abs low.top) low.bottom k (lowest_coprime x h);
      }

  -- a fraction that is given is one, and equals x
  pub within_sound : (f : Fraction) → within (lowest x) ≡ gives f → IsFraction f × (exact f ≈ x)
  unfolding within
  within_sound f e = go (leb (nat_abs low.top) limit && leb low.bottom limit) refl e
    where
      go : (t : Bool) → leb (nat_abs low.top) limit && leb low.bottom limit ≡ t → cond t (gives made) (refuses 12) ≡ gives f → IsFraction f × (exact f ≈ x)
      go true n e = let same : made ≡ f = cc in subst (λ (f : Fraction). IsFraction f × (exact f ≈ x)) same (made_is n, lowest_equal x h)
      go false n e = let z : ◌≡◌ {A = ℕ} 0 1 = cc in absurd (omega arith)

  -- a fraction that equals x is given
  pub within_complete : (f : Fraction) → IsFraction f → exact f ≈ x → within (lowest x) ≡ gives f
  unfolding within
  within_complete f v e =
      let same : low ≡ exact f = lowest_is x (exact f) h (exact_positive f v) (parts_coprime f v) e in
      rw (same, le-leb (nat_abs f.num) limit v.num_within, le-leb (nat_abs f.den) limit v.den_within, ← den_is f v)

  -- 12 is all that is ever refused, ..
  pub within_else : within (lowest x) ≡ refuses 12 → (f : Fraction) → IsFraction f → exact f ≈ x → ⊥
  within_else e f v q = let g : within (lowest x) ≡ gives f = within_complete f v q in let z : ◌≡◌ {A = ℕ} 0 1 = cc in omega arith

  -- .. and it is where no fraction equals x
  pub within_none : ((f : Fraction) → IsFraction f → exact f ≈ x → ⊥) → within (lowest x) ≡ refuses 12
  unfolding within
  within_none none = go (leb (nat_abs low.top) limit && leb low.bottom limit) refl
    where
      go : (t : Bool) → leb (nat_abs low.top) limit && leb low.bottom limit ≡ t → cond t (gives made) (refuses 12) ≡ refuses 12
      go true n = absurd (none made (made_is n) (lowest_equal x h))
      go false n = refl

apart : {A : Type 0} (o : Outcome A) (n : ℕ) (a : A) → o ≡ refuses n → o ≡ gives a → ⊥
apart o n a e f = let z : ◌≡◌ {A = ℕ} 0 1 = cc in omega arith

-- `within` gives a fraction or refuses with 12
within-says : (x : Quotient) → ((f : Fraction) × (within x ≡ gives f)) ⊎ (within x ≡ refuses 12)
unfolding within
within-says x = go (leb (nat_abs x.top) limit && leb x.bottom limit)
  where
    made_of : Fraction
    made_of = record { num = x.top; den = pos x.bottom }

    go : (t : Bool) → ((f : Fraction) × (cond t (gives made_of) (refuses 12) ≡ gives f)) ⊎ (cond t (gives made_of) (refuses 12) ≡ refuses 12)
    go true = inl (made_of, refl)
    go false = inr refl

within-not_4 : (x : Quotient) → within x ≡ refuses 4 → ⊥
within-not_4 x e = ⊎_elim (λ g. apart (within x) 4 g.0 e g.1) (λ r. let z : ◌≡◌ {A = ℕ} 12 4 = cc in omega arith) (within-says x)

no_operands : {Operands : Type 0} → (false ≡ true) ↔ Operands → Operands → ⊥
no_operands e v = subst (λ (x : Bool). T (not x)) (e.1 v) tt

means : {Operands : Type 0} (t : Bool) (x : Quotient) → (t ≡ true) ↔ Operands → (Operands → Positive x) → Means Operands x (on_fractions t (within (lowest x)))
unfolding on_fractions
means true x e h =
    let v = e.0 refl in
    record {
      refuses_4 = ((λ r. absurd (within-not_4 (lowest x) r)), λ n. absurd (n v));
      gives_exactly = λ f. ((λ r. (v, within_sound x (h v) f r)), λ p. within_complete x (h v) f p.1.0 p.1.1);
      refuses_12 = ((λ r. (v, within_else x (h v) r)), λ p. within_none x (h v) p.1);
    }
means false x e h =
    record {
      refuses_4 = ((λ r. no_operands e), λ n. refl);
      gives_exactly = λ f. ((λ r. absurd (apart (refuses 4) 4 f refl r)), λ p. absurd (no_operands e p.0));
      refuses_12 = ((λ r. absurd (let z : ◌≡◌ {A = ℕ} 4 12 = cc in omega arith)), λ p. absurd (no_operands e p.0));
    }

pub both_are : (a b : Fraction) → is_fraction a && is_fraction b ≡ true → IsFraction a × IsFraction b
both_are a b e = let p = and-true (is_fraction a) (is_fraction b) e in (fraction_is a p.0, fraction_is b p.1)

pub are_both : (a b : Fraction) → IsFraction a × IsFraction b → is_fraction a && is_fraction b ≡ true
are_both a b v = true_and (is_fraction a) (is_fraction b) (is_fraction_lem a v.0) (is_fraction_lem b v.1)

pub product-means : (a b : Fraction) → Means (IsFraction a × IsFraction b) (exact a *Q exact b) (product_of a b)
product-means a b =
    means (is_fraction a && is_fraction b) (exact a *Q exact b) (both_are a b, are_both a b)
    (λ v. mul-pos (exact_positive a v.0) (exact_positive b v.1))

pub sum_means : (a b : Fraction) → Means (IsFraction a × IsFraction b) (exact a +Q exact b) (sum_of a b)
sum_means a b =
    means (is_fraction a && is_fraction b) (exact a +Q exact b) (both_are a b, are_both a b)
    (λ v. mul-pos (exact_positive a v.0) (exact_positive b v.1))

-- n / d, where d is not 0: the fraction that equals it, or 12 where none does
pub reduced_means : (negative : Bool) (n d : ℕ) → Means (0 < d) (record { top = with_sign negative n; bottom = d }) (reduced_of negative n d)
reduced_means negative n d =
    means (not (eqb d 0)) (record { top = with_sign negative n; bottom = d })
    ((λ e. pos_of_ne-zero (eqb-false d 0 (not-true (eqb d 0) e))), λ h. ap not (ne_eqb d 0 (λ z. omega arith))) (λ h. h)

module _ (s a b : Fraction) where
  abbrev pub All : Type 0
  All = IsFraction s × IsFraction a × IsFraction b

  abbrev pub all : Bool
  all = is_fraction s && (is_fraction a && is_fraction b)

  pub all_are : all ≡ true → All
  all_are e =
      let p = and-true (is_fraction s) (is_fraction a && is_fraction b) e in
      let q = both_are a b p.1 in
      (fraction_is s p.0, q.0, q.1)

  are_all : All → all ≡ true
  are_all v = true_and (is_fraction s) (is_fraction a && is_fraction b) (is_fraction_lem s v.0) (are_both a b (v.1, v.2))

  -- where all three are fractions, the product and then the sum
  pub product_then_sum : All → add_product_of s a b ≡ after (product_of a b) (sum_of s)
  unfolding on_fractions
  product_then_sum v =
      let worked = after (product_of a b) (sum_of s) in
      subst (λ (t : Bool). on_fractions t worked ≡ worked) (sym (are_all v)) refl

  abbrev product : Quotient
  product = exact a *Q exact b

  -- a fraction that equals the product stands for it in the sum
  module _ (v : All) (p : Fraction) (w : IsFraction p) (e : exact p ≈ product) where
    same_sum : (exact s +Q exact p) ≈ (exact s +Q product)
    same_sum = +Q_cong_right (exact p) product (exact s) e

    with_product : (f : Fraction) → (exact f ≈ (exact s +Q exact p)) ↔ (exact f ≈ (exact s +Q product))
    with_product f = (
      (λ q. ≈_trans (exact f) (exact s +Q exact p) (exact s +Q product) (mul-pos (exact_positive s v.0) (exact_positive p w)) q same_sum),
      λ q. ≈_trans (exact f) (exact s +Q product) (exact s +Q exact p) (mul-pos (exact_positive s v.0) (mul-pos (exact_positive a v.1) (exact_positive b v.2))) q (≈_sym (exact s +Q exact p) (exact s +Q product) same_sum),
    )

    fits : (o : Outcome Fraction) → o ≡ sum_of s p → MeansInTwo All product (exact s +Q product) o
    fits o same =
        let m = sum_means s p in
        record {
          refuses_4 = ((λ r. absurd (m.refuses_4.0 (sym same ∙ r) (v.0, w))), λ n. absurd (n v));
          gives_exactly = λ f. (
            (λ r. let q = ((m.gives_exactly f).0 (sym same ∙ r)).1 in (v, (p, w, e), (q.0, (with_product f).0 q.1))),
            λ q. same ∙ (m.gives_exactly f).1 ((v.0, w), (q.2.0, (with_product f).1 q.2.1)),
          );
          refuses_12 = (
            (λ r. (v, inr (λ f i q. (m.refuses_12.0 (sym same ∙ r)).1 f i ((with_product f).1 q)))),
            λ q. same ∙ m.refuses_12.1 ((v.0, w), λ f i r. ⊎_elim (λ wide. wide p w e) (λ wide. wide f i ((with_product f).0 r)) q.1),
          );
        }

  -- no fraction equals the product
  wide : All → TooWide product → (o : Outcome Fraction) → o ≡ refuses 12 → MeansInTwo All product (exact s +Q product) o
  wide v none o same =
      record {
        refuses_4 = ((λ r. absurd (let z : ◌≡◌ {A = ℕ} 12 4 = cc in omega arith)), λ n. absurd (n v));
        gives_exactly = λ f. ((λ r. absurd (apart o 12 f same r)), λ q. absurd (none q.1.0 q.1.1 q.1.2));
        refuses_12 = ((λ r. (v, inl none)), λ q. same);
      }

  -- one of the three is no fraction
  refused : (All → ⊥) → (o : Outcome Fraction) → o ≡ refuses 4 → MeansInTwo All product (exact s +Q product) o
  refused not-all o same =
      record {
        refuses_4 = ((λ r. not-all), λ n. same);
        gives_exactly = λ f. ((λ r. absurd (apart o 4 f same r)), λ q. absurd (not-all q.0));
        refuses_12 = ((λ r. absurd (let z : ◌≡◌ {A = ℕ} 4 12 = cc in omega arith)), λ q. absurd (not-all q.0));
      }

  pub add-product-means : MeansInTwo All product (exact s +Q product) (add_product_of s a b)
  unfolding on_fractions
  add-product-means = go all refl
    where
      known : All → MeansInTwo All product (exact s +Q product) (add_product_of s a b)
      known v =
          let worked : product_of a b ≡ within (lowest product) = rw (are_both a b (v.1, v.2)) in
          let then : (o : Outcome Fraction) → within (lowest product) ≡ o → add_product_of s a b ≡ after o (sum_of s) = λ o e. product_then_sum v ∙ ap (λ (o : Outcome Fraction). after o (sum_of s)) (worked ∙ e) in
          ⊎_elim
          (λ g. let q = (((product-means a b).gives_exactly g.0).0 (worked ∙ g.1)).1 in fits v g.0 q.0 q.1 (add_product_of s a b) (then (gives g.0) g.1))
          (λ r. wide v ((product-means a b).refuses_12.0 (worked ∙ r)).1 (add_product_of s a b) (then (refuses 12) r))
          (within-says (lowest product))

      go : (t : Bool) → all ≡ t → MeansInTwo All product (exact s +Q product) (add_product_of s a b)
      go true e = known (all_are e)
      go false e = refused (λ v. no_operands ((λ z. v), λ w. sym e ∙ are_all w) v) (add_product_of s a b) (rw e)

pub order-says : (x y : Quotient) → Says x y (order_q x y)
unfolding order ◌<Q◌ ◌≈◌
order-says x y = go (lt_z p q) refl (lt_z q p) refl
  where
    p : ℤ
    p = x.top *ℤ pos y.bottom

    q : ℤ
    q = y.top *ℤ pos x.bottom

    go : (t : Bool) → lt_z p q ≡ t → (u : Bool) → lt_z q p ≡ u → Says x y (cond t Less (cond u Greater Equal))
    go true e u f = record { lt = subst T (sym e) tt }
    go false e true f = record { lt = subst T (sym f) tt }
    go false e false f = ≤ℤ_antisym p q (lt_z_no (subst (λ (b : Bool). T (not b)) (sym f) tt)) (lt_z_no (subst (λ (b : Bool). T (not b)) (sym e) tt))

-- only one of the three holds
pub order_only : (x y : Quotient) (o s : Ordering) → Says x y o → Says x y s → o ≡ s
order_only x y Less Less h k = refl
order_only x y Less Equal h k = absurd (<Q_clash x y h (≤Q_of_≈ y x (≈_sym x y k)))
order_only x y Less Greater h k = absurd (<Q_clash x y h (≤Q_of_< y x k))
order_only x y Equal Less h k = absurd (<Q_clash x y k (≤Q_of_≈ y x (≈_sym x y h)))
order_only x y Equal Equal h k = refl
order_only x y Equal Greater h k = absurd (<Q_clash y x k (≤Q_of_≈ x y h))
order_only x y Greater Less h k = absurd (<Q_clash y x h (≤Q_of_< x y k))
order_only x y Greater Equal h k = absurd (<Q_clash y x h (≤Q_of_≈ x y k))
order_only x y Greater Greater h k = refl

-- of a result that is worked out, and is the only one
answers : {A Operands : Type 0} {Result : A → Type 0} (t : Bool) (result : A) → (t ≡ true) ↔ Operands → (Operands → Result result)
    → (Operands → (r : A) → Result r → result ≡ r) → Answers Operands Result (on_fractions t (gives result))
unfolding on_fractions
answers {Result = Result} true result e is only =
    let v = e.0 refl in
    record {
      refuses_4 = ((λ r. absurd (apart (gives result) 4 result r refl)), λ n. absurd (n v));
      gives_it = λ s. ((λ r. (v, let same : result ≡ s = cc in subst Result same (is v))), λ p. ap gives (only v s p.1));
      never_12 = λ r. apart (gives result) 12 result r refl;
    }
answers false result e is only =
    record {
      refuses_4 = ((λ r. no_operands e), λ n. refl);
      gives_it = λ s. ((λ r. absurd (apart (refuses 4) 4 s refl r)), λ p. absurd (no_operands e p.0));
      never_12 = λ r. let z : ◌≡◌ {A = ℕ} 4 12 = cc in omega arith;
    }

pub compare_answers : (a b : Fraction) → Answers (IsFraction a × IsFraction b) (Says (exact a) (exact b)) (compare_of a b)
compare_answers a b =
    let x = exact a in
    let y = exact b in
    answers (is_fraction a && is_fraction b) (order_q x y) (both_are a b, are_both a b) (λ v. order-says x y) (λ v r. order_only x y (order_q x y) r (order-says x y))

pub floor_is : (x : Quotient) → Positive x → IsFloor x (floor_q x)
floor_is x h = record { below = floor_below x h; greatest = floor_greatest x h }

pub ceiling_is : (x : Quotient) → Positive x → IsCeiling x (ceiling_q x)
ceiling_is x h = record { above = ceiling_above x h; least = ceiling_least x h }

-- there is one
pub floor_one : (x : Quotient) (y z : ℤ) → IsFloor x y → IsFloor x z → y ≡ z
floor_one x y z f g = ≤ℤ_antisym y z (g.greatest y f.below) (f.greatest z g.below)

pub ceiling_one : (x : Quotient) (y z : ℤ) → IsCeiling x y → IsCeiling x z → y ≡ z
ceiling_one x y z f g = ≤ℤ_antisym y z (f.least z g.above) (g.least y f.above)

pub floor_answers : (a : Fraction) → Answers (IsFraction a) (IsFloor (exact a)) (floor_of a)
floor_answers a =
    let x = exact a in
    answers (is_fraction a) (floor_q x) (fraction_is a, is_fraction_lem a) (λ v. floor_is x (exact_positive a v))
    (λ v z. floor_one x (floor_q x) z (floor_is x (exact_positive a v)))

pub ceiling_answers : (a : Fraction) → Answers (IsFraction a) (IsCeiling (exact a)) (ceiling_of a)
ceiling_answers a =
    let x = exact a in
    answers (is_fraction a) (ceiling_q x) (fraction_is a, is_fraction_lem a) (λ v. ceiling_is x (exact_positive a v))
    (λ v z. ceiling_one x (ceiling_q x) z (ceiling_is x (exact_positive a v)))
