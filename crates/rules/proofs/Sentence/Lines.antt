-- Left sides at a point, scaled to whole numbers: of a term list, and of the coefficients of a constraint.
-- Assumes nothing.
use Rattle.std.specs.Prelude.{◌≡◌, refl, Bool, true, false, cond, List, [], ◌∷◌, ◌↔◌, ℕ, zero, suc, ◌*◌, ◌<◌, eqb, ℤ, pos, ◌+ℤ◌, ◌*ℤ◌}
use Rattle.std.proofs.Common.{sym, ◌∙◌, ap, subst, mul-pos, arith, eqb-true, ne_eqb}
use Rattle.std.proofs.lemmas.Bool.{eqb-false}
use Rattle.std.proofs.Math.IntN.{*ℤ-zero, zero-*ℤ, +ℤ_idr, +ℤ_assoc, +ℤ_comm}
use Rattle.integers.specs.Integers.{ring, *ℤ_assoc, +ℤ_cancel}
use Rattle.arithmetic.specs.Quotient.{◌*Q◌}
use Rattle.arithmetic.specs.QuotientLaws.{Positive}
use Rattle.arithmetic.specs.Fraction.{IsFraction, exact}
use Rattle.arithmetic.specs.Laws.{zero_f}
use Rattle.arithmetic.proofs.Laws.{zero_is}
use Rattle.arithmetic.specs.declared.Fraction.{Fraction}
use Rattle.grammar.specs.Tree.{Term, Sense}
use Rattle.rules.specs.Tests.{All, EveryBelow}
use Rattle.rules.specs.Result.{Through}
use Rattle.rules.specs.Rows.{value_in}
use Rattle.rules.specs.Combinations.{with_coefficient, AddsMultiple}
use Rattle.rules.specs.Sentence.Points.{Point, coordinate, value_at, Compares}
use Rattle.rules.specs.Sentence.Formed.{Formed}
use Rattle.rules.proofs.Sentence.Senses.{Rel}
use Rattle.rules.proofs.Sentence.Scale.{Scales, scales_sum, scales_product, scales_times, scales_whole, compares_scaled, common, common_positive, scaled, FairBy, Fair, fair, scaled-zero, sum_scaled, product-scaled}

-- ---- values in a term list

pub value_fraction : (n : ℕ) (ts : List Term) → Formed n ts → (v : ℕ) → IsFraction (value_in ts v)
unfolding value_in
value_fraction n [] h v = zero_is
value_fraction n (t ∷ ts) h v = go (eqb t.variable v) (value_fraction n ts h.1.1 v)
  where
    go : (b : Bool) → IsFraction (value_in ts v) → IsFraction (cond b t.coefficient (value_in ts v))
    go true r = h.0.0
    go false r = r

-- a variable that is not listed has the value 0
unlisted : (v : ℕ) (ts : List Term) → All (λ (u : Term). v ≡ u.variable → ⊥) ts → value_in ts v ≡ zero_f
unfolding value_in
unlisted v [] h = refl
unlisted v (t ∷ ts) h = rw (ne_eqb t.variable v (λ e. h.0 (sym e))) (unlisted v ts h.1)

-- one more term is another coefficient for its variable
value_with : (t : Term) (ts : List Term) (v : ℕ) → value_in (t ∷ ts) v ≡ with_coefficient t.variable t.coefficient (value_in ts) v
unfolding value_in
value_with t ts v = refl

other : (v w : ℕ) (g : Fraction) (f : ℕ → Fraction) → (v ≡ w → ⊥) → with_coefficient v g f w ≡ f w
other v w g f h = rw (ne_eqb v w h)

module _ (x : Point) where
  abbrev X : ℕ → ℤ
  X v = x.numerator v

  -- the sum of a term list, by a whole number for each coefficient; by `scaled`; and that of the coefficients of n variables
  abbrev pub sum_by : (Fraction → ℤ) → List Term → ℤ
  sum_by times [] = pos 0
  sum_by times (t ∷ ts) = times t.coefficient *ℤ X t.variable +ℤ sum_by times ts

  abbrev pub weight : List Term → ℤ
  weight ts = sum_by scaled ts

  abbrev pub line : ℕ → (ℕ → Fraction) → ℤ
  line zero f = pos 0
  line (suc n) f = line n f +ℤ scaled (f n) *ℤ X n

  -- ---- a term list at the point

  module _ (k : ℕ) (times : Fraction → ℤ) where
    abbrev pub FairTerms : List Term → Type 0
    FairTerms ts = All (λ (t : Term). FairBy k times t.coefficient) ts

    value_positive : (ts : List Term) → FairTerms ts → Positive (value_at ts x)
    value_positive [] h = omega arith
    value_positive (t ∷ ts) h = mul-pos (mul-pos h.0.positive x.positive) (value_positive ts h.1)

    value_scales : (ts : List Term) → FairTerms ts → Scales (k * x.denominator) (value_at ts x) (sum_by times ts)
    value_scales [] h = ap (λ (z : ℤ). z *ℤ pos 1) (sym (zero-*ℤ (pos (k * x.denominator)))) ∙ scales_whole (k * x.denominator) (pos 0)
    value_scales (t ∷ ts) h =
        scales_sum (k * x.denominator) (exact t.coefficient *Q coordinate x t.variable) (value_at ts x) (times t.coefficient *ℤ X t.variable) (sum_by times ts)
        (scales_product k x.denominator (exact t.coefficient) (coordinate x t.variable) (times t.coefficient) (X t.variable) h.0.scales refl)
        (value_scales ts h.1)

    -- a left side compares with a value as these whole numbers do
    pub sum_compares : 0 < k → (s : Sense) (ts : List Term) (b : Fraction) → FairTerms ts → FairBy k times b → Compares s (value_at ts x) (exact b) ↔ Rel s (sum_by times ts) (times b *ℤ pos x.denominator)
    sum_compares p s ts b h v =
        compares_scaled s (k * x.denominator) (value_at ts x) (exact b) (sum_by times ts) (times b *ℤ pos x.denominator) (mul-pos p x.positive) (value_positive ts h) v.positive
        (value_scales ts h) (scales_times k x.denominator (exact b) (times b) v.scales)

  formed_fair : (n : ℕ) (ts : List Term) → Formed n ts → FairTerms common scaled ts
  formed_fair n [] h = tt
  formed_fair n (t ∷ ts) h = (fair t.coefficient h.0.0, formed_fair n ts h.1.1)

  pub terms_compare : (s : Sense) (n : ℕ) (ts : List Term) (b : Fraction) → Formed n ts → Fair b → Compares s (value_at ts x) (exact b) ↔ Rel s (weight ts) (scaled b *ℤ pos x.denominator)
  terms_compare s n ts b h v = sum_compares common scaled common_positive s ts b (formed_fair n ts h) v

  -- ---- coefficients

  pub line_same : (n : ℕ) (f g : ℕ → Fraction) → EveryBelow n (λ v. scaled (f v) ≡ scaled (g v)) → line n f ≡ line n g
  line_same zero f g h = refl
  line_same (suc n) f g h = rw (line_same n f g (λ v k. h v (omega arith)), h n (omega arith))

  pub line-zero : (n : ℕ) (f : ℕ → Fraction) → EveryBelow n (λ v. scaled (f v) ≡ pos 0) → line n f ≡ pos 0
  line-zero zero f h = refl
  line-zero (suc n) f h = rw (line-zero n f (λ v k. h v (omega arith)), h n (omega arith), zero-*ℤ (X n))

  swap : (a b c : ℤ) → (a +ℤ b) +ℤ c ≡ (a +ℤ c) +ℤ b
  swap a b c = simp ring

  -- another coefficient for one variable
  line_with : (n v : ℕ) (g : Fraction) (f : ℕ → Fraction) → v < n → line n (with_coefficient v g f) +ℤ scaled (f v) *ℤ X v ≡ line n f +ℤ scaled g *ℤ X v
  line_with zero v g f h = absurd (omega arith)
  line_with (suc n) v g f h = go (eqb v n) refl (λ (k : v < n). line_with n v g f k)
    where
      Goal : Fraction → Type 0
      Goal last = (line n (with_coefficient v g f) +ℤ scaled last *ℤ X n) +ℤ scaled (f v) *ℤ X v ≡ (line n f +ℤ scaled (f n) *ℤ X n) +ℤ scaled g *ℤ X v

      go : (t : Bool) → eqb v n ≡ t → (v < n → line n (with_coefficient v g f) +ℤ scaled (f v) *ℤ X v ≡ line n f +ℤ scaled g *ℤ X v) → Goal (cond t g (f n))
      go true e r =
          let q : v ≡ n = eqb-true v n e in
          let same : line n (with_coefficient v g f) ≡ line n f = line_same n (with_coefficient v g f) f (λ w k. ap scaled (other v w g f (λ p. absurd (omega arith)))) in
          ap (λ (l : ℤ). (l +ℤ scaled g *ℤ X n) +ℤ scaled (f v) *ℤ X v) same
          ∙ subst (λ (m : ℕ). (line n f +ℤ scaled g *ℤ X n) +ℤ scaled (f m) *ℤ X m ≡ (line n f +ℤ scaled (f n) *ℤ X n) +ℤ scaled g *ℤ X m) (sym q) (swap (line n f) (scaled g *ℤ X n) (scaled (f n) *ℤ X n))
      go false e r =
          swap (line n (with_coefficient v g f)) (scaled (f n) *ℤ X n) (scaled (f v) *ℤ X v)
          ∙ ap (λ (l : ℤ). l +ℤ scaled (f n) *ℤ X n) (r (omega (arith, eqb-false v n e)))
          ∙ swap (line n f) (scaled g *ℤ X v) (scaled (f n) *ℤ X n)

  -- the coefficients of a term list
  pub line-terms : (n : ℕ) (ts : List Term) → Formed n ts → line n (value_in ts) ≡ weight ts
  line-terms n [] h = line-zero n (value_in []) (λ v k. ap scaled (unlisted v [] tt) ∙ scaled-zero)
  line-terms n (t ∷ ts) h =
      let v = t.variable in
      let a = scaled t.coefficient *ℤ X v in
      let gone : scaled (value_in ts v) *ℤ X v ≡ pos 0 = ap (λ (z : ℤ). z *ℤ X v) (ap scaled (unlisted v ts h.1.0) ∙ scaled-zero) ∙ zero-*ℤ (X v) in
      let more = line_with n v t.coefficient (value_in ts) h.0.1 in
      line_same n (value_in (t ∷ ts)) (with_coefficient v t.coefficient (value_in ts)) (λ w k. ap scaled (value_with t ts w))
      ∙ sym (+ℤ_idr (line n (with_coefficient v t.coefficient (value_in ts))))
      ∙ ap (λ (z : ℤ). line n (with_coefficient v t.coefficient (value_in ts)) +ℤ z) (sym gone)
      ∙ more
      ∙ ap (λ (z : ℤ). z +ℤ a) (line-terms n ts h.1.1)
      ∙ +ℤ_comm (weight ts) a

  -- ---- a multiple of a term list is added

  step_law : (l' l o g p m a k y : ℤ) → l' +ℤ o *ℤ y ≡ l +ℤ g *ℤ y → g ≡ o +ℤ p → p *ℤ k ≡ m *ℤ a → l' *ℤ k ≡ l *ℤ k +ℤ m *ℤ (a *ℤ y)
  step_law l' l o g p m a k y e eg ep =
      let one : (o +ℤ p) *ℤ y ≡ p *ℤ y +ℤ o *ℤ y = simp ring in
      let two : l' +ℤ o *ℤ y ≡ (l +ℤ p *ℤ y) +ℤ o *ℤ y = e ∙ ap (λ (z : ℤ). l +ℤ z *ℤ y) eg ∙ ap (λ (z : ℤ). l +ℤ z) one ∙ sym (+ℤ_assoc l (p *ℤ y) (o *ℤ y)) in
      let three : l' ≡ l +ℤ p *ℤ y = +ℤ_cancel l' (l +ℤ p *ℤ y) (o *ℤ y) two in
      let four : (l +ℤ p *ℤ y) *ℤ k ≡ l *ℤ k +ℤ (p *ℤ k) *ℤ y = simp ring in
      ap (λ (z : ℤ). z *ℤ k) three ∙ four ∙ ap (λ (z : ℤ). l *ℤ k +ℤ z *ℤ y) ep ∙ ap (λ (z : ℤ). l *ℤ k +ℤ z) (*ℤ_assoc m a y)

  terms_law : (l' l c k m w u : ℤ) → l' *ℤ k ≡ c *ℤ k +ℤ m *ℤ w → c *ℤ k ≡ l *ℤ k +ℤ m *ℤ u → l' *ℤ k ≡ l *ℤ k +ℤ m *ℤ (u +ℤ w)
  terms_law l' l c k m w u e f = e ∙ ap (λ (z : ℤ). z +ℤ m *ℤ w) f ∙ simp ring

  pub line_multiple : (n : ℕ) (m : Fraction) (ts : List Term) (f g : ℕ → Fraction) → Formed n ts → Through (AddsMultiple m) f ts g
      → line n g *ℤ pos common ≡ line n f *ℤ pos common +ℤ scaled m *ℤ weight ts
  line_multiple n m [] f g h e =
      ap (λ (c : ℕ → Fraction). line n c *ℤ pos common) (sym e)
      ∙ sym (ap (λ (z : ℤ). line n f *ℤ pos common +ℤ z) (*ℤ-zero (scaled m)) ∙ +ℤ_idr (line n f *ℤ pos common))
  line_multiple n m (t ∷ ts) f g h e =
      let v = t.variable in
      let next = e.0 in
      let p = e.1.0 in
      let s = e.1.2.0 in
      let first : line n next *ℤ pos common ≡ line n f *ℤ pos common +ℤ scaled m *ℤ (scaled t.coefficient *ℤ X v) =
      step_law (line n next) (line n f) (scaled (f v)) (scaled s) (scaled p) (scaled m) (scaled t.coefficient) (pos common) (X v)
      (ap (λ (c : ℕ → Fraction). line n c +ℤ scaled (f v) *ℤ X v) (sym e.1.2.2) ∙ line_with n v s f h.0.1)
      (sum_scaled (f v) p s e.1.2.1) (product-scaled m t.coefficient p e.1.1) in
      terms_law (line n g) (line n f) (line n next) (pos common) (scaled m) (weight ts) (scaled t.coefficient *ℤ X v)
      (line_multiple n m ts next g h.1.1 e.2) first
