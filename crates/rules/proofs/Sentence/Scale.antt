-- Fractions as whole numbers: their products with one number that every denominator within the limit divides. So the
-- arithmetic of the rules becomes that of the integers, where equations are equations.
-- Assumes nothing.
use Rattle.std.specs.Prelude.{◌≡◌, refl, Bool, true, false, ◌↔◌, ℕ, zero, suc, ◌*◌, ◌/◌, ◌≤◌, ◌<◌, eqb, ℤ, pos, nat_abs, ◌+ℤ◌, ◌*ℤ◌, ◌≤ℤ◌}
use Rattle.std.proofs.Common.{sym, ◌∙◌, ap, zero-lt-suc, mul-pos, div-one, arith, eqb-true}
use Rattle.std.proofs.Math.Logic.Iff.{trans as iff_trans}
use Rattle.std.specs.Int.{◌∣◌}
use Rattle.std.proofs.Math.Nat.{div-mul_cancel, dvd-mul_right, dvd-mul_left_of_dvd}
use Rattle.std.proofs.lemmas.Bool.{eqb-false}
use Rattle.std.proofs.Math.IntN.{*ℤ_comm, zero-*ℤ}
use Rattle.integers.specs.Integers.{ring, *ℤ_assoc, *ℤ-pos-one}
use Rattle.arithmetic.specs.Quotient.{Quotient, ◌≈◌, ◌≤Q◌, ◌+Q◌, ◌*Q◌, whole_q}
use Rattle.arithmetic.specs.QuotientLaws.{Positive}
use Rattle.arithmetic.specs.Fraction.{limit, IsFraction, exact}
use Rattle.arithmetic.proofs.Meaning.{exact_positive}
use Rattle.arithmetic.specs.Laws.{zero_f}
use Rattle.arithmetic.specs.declared.Fraction.{Fraction}
use Rattle.grammar.specs.Tree.{Sense, equal, at_most, at_least}
use Rattle.rules.specs.Values.{whole_f, AtMost, Same, IsProduct, IsSum}
use Rattle.rules.specs.Sentence.Points.{Compares}
use Rattle.rules.proofs.Sentence.Senses.{Rel, rel_same, rel_times, rel_cancel}

-- ---- rational numbers times a whole number

-- n is k times x
abbrev pub Scales : ℕ → Quotient → ℤ → Type 0
Scales k x n = n *ℤ pos x.bottom ≡ x.top *ℤ pos k

pub scales_sum : (k : ℕ) (x y : Quotient) (m n : ℤ) → Scales k x m → Scales k y n → Scales k (x +Q y) (m +ℤ n)
scales_sum k x y m n e f =
    let b = pos x.bottom in
    let c = pos y.bottom in
    let l = pos k in
    let one : (m +ℤ n) *ℤ (b *ℤ c) ≡ (m *ℤ b) *ℤ c +ℤ (n *ℤ c) *ℤ b = simp ring in
    let two : (x.top *ℤ l) *ℤ c +ℤ (y.top *ℤ l) *ℤ b ≡ (x.top *ℤ c +ℤ y.top *ℤ b) *ℤ l = simp ring in
    one ∙ ap (λ (z : ℤ). z *ℤ c +ℤ (n *ℤ c) *ℤ b) e ∙ ap (λ (z : ℤ). (x.top *ℤ l) *ℤ c +ℤ z *ℤ b) f ∙ two

pub scales_product : (k l : ℕ) (x y : Quotient) (m n : ℤ) → Scales k x m → Scales l y n → Scales (k * l) (x *Q y) (m *ℤ n)
scales_product k l x y m n e f =
    let b = pos x.bottom in
    let c = pos y.bottom in
    let one : (m *ℤ n) *ℤ (b *ℤ c) ≡ (m *ℤ b) *ℤ (n *ℤ c) = simp ring in
    let two : (x.top *ℤ pos k) *ℤ (y.top *ℤ pos l) ≡ (x.top *ℤ y.top) *ℤ (pos k *ℤ pos l) = simp ring in
    one ∙ ap (λ (z : ℤ). z *ℤ (n *ℤ c)) e ∙ ap (λ (z : ℤ). (x.top *ℤ pos k) *ℤ z) f ∙ two

pub scales_times : (k d : ℕ) (x : Quotient) (m : ℤ) → Scales k x m → Scales (k * d) x (m *ℤ pos d)
scales_times k d x m e =
    let b = pos x.bottom in
    let one : (m *ℤ pos d) *ℤ b ≡ (m *ℤ b) *ℤ pos d = simp ring in
    let two : (x.top *ℤ pos k) *ℤ pos d ≡ x.top *ℤ (pos k *ℤ pos d) = simp ring in
    one ∙ ap (λ (z : ℤ). z *ℤ pos d) e ∙ two

pub scales_whole : (k : ℕ) (z : ℤ) → Scales k (whole_q z) (z *ℤ pos k)
scales_whole k z = *ℤ-pos-one (z *ℤ pos k)

-- a comparison is one of cross products
crossed : (s : Sense) (x y : Quotient) → Compares s x y ↔ Rel s (x.top *ℤ pos y.bottom) (y.top *ℤ pos x.bottom)
unfolding ◌≈◌ ◌≤Q◌
crossed equal x y = ((λ h. h), λ h. h)
crossed at_most x y = ((λ h. h), λ h. h)
crossed at_least x y = ((λ h. h), λ h. h)

-- rational numbers compare as k times them do
module _ (s : Sense) (k : ℕ) (x y : Quotient) (m n : ℤ) (pk : 0 < k) (px : Positive x) (py : Positive y) (e : Scales k x m) (f : Scales k y n) where
  across : (a c b d : ℤ) → a *ℤ b ≡ c *ℤ d → (d' : ℤ) → (c *ℤ d') *ℤ d ≡ a *ℤ (b *ℤ d')
  across a c b d h d' =
      let one : (c *ℤ d') *ℤ d ≡ (c *ℤ d) *ℤ d' = simp ring in
      one ∙ ap (λ (z : ℤ). z *ℤ d') (sym h) ∙ *ℤ_assoc a b d'

  lefts : (x.top *ℤ pos y.bottom) *ℤ pos k ≡ m *ℤ pos (x.bottom * y.bottom)
  lefts = across m x.top (pos x.bottom) (pos k) e (pos y.bottom)

  rights : (y.top *ℤ pos x.bottom) *ℤ pos k ≡ n *ℤ pos (x.bottom * y.bottom)
  rights = across n y.top (pos y.bottom) (pos k) f (pos x.bottom) ∙ ap (λ (z : ℤ). n *ℤ z) (*ℤ_comm (pos y.bottom) (pos x.bottom))

  to_scaled : Rel s (x.top *ℤ pos y.bottom) (y.top *ℤ pos x.bottom) → Rel s m n
  to_scaled h = rel_cancel s (x.bottom * y.bottom) m n (mul-pos px py) (rel_same s lefts rights (rel_times s k _ _ h))

  from_scaled : Rel s m n → Rel s (x.top *ℤ pos y.bottom) (y.top *ℤ pos x.bottom)
  from_scaled h = rel_cancel s k _ _ pk (rel_same s (sym lefts) (sym rights) (rel_times s (x.bottom * y.bottom) m n h))

  pub compares_scaled : Compares s x y ↔ Rel s m n
  compares_scaled = iff_trans (crossed s x y) (to_scaled, from_scaled)

-- ---- the number

factorial : ℕ → ℕ
factorial zero = 1
factorial (suc n) = suc n * factorial n

factorial_positive : (n : ℕ) → 0 < factorial n
unfolding factorial
factorial_positive zero = omega arith
factorial_positive (suc n) = mul-pos (zero-lt-suc n) (factorial_positive n)

factorial_divides : (n d : ℕ) → 0 < d → d ≤ n → d ∣ factorial n
unfolding factorial
factorial_divides zero d h l = absurd (omega arith)
factorial_divides (suc n) d h l = go (λ (k : d ≤ n). factorial_divides n d h k) (eqb d (suc n)) refl
  where
    go : (d ≤ n → d ∣ factorial n) → (t : Bool) → eqb d (suc n) ≡ t → d ∣ suc n * factorial n
    go f true e = rw (eqb-true d (suc n) e) (dvd-mul_right (suc n) (factorial n))
    go f false e = dvd-mul_left_of_dvd d (f (omega (arith, eqb-false d (suc n) e))) (suc n)

-- every denominator within the limit divides it; nothing else is known of it
pub common : ℕ
common = factorial limit

pub common_positive : 0 < common
unfolding common
common_positive = factorial_positive limit

common_divides : (d : ℕ) → 0 < d → d ≤ limit → d ∣ common
unfolding common
common_divides d h l = factorial_divides limit d h l

-- ---- fractions times that number

unfoldable pub scaled : Fraction → ℤ
scaled f = f.num *ℤ pos (common / nat_abs f.den)

-- the denominator is positive, and `times f` is k times f
pub record FairBy (k : ℕ) (times : Fraction → ℤ) (f : Fraction) : Type 0 where
  pub positive : Positive (exact f)
  pub scales : Scales k (exact f) (times f)

-- with that number: so it is of a fraction, and of a whole number of any size
abbrev pub Fair : Fraction → Type 0
Fair f = FairBy common scaled f

pub fair : (f : Fraction) → IsFraction f → Fair f
unfolding scaled
fair f v =
    record {
      positive = exact_positive f v;
      scales = *ℤ_assoc f.num (pos (common / nat_abs f.den)) (pos (nat_abs f.den)) ∙ ap (λ (n : ℕ). f.num *ℤ pos n) (div-mul_cancel (nat_abs f.den) (common_divides (nat_abs f.den) (exact_positive f v) v.den_within));
    }

pub scaled-whole : (z : ℤ) → scaled (whole_f z) ≡ z *ℤ pos common
unfolding scaled
scaled-whole z = ap (λ (n : ℕ). z *ℤ pos n) (div-one common)

pub fair_whole : (z : ℤ) → Fair (whole_f z)
fair_whole z = record { positive = omega arith; scales = ap (λ (n : ℤ). n *ℤ pos 1) (scaled-whole z) ∙ scales_whole common z }

pub scaled-zero : scaled zero_f ≡ pos 0
scaled-zero = scaled-whole (pos 0) ∙ zero-*ℤ (pos common)

-- fractions compare as these whole numbers do
pub fractions_compare : (s : Sense) (a b : Fraction) → Fair a → Fair b → Compares s (exact a) (exact b) ↔ Rel s (scaled a) (scaled b)
fractions_compare s a b v w = compares_scaled s common (exact a) (exact b) (scaled a) (scaled b) common_positive v.positive w.positive v.scales w.scales

module _ (a b : Fraction) where
  pub at_most_scaled : AtMost a b → scaled a ≤ℤ scaled b
  at_most_scaled h = (fractions_compare at_most a b (fair a h.fractions.0) (fair b h.fractions.1)).0 h.compared

  pub same-scaled : Same a b → scaled a ≡ scaled b
  same-scaled h = (fractions_compare equal a b (fair a h.fractions.0) (fair b h.fractions.1)).0 h.compared

  pub sum_scaled : (s : Fraction) → IsSum a b s → scaled s ≡ scaled a +ℤ scaled b
  sum_scaled s h =
      let v = fair a h.0.0 in
      let w = fair b h.0.1 in
      let u = fair s h.1.0 in
      (compares_scaled equal common (exact s) (exact a +Q exact b) (scaled s) (scaled a +ℤ scaled b) common_positive u.positive (mul-pos v.positive w.positive) u.scales
      (scales_sum common (exact a) (exact b) (scaled a) (scaled b) v.scales w.scales)).0 h.1.1

  pub product-scaled : (p : Fraction) → IsProduct a b p → scaled p *ℤ pos common ≡ scaled a *ℤ scaled b
  product-scaled p h =
      let v = fair a h.0.0 in
      let w = fair b h.0.1 in
      let u = fair p h.1.0 in
      (compares_scaled equal (common * common) (exact p) (exact a *Q exact b) (scaled p *ℤ pos common) (scaled a *ℤ scaled b) (mul-pos common_positive common_positive) u.positive (mul-pos v.positive w.positive)
      (scales_times common common (exact p) (scaled p) u.scales)
      (scales_product common common (exact a) (exact b) (scaled a) (scaled b) v.scales w.scales)).0 h.1.1
