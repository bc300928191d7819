-- The limit and lowest terms, as the code meets them.
-- Assumes nothing.
use mathlib.Core.Path.{◌≡◌, refl, sym, ◌∙◌, ap}
use mathlib.Core.Bool.{Bool, true, false, cond, ◌&&◌, ◌||◌}
use Prim.Native.Nat.{ℕ, ◌*◌, ◌<◌}
use native.Mathlib.Nat.{mul_assoc, mul-pos}
use native.Mathlib.Omega.{arith}
use borrow.Author.Tests.{lt-ltb, le-ltb, leb-true, leb-false}
use lib.Dec.{leb, ltb}
use lib.IntN.{pos, neg_ℤ, nat_abs, ◌*ℤ◌}
use Rattle.integers.specs.Integers.{*ℤ-neg_l}
use Rattle.integers.specs.Coprime.{coprime_one}
use Rattle.integers.specs.Signs.{with_sign, nat_abs-with_sign}
use Rattle.arithmetic.specs.Outcome.{gives, refuses}
use Rattle.arithmetic.specs.Quotient.{Quotient, ◌≈◌, lowest}
use Rattle.arithmetic.proofs.QuotientLaws.{≈_refl, lowest_is, lowest_cong}
use Rattle.arithmetic.specs.Parts.{over}
use Rattle.arithmetic.specs.Fraction.{limit, within}
use Rattle.arithmetic.specs.declared.Fraction.{Fraction}
use Rattle.numerals.specs.Spelling.{as_fraction}
use Rattle.numerals.specs.Reading.{narrowed}

no : {A : Type 0} → ◌≡◌ {A = ℕ} 0 1 → A
no z = absurd (omega arith)

-- ---- the limit: what `within` gives is what `narrowed` gives, with 7 for 12

module _ (x : Quotient) where
  pub narrowed_gives : (f : Fraction) → within x ≡ gives f → narrowed x ≡ gives f
  unfolding within narrowed
  narrowed_gives f e = go (leb (nat_abs x.top) limit) refl (leb x.bottom limit) refl e
    where
      go : (a : Bool) → leb (nat_abs x.top) limit ≡ a → (b : Bool) → leb x.bottom limit ≡ b → cond (a && b) (gives (as_fraction x)) (refuses 12) ≡ gives f
          → cond (ltb limit (nat_abs x.top) || ltb limit x.bottom) (refuses 7) (gives (as_fraction x)) ≡ gives f
      go true p true q e = rw (le-ltb limit (nat_abs x.top) (leb-true _ _ p), le-ltb limit x.bottom (leb-true _ _ q)) e
      go true p false q e = no (cc)
      go false p b q e = no (cc)

  pub narrowed-refuses : (n : ℕ) → within x ≡ refuses n → narrowed x ≡ refuses 7
  unfolding within narrowed
  narrowed-refuses n e = go (leb (nat_abs x.top) limit) refl (leb x.bottom limit) refl e
    where
      go : (a : Bool) → leb (nat_abs x.top) limit ≡ a → (b : Bool) → leb x.bottom limit ≡ b → cond (a && b) (gives (as_fraction x)) (refuses 12) ≡ refuses n
          → cond (ltb limit (nat_abs x.top) || ltb limit x.bottom) (refuses 7) (gives (as_fraction x)) ≡ refuses 7
      go true p true q e = no (cc)
      go true p false q e = rw (le-ltb limit (nat_abs x.top) (leb-true _ _ p), lt-ltb limit x.bottom (leb-false _ _ q)) refl
      go false p b q e = rw (lt-ltb limit (nat_abs x.top) (leb-false _ _ p)) refl

-- ---- lowest terms, by sign and magnitude

-- a common factor does not matter
scaled : (s : Bool) (m b c : ℕ) → with_sign s (m * c) *ℤ pos b ≡ with_sign s m *ℤ pos (c * b)
scaled true m b c = *ℤ-neg_l (pos (m * c)) (pos b) ∙ ap (λ (n : ℕ). neg_ℤ (pos n)) (mul_assoc m c b) ∙ sym (*ℤ-neg_l (pos m) (pos (c * b)))
scaled false m b c = ap pos (mul_assoc m c b)

-- a whole number beyond the limit
pub whole_beyond : (s : Bool) (m : ℕ) → limit < m → narrowed (lowest (over (with_sign s m) 1)) ≡ refuses 7
unfolding narrowed
whole_beyond s m h =
    let x = over (with_sign s m) 1 in
    let same : lowest x ≡ x = lowest_is x x (omega arith) (omega arith) (coprime_one (nat_abs (with_sign s m))) (≈_refl x) in
    rw (same, nat_abs-with_sign s m, lt-ltb limit m h)

pub lowest-scaled : (s : Bool) (m b c : ℕ) → 0 < b → 0 < c → lowest (over (with_sign s (m * c)) (c * b)) ≡ lowest (over (with_sign s m) b)
unfolding ◌≈◌
lowest-scaled s m b c h k = lowest_cong (over (with_sign s (m * c)) (c * b)) (over (with_sign s m) b) (mul-pos k h) h (scaled s m b c)
