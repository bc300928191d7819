-- The tests of two operands: they are fractions if they are shaped and in lowest terms.
-- Assumes nothing.
use mathlib.Core.Path.{◌≡◌, refl, sym, ◌∙◌, ap, ap₂}
use mathlib.Core.Bool.{Bool, true, false, ◌&&◌}
use Prim.Native.Nat.{ℕ, ◌*◌, ◌≤◌, ◌<◌}
use native.Mathlib.Omega.{arith}
use native.Mathlib.Nat.{mul-pos}
use borrow.Author.Tests.{ltb-true, le-leb, eq-eqb, ne_eqb}
use lib.Dec.{leb, eqb}
use lib.IntN.{ℤ, pos, negsuc, nat_abs}
use lib.Signed.{lt_z, ◌<ℤ◌}
use Rattle.integers.specs.Gcd.{gcd}
use Rattle.integers.specs.Coprime.{coprime_one}
use Rattle.integers.proofs.Casts.{positive_mag}
use Rattle.arithmetic.specs.Outcome.{Outcome, refuses}
use Rattle.arithmetic.specs.Fraction.{limit, is_fraction, on_fractions}
use Rattle.arithmetic.proofs.Meaning.{truth, and-true}
use Rattle.arithmetic.specs.Parts.{is_shaped}
use Rattle.arithmetic.specs.declared.Fraction.{Fraction}
use Rattle.arithmetic.proofs.Ways.{Told, shaped_is, not_fractions}
use Rattle.fraction.specs.Results.{in_lowest_terms}

-- ---- one

by_shape : (f : Fraction) → Told f → is_fraction f ≡ is_shaped f && in_lowest_terms f
unfolding is_fraction
by_shape f t = go (lt_z (pos 0) f.den) refl
  where
    small : lt_z (pos 0) f.den ≡ true → nat_abs f.den ≤ limit
    small e = omega (arith, positive_mag f.den e, t.1)

    go : (a : Bool) → lt_z (pos 0) f.den ≡ a
        → a && (leb (nat_abs f.num) limit && (leb (nat_abs f.den) limit && in_lowest_terms f)) ≡ (a && leb (nat_abs f.num) limit) && in_lowest_terms f
    go true e = rw (le-leb (nat_abs f.den) limit (small e))
    go false e = refl

pub shaped_fraction : (f : Fraction) → Told f → is_shaped f ≡ true → is_fraction f ≡ in_lowest_terms f
shaped_fraction f t e = by_shape f t ∙ (rw e)

pub unshaped : (f : Fraction) → Told f → is_shaped f ≡ false → is_fraction f ≡ false
unshaped f t e = by_shape f t ∙ (rw e)

positive : (z : ℤ) → pos 0 <ℤ z → 0 < nat_abs z
positive (pos n) h = ltb-true 0 n (truth _ h.lt)
positive (negsuc n) h = absurd h.lt

pub shaped_positive : (f : Fraction) → is_shaped f ≡ true → 0 < nat_abs f.den
shaped_positive f e = positive f.den (shaped_is f e).0

-- a whole number is in lowest terms
pub whole-lowest-terms : (p d : ℕ) → d ≡ 1 → eqb (gcd p d) 1 ≡ true
whole-lowest-terms p d e = eq-eqb (gcd p d) 1 (ap (gcd p) e ∙ coprime_one p)

-- the greatest common divisor of its parts was found
module _ (f : Fraction) (x y g : ℕ) (i : x ≡ nat_abs f.num) (j : y ≡ nat_abs f.den) (e : g ≡ gcd x y) where
  found : g ≡ gcd (nat_abs f.num) (nat_abs f.den)
  found = e ∙ ap₂ gcd i j

  pub found_test : eqb g 1 ≡ in_lowest_terms f
  found_test = ap (λ (n : ℕ). eqb n 1) found

  pub found_one : g ≡ 1 → in_lowest_terms f ≡ true
  found_one h = sym found_test ∙ eq-eqb g 1 h

  pub found_more : (g ≡ 1 → ⊥) → in_lowest_terms f ≡ false
  found_more h = sym found_test ∙ ne_eqb g 1 h

-- ---- two

and-false : (a : Bool) → a && false ≡ false
and-false true = refl
and-false false = refl

and_true_right : (a : Bool) → a && true ≡ a
and_true_right true = refl
and_true_right false = refl

pub true_first : (a b : Bool) → a ≡ true → a && b ≡ b
true_first a b e = rw e

pub true_second : (a b : Bool) → b ≡ true → a && b ≡ a
true_second a b e = rw e (and_true_right a)

pub first_false : (a b : Bool) → a ≡ false → a && b ≡ false
first_false a b e = rw e

pub second_false : (a b : Bool) → b ≡ false → a && b ≡ false
second_false a b e = rw e (and-false a)

and_exchange : (x u y v : Bool) → (x && u) && (y && v) ≡ (x && y) && (u && v)
and_exchange true u true v = refl
and_exchange true true false v = refl
and_exchange true false false v = refl
and_exchange false u y v = refl

module _ (a b : Fraction) (s : Told a) (t : Told b) where
  both_by_shape : is_fraction a && is_fraction b ≡ (is_shaped a && is_shaped b) && (in_lowest_terms a && in_lowest_terms b)
  both_by_shape = ap₂ ◌&&◌ (by_shape a s) (by_shape b t) ∙ and_exchange (is_shaped a) (in_lowest_terms a) (is_shaped b) (in_lowest_terms b)

  pub both_shaped : is_shaped a && is_shaped b ≡ true → is_fraction a && is_fraction b ≡ in_lowest_terms a && in_lowest_terms b
  both_shaped e = both_by_shape ∙ ap (λ (x : Bool). x && (in_lowest_terms a && in_lowest_terms b)) e

  pub not_both_shaped : is_shaped a && is_shaped b ≡ false → is_fraction a && is_fraction b ≡ false
  not_both_shaped e = both_by_shape ∙ ap (λ (x : Bool). x && (in_lowest_terms a && in_lowest_terms b)) e

  -- an operation on both
  pub of_shaped : {A : Type 0} (o : Outcome A) → is_shaped a && is_shaped b ≡ true → on_fractions (in_lowest_terms a && in_lowest_terms b) o ≡ on_fractions (is_fraction a && is_fraction b) o
  of_shaped o e = ap (λ (x : Bool). on_fractions x o) (sym (both_shaped e))

  pub of_unshaped : {A : Type 0} (o : Outcome A) → is_shaped a && is_shaped b ≡ false → on_fractions (is_fraction a && is_fraction b) o ≡ refuses 4
  of_unshaped o e = not_fractions o _ (not_both_shaped e)

  pub denominators_positive : is_shaped a && is_shaped b ≡ true → 0 < nat_abs a.den * nat_abs b.den
  denominators_positive e = let p = and-true (is_shaped a) (is_shaped b) e in mul-pos (shaped_positive a p.0) (shaped_positive b p.1)
