-- Fractions that are known to be in lowest terms: they are equal where their parts are.
-- Assumes nothing.
use mathlib.Core.Path.{◌≡◌, refl, sym, ap, ap₂, subst}
use mathlib.Core.Bool.{Bool, true, false, ◌&&◌}
use lib.IntN.{ℤ}
use Rattle.arithmetic.specs.Quotient.{◌≈◌}
use Rattle.arithmetic.proofs.QuotientLaws.{≈_refl}
use Rattle.arithmetic.specs.Fraction.{IsFraction, exact}
use Rattle.arithmetic.specs.declared.Fraction.{Fraction}
use Rattle.rules.specs.Tests.{Decides}
use Rattle.rules.proofs.Tests.{not-true, fails, decides_as, decides_and}
use Rattle.rules.specs.Values.{same_z, is_same}
use Rattle.rules.proofs.ValuesLaws.{decides_same_integer, decides_same, same-one}

-- two tests that decide the same
pub decides_one : {P : Type 0} (a b : Bool) → Decides a P → Decides b P → a ≡ b
decides_one true b d e = sym (e.1 (d.0 refl))
decides_one false b d e = sym (fails b e (λ p. not-true (d.1 p)))

-- the parts of two fractions
abbrev pub same_parts : Fraction → Fraction → Bool
same_parts a b = same_z a.num b.num && same_z a.den b.den

pub decides_parts : (a b : Fraction) → Decides (same_parts a b) (a ≡ b)
decides_parts a b =
    decides_as (λ h. ap₂ {A = ℤ} {B = ℤ} {C = Fraction} (λ n d. record { num = n; den = d }) h.0 h.1) (λ e. (ap (λ (f : Fraction). f.num) e, ap (λ (f : Fraction). f.den) e))
    (decides_and _ _ (decides_same_integer a.num b.num) (decides_same_integer a.den b.den))

module _ (a b : Fraction) (v : IsFraction a) (w : IsFraction b) where
  pub decides_same_fraction : Decides (is_same a b) (a ≡ b)
  decides_same_fraction =
      decides_as (same-one a b) (λ e. record { fractions = (v, w); compared = subst (λ (f : Fraction). exact a ≈ exact f) e (≈_refl (exact a)) }) (decides_same a b)

  pub parts_same : same_parts a b ≡ is_same a b
  parts_same = decides_one (same_parts a b) (is_same a b) (decides_parts a b) decides_same_fraction
