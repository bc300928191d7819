-- What `Rounding` works out is what it says in words.
-- Assumes nothing.
use Rattle.std.specs.Prelude.{◌≡◌, refl, ◌↔◌, ℕ, ℤ}
use Rattle.std.proofs.Common.{◌∙◌, ap, subst}
use Rattle.arithmetic.specs.Quotient.{◌≈◌, floor_q, ceiling_q}
use Rattle.arithmetic.specs.QuotientLaws.{Positive}
use Rattle.arithmetic.specs.Fraction.{exact}
use Rattle.arithmetic.specs.Meaning.{IsFloor, IsCeiling}
use Rattle.arithmetic.proofs.Meaning.{floor_is, ceiling_is, floor_one, ceiling_one}
use Rattle.grammar.specs.Tree.{Sense, equal, at_most, at_least, Tree}
use Rattle.rules.specs.Tests.{Decides}
use Rattle.rules.proofs.Tests.{decides_as, decides_and, decides_not, decides_unless, decides_equal, decides_some, decides_below}
use Rattle.rules.specs.Values.{whole_f, Whole, zero_q}
use Rattle.rules.proofs.ValuesLaws.{decides_whole, decides_zero}
use Rattle.rules.proofs.RowsLaws.{decides_sense}
use Rattle.rules.specs.Rows.{variables, Constraint, same_sense}
use Rattle.rules.specs.Rounding.{IsInteger, is_integer, Integral, is_integral, CanBeRounded, can_be_rounded, RoundsTo, Rounded, rounded_right, rounded}

-- ---- what can be rounded

module _ (tree : Tree) where
  pub decides_integer : (v : ℕ) → Decides (is_integer tree v) (IsInteger tree v)
  decides_integer v = decides_some _ (λ i. i ≡ v) (λ i. decides_equal i v) tree.integers.indices

  pub decides_integral : (c : Constraint) → Decides (is_integral tree c) (Integral tree c)
  unfolding is_integral
  decides_integral c =
      decides_below _ (λ v. Whole (c.coefficient v) × ((exact (c.coefficient v) ≈ zero_q → ⊥) → IsInteger tree v))
      (λ v. decides_and _ _ (decides_whole (c.coefficient v)) (decides_unless _ _ (decides_zero (exact (c.coefficient v))) (decides_integer v)))
      (variables tree)

  pub decides_can_be_rounded : (c : Constraint) → Decides (can_be_rounded tree c) (CanBeRounded tree c)
  unfolding can_be_rounded
  decides_can_be_rounded c =
      decides_as (λ h. record { not_equality = h.0; integral = h.1 }) (λ h. (h.not_equality, h.integral))
      (decides_and _ _ (decides_not (same_sense c.sense equal) (decides_sense c.sense equal)) (decides_integral c))

-- ---- the rounded right side

-- what can be rounded, and has a fraction for its right side, is rounded as worked out, and to nothing else
pub rounded_is : (c : Constraint) → Positive (exact c.right) → (c.sense ≡ equal → ⊥) → (d : Constraint) → (rounded c ≡ d) ↔ Rounded c d
unfolding rounded
rounded_is c p n d = ((λ e. subst (Rounded c) e is), enough)
  where
    to : (s : Sense) → (s ≡ equal → ⊥) → (z : ℤ) × (whole_f z ≡ rounded_right s c.right) × RoundsTo s (exact c.right) z
    to equal n = absurd (n refl)
    to at_most n = (floor_q (exact c.right), refl, floor_is (exact c.right) p)
    to at_least n = (ceiling_q (exact c.right), refl, ceiling_is (exact c.right) p)

    only : (s : Sense) (z : ℤ) → RoundsTo s (exact c.right) z → rounded_right s c.right ≡ whole_f z
    only equal z r = absurd r
    only at_most z r = ap whole_f (floor_one (exact c.right) _ z (floor_is (exact c.right) p) r)
    only at_least z r = ap whole_f (ceiling_one (exact c.right) _ z (ceiling_is (exact c.right) p) r)

    is : Rounded c (record { sense = c.sense; coefficient = c.coefficient; right = rounded_right c.sense c.right })
    is = let r = to c.sense n in record { same-sense = refl; same_coefficients_lem = refl; whole = r.0; right_is = r.1; rounds = r.2 }

    enough : Rounded c d → record { sense = c.sense; coefficient = c.coefficient; right = rounded_right c.sense c.right } ≡ d
    enough r =
        let e : rounded_right c.sense c.right ≡ d.right = only c.sense r.whole r.rounds ∙ r.right_is in
        λ i. record { sense = r.same-sense i; coefficient = r.same_coefficients_lem i; right = e i }
