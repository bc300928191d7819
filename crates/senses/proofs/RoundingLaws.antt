-- Right sides that are rounded.
-- Assumes nothing.
use mathlib.Core.Path.{◌≡◌, sym, ◌∙◌, ap, subst}
use mathlib.Core.Bool.{Bool, cond}
use Prim.Native.Nat.{ℕ, ◌≤◌}
use native.Mathlib.Nat.{div-le_self, eq-one_of_dvd-one}
use native.Mathlib.Omega.{arith}
use lib.Dec.{lit≤}
use lib.IntN.{ℤ, pos, negsuc, neg_ℤ, nat_abs}
use Rattle.integers.specs.Signs.{nat_abs-neg}
use Rattle.arithmetic.specs.Outcome.{gives, refuses}
use Rattle.arithmetic.specs.Quotient.{floor_z, ceiling_z, floor_q, ceiling_q}
use Rattle.arithmetic.specs.Fraction.{limit, IsFraction, exact, on_fractions, is_fraction}
use Rattle.arithmetic.proofs.Meaning.{is_fraction_lem}
use Rattle.arithmetic.specs.declared.Fraction.{Fraction}
use Rattle.grammar.specs.Tree.{Sense, equal, at_most, at_least}
use Rattle.rules.specs.Values.{whole_f}
use Rattle.rules.specs.Rounding.{rounded_right}
use Rattle.senses.specs.Rounding.{with_rounding}

-- what a floor or a ceiling gives
rounded_by : (right : Fraction) (z : ℤ) → IsFraction right → with_rounding right (on_fractions (is_fraction right) (gives z)) ≡ whole_f z
unfolding on_fractions
rounded_by right z v = ap (λ (t : Bool). with_rounding right (cond t (gives z) (refuses 4))) (is_fraction_lem right v)

floor_abs : (n : ℤ) (d : ℕ) → nat_abs (floor_z n d) ≤ nat_abs n
unfolding floor_z
floor_abs (pos a) d = div-le_self a d
floor_abs (negsuc a) d = omega (arith, div-le_self a d)

ceiling_abs : (n : ℤ) (d : ℕ) → nat_abs (ceiling_z n d) ≤ nat_abs n
unfolding ceiling_z
ceiling_abs n d = omega (arith, nat_abs-neg (floor_z (neg_ℤ n) d), floor_abs (neg_ℤ n) d, nat_abs-neg n)

whole_is : (z : ℤ) → nat_abs z ≤ limit → IsFraction (whole_f z)
whole_is z h = record { positive = record { lt = tt }; num_within = h; den_within = lit≤ tt; lowest-terms = λ k p q. eq-one_of_dvd-one q }

rounded_is : (s : Sense) (right : Fraction) → IsFraction right → IsFraction (rounded_right s right)
rounded_is equal right v = v
rounded_is at_most right v = whole_is (floor_q (exact right)) (omega (arith, floor_abs right.num (nat_abs right.den), v.num_within))
rounded_is at_least right v = whole_is (ceiling_q (exact right)) (omega (arith, ceiling_abs right.num (nat_abs right.den), v.num_within))

pub rounded_to : (s : Sense) (right : Fraction) (z : ℤ) → rounded_right s right ≡ whole_f z → {r : Fraction} → r ≡ with_rounding right (on_fractions (is_fraction right) (gives z))
    → IsFraction right → (r ≡ rounded_right s right) × IsFraction r
rounded_to s right z q {r} e v =
    let is : r ≡ rounded_right s right = e ∙ rounded_by right z v ∙ sym q in
    (is, subst IsFraction (sym is) (rounded_is s right v))
