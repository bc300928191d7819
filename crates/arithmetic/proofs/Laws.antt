-- What is proved of the definitions in specs/Laws.antt.
-- Assumes nothing.
use Rattle.std.specs.Prelude.{◌≡◌, refl, Bool, true, false, ◌&&◌, ◌*◌, pos, nat_abs}
use Rattle.std.proofs.Common.{mul_comm, lit≤}
use Rattle.std.proofs.Math.Nat.{mul-one, eq-one_of_dvd-one}
use Rattle.std.proofs.Math.IntN.{*ℤ_comm, *ℤ-zero, zero-*ℤ, +ℤ_idr}
use Rattle.integers.specs.Integers.{*ℤ-pos-one}
use Rattle.arithmetic.specs.Outcome.{gives}
use Rattle.arithmetic.specs.Quotient.{Quotient, ◌≈◌, ◌+Q◌, ◌*Q◌}
use Rattle.arithmetic.proofs.QuotientLaws.{+Q_comm}
use Rattle.arithmetic.specs.Fraction.{IsFraction, is_fraction, exact, product_of, sum_of}
use Rattle.arithmetic.proofs.Meaning.{product-means, sum_means}
use Rattle.arithmetic.specs.declared.Fraction.{Fraction}
use Rattle.arithmetic.specs.Laws.{zero_f, one_f}

-- ---- both commute

and_comm : (a b : Bool) → a && b ≡ b && a
and_comm true true = refl
and_comm true false = refl
and_comm false true = refl
and_comm false false = refl

*Q_comm : (x y : Quotient) → x *Q y ≡ y *Q x
*Q_comm x y = rw (*ℤ_comm x.top y.top, mul_comm x.bottom y.bottom)

pub product_comm : (a b : Fraction) → product_of a b ≡ product_of b a
product_comm a b = rw (and_comm (is_fraction a) (is_fraction b), *Q_comm (exact a) (exact b))

pub sum_comm : (a b : Fraction) → sum_of a b ≡ sum_of b a
sum_comm a b = rw (and_comm (is_fraction a) (is_fraction b), +Q_comm (exact a) (exact b))

pub zero_is : IsFraction zero_f
zero_is = record { positive = record { lt = tt }; num_within = lit≤ tt; den_within = lit≤ tt; lowest-terms = λ k p q. eq-one_of_dvd-one q }

pub one_is : IsFraction one_f
one_is = record { positive = record { lt = tt }; num_within = lit≤ tt; den_within = lit≤ tt; lowest-terms = λ k p q. eq-one_of_dvd-one q }

module _ (a : Fraction) (v : IsFraction a) where
  pub sum_zero : sum_of a zero_f ≡ gives a
  unfolding ◌≈◌
  sum_zero =
      ((sum_means a zero_f).gives_exactly a).1
      ((v, zero_is), (v, (rw (*ℤ-pos-one a.num, zero-*ℤ (pos (nat_abs a.den)), +ℤ_idr a.num, mul-one (nat_abs a.den)))))

  pub product-one : product_of a one_f ≡ gives a
  unfolding ◌≈◌
  product-one =
      ((product-means a one_f).gives_exactly a).1
      ((v, one_is), (v, (rw (*ℤ-pos-one a.num, mul-one (nat_abs a.den)))))

  pub product-zero : product_of a zero_f ≡ gives zero_f
  unfolding ◌≈◌
  product-zero =
      ((product-means a zero_f).gives_exactly zero_f).1
      ((v, zero_is), (zero_is, (rw (*ℤ-zero a.num, zero-*ℤ (pos (nat_abs a.den * 1))))))

-- ---- what is given is a fraction, and so were the operands

pub product_is : (a b f : Fraction) → product_of a b ≡ gives f → IsFraction f
product_is a b f e = (((product-means a b).gives_exactly f).0 e).1.0

pub product-exact : (a b f : Fraction) → product_of a b ≡ gives f → exact f ≈ (exact a *Q exact b)
product-exact a b f e = (((product-means a b).gives_exactly f).0 e).1.1

pub sum_is : (a b f : Fraction) → sum_of a b ≡ gives f → IsFraction f
sum_is a b f e = (((sum_means a b).gives_exactly f).0 e).1.0

pub sum_exact : (a b f : Fraction) → sum_of a b ≡ gives f → exact f ≈ (exact a +Q exact b)
sum_exact a b f e = (((sum_means a b).gives_exactly f).0 e).1.1
