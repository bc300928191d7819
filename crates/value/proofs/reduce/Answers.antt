-- `value::reduce` meets its contract: the fraction that the quotient is brought to, or 7 where it is beyond the limit.
-- Assumes nothing.
use mathlib.Core.Path.{◌≡◌, refl, sym, ap, ◌∙◌}
use mathlib.Core.Bool.{Bool}
use Prim.Native.Nat.{ℕ, ◌<◌}
use native.Mathlib.Omega.{arith}
use borrow.Author.Tests.{ne_eqb}
use Rattle.std.proofs.Common.{Result, Ok, Err}
use Rattle.std.specs.Result.{result_or}
use Rattle.integers.specs.Signs.{with_sign}
use Rattle.arithmetic.specs.Quotient.{Quotient, lowest}
use Rattle.arithmetic.specs.Parts.{over}
use Rattle.arithmetic.specs.Fraction.{within, on_fractions, number, reduced_of, arithmetic_says}
use Rattle.arithmetic.specs.declared.Fraction.{Fraction}
use Rattle.arithmetic.specs.declared.ArithmeticError.{ArithmeticError}
use Rattle.numerals.specs.Reading.{narrowed}
use Rattle.numerals.proofs.Widths.{narrowed_gives, narrowed-refuses}
use Rattle.value.specs.Promise.{value_says}
use Rattle.value.specs.declared.ValueError.TheVariants.{TooWide}
use Rattle.value.proofs.reduce.Goals as goal

-- the result by its definition, since the denominator is not 0
reduced_is : (s : Bool) (p q : ℕ) → 0 < q → reduced_of s p q ≡ within (lowest (over (with_sign s p) q))
unfolding on_fractions
reduced_is s p q h = rw (ne_eqb q 0 (omega (arith, h))) refl

-- the fraction, or 7 in place of any refusal
answered : (x : Quotient) (a : Result Fraction ArithmeticError) → arithmetic_says a ≡ within x → value_says (result_or a (Err TooWide)) ≡ narrowed x
answered x (Ok f) e = sym (narrowed_gives x f (sym e))
answered x (Err r) e = sym (narrowed-refuses x (number r) (sym e))

pub returns : goal.returns
returns c =
    let a = c.args in
    let exact = lowest (over (with_sign a.negative a.ratio.top) a.ratio.bottom) in
    ap value_says c.or.ensures ∙ answered exact _ (c.reduced.ensures ∙ reduced_is a.negative a.ratio.top a.ratio.bottom c.requires)
