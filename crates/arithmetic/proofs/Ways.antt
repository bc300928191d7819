-- The ways out of the functions that test, over plain values.
-- Assumes nothing.
use mathlib.Core.Path.{◌≡◌, sym, ◌∙◌, ap, ap₂, subst}
use mathlib.Core.Bool.{Bool, true, false, not}
use Prim.Native.Nat.{ℕ, ◌≤◌, ◌<◌}
use native.Mathlib.Omega.{arith}
use borrow.Author.Tests.{leb-true, le-leb, lt-leb, ne_eqb}
use lib.Dec.{T, leb, eqb}
use lib.IntN.{ℤ, pos, nat_abs, ◌*ℤ◌}
use lib.Signed.{mag, lt_z, ◌<ℤ◌}
use mir.Syntax.{w32, w64}
use mir.Val.{to_z, of_z}
use Rattle.integers.specs.Signs.{with_sign, nat_abs-with_sign}
use Rattle.integers.proofs.Casts.{back_of}
use Rattle.arithmetic.specs.Outcome.{Outcome, gives, refuses}
use Rattle.arithmetic.specs.Quotient.{Quotient, lowest}
use Rattle.arithmetic.specs.QuotientLaws.{Positive}
use Rattle.arithmetic.specs.Fraction.{limit, IsFraction, is_fraction, ratio_of, within, reduced_of, on_fractions}
use Rattle.arithmetic.proofs.Meaning.{truth, and-true, true_and}
use Rattle.arithmetic.specs.Parts.{is_shaped, over}
use Rattle.arithmetic.specs.declared.Fraction.{Fraction}
use Rattle.arithmetic.specs.declared.Ratio.{Ratio}

-- ---- within

module _ (s : Bool) (n d : ℕ) where
  pub wide_num : limit < n → within (over (with_sign s n) d) ≡ refuses 12
  unfolding within
  wide_num h = rw (nat_abs-with_sign s n, lt-leb n limit h)

  pub wide_den : n ≤ limit → limit < d → within (over (with_sign s n) d) ≡ refuses 12
  unfolding within
  wide_den i h = rw (nat_abs-with_sign s n, le-leb n limit i, lt-leb d limit h)

  pub narrow : n ≤ limit → d ≤ limit → within (over (with_sign s n) d) ≡ gives (record { num = with_sign s n; den = pos d })
  unfolding within
  narrow i h = rw (nat_abs-with_sign s n, le-leb n limit i, le-leb d limit h)

-- ---- shapes

-- what is told of a `Fraction`: each field fits
abbrev pub Told : Fraction → Type 0
Told f = (mag f.num < 2147483648) × (mag f.den < 2147483648)

-- a shaped pair has a positive denominator and a numerator within the limit, and a fraction is shaped
pub shaped_is : (f : Fraction) → is_shaped f ≡ true → (pos 0 <ℤ f.den) × (nat_abs f.num ≤ limit)
shaped_is f e =
    let p = and-true (lt_z (pos 0) f.den) (leb (nat_abs f.num) limit) e in
    (record { lt = subst T (sym p.0) tt }, leb-true (nat_abs f.num) limit p.1)

pub is_shaped_lem : (f : Fraction) → IsFraction f → is_shaped f ≡ true
is_shaped_lem f v = true_and (lt_z (pos 0) f.den) (leb (nat_abs f.num) limit) (truth (lt_z (pos 0) f.den) v.positive.lt) (le-leb (nat_abs f.num) limit v.num_within)

-- ---- an operation on fractions

module _ {A : Type 0} (o : Outcome A) where
  pub on_fractions_lem : (t : Bool) → t ≡ true → on_fractions t o ≡ o
  unfolding on_fractions
  on_fractions_lem t e = rw e

  pub not_fractions : (t : Bool) → t ≡ false → on_fractions t o ≡ refuses 4
  unfolding on_fractions
  not_fractions t e = rw e

-- an exact result with a positive denominator, brought to lowest terms
pub reduced_exact : (q : Ratio) (x : Quotient) → ratio_of q ≡ x → Positive x → reduced_of q.negative q.top q.bottom ≡ within (lowest x)
reduced_exact q x e h =
    let positive : 0 < q.bottom = subst (λ (y : Quotient). Positive y) (sym e) h in
    on_fractions_lem _ (not (eqb q.bottom 0)) (ap not (ne_eqb q.bottom 0 (λ z. omega arith))) ∙ ap (λ (y : Quotient). within (lowest y)) e

-- ---- a struct's fields, as the machine reads them

abbrev pub read : ℤ → ℤ
read z = to_z w32 (of_z w32 z)

-- a field that equals a small literal
pub zero-read : (z : ℤ) → mag z < 2147483648 → of_z w32 z ≡ 0 → z ≡ pos 0
zero-read z h e = sym (back_of z h) ∙ ap (to_z w32) e

pub one-read : (z : ℤ) → mag z < 2147483648 → of_z w32 z ≡ 1 → z ≡ pos 1
one-read z h e = sym (back_of z h) ∙ ap (to_z w32) e

-- and from a local of 64 bits
abbrev pub read_wide : ℤ → ℤ
read_wide z = to_z w64 (of_z w64 z)

-- a numerator times a denominator
pub cross_read : (a b : Fraction) (d : ℕ) (r : ℤ) → Told a → Told b → d ≡ nat_abs (read b.den) → r ≡ read a.num *ℤ pos d → r ≡ a.num *ℤ pos (nat_abs b.den)
cross_read a b d r s t e f = f ∙ (rw (back_of a.num s.0, e, back_of b.den t.1))

-- ---- floor and ceiling: what was rounded of the fields is what the operation on the fraction gives

pub rounded : (round : ℤ → ℕ → ℤ) (a : Fraction) (z : ℤ) → Told a → z ≡ round (read a.num) (nat_abs (read a.den)) → is_fraction a ≡ true
    → gives z ≡ on_fractions (is_fraction a) (gives (round a.num (nat_abs a.den)))
rounded round a z t e v =
    ap gives e
    ∙ ap₂ (λ (n d : ℤ). gives (round n (nat_abs d))) (back_of a.num t.0) (back_of a.den t.1)
    ∙ sym (on_fractions_lem (gives (round a.num (nat_abs a.den))) (is_fraction a) v)
