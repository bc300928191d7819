-- What a value with an exponent is, for those who would rather believe arithmetic than N and x: all its digits, times ten to
-- the power that is written, over ten to the power of the digits after the point. `taken_as_written` says so of each value that
-- is taken.
-- Assumes nothing.
use mathlib.Core.Path.{◌≡◌, refl, sym, ◌∙◌, ap, subst}
use mathlib.Core.Bool.{Bool, true, false}
use mathlib.Core.List.{◌++◌}
use mathlib.Core.Option.{Option}
use Prim.Native.Nat.{ℕ, suc, ◌+◌, ◌*◌, ◌^◌}
use native.Mathlib.Nat.{mul_assoc, mul-one}
use native.Mathlib.Omega.{arith}
use lib.IntN.{ℤ, pos, negsuc, neg_ℤ, nat_abs, ◌+ℤ◌, ◌-ℤ◌, ◌*ℤ◌, +ℤ_assoc, +ℤ_comm, +ℤ_idr, +ℤ_invl}
use lib.ListN.{length}
use lib.Pow.{pow-add}
use Rattle.integers.specs.Integers.{ring, *ℤ-neg_l}
use Rattle.integers.specs.Signs.{with_sign}
use Rattle.text.specs.Bytes.{Bytes, number_of}
use Rattle.arithmetic.specs.Quotient.{Quotient, ◌≈◌}
use Rattle.arithmetic.proofs.QuotientLaws.{≈_trans}
use Rattle.arithmetic.specs.Fraction.{exact}
use Rattle.arithmetic.specs.declared.Fraction.{Fraction}
use Rattle.numerals.specs.Spelling.{Exponent, Tail, scaled, Written, drop_leading, significand, trailing_zeros, places, exponent_of, power_of, top_scaled, bottom_scaled, quotient_of, SpellsValue}
use Rattle.numerals.proofs.Agreement.{quotient_positive, value_read}
use Rattle.numerals.proofs.Numbers.{trailing_number, trailing_shorter, leading-number}

-- the digits times ten to the exponent, over ten to the number of places
abbrev pub as_written : Bool → Bytes → Option Bytes → Exponent → Quotient
as_written negative w d e = record {
  top = with_sign negative (top_scaled (number_of (w ++ places d)) (exponent_of e));
  bottom = bottom_scaled (exponent_of e) * 10 ^ length (places d);
}

-- ---- the digits are N and the zeros that it drops

number-significand : (v : Bytes) → number_of v ≡ number_of (significand v) * 10 ^ trailing_zeros v
number-significand v = sym (leading-number v) ∙ trailing_number 0 (trailing_zeros v) (drop_leading v) (omega (arith, trailing_shorter (drop_leading v)))

-- ---- a power of ten by what it puts above and below

abbrev up : ℤ → ℕ
up (pos x) = x
up (negsuc x) = 0

abbrev down : ℤ → ℕ
down (pos x) = 0
down (negsuc x) = suc x

top_is : (n : ℕ) (x : ℤ) → top_scaled n x ≡ n * 10 ^ up x
top_is n (pos x) = refl
top_is n (negsuc x) = sym (mul-one n)

bottom_is : (x : ℤ) → bottom_scaled x ≡ 10 ^ down x
bottom_is (pos x) = refl
bottom_is (negsuc x) = refl

up-down : (x : ℤ) → x +ℤ pos (down x) ≡ pos (up x)
up-down (pos x) = +ℤ_idr (pos x)
up-down (negsuc x) = +ℤ_invl (pos (suc x))

-- x and the places make up for the exponent and the zeros
powers_balance : (x e : ℤ) (p z : ℕ) → x +ℤ pos p ≡ e +ℤ pos z → up x + (down e + p) ≡ z + up e + down x
powers_balance x e p z h =
    ap nat_abs
    (ap (λ (y : ℤ). y +ℤ (pos (down e) +ℤ pos p)) (sym (up-down x))
    ∙ left x (pos (down x)) (pos (down e)) (pos p)
    ∙ ap (λ (y : ℤ). y +ℤ (pos (down e) +ℤ pos (down x))) h
    ∙ right e (pos z) (pos (down e)) (pos (down x))
    ∙ ap (λ (y : ℤ). (pos z +ℤ y) +ℤ pos (down x)) (up-down e))
  where
    left : (a b c d : ℤ) → (a +ℤ b) +ℤ (c +ℤ d) ≡ (a +ℤ d) +ℤ (c +ℤ b)
    left a b c d = simp ring

    right : (a b c d : ℤ) → (a +ℤ b) +ℤ (c +ℤ d) ≡ (b +ℤ (a +ℤ c)) +ℤ d
    right a b c d = simp ring

power_balance : (e : ℤ) (p z : ℕ) → (e -ℤ pos p +ℤ pos z) +ℤ pos p ≡ e +ℤ pos z
power_balance e p z =
    +ℤ_assoc (e -ℤ pos p) (pos z) (pos p)
    ∙ ap (λ (y : ℤ). (e -ℤ pos p) +ℤ y) (+ℤ_comm (pos z) (pos p))
    ∙ sym (+ℤ_assoc (e -ℤ pos p) (pos p) (pos z))
    ∙ ap (λ (y : ℤ). y +ℤ pos z) (+ℤ_assoc e (neg_ℤ (pos p)) (pos p) ∙ ap (λ (y : ℤ). e +ℤ y) (+ℤ_invl (pos p)) ∙ +ℤ_idr e)

cross_product : (n : ℕ) (x e : ℤ) (p z : ℕ) → x +ℤ pos p ≡ e +ℤ pos z → top_scaled n x * (bottom_scaled e * 10 ^ p) ≡ top_scaled (n * 10 ^ z) e * bottom_scaled x
cross_product n x e p z h =
    rw (top_is n x, bottom_is e, top_is (n * 10 ^ z) e, bottom_is x)
    (ap (λ (y : ℕ). n * 10 ^ up x * y) (sym (pow-add 10 (down e) p))
    ∙ together (up x) (down e + p)
    ∙ ap (λ (y : ℕ). n * 10 ^ y) (powers_balance x e p z h)
    ∙ sym (together (z + up e) (down x))
    ∙ ap (λ (y : ℕ). y * 10 ^ down x) (sym (together z (up e))))
  where
    together : (a b : ℕ) → n * 10 ^ a * 10 ^ b ≡ n * 10 ^ (a + b)
    together a b = mul_assoc n (10 ^ a) (10 ^ b) ∙ ap (λ (y : ℕ). n * y) (sym (pow-add 10 a b))

-- ---- the theorem

signed_product : (s : Bool) (a b : ℕ) → with_sign s a *ℤ pos b ≡ with_sign s (a * b)
signed_product true a b = *ℤ-neg_l (pos a) (pos b)
signed_product false a b = refl

pub scaled_as_written : (s : Bool) (w : Bytes) (d : Option Bytes) (e : Exponent) → quotient_of (record { negative = s; whole = w; tail = scaled d e }) ≈ as_written s w d e
unfolding quotient_of ◌≈◌
scaled_as_written s w d e =
    let v = w ++ places d in
    let x = power_of w d e in
    let n = number_of (significand v) in
    signed_product s (top_scaled n x) (bottom_scaled (exponent_of e) * 10 ^ length (places d))
    ∙ ap (with_sign s) (cross_product n x (exponent_of e) (length (places d)) (trailing_zeros v) (power_balance (exponent_of e) (length (places d)) (trailing_zeros v)))
    ∙ ap (λ (m : ℕ). with_sign s (top_scaled m (exponent_of e) * bottom_scaled x)) (sym (number-significand v))
    ∙ sym (signed_product s (top_scaled (number_of v) (exponent_of e)) (bottom_scaled x))

-- a token that spells a fraction with an exponent spells the number that is written
pub taken_as_written : (token : Bytes) (f : Fraction) (s : SpellsValue f token) (d : Option Bytes) (e : Exponent) → s.written.tail ≡ scaled d e → exact f ≈ as_written s.written.negative s.written.whole d e
taken_as_written token f s d e h =
    let form : Tail → Written = λ t. record { negative = s.written.negative; whole = s.written.whole; tail = t } in
    let same : s.written ≡ form (scaled d e) = ap form h in
    let taken = ((value_read token).spells_exactly f s).1 in
    ≈_trans (exact f) (quotient_of s.written) _ (quotient_positive s.written s.writes.well_formed) taken
    (subst (λ (w : Written). quotient_of w ≈ as_written s.written.negative s.written.whole d e) (sym same) (scaled_as_written s.written.negative s.written.whole d e))
