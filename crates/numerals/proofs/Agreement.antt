-- The reading agrees with the relation, for every token: `value_read`. A token is written in one way at most: `written_once`.
-- Assumes nothing.
use mathlib.Core.Path.{◌≡◌, refl, sym, ◌∙◌, ap, subst}
use mathlib.Core.Bool.{Bool, true, false, not, ◌||◌}
use mathlib.Core.List.{[], ◌∷◌, ◌++◌}
use mathlib.Core.Logic.{◌⊎◌, inl, inr, ⊎_elim}
use mathlib.Core.Option.{Option, none, some}
use Prim.Native.Nat.{ℕ, suc, ◌+◌, ◌-◌, ◌*◌, ◌≤◌, ◌<◌}
use native.Mathlib.Nat.{one-le-pow}
use native.Mathlib.Omega.{arith}
use borrow.Author.Tests.{not-true, ltb-true, ltb-false, lt-ltb, eqb-false, leb-true}
use lib.Dec.{ltb, leb, lt→ltb}
use lib.IntN.{ℤ, pos, negsuc, nat_abs}
use lib.ListN.{length}
use Rattle.integers.specs.Coprime.{coprime_common}
use Rattle.text.specs.Bytes.{Bytes, is_digit, every, number_after}
use Rattle.text.proofs.BytesLaws.{clash, both}
use Rattle.arithmetic.specs.Outcome.{Outcome, gives, refuses}
use Rattle.arithmetic.specs.Quotient.{lowest, ◌≈◌}
use Rattle.arithmetic.specs.QuotientLaws.{Positive}
use Rattle.arithmetic.proofs.QuotientLaws.{lowest_positive, lowest_coprime, lowest_equal}
use Rattle.arithmetic.specs.Fraction.{limit, IsFraction, exact}
use Rattle.arithmetic.specs.declared.Fraction.{Fraction}
use Rattle.numerals.specs.Spelling.{Tail, nothing, point, slash, scaled, Written, is_zero, TailWellFormed, WellFormed, Writes, places, significand, power_of, bottom_scaled, bottom_of, quotient_of, as_fraction, most_digits, whole_digits, decimal_digits, TooManyDigits, most_power, PowerOutside, BeyondLimit, TooWide, SpellsValue, Misspelled}
use Rattle.numerals.specs.Reading.{form_of, too_many_digits, power_outside, beyond_limit, narrowed, outcome_of, read_value}
use Rattle.numerals.specs.ValueRead.{ValueRead}
use Rattle.numerals.proofs.Forms.{by_test, nothing_found, numeral_digits, form_found, found_writes}

-- ---- the tests of width decide

or_cases : (a b : Bool) → a || b ≡ true → (a ≡ true) ⊎ (b ≡ true)
or_cases true b e = inl refl
or_cases false b e = inr e

or_neither : (a b : Bool) → a || b ≡ false → (a ≡ false) × (b ≡ false)
or_neither true b e = clash e refl
or_neither false b e = (refl, e)

-- one of two numbers is above a bound
either_above : (k m n : ℕ) → ltb k m || ltb k n ≡ true → (k < m) ⊎ (k < n)
either_above k m n e = ⊎_elim (λ p. inl (ltb-true k m p)) (λ p. inr (ltb-true k n p)) (or_cases (ltb k m) (ltb k n) e)

neither_above : (k m n : ℕ) → ltb k m || ltb k n ≡ false → (k < m) ⊎ (k < n) → ⊥
neither_above k m n e =
    let p = or_neither (ltb k m) (ltb k n) e in
    ⊎_elim (λ h. clash p.0 (lt-ltb k m h)) (λ h. clash p.1 (lt-ltb k n h))

many_digits : (w : Bytes) (tail : Tail) → too_many_digits w tail ≡ true → TooManyDigits w tail
many_digits w nothing e = ltb-true most_digits (whole_digits w) e
many_digits w (point d) e = ltb-true most_digits (whole_digits w + decimal_digits d) e
many_digits w (slash d) e = either_above most_digits (whole_digits w) (whole_digits d) e
many_digits w (scaled d x) e = ltb-true most_digits (length (significand (w ++ places d))) e

few_digits : (w : Bytes) (tail : Tail) → too_many_digits w tail ≡ false → TooManyDigits w tail → ⊥
few_digits w nothing e h = clash e (lt-ltb most_digits (whole_digits w) h)
few_digits w (point d) e h = clash e (lt-ltb most_digits (whole_digits w + decimal_digits d) h)
few_digits w (slash d) e h = neither_above most_digits (whole_digits w) (whole_digits d) e h
few_digits w (scaled d x) e h = clash e (lt-ltb most_digits (length (significand (w ++ places d))) h)

power_outside_lem : (w : Bytes) (tail : Tail) → power_outside w tail ≡ true → PowerOutside w tail
power_outside_lem w nothing e = clash refl e
power_outside_lem w (point d) e = clash refl e
power_outside_lem w (slash d) e = clash refl e
power_outside_lem w (scaled d x) e =
    let p = both (not (every is_zero (w ++ places d))) (ltb most_power (nat_abs (power_of w d x))) e in
    (not-true (every is_zero (w ++ places d)) p.0, ltb-true most_power (nat_abs (power_of w d x)) p.1)

power_inside : (w : Bytes) (tail : Tail) → power_outside w tail ≡ false → PowerOutside w tail → ⊥
power_inside w nothing e h = elim h [ ]
power_inside w (point _) e h = elim h [ ]
power_inside w (slash _) e h = elim h [ ]
power_inside w (scaled d x) e h = clash (rw h.0 at e) (lt-ltb most_power (nat_abs (power_of w d x)) h.1)

-- ---- the outcome of a written form

-- 7 and too wide, or the fraction and not too wide
decided : (w : Written) → ((outcome_of (some w) ≡ refuses 7) × TooWide w) ⊎ ((outcome_of (some w) ≡ gives (as_fraction (lowest (quotient_of w)))) × (TooWide w → ⊥))
unfolding outcome_of narrowed
decided w =
    let q = lowest (quotient_of w) in
    by_test (too_many_digits w.whole w.tail) (λ d. inl (rw d, inl (many_digits w.whole w.tail d)))
    (λ d. by_test (power_outside w.whole w.tail) (λ x. inl (rw (d, x), inr (inl (power_outside_lem w.whole w.tail x))))
    (λ x. by_test (beyond_limit q) (λ l. inl (rw (d, x, l), inr (inr (either_above limit (nat_abs q.top) q.bottom l))))
    (λ l. inr (rw (d, x, l), ⊎_elim (few_digits w.whole w.tail d) (⊎_elim (power_inside w.whole w.tail x) (neither_above limit (nat_abs q.top) q.bottom l))))))

-- ---- a well_formed form has a positive denominator

number_grows : (n : ℕ) (d : Bytes) → n ≤ number_after n d
number_grows n [] = omega arith
number_grows n (b ∷ d) = omega (arith, number_grows (n * 10 + (b - 48)) d)

pub digit_positive : (b : ℕ) → is_digit b ≡ true → is_zero b ≡ false → 48 < b
unfolding is_digit
digit_positive b e z = omega (arith, leb-true 48 b (both (leb 48 b) (leb b 57) e).0, eqb-false b 48 z)

pub number_positive : (n : ℕ) (d : Bytes) → every is_digit d ≡ true → every is_zero d ≡ false → 0 < number_after n d
number_positive n [] e z = clash z refl
number_positive n (b ∷ d) e z =
    by_test (is_zero b)
    (λ h. number_positive (n * 10 + (b - 48)) d (both (is_digit b) (every is_digit d) e).1 (rw h at z))
    (λ h. let p : 48 < b = digit_positive b (both (is_digit b) (every is_digit d) e).0 h in
    omega (arith, number_grows (n * 10 + (b - 48)) d))

scaled_positive : (x : ℤ) → 0 < bottom_scaled x
scaled_positive (pos x) = omega arith
scaled_positive (negsuc x) = one-le-pow (suc x) 10 (omega arith)

bottom_positive : (w : Bytes) (tail : Tail) → TailWellFormed tail → 0 < bottom_of w tail
bottom_positive w nothing f = omega arith
bottom_positive w (point d) f = one-le-pow (length d) 10 (omega arith)
bottom_positive w (slash d) f = number_positive 0 d (numeral_digits d f.0) f.1
bottom_positive w (scaled d e) f = scaled_positive (power_of w d e)

pub quotient_positive : (w : Written) → WellFormed w → Positive (quotient_of w)
unfolding quotient_of
quotient_positive w h = bottom_positive w.whole w.tail h.tail_digits

-- ---- what a token spells is a fraction, and the number that is written

at_most : (n : ℕ) → (limit < n → ⊥) → n ≤ limit
at_most n h = by_test (ltb limit n) (λ e. absurd (h (ltb-true limit n e))) (λ e. ltb-false limit n e)

spelled_exactly : (token : Bytes) (f : Fraction) (s : SpellsValue f token) → IsFraction f × (exact f ≈ quotient_of s.written)
spelled_exactly token f s =
    let q = quotient_of s.written in
    let h : Positive q = quotient_positive s.written s.writes.well_formed in
    let within : BeyondLimit (lowest q) → ⊥ = λ b. s.not_too_wide (inr (inr b)) in
    subst (λ (g : Fraction). IsFraction g × (exact g ≈ q)) s.value (
      record {
        positive = record { lt = lt→ltb 0 (lowest q).bottom (lowest_positive q h) };
        num_within = at_most (nat_abs (lowest q).top) (λ k. within (inl k));
        den_within = at_most (lowest q).bottom (λ k. within (inr k));
        lowest-terms = λ k. coprime_common (nat_abs (lowest q).top) (lowest q).bottom k (lowest_coprime q h);
      },
      lowest_equal q h,
    )

-- ---- the whole agreement

-- a token is written in one way at most
pub written_once : (w v : Written) (token : Bytes) → Writes w token → Writes v token → w ≡ v
written_once w v token p q =
    let e : some w ≡ some v = sym (form_found w token p) ∙ form_found v token q in
    cc

spelled_once : (token : Bytes) (f g : Fraction) → SpellsValue f token → SpellsValue g token → f ≡ g
spelled_once token f g s t =
    sym s.value ∙ ap (λ (w : Written). as_fraction (lowest (quotient_of w))) (written_once s.written t.written token s.writes t.writes) ∙ t.value

refused-given : {X : Type 0} {n : ℕ} {f : Fraction} → refuses n ≡ gives f → X
refused-given e = absurd (let z : ◌≡◌ {A = ℕ} 0 1 = cc in omega arith)

same_refusal : {m n : ℕ} → ◌≡◌ {A = Outcome Fraction} (refuses m) (refuses n) → m ≡ n
same_refusal e = cc

module _ (token : Bytes) where
  read_misspelled : read_value token ≡ refuses 4 → Misspelled token → ValueRead token (refuses 4)
  read_misspelled e m = record {
    by_definition = sym e;
    gives_spelled = λ f. (λ p. refused-given p, λ s. absurd (m s.written s.writes));
    refuses_too_wide = (λ p. absurd (eqb-false 4 7 refl (same_refusal p)), λ s. absurd (m s.written s.writes));
    refuses_misspelled = (λ p. m, λ p. refl);
    only_4_or_7 = λ n p. inl (sym (same_refusal p));
    spells_one = spelled_once token;
    spells_exactly = spelled_exactly token;
  }

  module _ (w : Written) (h : Writes w token) where
    read_too_wide : read_value token ≡ refuses 7 → TooWide w → ValueRead token (refuses 7)
    read_too_wide e wide = record {
      by_definition = sym e;
      gives_spelled = λ f. (λ p. refused-given p, λ s. absurd (s.not_too_wide (subst TooWide (written_once w s.written token h s.writes) wide)));
      refuses_too_wide = (λ p. record { written = w; writes = h; too_wide = wide }, λ p. refl);
      refuses_misspelled = (λ p. absurd (eqb-false 7 4 refl (same_refusal p)), λ m. absurd (m w h));
      only_4_or_7 = λ n p. inr (sym (same_refusal p));
      spells_one = spelled_once token;
      spells_exactly = spelled_exactly token;
    }

    read_spelled : (f : Fraction) → read_value token ≡ gives f → SpellsValue f token → ValueRead token (gives f)
    read_spelled f e s = record {
      by_definition = sym e;
      gives_spelled = λ g. (λ p. subst (λ (x : Fraction). SpellsValue x token) (cc) s, λ t. ap gives (spelled_once token f g s t));
      refuses_too_wide = (λ p. refused-given (sym p), λ t. absurd (s.not_too_wide (subst TooWide (written_once t.written s.written token t.writes s.writes) t.too_wide)));
      refuses_misspelled = (λ p. refused-given (sym p), λ m. absurd (m w h));
      only_4_or_7 = λ n p. refused-given (sym p);
      spells_one = spelled_once token;
      spells_exactly = spelled_exactly token;
    }

pub value_read : (token : Bytes) → ValueRead token (read_value token)
unfolding read_value outcome_of
value_read token = go (form_of token) refl
  where
    held : {o : Outcome Fraction} → read_value token ≡ o → ValueRead token o → ValueRead token (read_value token)
    held e r = subst (ValueRead token) (sym e) r

    go : (o : Option Written) → form_of token ≡ o → ValueRead token (read_value token)
    go none e =
        let r : read_value token ≡ refuses 4 = ap outcome_of e in
        held r (read_misspelled token r (λ w h. nothing_found (sym e ∙ form_found w token h)))
    go (some w) e =
        let h : Writes w token = found_writes token w e in
        ⊎_elim
        (λ d. let r : read_value token ≡ refuses 7 = ap outcome_of e ∙ d.0 in held r (read_too_wide token w h r d.1))
        (λ d. let r : read_value token ≡ gives (as_fraction (lowest (quotient_of w))) = ap outcome_of e ∙ d.0 in
        held r (read_spelled token w h _ r (record { written = w; writes = h; not_too_wide = d.1; value = refl })))
        (decided w)
