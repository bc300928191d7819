-- The digits of an exponent, as the loop of `read_digits` goes along them, and the power of ten that it comes to.
-- Assumes nothing.
use mathlib.Core.Path.{◌≡◌, refl, sym, ◌∙◌, ap, subst}
use mathlib.Core.Bool.{Bool, true, false, cond}
use mathlib.Core.List.{[], ◌∷◌}
use mathlib.Core.Logic.{inl, inr}
use mathlib.Core.Option.{none, some}
use Prim.Native.Nat.{ℕ, ◌+◌, ◌-◌, ◌*◌, ◌≤◌, ◌<◌}
use native.Mathlib.Omega.{arith}
use borrow.Author.Tests.{ltb-true, ltb-false, lt-ltb, le-ltb, ne_eqb}
use lib.Dec.{ltb, eqb}
use lib.IntN.{ℤ, pos, neg_ℤ, nat_abs, ◌+ℤ◌, ◌-ℤ◌, +ℤ_comm, +ℤ_idr, +ℤ_invr, +ℤ-neg_ℤ_cancel, neg_ℤ-+ℤ}
use lib.ListN.{length, get_or, take, drop, drop_of_length-le, length-drop}
use Rattle.integers.specs.Integers.{ring, cancel, +ℤ_swap}
use Rattle.integers.specs.Signs.{with_sign, nat_abs-neg, nat_abs-with_sign}
use Rattle.text.specs.Bytes.{Bytes, is_digit, every, is_numeral, number_after, number_of}
use Rattle.text.proofs.BytesLaws.{uncons}
use Rattle.numerals.specs.Spelling.{Sign, unsigned, plus, minus, is_minus, most_power}
use Rattle.numerals.specs.Reading.{after_letter, exponent_from}
use Rattle.numerals.proofs.Forms.{by_test}
use Rattle.exponents.specs.Exponents.{room, is_letter, large, Saturated, NumberRead, ExponentRead, power_says, power_within}
use Rattle.exponents.specs.declared.Exponent.{Exponent}
use Rattle.std.proofs.lemmas.List.{take_all}
use Rattle.std.proofs.Common.{Option as Answer, Some, None}
use Rattle.exponents.specs.declared.Power.{Power}
use Rattle.exponents.specs.declared.Power.TheVariants as power

-- ---- the letter

pub letter_capital : (b : ℕ) (t : Bytes) → is_letter b ≡ true → exponent_from (b ∷ t) ≡ after_letter (eqb b 69) t
letter_capital b t e =
    by_test (eqb b 69) (λ p. rw p) (λ p. let q : eqb b 101 ≡ true = rw p at e in rw (p, q))

pub no_letter : (b : ℕ) (t : Bytes) → is_letter b ≡ false → exponent_from (b ∷ t) ≡ none
no_letter b t e =
    by_test (eqb b 69) (λ p. absurd (let f : true ≡ false = rw p at e in let z : ◌≡◌ {A = ℕ} 0 1 = cc in omega arith))
    (λ p. let q : eqb b 101 ≡ false = rw p at e in rw (p, q))

-- ---- a number with one digit more

pub saturated_large : (number digit n greatest : ℕ) → large ≤ number → large * 10 ≤ greatest → Saturated n number → Saturated (n * 10 + digit) greatest
saturated_large number digit n greatest h g (inl e) = inr (g, omega arith)
saturated_large number digit n greatest h g (inr k) = inr (g, omega (arith, k.1))

pub saturated_small : (number digit n : ℕ) → number < large → Saturated n number → Saturated (n * 10 + digit) (number * 10 + digit)
saturated_small number digit n h (inl e) = inl (omega arith)
saturated_small number digit n h (inr k) = absurd (omega (arith, k.0))

-- ---- the loop

-- at a place: the number n of the digits so far, and what is still to come
pub record Counting (digits : Bytes) (at number : ℕ) : Type 0 where
  pub n : ℕ
  pub saturated : Saturated n number
  pub spells : number_after n (drop at digits) ≡ number_of digits
  pub numeral : every is_digit (drop at digits) ≡ every is_digit digits

pub counting_starts : (digits : Bytes) → Counting digits 0 0
counting_starts digits = record { n = 0; saturated = inl refl; spells = refl; numeral = refl }

no_numeral : (t : Bytes) → every is_digit t ≡ false → is_numeral t ≡ false
no_numeral [] e = refl
no_numeral (b ∷ t) e = e

a_numeral : (t : Bytes) → 0 < length t → every is_digit t ≡ true → is_numeral t ≡ true
a_numeral [] h e = absurd (omega (arith, h))
a_numeral (b ∷ t) h e = e

module _ (digits : Bytes) (at number : ℕ) (l : Counting digits at number) where
  module _ (h : at < length digits) where
    abbrev b : ℕ
    b = get_or digits at 0

    pub counting_goes : is_digit b ≡ true → (r : ℕ) → ((n : ℕ) → Saturated n number → Saturated (n * 10 + (b - 48)) r) → Counting digits (at + 1) r
    counting_goes e r k = record {
      n = l.n * 10 + (b - 48);
      saturated = k l.n l.saturated;
      spells = ap (number_after l.n) (sym (uncons digits at h)) ∙ l.spells;
      numeral = sym (ap (every is_digit) (uncons digits at h) ∙ (rw e)) ∙ l.numeral;
    }

    pub counting_stops : is_digit b ≡ false → is_numeral digits ≡ false
    counting_stops e = no_numeral digits (sym l.numeral ∙ ap (every is_digit) (uncons digits at h) ∙ (rw e))

  pub counting_ends : length digits ≤ at → 0 < length digits → (m : Bool) → NumberRead digits m (Some (record { minus = m; number = number }))
  counting_ends h k m =
      let left : drop at digits ≡ [] = drop_of_length-le digits h in (
        a_numeral digits k (sym l.numeral ∙ ap (every is_digit) left),
        refl,
        subst (λ (k : ℕ). Saturated k number) (sym (ap (number_after l.n) left) ∙ l.spells) l.saturated,
      )

-- ---- what stands after the letter

-- a sign, and then digits or not
module _ (t : Bytes) (s : Sign) (u : Bytes) (e : (c : Bool) → after_letter c t ≡ cond (is_numeral u) (some (record { capital = c; sign = s; digits = u })) none) where
  pub signed-read : (r : Answer Exponent) → NumberRead u (is_minus s) r → ExponentRead t r
  signed-read (Some x) h = record { sign = s; digits = u; form = λ c. e c ∙ (rw h.0); sign_is = sym h.1; number_is = h.2 }
  signed-read None h = λ c. e c ∙ (rw h)

pub nothing_after : (token : Bytes) (from : ℕ) → length token ≤ from → ExponentRead (drop from token) None
nothing_after token from h = λ c. rw (drop_of_length-le token h)

-- what stands from a place on, as a slice
tail_taken : (token : Bytes) (n : ℕ) → take (length token - n) (drop n token) ≡ drop n token
tail_taken token n = take_all (length token - n) (drop n token) (omega (arith, length-drop n token))

-- the byte after the letter is the sign or the first digit
module _ (token : Bytes) (from : ℕ) (h : from < length token) where
  abbrev first : ℕ
  first = get_or token from 0

  pub minus_read : first ≡ 45 → (r : Answer Exponent) → NumberRead (take (length token - (from + 1)) (drop (from + 1) token)) true r → ExponentRead (drop from token) r
  minus_read p r k =
      signed-read (drop from token) minus (drop (from + 1) token) (λ c. ap (after_letter c) (uncons token from h) ∙ (rw p)) r
      (subst (λ (u : Bytes). NumberRead u true r) (tail_taken token (from + 1)) k)

  pub plus_read : first ≡ 43 → (r : Answer Exponent) → NumberRead (take (length token - (from + 1)) (drop (from + 1) token)) false r → ExponentRead (drop from token) r
  plus_read p r k =
      signed-read (drop from token) plus (drop (from + 1) token) (λ c. ap (after_letter c) (uncons token from h) ∙ (rw p)) r
      (subst (λ (u : Bytes). NumberRead u false r) (tail_taken token (from + 1)) k)

  pub unsigned_read : (first ≡ 45 → ⊥) → (first ≡ 43 → ⊥) → (r : Answer Exponent) → NumberRead (take (length token - from) (drop from token)) false r → ExponentRead (drop from token) r
  unsigned_read p q r k =
      signed-read (drop from token) unsigned (drop from token)
      (λ c. ap (after_letter c) (uncons token from h) ∙ (rw (ne_eqb first 43 q, ne_eqb first 45 p)) ∙ ap (λ (u : Bytes). cond (is_numeral u) (some (record { capital = c; sign = unsigned; digits = u })) none) (sym (uncons token from h))) r
      (subst (λ (u : Bytes). NumberRead u false r) (tail_taken token from) k)

-- ---- powers

pub power_inside : (z : ℤ) → nat_abs z ≤ most_power → some z ≡ power_within z
power_inside z h = rw (le-ltb most_power (nat_abs z) h)

pub power_outside_lem : (z : ℤ) → most_power < nat_abs z → none ≡ power_within z
power_outside_lem z h = rw (lt-ltb most_power (nat_abs z) h)

-- the opposite of a power, or of none
within_opposite : (z : ℤ) → power_within (neg_ℤ z) ≡ cond (ltb most_power (nat_abs z)) none (some (neg_ℤ z))
within_opposite z = rw (nat_abs-neg z) refl

pub opposite_none : (z : ℤ) → none ≡ power_within z → none ≡ power_within (neg_ℤ z)
opposite_none z e = rw (within_opposite z) (by_test (ltb most_power (nat_abs z)) (λ t. rw t) (λ t. absurd (let f : none ≡ some z = rw t at e in let q : ◌≡◌ {A = ℕ} 0 1 = cc in omega arith)))

pub opposite_some : (z p : ℤ) → some p ≡ power_within z → some (neg_ℤ p) ≡ power_within (neg_ℤ z)
opposite_some z p e =
    rw (within_opposite z)
    (by_test (ltb most_power (nat_abs z))
    (λ t. absurd (let f : some p ≡ none = rw t at e in let q : ◌≡◌ {A = ℕ} 0 1 = cc in omega arith))
    (λ t. let f : some p ≡ some z = rw t at e in let same : p ≡ z = cc in rw (t, same)))

-- what an equation of powers says of each case
abbrev pub PowerIs : ℤ → Answer Power → Type 0
PowerIs z (Some (power.Up k)) = (k ≤ most_power) × (z ≡ pos k)
PowerIs z (Some (power.Down k)) = (k ≤ most_power) × (z ≡ neg_ℤ (pos k))
PowerIs z None = most_power < nat_abs z

pub power_is : (z : ℤ) (x : Answer Power) → power_says x ≡ power_within z → PowerIs z x
power_is z x e =
    by_test (ltb most_power (nat_abs z)) (λ t. beyond x (e ∙ (rw t)) (ltb-true _ _ t)) (λ t. inside x (e ∙ (rw t)) (ltb-false _ _ t))
  where
    beyond : (x : Answer Power) → power_says x ≡ none → most_power < nat_abs z → PowerIs z x
    beyond (Some p) e h = absurd (let q : ◌≡◌ {A = ℕ} 0 1 = cc in omega arith)
    beyond None e h = h

    inside : (x : Answer Power) → power_says x ≡ some z → nat_abs z ≤ most_power → PowerIs z x
    inside (Some (power.Up k)) e h = let same : pos k ≡ z = cc in (omega (arith, ap nat_abs same), sym same)
    inside (Some (power.Down k)) e h = let same : neg_ℤ (pos k) ≡ z = cc in (omega (arith, ap nat_abs same, nat_abs-with_sign true k), sym same)
    inside None e h = absurd (let q : ◌≡◌ {A = ℕ} 0 1 = cc in omega arith)

-- a difference, by the greater of the two
up_by : (up down : ℕ) → down ≤ up → pos up -ℤ pos down ≡ pos (up - down)
up_by up down h =
    let sum : up ≡ down + (up - down) = omega arith in
    ap (λ (n : ℕ). pos n -ℤ pos down) sum ∙ gone (pos down) (pos (up - down))
  where
    gone : (a b : ℤ) → (a +ℤ b) -ℤ a ≡ b
    gone a b = ap (λ (z : ℤ). z -ℤ a) (+ℤ_comm a b) ∙ +ℤ-neg_ℤ_cancel b a

down_by : (up down : ℕ) → up ≤ down → pos up -ℤ pos down ≡ neg_ℤ (pos (down - up))
down_by up down h =
    let sum : down ≡ up + (down - up) = omega arith in
    ap (λ (n : ℕ). pos up -ℤ pos n) sum ∙ gone (pos up) (pos (down - up))
  where
    gone : (a b : ℤ) → a -ℤ (a +ℤ b) ≡ neg_ℤ b
    gone a b = simp (ring, cancel)

module _ (up down : ℕ) where
  pub difference_up : down ≤ up → up - down ≤ most_power → some (pos (up - down)) ≡ power_within (pos up -ℤ pos down)
  difference_up h k = rw (up_by up down h) (power_inside (pos (up - down)) k)

  pub difference_down : up ≤ down → down - up ≤ most_power → some (neg_ℤ (pos (down - up))) ≡ power_within (pos up -ℤ pos down)
  difference_down h k = rw (down_by up down h) (power_inside (neg_ℤ (pos (down - up))) (rw (nat_abs-with_sign true (down - up)) k))

  pub difference_high : down ≤ up → most_power < up - down → none ≡ power_within (pos up -ℤ pos down)
  difference_high h k = rw (up_by up down h) (power_outside_lem (pos (up - down)) k)

  pub difference_low : up ≤ down → most_power < down - up → none ≡ power_within (pos up -ℤ pos down)
  difference_low h k = rw (down_by up down h) (power_outside_lem (neg_ℤ (pos (down - up))) (rw (nat_abs-with_sign true (down - up)) k))

module _ (number more less : ℕ) where
  -- more is taken away than is added
  pub balance_less : more < less → pos number -ℤ pos (less - more) ≡ pos (number + more) -ℤ pos less
  balance_less h =
      let sum : less - more + more ≡ less = omega arith in
      shift (pos number) (pos (less - more)) (pos more) ∙ ap (λ (m : ℕ). pos (number + more) -ℤ pos m) sum
    where
      shift : (a b c : ℤ) → a -ℤ b ≡ (a +ℤ c) -ℤ (b +ℤ c)
      shift a b c =
          sym (ap (λ (z : ℤ). (a +ℤ c) +ℤ z) (neg_ℤ-+ℤ b c) ∙ +ℤ_swap a c (neg_ℤ b) (neg_ℤ c) ∙ ap (λ (z : ℤ). (a -ℤ b) +ℤ z) (+ℤ_invr c) ∙ +ℤ_idr (a -ℤ b))

  -- as much is added, or more
  pub balance_high : less ≤ more → most_power < number → none ≡ power_within (pos (number + more) -ℤ pos less)
  balance_high h k = difference_high (number + more) less (omega arith) (omega arith)

  pub balance_far : less ≤ more → most_power < more - less → none ≡ power_within (pos (number + more) -ℤ pos less)
  balance_far h k = difference_high (number + more) less (omega arith) (omega arith)

  pub balance_more : less ≤ more → pos (number + (more - less)) -ℤ pos 0 ≡ pos (number + more) -ℤ pos less
  balance_more h = up_by (number + (more - less)) 0 (omega arith) ∙ ap pos (omega arith) ∙ sym (up_by (number + more) less (omega arith))

-- the exponent, less the places, plus the zeros: both sides of its sign
pub power_raised : (n places zeros : ℕ) → pos (n + zeros) -ℤ pos places ≡ with_sign false n -ℤ pos places +ℤ pos zeros
power_raised n places zeros = go (pos n) (pos places) (pos zeros)
  where
    go : (a b c : ℤ) → (a +ℤ c) -ℤ b ≡ a -ℤ b +ℤ c
    go a b c = simp ring

pub power_lowered : (n places zeros : ℕ) → neg_ℤ (pos (n + places) -ℤ pos zeros) ≡ with_sign true n -ℤ pos places +ℤ pos zeros
power_lowered n places zeros = go (pos n) (pos places) (pos zeros)
  where
    go : (a b c : ℤ) → neg_ℤ ((a +ℤ b) -ℤ c) ≡ neg_ℤ a -ℤ b +ℤ c
    go a b c = simp ring

-- ---- a number that is as good gives the same power, with no more places and zeros than a slice has bytes

far_off : (m : Bool) (n places zeros : ℕ) → large * 10 ≤ n → places ≤ room → zeros ≤ room → most_power < nat_abs (with_sign m n -ℤ pos places +ℤ pos zeros)
far_off false n places zeros h p q =
    subst (λ (z : ℤ). most_power < nat_abs z) (power_raised n places zeros)
    (rw (up_by (n + zeros) places (omega arith)) (omega arith))
far_off true n places zeros h p q =
    subst (λ (z : ℤ). most_power < nat_abs z) (power_lowered n places zeros)
    (rw (nat_abs-neg (pos (n + places) -ℤ pos zeros), up_by (n + places) zeros (omega arith)) (omega arith))

pub saturated_power : (m : Bool) (n number places zeros : ℕ) → Saturated n number → places ≤ room → zeros ≤ room
    → power_within (with_sign m number -ℤ pos places +ℤ pos zeros) ≡ power_within (with_sign m n -ℤ pos places +ℤ pos zeros)
saturated_power m n number places zeros (inl s) p q = ap (λ (k : ℕ). power_within (with_sign m k -ℤ pos places +ℤ pos zeros)) s
saturated_power m n number places zeros (inr s) p q =
    sym (power_outside_lem (with_sign m number -ℤ pos places +ℤ pos zeros) (far_off m number places zeros s.0 p q))
    ∙ power_outside_lem (with_sign m n -ℤ pos places +ℤ pos zeros) (far_off m n places zeros s.1 p q)
