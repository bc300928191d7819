-- The form of a token, by where the first digits end and what stands there.
-- Assumes nothing.
use mathlib.Core.Path.{◌≡◌, refl, sym, ◌∙◌, ap}
use mathlib.Core.Bool.{Bool, true, false}
use mathlib.Core.List.{[], ◌∷◌}
use mathlib.Core.Option.{Option, none, some}
use Prim.Native.Nat.{ℕ, ◌+◌, ◌≤◌, ◌<◌}
use native.Mathlib.Omega.{arith}
use borrow.Author.Tests.{eq-eqb, ne_eqb, eqb-true}
use lib.Dec.{eqb}
use lib.ListN.{length, get_or, take, drop, drop_of_length-le}
use lib.Seq.{drop-drop}
use Rattle.text.specs.Bytes.{Bytes, is_digit, leading, is_numeral}
use Rattle.text.proofs.BytesLaws.{uncons, leading-every, leading_stop}
use Rattle.arithmetic.specs.Outcome.{refuses}
use Rattle.numerals.specs.Spelling.{Tail, nothing, point, places}
use Rattle.numerals.specs.Reading.{digits_of, after_digits, after_letter, exponent_from, scaled_by, after_point, tail_of, with_tail, unsigned_form, form_of, outcome_of, read_value}
use Rattle.numerals.proofs.Forms.{by_test}
use Rattle.exponents.specs.Exponents.{is_letter}
use Rattle.value.specs.Runs.{AfterPoint}
use Rattle.exponents.proofs.ExponentLaws.{letter_capital, no_letter}

numeral_some : (t : Bytes) → (leading is_digit t ≡ 0 → ⊥) → is_numeral (digits_of t) ≡ true
numeral_some [] n = absurd (n refl)
numeral_some (b ∷ t) n = by_test (is_digit b) (λ d. simp (d, leading-every is_digit t)) (λ d. absurd (n (rw d)))

-- ---- what follows the optional minus

module _ (s : Bool) (token : Bytes) (from next : ℕ) (e : next ≡ from + leading is_digit (drop from token)) where
  abbrev first : Bytes
  first = digits_of (drop from token)

  abbrev Unsigned : Option Tail → Type 0
  Unsigned tail = unsigned_form s (drop from token) ≡ with_tail s first tail

  pub no_digits_lem : next ≡ from → outcome_of (unsigned_form s (drop from token)) ≡ refuses 4
  unfolding outcome_of
  no_digits_lem h =
      let z : leading is_digit (drop from token) ≡ 0 = omega arith in
      rw z

  module _ (n : next ≡ from → ⊥) where
    pub with_tail_lem : Unsigned (tail_of (drop next token))
    with_tail_lem =
        let after : after_digits (drop from token) ≡ drop next token =
        drop-drop (leading is_digit (drop from token)) from token ∙ ap (λ (i : ℕ). drop i token) (sym e) in
        let some-digits : is_numeral first ≡ true = numeral_some (drop from token) (λ z. n (omega arith)) in
        rw (some-digits, after)

    pub no_tail : length token ≤ next → Unsigned (some nothing)
    no_tail h = with_tail_lem ∙ (rw (drop_of_length-le token h))

    module _ (h : next < length token) where
      pub tail_from : (b : ℕ) → get_or token next 0 ≡ b → Unsigned (tail_of (b ∷ drop (next + 1) token))
      tail_from b p = with_tail_lem ∙ ap (λ (r : Bytes). with_tail s first (tail_of r)) (uncons token next h ∙ ap (λ (x : ℕ). x ∷ drop (next + 1) token) p)

-- no digit stands after them
pub run_stops : (token : Bytes) (from next : ℕ) → next ≡ from + leading is_digit (drop from token) → next < length token → is_digit (get_or token next 0) ≡ false
run_stops token from next e h =
    leading_stop is_digit (drop from token) (get_or token next 0) (drop (next + 1) token)
    (drop-drop (leading is_digit (drop from token)) from token ∙ ap (λ (i : ℕ). drop i token) (sym e) ∙ uncons token next h)

-- ---- a place at which no digit and no slash stands

module _ (token : Bytes) (at : ℕ) (h : at < length token) (d : is_digit (get_or token at 0) ≡ false) (n : get_or token at 0 ≡ 47 → ⊥) (first : ℕ) (f : AfterPoint (get_or token at 0) at first) (end : ℕ) (e : end ≡ first + leading is_digit (drop first token)) where
  abbrev b : ℕ
  b = get_or token at 0

  abbrev decimals : Bytes
  decimals = digits_of (drop first token)

  pub first_bounds : (at ≤ first) × (first ≤ at + 1)
  first_bounds = by_test (eqb b 46) (λ p. let q : first ≡ at + 1 = rw p at f in (omega arith, omega arith)) (λ p. let q : first ≡ at = rw p at f in (omega arith, omega arith))

  -- without a point nothing is read
  module _ (p : eqb b 46 ≡ false) where
    first_is : first ≡ at
    first_is = rw p at f

    none_leads : leading is_digit (drop first token) ≡ 0
    none_leads = ap (λ (i : ℕ). leading is_digit (drop i token)) first_is ∙ ap (leading is_digit) (uncons token at h) ∙ (rw d)

    end_is : end ≡ at
    end_is = omega (arith, none_leads, first_is)

  -- after a point: its digits, and what follows them
  module _ (p : eqb b 46 ≡ true) where
    pointed : first ≡ at + 1
    pointed = rw p at f

    opened : tail_of (drop at token) ≡ tail_of (46 ∷ drop first token)
    opened = ap tail_of (uncons token at h ∙ ap (λ (x : ℕ). x ∷ drop (at + 1) token) (eqb-true b 46 p) ∙ ap (λ (i : ℕ). 46 ∷ drop i token) (sym pointed))

    after_point_lem : (end ≡ at + 1 → ⊥) → tail_of (drop at token) ≡ after_point decimals (drop end token)
    after_point_lem m =
        let after : after_digits (drop first token) ≡ drop end token =
        drop-drop (leading is_digit (drop first token)) first token ∙ ap (λ (i : ℕ). drop i token) (sym e) in
        let some-digits : is_numeral decimals ≡ true = numeral_some (drop first token) (λ z. m (omega (arith, pointed))) in
        opened ∙ (rw (some-digits, after))

  -- a point, and no digit after it
  pub no_decimals : end ≡ at + 1 → tail_of (drop at token) ≡ none
  no_decimals m =
      by_test (eqb b 46)
      (λ p. let z : leading is_digit (drop first token) ≡ 0 = omega (arith, pointed p) in opened p ∙ (rw z))
      (λ p. absurd (omega (arith, end_is p)))

  module _ (m : end ≡ at + 1 → ⊥) where
    -- the digits after it end the token
    pub decimals_end : length token ≤ end → tail_of (drop at token) ≡ some (point decimals)
    decimals_end k =
        by_test (eqb b 46) (λ p. after_point_lem p m ∙ (rw (drop_of_length-le token k)))
        (λ p. absurd (omega (arith, end_is p)))

    -- they do not, or there is no point
    pub goes_on : end < length token → (after : Option Bytes) × (places after ≡ decimals) × (tail_of (drop at token) ≡ scaled_by after (exponent_from (drop end token)))
    goes_on k = by_test (eqb b 46) with_point without
      where
        with_point : eqb b 46 ≡ true → (after : Option Bytes) × (places after ≡ decimals) × (tail_of (drop at token) ≡ scaled_by after (exponent_from (drop end token)))
        with_point p = (some decimals, refl, after_point_lem p m ∙ ap (after_point decimals) (uncons token end k) ∙ ap (λ (r : Bytes). scaled_by (some decimals) (exponent_from r)) (sym (uncons token end k)))

        without : eqb b 46 ≡ false → (after : Option Bytes) × (places after ≡ decimals) × (tail_of (drop at token) ≡ scaled_by after (exponent_from (drop end token)))
        without p =
            let no-digits-read : [] ≡ decimals = sym (ap (λ (i : ℕ). take i (drop first token)) (none_leads p)) in
            let tail-is : tail_of (b ∷ drop (at + 1) token) ≡ scaled_by none (exponent_from (b ∷ drop (at + 1) token)) = rw (p, ne_eqb b 47 n) in
            (none, no-digits-read, ap tail_of (uncons token at h) ∙ tail-is ∙ ap (λ (r : Bytes). scaled_by none (exponent_from r)) (sym (uncons token at h)) ∙ ap (λ (i : ℕ). scaled_by none (exponent_from (drop i token))) (sym (end_is p)))

-- ---- the letter

module _ (token : Bytes) (end : ℕ) (h : end < length token) where
  pub letter_from : is_letter (get_or token end 0) ≡ true → exponent_from (drop end token) ≡ after_letter (eqb (get_or token end 0) 69) (drop (end + 1) token)
  letter_from l = ap exponent_from (uncons token end h) ∙ letter_capital (get_or token end 0) (drop (end + 1) token) l

  pub letter_missing : is_letter (get_or token end 0) ≡ false → exponent_from (drop end token) ≡ none
  letter_missing l = ap exponent_from (uncons token end h) ∙ no_letter (get_or token end 0) (drop (end + 1) token) l

-- ---- the whole token

module _ (token : Bytes) where
  pub read-empty : length token ≡ 0 → read_value token ≡ refuses 4
  unfolding read_value outcome_of
  read-empty h = let none_left : token ≡ [] = drop_of_length-le token {i = 0} (omega arith) in rw none_left

  module _ (h : length token ≡ 0 → ⊥) where
    starts : token ≡ get_or token 0 0 ∷ drop 1 token
    starts = uncons token 0 (omega arith)

    pub read_minus : get_or token 0 0 ≡ 45 → read_value token ≡ outcome_of (unsigned_form true (drop 1 token))
    unfolding read_value
    read_minus e = ap (λ (t : Bytes). outcome_of (form_of t)) starts ∙ (rw (eq-eqb (get_or token 0 0) 45 e))

    pub read_plain : (get_or token 0 0 ≡ 45 → ⊥) → read_value token ≡ outcome_of (unsigned_form false (drop 0 token))
    unfolding read_value
    read_plain e = ap (λ (t : Bytes). outcome_of (form_of t)) starts ∙ (rw (ne_eqb (get_or token 0 0) 45 e)) ∙ ap (λ (t : Bytes). outcome_of (unsigned_form false t)) (sym starts)
