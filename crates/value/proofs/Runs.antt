-- A run of digits, as the loop of `read_run` goes along it; digits without the zeros on both sides; the whole part that is made
-- of them.
-- Assumes nothing.
use mathlib.Core.Path.{◌≡◌, refl, sym, ◌∙◌, ap, subst}
use mathlib.Core.Bool.{true, false}
use mathlib.Core.List.{[], ◌∷◌, ◌++◌, append-nil, append_assoc}
use Prim.Native.Nat.{ℕ, ◌+◌, ◌-◌, ◌*◌, ◌^◌, ◌≤◌, ◌<◌}
use native.Mathlib.Nat.{add-zero}
use native.Mathlib.Omega.{arith}
use lib.ListN.{length, get_or, drop, length-drop, drop_of_length-le}
use lib.Seq.{append_snoc, drop-drop, slice, take-length}
use Rattle.text.specs.Bytes.{Bytes, is_digit, every, leading}
use Rattle.text.proofs.BytesLaws.{clash, both, every_append, leading_le, leading-every, uncons}
use Rattle.numerals.specs.Spelling.{is_zero, drop_leading}
use Rattle.numerals.specs.Reading.{digits_of}
use Rattle.numerals.proofs.Forms.{by_test, Stops, digits_lead, digits_are}
use Rattle.value.specs.Runs.{Bounded, Grown, Appended, Longer, RunRead, no_digits, Significant, SignificantRead, Stands, WholeRead}
use Rattle.value.specs.declared.Digits.{Digits}
use Rattle.value.specs.declared.Run.{Run}
use Rattle.numerals.proofs.Numbers.{digit_bounds, length_more, trailing_number, leading-number, no_digit_left, digit_left, skip_digits, skip_length, length_digits}

-- ---- the loop

-- no digit after s, of which no zero is held back
pub grown_none : (s : Digits) → s.zeros ≡ 0 → Grown s [] s
grown_none s z = record { counts = omega arith; spells = λ k. refl; trails = omega arith }

-- at a place: the digits read so far, and what they made of the digits before them
pub record Reading (token : Bytes) (from at : ℕ) (start d : Digits) : Type 0 where
  pub read : Bytes
  pub all_digits : every is_digit read ≡ true
  pub place : at ≡ from + length read
  pub split : drop from token ≡ read ++ drop at token
  pub grows : (s : Digits) (q : Bytes) → Grown s q start → Grown s (q ++ read) d
  pub bounded : Bounded at d

module _ (token : Bytes) (from : ℕ) (start : Digits) where
  pub reading_starts : Bounded from start → Reading token from from start start
  reading_starts h = record {
    read = [];
    all_digits = refl;
    place = omega arith;
    split = refl;
    grows = λ s q g. subst (λ (x : Bytes). Grown s x start) (sym (append-nil q)) g;
    bounded = h;
  }

  module _ (at : ℕ) (d : Digits) (l : Reading token from at start d) where
    pub reading_goes : (r : Digits) → at < length token → is_digit (get_or token at 0) ≡ true → Longer d (get_or token at 0 - 48) r → Reading token from (at + 1) start r
    reading_goes r h e k =
        let b = get_or token at 0 in
        let same : 48 + (b - 48) ≡ b = omega (arith, (digit_bounds b e).0) in
        record {
          read = l.read ++ (b ∷ []);
          all_digits = every_append is_digit l.read (b ∷ []) l.all_digits (rw e);
          place = rw (length_more l.read b) (omega (arith, l.place));
          split = l.split ∙ ap (λ (t : Bytes). l.read ++ t) (uncons token at h) ∙ sym (append_snoc l.read b (drop (at + 1) token));
          grows = λ s q g.
              let more : Grown s ((q ++ l.read) ++ (b ∷ [])) r = subst (λ (x : ℕ). Grown s ((q ++ l.read) ++ (x ∷ [])) r) same (k.grows s (q ++ l.read) (l.grows s q g)) in
              subst (λ (x : Bytes). Grown s x r) (append_assoc q l.read (b ∷ [])) more;
          bounded = record { short = omega (arith, k.by_one, l.bounded.short); small = k.small };
        }

    pub reading_ends : Stops (drop at token) → RunRead (drop from token) from start (record { digits = d; next = at })
    reading_ends h =
        let e : digits_of (drop from token) ≡ l.read = ap digits_of l.split ∙ digits_are l.read (drop at token) l.all_digits h in
        let n : leading is_digit (drop from token) ≡ length l.read = ap (leading is_digit) l.split ∙ digits_lead l.read (drop at token) l.all_digits h in
        record {
          next_is = omega (arith, l.place);
          grows = λ s q g. subst (λ (x : Bytes). Grown s (q ++ x) d) (sym e) (l.grows s q g);
          bounded = l.bounded;
        }

pub stops_there : (token : Bytes) (at : ℕ) → at < length token → is_digit (get_or token at 0) ≡ false → Stops (drop at token)
stops_there token at h e = rw (uncons token at h) e

pub stops_past : (token : Bytes) (at : ℕ) → length token ≤ at → Stops (drop at token)
stops_past token at h = rw (drop_of_length-le token h) tt

-- ---- zeros on both sides

-- no more digits than were read
pub significant_short : (v : Bytes) (d : Digits) → Significant v d → d.count + d.zeros ≤ length v
significant_short v d g = omega (arith, g.grown.counts, g.grown.trails, length-drop (leading is_zero v) v)

-- what is left of a token from a place on
pub part_left : (from : ℕ) (token : Bytes) → slice from (length token) token ≡ drop from token
part_left from token = ap (drop from) (take-length token)

-- leading zeros passed over, and the digits after them read
module _ (token : Bytes) (from first : ℕ) (f : first ≡ from + leading is_zero (drop from token)) (r : Run) (h : RunRead (drop first token) first no_digits r) where
  passed : drop first token ≡ drop (leading is_zero (drop from token)) (drop from token)
  passed = ap (λ (i : ℕ). drop i token) f ∙ sym (drop-drop (leading is_zero (drop from token)) from token)

  pub significant_read : SignificantRead (drop from token) from r
  significant_read =
      let skipped : digits_of (drop first token) ≡ drop_leading (digits_of (drop from token)) = ap digits_of passed ∙ skip_digits (drop from token) in
      let sum : leading is_zero (drop from token) + leading is_digit (drop first token) ≡ leading is_digit (drop from token) =
      ap (λ (u : Bytes). leading is_zero (drop from token) + leading is_digit u) passed ∙ skip_length (drop from token) in
      record {
        next_is = omega (arith, h.next_is);
        significant = record {
          all_digits = leading-every is_digit (drop from token);
          grown = subst (λ (q : Bytes). Grown no_digits q r.digits) skipped (h.grows no_digits [] (grown_none no_digits refl));
        };
        bounded = h.bounded;
      }

-- digits go on after those before a point: after zeros alone the zeros that follow are leading ones too
zeros_then : (w v : Bytes) → every is_zero w ≡ true → drop_leading (w ++ v) ≡ drop_leading v
zeros_then [] v e = refl
zeros_then (b ∷ w) v e = let h = both (is_zero b) (every is_zero w) e in simp h.0 (zeros_then w v h.1)

digits_then : (w v : Bytes) → every is_zero w ≡ false → drop_leading (w ++ v) ≡ drop_leading w ++ v
digits_then [] v e = clash e refl
digits_then (b ∷ w) v e = by_test (is_zero b) (λ z. simp z (digits_then w v (rw z at e))) (λ z. simp z)

-- which of the two it is, by the digits that count
pub significant_zero : (w : Bytes) (d : Digits) → Significant w d → d.count ≡ 0 → every is_zero w ≡ true
significant_zero w d g e = no_digit_left w (omega (arith, g.grown.counts))

pub significant_digit : (w : Bytes) (d : Digits) → Significant w d → (d.count ≡ 0 → ⊥) → every is_zero w ≡ false
significant_digit w d g n = digit_left w (omega (arith, g.grown.counts))

pub continued_zeros : (t : Bytes) (d : Digits) → d.count ≡ 0 → (r : Digits) → Significant (digits_of t) r → (w : Bytes) → Significant w d → Significant (w ++ digits_of t) r
continued_zeros t d e r g w s = record {
  all_digits = every_append is_digit w (digits_of t) s.all_digits g.all_digits;
  grown = subst (λ (q : Bytes). Grown no_digits q r) (sym (zeros_then w (digits_of t) (significant_zero w d s e))) g.grown;
}

pub continued_digits : (t : Bytes) (from : ℕ) (d : Digits) → (d.count ≡ 0 → ⊥) → (r : Run) → RunRead t from d r → (w : Bytes) → Significant w d → Significant (w ++ digits_of t) r.digits
continued_digits t from d n r h w s = record {
  all_digits = every_append is_digit w (digits_of t) s.all_digits (leading-every is_digit t);
  grown = subst (λ (q : Bytes). Grown no_digits q r.digits) (sym (digits_then w (digits_of t) (significant_digit w d s n))) (h.grows no_digits (drop_leading w) s.grown);
}

-- ---- a whole part: its zeros at the end count

pub counted_stands : (w : Bytes) (d r : Digits) → Significant w d → Appended d d.zeros 0 r → Stands w r
counted_stands w d r g k = record {
  counts = omega (arith, k.counts, g.grown.counts, g.grown.trails);
  spells = λ small.
      k.spells small
      ∙ add-zero (d.number * 10 ^ d.zeros)
      ∙ ap (λ (n : ℕ). n * 10 ^ d.zeros) (g.grown.spells (omega (arith, k.counts)))
      ∙ sym (trailing_number 0 d.zeros (drop_leading w) g.grown.trails)
      ∙ leading-number w;
  none_left = k.none_left;
}

pub whole-read : (t : Bytes) (from : ℕ) (r : Run) → SignificantRead t from r → (d : Digits) → Appended r.digits r.digits.zeros 0 d → WholeRead t from (record { digits = d; next = r.next })
whole-read t from r h d k = record {
  next_is = h.next_is;
  stands = counted_stands (digits_of t) r.digits d h.significant k;
  bounded = record { short = omega (arith, k.counts, k.none_left, h.bounded.short); small = k.small };
}

-- the digits that were read are no more than the token has
pub read_short : (token : Bytes) (from : ℕ) (r : Run) → SignificantRead (drop from token) from r → r.digits.count + r.digits.zeros ≤ length token
read_short token from r h =
    let t = drop from token in
    omega (arith, significant_short (digits_of t) r.digits h.significant, length_digits t, leading_le is_digit t, length-drop from token)
