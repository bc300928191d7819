-- `form_of` finds the written form of a token exactly where there is one, so a token is written in one way at most.
-- Assumes nothing.
use mathlib.Core.Path.{◌≡◌, refl, sym, ◌∙◌, ap, subst}
use mathlib.Core.Bool.{Bool, true, false, not, ◌&&◌}
use mathlib.Core.List.{[], ◌∷◌, ◌++◌, append-nil}
use mathlib.Core.Option.{Option, none, some}
use Prim.Native.Nat.{ℕ, ◌+◌, ◌≤◌}
use native.Mathlib.Nat.{add-zero}
use native.Mathlib.Omega.{arith}
use borrow.Author.Tests.{leb-true, eqb-true, ne_eqb, not-true}
use lib.Dec.{leb, eqb}
use lib.ListN.{length, take, drop, take-append-drop}
use lib.Seq.{take-append_seam, drop-append_seam}
use Rattle.text.specs.Bytes.{Bytes, is_digit, every, leading, is_numeral}
use Rattle.text.proofs.BytesLaws.{clash, both, leading-append}
use Rattle.numerals.specs.Spelling.{Sign, unsigned, plus, minus, Exponent, letter_byte, exponent_sign, exponent_bytes, Tail, nothing, point, slash, scaled, Written, sign_bytes, tail_bytes, is_zero, TailWellFormed, WellFormed, Writes}
use Rattle.numerals.specs.Reading.{digits_of, after_digits, exponent_with, after_letter, exponent_from, scaled_by, after_point, tail_of, with_tail, unsigned_form, form_of}

-- ---- tests

-- by the two answers of a test
pub by_test : {X : Type 0} (b : Bool) → (b ≡ true → X) → (b ≡ false → X) → X
by_test true f g = f refl
by_test false f g = g refl

pub nothing_found : {A X : Type 0} {a : A} → none ≡ some a → X
nothing_found e = absurd (let z : ◌≡◌ {A = ℕ} 0 1 = cc in omega arith)

-- ---- the digits at the start

digits_split : (t : Bytes) → digits_of t ++ after_digits t ≡ t
digits_split t = take-append-drop (leading is_digit t) t

-- bytes that do not go on with a digit
abbrev pub Stops : Bytes → Type 0
Stops [] = Unit {0}
Stops (b ∷ t) = is_digit b ≡ false

stops_none : (r : Bytes) → Stops r → leading is_digit r ≡ 0
stops_none [] s = refl
stops_none (b ∷ r) s = rw s

-- digits, and then no digit: so many lead, these are they, and this is left
module _ (w r : Bytes) (e : every is_digit w ≡ true) (s : Stops r) where
  pub digits_lead : leading is_digit (w ++ r) ≡ length w
  digits_lead = leading-append is_digit w r e ∙ ap (λ (n : ℕ). length w + n) (stops_none r s) ∙ add-zero (length w)

  pub digits_are : digits_of (w ++ r) ≡ w
  digits_are = ap (λ (n : ℕ). take n (w ++ r)) digits_lead ∙ take-append_seam w r

  pub after_is : after_digits (w ++ r) ≡ r
  after_is = ap (λ (n : ℕ). drop n (w ++ r)) digits_lead ∙ drop-append_seam w r

pub numeral_digits : (w : Bytes) → is_numeral w ≡ true → every is_digit w ≡ true
numeral_digits [] e = refl
numeral_digits (b ∷ w) e = e

-- digits to the end
all_digits : (d : Bytes) → is_numeral d ≡ true → (digits_of d ≡ d) × (after_digits d ≡ [])
all_digits d e =
    let h = append-nil d in
    (ap digits_of (sym h) ∙ digits_are d [] (numeral_digits d e) tt, ap after_digits (sym h) ∙ after_is d [] (numeral_digits d e) tt)

-- a digit is no sign
digit_no_sign : (b : ℕ) → is_digit b ≡ true → (eqb b 43 ≡ false) × (eqb b 45 ≡ false)
unfolding is_digit
digit_no_sign b e =
    let h : 48 ≤ b = leb-true 48 b (both (leb 48 b) (leb b 57) e).0 in
    (ne_eqb b 43 (λ p. omega arith), ne_eqb b 45 (λ p. omega arith))

-- ---- the exponent

exponent_stops : (e : Exponent) → Stops (exponent_bytes e)
unfolding is_digit
exponent_stops e = go e.capital
  where
    go : (c : Bool) → is_digit (letter_byte c) ≡ false
    go true = refl
    go false = refl

-- the exponent that is written is found
exponent_found : (e : Exponent) → is_numeral e.digits ≡ true → exponent_from (exponent_bytes e) ≡ some e
exponent_found e n = go e.capital e.sign e.digits n
  where
    after : (c : Bool) (s : Sign) (t : Bytes) → is_numeral t ≡ true → after_letter c (exponent_sign s ++ t) ≡ some (record { capital = c; sign = s; digits = t })
    after c plus t n = rw n
    after c minus t n = rw n
    after c unsigned [] n = clash refl n
    after c unsigned (b ∷ t) n = let q = digit_no_sign b (both (is_digit b) (every is_digit t) n).0 in rw (q.0, q.1, n)

    go : (c : Bool) (s : Sign) (t : Bytes) → is_numeral t ≡ true → exponent_from (letter_byte c ∷ (exponent_sign s ++ t)) ≡ some (record { capital = c; sign = s; digits = t })
    go true s t n = after true s t n
    go false s t n = after false s t n

-- the exponent that is found is the one that is written
abbrev ExponentWrites : Exponent → Bytes → Type 0
ExponentWrites e t = (is_numeral e.digits ≡ true) × (exponent_bytes e ≡ t)

with_writes : (c : Bool) (s : Sign) (t : Bytes) (e : Exponent) → exponent_with c s t ≡ some e → ExponentWrites e (letter_byte c ∷ (exponent_sign s ++ t))
with_writes c s t e h =
    by_test (is_numeral t)
    (λ n. let form : Exponent = record { capital = c; sign = s; digits = t } in
    let found : some form ≡ some e = rw n at h in
    let same : form ≡ e = cc in
    subst (λ (x : Exponent). ExponentWrites x (letter_byte c ∷ (exponent_sign s ++ t))) same (n, refl))
    (λ n. nothing_found (rw n at h))

after_writes : (c : Bool) (t : Bytes) (e : Exponent) → after_letter c t ≡ some e → ExponentWrites e (letter_byte c ∷ t)
after_writes c [] e h = nothing_found h
after_writes c (b ∷ t) e h =
    by_test (eqb b 43)
    (λ p. subst (λ (x : ℕ). ExponentWrites e (letter_byte c ∷ x ∷ t)) (sym (eqb-true b 43 p)) (with_writes c plus t e (rw p at h)))
    (λ p. by_test (eqb b 45)
    (λ q. subst (λ (x : ℕ). ExponentWrites e (letter_byte c ∷ x ∷ t)) (sym (eqb-true b 45 q)) (with_writes c minus t e (rw (p, q) at h)))
    (λ q. with_writes c unsigned (b ∷ t) e (rw (p, q) at h)))

exponent_writes : (t : Bytes) (e : Exponent) → exponent_from t ≡ some e → ExponentWrites e t
exponent_writes [] e h = nothing_found h
exponent_writes (b ∷ t) e h =
    by_test (eqb b 69)
    (λ p. subst (λ (x : ℕ). ExponentWrites e (x ∷ t)) (sym (eqb-true b 69 p)) (after_writes true t e (rw p at h)))
    (λ p. by_test (eqb b 101)
    (λ q. subst (λ (x : ℕ). ExponentWrites e (x ∷ t)) (sym (eqb-true b 101 q)) (after_writes false t e (rw (p, q) at h)))
    (λ q. nothing_found (rw (p, q) at h)))

-- ---- the tail

tail_stops : (tail : Tail) → Stops (tail_bytes tail)
unfolding is_digit
tail_stops nothing = tt
tail_stops (point d) = refl
tail_stops (slash d) = refl
tail_stops (scaled none e) = exponent_stops e
tail_stops (scaled (some d) e) = refl

letter_tail : (e : Exponent) → tail_of (exponent_bytes e) ≡ scaled_by none (exponent_from (exponent_bytes e))
letter_tail e = go e.capital (exponent_sign e.sign ++ e.digits)
  where
    go : (c : Bool) (t : Bytes) → tail_of (letter_byte c ∷ t) ≡ scaled_by none (exponent_from (letter_byte c ∷ t))
    go true t = refl
    go false t = refl

tail_found : (tail : Tail) → TailWellFormed tail → tail_of (tail_bytes tail) ≡ some tail
tail_found nothing f = refl
tail_found (point d) f = let q = all_digits d f in rw (q.0, q.1, f)
tail_found (slash d) f = rw (f.0, f.1)
tail_found (scaled none e) f = letter_tail e ∙ ap (scaled_by none) (exponent_found e f)
tail_found (scaled (some d) e) f =
    let n : every is_digit d ≡ true = numeral_digits d f.0 in
    let p : digits_of (d ++ exponent_bytes e) ≡ d = digits_are d (exponent_bytes e) n (exponent_stops e) in
    let q : after_digits (d ++ exponent_bytes e) ≡ exponent_bytes e = after_is d (exponent_bytes e) n (exponent_stops e) in
    rw (p, q, f.0) (ap (scaled_by (some d)) (exponent_found e f.1))

-- the tail that is found is the one that is written
abbrev TailWrites : Tail → Bytes → Type 0
TailWrites tail r = TailWellFormed tail × (tail_bytes tail ≡ r)

scaled_writes : (d : Option Bytes) (tail : Tail) (r : Bytes) (o : Option Exponent) → ((e : Exponent) → o ≡ some e → TailWrites (scaled d e) r) → scaled_by d o ≡ some tail → TailWrites tail r
scaled_writes d tail r none w h = nothing_found h
scaled_writes d tail r (some e) w h =
    let same : scaled d e ≡ tail = cc in
    subst (λ (x : Tail). TailWrites x r) same (w e refl)

point_writes : (d after : Bytes) (tail : Tail) → is_numeral d ≡ true → after_point d after ≡ some tail → TailWrites tail (46 ∷ (d ++ after))
point_writes d [] tail n h =
    let same : point d ≡ tail = cc in
    subst (λ (x : Tail). TailWrites x (46 ∷ (d ++ []))) same (n, ap (λ (r : Bytes). 46 ∷ r) (sym (append-nil d)))
point_writes d (b ∷ t) tail n h =
    scaled_writes (some d) tail (46 ∷ (d ++ (b ∷ t))) (exponent_from (b ∷ t))
    (λ e p. let x = exponent_writes (b ∷ t) e p in ((n, x.0), ap (λ (r : Bytes). 46 ∷ (d ++ r)) x.1)) h

tail_writes : (r : Bytes) (tail : Tail) → tail_of r ≡ some tail → TailWrites tail r
tail_writes [] tail e =
    let same : nothing ≡ tail = cc in
    subst (λ (x : Tail). TailWrites x []) same (tt, refl)
tail_writes (b ∷ t) tail e =
    by_test (eqb b 46)
    (λ p. by_test (is_numeral (digits_of t))
    (λ n. let w = point_writes (digits_of t) (after_digits t) tail n (rw (p, n) at e) in
    (w.0, w.1 ∙ ap (λ (r : Bytes). 46 ∷ r) (digits_split t) ∙ ap (λ (x : ℕ). x ∷ t) (sym (eqb-true b 46 p))))
    (λ n. nothing_found (rw (p, n) at e)))
    (λ p. by_test (eqb b 47)
    (λ q. by_test (is_numeral t && not (every is_zero t))
    (λ n. let found : some (slash t) ≡ some tail = rw (p, q, n) at e in
    let same : slash t ≡ tail = cc in
    let numeral : is_numeral t ≡ true = (both (is_numeral t) (not (every is_zero t)) n).0 in
    let zeros : every is_zero t ≡ false = not-true (every is_zero t) (both (is_numeral t) (not (every is_zero t)) n).1 in
    subst (λ (x : Tail). TailWrites x (b ∷ t)) same ((numeral, zeros), ap (λ (x : ℕ). x ∷ t) (sym (eqb-true b 47 q))))
    (λ n. nothing_found (rw (p, q, n) at e)))
    (λ q. scaled_writes none tail (b ∷ t) (exponent_from (b ∷ t)) (exponent_writes (b ∷ t)) (rw (p, q) at e)))

-- ---- the whole form

-- a form that starts with a digit
unsigned_found : (n : Bool) (w : Bytes) (tail : Tail) → is_numeral w ≡ true → TailWellFormed tail → unsigned_form n (w ++ tail_bytes tail) ≡ some (record { negative = n; whole = w; tail = tail })
unsigned_found n w tail e f =
    let d : digits_of (w ++ tail_bytes tail) ≡ w = digits_are w (tail_bytes tail) (numeral_digits w e) (tail_stops tail) in
    let r : after_digits (w ++ tail_bytes tail) ≡ tail_bytes tail = after_is w (tail_bytes tail) (numeral_digits w e) (tail_stops tail) in
    rw (d, e, r, tail_found tail f)

unsigned_writes : (n : Bool) (t : Bytes) (w : Written) → unsigned_form n t ≡ some w → WellFormed w × (w.whole ++ tail_bytes w.tail ≡ t) × (w.negative ≡ n)
unsigned_writes n t w e =
    by_test (is_numeral (digits_of t))
    (λ d. go (tail_of (after_digits t)) refl d (rw d at e))
    (λ d. nothing_found (rw d at e))
  where
    go : (o : Option Tail) → tail_of (after_digits t) ≡ o → is_numeral (digits_of t) ≡ true → with_tail n (digits_of t) o ≡ some w → WellFormed w × (w.whole ++ tail_bytes w.tail ≡ t) × (w.negative ≡ n)
    go none p d e = nothing_found e
    go (some tail) p d e =
        let form : Written = record { negative = n; whole = digits_of t; tail = tail } in
        let same : form ≡ w = cc in
        let q = tail_writes (after_digits t) tail p in
        subst (λ (x : Written). WellFormed x × (x.whole ++ tail_bytes x.tail ≡ t) × (x.negative ≡ n)) same
        (record { whole-digits = d; tail_digits = q.0 }, ap (λ (r : Bytes). digits_of t ++ r) q.1 ∙ digits_split t, refl)

-- the form that a token is written in is found
pub form_found : (w : Written) (token : Bytes) → Writes w token → form_of token ≡ some w
form_found w token h = subst (λ (t : Bytes). form_of t ≡ some w) h.bytes (go w.negative w.whole w.tail h.well_formed.whole-digits h.well_formed.tail_digits)
  where
    go : (n : Bool) (v : Bytes) (tail : Tail) → is_numeral v ≡ true → TailWellFormed tail → form_of (sign_bytes n ++ (v ++ tail_bytes tail)) ≡ some (record { negative = n; whole = v; tail = tail })
    go true v tail e f = unsigned_found true v tail e f
    go false [] tail e f = clash refl e
    go false (b ∷ v) tail e f = rw (digit_no_sign b (both (is_digit b) (every is_digit v) e).0).1 (unsigned_found false (b ∷ v) tail e f)

-- and what is found is the form that it is written in
pub found_writes : (token : Bytes) (w : Written) → form_of token ≡ some w → Writes w token
found_writes [] w e = nothing_found e
found_writes (b ∷ t) w e =
    by_test (eqb b 45)
    (λ m. let u = unsigned_writes true t w (rw m at e) in
    record { well_formed = u.0; bytes = ap (λ (n : Bool). sign_bytes n ++ (w.whole ++ tail_bytes w.tail)) u.2 ∙ ap (λ (r : Bytes). 45 ∷ r) u.1 ∙ ap (λ (x : ℕ). x ∷ t) (sym (eqb-true b 45 m)) })
    (λ m. let u = unsigned_writes false (b ∷ t) w (rw m at e) in
    record { well_formed = u.0; bytes = ap (λ (n : Bool). sign_bytes n ++ (w.whole ++ tail_bytes w.tail)) u.2 ∙ u.1 })
