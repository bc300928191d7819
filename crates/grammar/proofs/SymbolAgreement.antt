-- What is proved of the definitions in specs/SymbolAgreement.antt.
-- Assumes nothing.
use Rattle.std.specs.Prelude.{◌≡◌, refl, Bool, true, false, not, cond, ◌&&◌, ◌⊎◌, ℕ, suc, ◌+◌, ◌-◌, ◌*◌, ◌^◌, ◌≤◌, ◌<◌, ltb, leb, eqb, length}
use Rattle.std.proofs.Common.{sym, ◌∙◌, ap, subst, inl, inr, mul-one, zero-mul, mul_assoc, add-mul, arith, ltb-true, lt-ltb, leb-true, le-leb, eqb-true, eq-eqb}
use mathlib.Core.List.Memᴰ
use mathlib.Core.List.{List, [], ◌∷◌, map, map-id, map-map, Memᴰ}
use Rattle.std.proofs.Math.Option.{Option, none, some}
use Rattle.std.proofs.Math.Nat.{pow-succ'}
use Rattle.std.proofs.lemmas.List.{length-map}
use Rattle.text.specs.Bytes.{Bytes, same, every, is_printable, is_digit, is_numeral, number_after, number_of}
use Rattle.text.proofs.BytesLaws.{clash, both, same_refl, same_true}
use Rattle.text.specs.Tokens.{Token}
use Rattle.arithmetic.specs.Outcome.{Outcome, gives, refuses}
use Rattle.numerals.proofs.Agreement.{value_read}
use Rattle.grammar.specs.Lists.{Each, NoneOf}
use Rattle.grammar.specs.Format.{Word, Or, instead, given, Symbol, word, placed, choice, number, name, row_name, value, or}
use Rattle.grammar.specs.Spelling.{WordSpelled, IsName, in_decimal, Numeral, OrSpelled, SymbolSpelled}
use Rattle.grammar.specs.Reading.{is_among, meaning_of, is_name, unless, chosen, or_else, decode}
use Rattle.grammar.specs.SymbolAgreement.{Decides, differ, bytes_of, ClearSymbol}

-- from two constructors that are equal, by `cc`
pub impossible : {A : Type 0} → ◌≡◌ {A = ℕ} 0 1 → A
impossible z = absurd (omega arith)

pub numbers : Decides eqb
numbers = record { self = λ a. eq-eqb a a refl; sure = eqb-true }

pub words : Decides same
words = record { self = same_refl; sure = same_true }

-- ---- among those used

either_true : (b : Bool) → cond b true true ≡ true
either_true true = refl
either_true false = refl

module _ {A : Type 0} {eq : A → A → Bool} (decides : Decides eq) where
  among : (x : A) (ys : List A) → Memᴰ x ys → is_among eq x ys ≡ true
  among x ys (Memᴰ.head {x = y} {xs = zs} p) = rw (sym (ap (eq x) p) ∙ decides.self x)
  among x ys (Memᴰ.tail {x = y} {xs = zs} m) = rw (among x zs m) (either_true (eq x y))

  pub not_among : (x : A) (ys : List A) → is_among eq x ys ≡ false → NoneOf x ys
  not_among x ys e m = clash e (among x ys m)

  pub none_among : (x : A) (ys : List A) → NoneOf x ys → is_among eq x ys ≡ false
  none_among x [] h = refl
  none_among x (y ∷ ys) h = go (eq x y) refl (none_among x ys (λ m. h (Memᴰ.tail m)))
    where
      go : (b : Bool) → eq x y ≡ b → is_among eq x ys ≡ false → cond b true (is_among eq x ys) ≡ false
      go true e rest = absurd (h (Memᴰ.head (decides.sure x y e)))
      go false e rest = rest

not-true : (b : Bool) → not b ≡ true → b ≡ false
not-true true e = sym e
not-true false e = refl

found_spelled : {A : Type 0} (ws : List (Word A)) (w : Bytes) (a : A) → meaning_of ws w ≡ some a → WordSpelled ws a w
found_spelled [] w a e = impossible (cc)
found_spelled {A} (c ∷ ws) w a e = go (λ k. found_spelled ws w a k) (same w c.bytes) refl e
  where
    go : (meaning_of ws w ≡ some a → WordSpelled ws a w) → (b : Bool) → same w c.bytes ≡ b → cond b (some c.meaning) (meaning_of ws w) ≡ some a
        → WordSpelled (c ∷ ws) a w
    go later true s k = record { entry = c; listed = Memᴰ.head refl; bytes = same_true w c.bytes s; meaning = cc }
    go later false s k =
        let h = later k in
        record { entry = h.entry; listed = Memᴰ.tail h.listed; bytes = h.bytes; meaning = h.meaning }

spelled_found : {A : Type 0} (w : Bytes) (a : A) (c : Word A) (ws : List (Word A)) → differ (bytes_of ws) ≡ true → Memᴰ c ws → w ≡ c.bytes → c.meaning ≡ a → meaning_of ws w ≡ some a
spelled_found w a c ws d (Memᴰ.head {x = first} {xs = later} p) e m =
    rw (e, ap (λ (x : Word _). same x.bytes first.bytes) p ∙ same_refl first.bytes) (ap some (sym (ap (λ (x : Word _). x.meaning) p) ∙ m))
spelled_found {A} w a c ws d (Memᴰ.tail {x = first} {xs = later} k) e m =
    let h = both (not (is_among same first.bytes (bytes_of later))) (differ (bytes_of later)) d in
    let apart = not_among words first.bytes (bytes_of later) (not-true _ h.0) in
    go apart (same w first.bytes) refl (spelled_found w a c later h.1 k e m)
  where
    go : NoneOf first.bytes (bytes_of later) → (b : Bool) → same w first.bytes ≡ b → meaning_of later w ≡ some a → cond b (some first.meaning) (meaning_of later w) ≡ some a
    go apart true s f = absurd (apart (subst (λ (x : Bytes). Memᴰ x (bytes_of later)) (sym e ∙ same_true w first.bytes s) (Memᴰ.map (λ (x : Word A). x.bytes) k)))
    go apart false s f = f

-- ---- bytes of a kind

module _ (test : ℕ → Bool) (P : ℕ → Type 0) where
  every-each : ((b : ℕ) → test b ≡ true → P b) → (w : Bytes) → every test w ≡ true → Each P w
  every-each f w e = record { holds = λ b m. f b (go w e m) }
    where
      go : {b : ℕ} (w : Bytes) → every test w ≡ true → Memᴰ b w → test b ≡ true
      go w e (Memᴰ.head {x = c} {xs = v} p) = ap test p ∙ (both (test c) (every test v) e).0
      go w e (Memᴰ.tail {x = c} {xs = v} m) = go v (both (test c) (every test v) e).1 m

  each-every : ((b : ℕ) → P b → test b ≡ true) → (w : Bytes) → Each P w → every test w ≡ true
  each-every f [] h = refl
  each-every f (b ∷ w) h = rw (f b (h.holds b (Memᴰ.head refl))) (each-every f w (record { holds = λ c m. h.holds c (Memᴰ.tail m) }))

-- ---- names

printable_is : (b : ℕ) → is_printable b ≡ true → (33 ≤ b) × (b ≤ 126)
unfolding is_printable
printable_is b e = let h = both (leb 33 b) (leb b 126) e in (leb-true 33 b h.0, leb-true b 126 h.1)

is_printable_lem : (b : ℕ) → (33 ≤ b) × (b ≤ 126) → is_printable b ≡ true
unfolding is_printable
is_printable_lem b h = rw (le-leb 33 b h.0, le-leb b 126 h.1)

name_is : (w : Bytes) → is_name w ≡ true → IsName w
name_is w e = every-each is_printable (λ b. (33 ≤ b) × (b ≤ 126)) printable_is w e

is_name_lem : (w : Bytes) → IsName w → is_name w ≡ true
is_name_lem w h = each-every is_printable (λ b. (33 ≤ b) × (b ≤ 126)) is_printable_lem w h

-- ---- numbers

digit_is : (b : ℕ) → is_digit b ≡ true → (48 ≤ b) × (b ≤ 57)
unfolding is_digit
digit_is b e = let h = both (leb 48 b) (leb b 57) e in (leb-true 48 b h.0, leb-true b 57 h.1)

is_digit_lem : (d : ℕ) → d < 10 → is_digit (48 + d) ≡ true
unfolding is_digit
is_digit_lem d h = rw (le-leb 48 (48 + d) (omega arith), le-leb (48 + d) 57 (omega (arith, h)))

-- the number so far, times ten to the number of digits to come, and what these stand for
in_decimal_lem : (n : ℕ) (ds : List ℕ) → number_after n (map (◌+◌ 48) ds) ≡ n * 10 ^ length ds + in_decimal ds
in_decimal_lem n [] = omega (arith, mul-one n)
in_decimal_lem n (d ∷ ds) =
    let p = 10 ^ length ds in
    let next : 48 + d - 48 ≡ d = omega arith in
    let shifted : n * 10 * p ≡ n * 10 ^ suc (length ds) = mul_assoc n 10 p ∙ ap (λ (m : ℕ). n * m) (sym (pow-succ' 10 (length ds))) in
    ap (λ (m : ℕ). number_after (n * 10 + m) (map (◌+◌ 48) ds)) next
    ∙ in_decimal_lem (n * 10 + d) ds
    ∙ (let parts = add-mul (n * 10) d p in omega (arith, parts, shifted))

number_digits : (ds : List ℕ) → number_of (map (◌+◌ 48) ds) ≡ in_decimal ds
number_digits ds = in_decimal_lem 0 ds ∙ (let none = zero-mul (10 ^ length ds) in omega (arith, none))

-- digits as they are written, and their bytes
abbrev digit_of : ℕ → ℕ
digit_of b = b - 48

written_back : (w : Bytes) → every is_digit w ≡ true → w ≡ map (◌+◌ 48) (map digit_of w)
written_back [] e = refl
written_back (b ∷ w) e =
    let h = both (is_digit b) (every is_digit w) e in
    let same : b ≡ 48 + (b - 48) = omega (arith, (digit_is b h.0).0) in
    λ i. same i ∷ written_back w h.1 i

module _ {d : ℕ} where
  digit_small : (w : Bytes) → every is_digit w ≡ true → Memᴰ d (map digit_of w) → d < 10
  digit_small [] e m = absurd (Memᴰ.not-nil m)
  digit_small (b ∷ w) e m =
      let h = both (is_digit b) (every is_digit w) e in
      either (digit_is b h.0).1 (digit_small w h.1) (Memᴰ.cases_cons m)
    where
      either : b ≤ 57 → (Memᴰ d (map digit_of w) → d < 10) → (d ≡ digit_of b) ⊎ Memᴰ d (map digit_of w) → d < 10
      either most later (inl p) = omega (arith, p, most)
      either most later (inr k) = later k

numeral_digits : (w : Bytes) → every is_digit w ≡ true → 0 < length w → Numeral (number_of w) w
numeral_digits w e least =
    let back = written_back w e in
    record {
      digits = map digit_of w;
      below_ten = record { holds = λ d m. digit_small w e m };
      not-empty = rw (length-map w digit_of) least;
      written = back;
      stand_for = sym (ap number_of back ∙ number_digits (map digit_of w));
    }

numeral_is : (w : Bytes) → is_numeral w ≡ true → Numeral (number_of w) w
numeral_is [] e = absurd (impossible (cc))
numeral_is (b ∷ w) e = numeral_digits (b ∷ w) e (omega arith)

digits-every : (ds : List ℕ) → Each (λ (d : ℕ). d < 10) ds → every is_digit (map (◌+◌ 48) ds) ≡ true
digits-every [] h = refl
digits-every (d ∷ ds) h =
    rw (is_digit_lem d (h.holds d (Memᴰ.head refl))) (digits-every ds (record { holds = λ c m. h.holds c (Memᴰ.tail m) }))

digits_numeral : (ds : List ℕ) → 0 < length ds → Each (λ (d : ℕ). d < 10) ds → is_numeral (map (◌+◌ 48) ds) ≡ true
digits_numeral [] least h = absurd (omega (arith, least))
digits_numeral (d ∷ ds) least h = digits-every (d ∷ ds) h

pub is_numeral_lem : {n : ℕ} {w : Bytes} → Numeral n w → is_numeral w ≡ true
is_numeral_lem h = rw h.written (digits_numeral h.digits h.not-empty h.below_ten)

number_is : {n : ℕ} {w : Bytes} → Numeral n w → number_of w ≡ n
number_is h = ap number_of h.written ∙ number_digits h.digits ∙ h.stand_for

-- ---- a test that was passed

unless_gives : {A : Type 0} (r : ℕ) (b : Bool) (o : Outcome A) (a : A) → unless r b o ≡ gives a → (b ≡ true) × (o ≡ gives a)
unless_gives r true o a e = (refl, e)
unless_gives r false o a e = impossible (cc)

chosen_gives : {A : Type 0} (out : A → Bool) (m : Option A) (a : A) → chosen out m ≡ gives a → (m ≡ some a) × (out a ≡ false)
chosen_gives out none a e = impossible (cc)
chosen_gives out (some b) a e =
    let h = unless_gives 5 (not (out b)) (gives b) a e in
    let p : b ≡ a = cc h.1 in
    (ap some p, subst (λ x. out x ≡ false) p (not-true (out b) h.0))

-- ---- what is decoded is spelled

pub decode_sound : {A : Type 0} (s : Symbol A) (t : Token) (a : A) → decode s t ≡ gives a → SymbolSpelled s a t
decode_sound (word w) t u e = same_true t.bytes w (unless_gives 4 (same t.bytes w) (gives tt) u e).0
decode_sound (placed w) t p e =
    let h = unless_gives 4 (same t.bytes w) (gives t.place) p e in
    (same_true t.bytes w h.0, cc h.1)
decode_sound (choice cell ws out) t a e =
    let h = chosen_gives out (meaning_of ws t.bytes) a e in
    (found_spelled ws t.bytes a h.0, h.1)
decode_sound (number bound used) t n e =
    let w = t.bytes in
    let m = number_of w in
    let h = unless_gives 4 (is_numeral w) (unless 5 (ltb m bound) (unless 6 (not (is_among eqb m used)) (gives m))) n e in
    let i = unless_gives 5 (ltb m bound) (unless 6 (not (is_among eqb m used)) (gives m)) n h.1 in
    let j = unless_gives 6 (not (is_among eqb m used)) (gives m) n i.1 in
    let p : m ≡ n = cc j.1 in
    record {
      numeral = subst (λ (k : ℕ). Numeral k w) p (numeral_is w h.0);
      in_range = subst (λ (k : ℕ). k < bound) p (ltb-true m bound i.0);
      distinct = subst (λ (k : ℕ). NoneOf k used) p (not_among numbers m used (not-true (is_among eqb m used) j.0));
    }
decode_sound name t n e =
    let h = unless_gives 4 (is_name t.bytes) (gives t) n e in
    let p : t ≡ n = cc h.1 in
    (p, subst (λ (x : Token). IsName x.bytes) p (name_is t.bytes h.0))
decode_sound (row_name row used) t n e =
    let h = unless_gives 4 (is_name t.bytes) (unless 6 (not (is_among same t.bytes used)) (gives t)) n e in
    let i = unless_gives 6 (not (is_among same t.bytes used)) (gives t) n h.1 in
    let p : t ≡ n = cc i.1 in (
      p,
      subst (λ (x : Token). IsName x.bytes) p (name_is t.bytes h.0),
      subst (λ (x : Token). NoneOf x.bytes used) p (not_among words t.bytes used (not-true (is_among same t.bytes used) i.0)),
    )
decode_sound (value cells) t f e = ((value_read t.bytes).gives_spelled f).0 e
decode_sound (or {A = A} w cell s) t x e = either (λ a p. decode_sound s t a p) (same t.bytes w) refl (decode s t) refl x e
  where
    either : ((a : A) → decode s t ≡ gives a → SymbolSpelled s a t) → (b : Bool) → same t.bytes w ≡ b → (o : Outcome A) → decode s t ≡ o
        → (y : Or A) → or_else b o ≡ gives y → OrSpelled w (λ a. SymbolSpelled s a t) y t.bytes
    either ih true p o q instead r = same_true t.bytes w p
    either ih true p o q (given a) r = impossible (cc)
    either ih false p (gives a) q instead r = impossible (cc)
    either ih false p (gives a) q (given b) r = let eq : a ≡ b = cc in ih b (q ∙ ap gives eq)
    either ih false p (refuses k) q y r = impossible (cc)

pub decode_complete : {A : Type 0} (s : Symbol A) (t : Token) (a : A) → ClearSymbol s → SymbolSpelled s a t → decode s t ≡ gives a
decode_complete (word w) t u c h = rw (h, same_refl w)
decode_complete (placed w) t p c h = rw (h.0, same_refl w) (ap gives h.1)
decode_complete (choice cell ws out) t a c h =
    let k = h.0 in
    rw (spelled_found t.bytes a k.entry ws c k.listed k.bytes k.meaning, h.1)
decode_complete (number bound used) t n c h =
    rw (is_numeral_lem h.numeral, number_is h.numeral, lt-ltb n bound h.in_range, none_among numbers n used h.distinct)
decode_complete name t n c h = rw (h.0, is_name_lem n.bytes h.1)
decode_complete (row_name row used) t n c h = rw (h.0, is_name_lem n.bytes h.1, none_among words n.bytes used h.2)
decode_complete (value cells) t f c h = ((value_read t.bytes).gives_spelled f).1 h
decode_complete (or w cell s) t instead c h = rw (h, same_refl w)
decode_complete (or w cell s) t (given a) c h = rw (other (same t.bytes w) refl, decode_complete s t a c.0 h)
  where
    other : (b : Bool) → same t.bytes w ≡ b → same t.bytes w ≡ false
    other true e = absurd (c.1 a t (same_true t.bytes w e) h)
    other false e = e
