-- Reading tokens by a format, "token by token, each tested 3, 4, 5, 6, 7": what was kept and the tokens left, or the first
-- refusal, by 01's number and the place of its token, or of the end (document 01, "Reasons of refusal").
-- Assumes nothing.
use Rattle.std.specs.Prelude.{Bool, true, false, cond, not, List, [], ◌∷◌, ◌++◌, ℕ, zero, suc, ltb, eqb}
use Rattle.std.proofs.Math.Option.{Option, none, some}
use Rattle.text.specs.Bytes.{Bytes, same, every, is_printable, is_numeral, number_of}
use Rattle.text.specs.Tokens.{Token, Stream, end, token}
use Rattle.arithmetic.specs.Outcome.{Outcome, gives, refuses}
use Rattle.numerals.specs.Reading.{read_value}
use Rattle.grammar.specs.Format.{Word, Or, instead, given, Symbol, word, placed, choice, number, name, row_name, value, or, Format, symbol, then, items, nothing, view}

-- ---- one token

-- x is one of these, by a test of two
abbrev pub is_among : {A : Type 0} → (A → A → Bool) → A → List A → Bool
is_among eq x [] = false
is_among eq x (y ∷ ys) = cond (eq x y) true (is_among eq x ys)

-- the meaning of the first of these words that is w
abbrev pub meaning_of : {A : Type 0} → List (Word A) → Bytes → Option A
meaning_of [] w = none
meaning_of (c ∷ cs) w = cond (same w c.bytes) (some c.meaning) (meaning_of cs w)

-- every byte is one of a name
abbrev pub is_name : Bytes → Bool
is_name w = every is_printable w

-- the outcome of a test: the number of the refusal where it is false
abbrev pub unless : {A : Type 0} → ℕ → Bool → Outcome A → Outcome A
unless r true o = o
unless r false o = refuses r

-- "4 token not of the kind due", "5 count or index out of range", for a word of a choice
abbrev pub chosen : {A : Type 0} → (A → Bool) → Option A → Outcome A
chosen out none = refuses 4
chosen out (some a) = unless 5 (not (out a)) (gives a)

abbrev pub or_else : {A : Type 0} → Bool → Outcome A → Outcome (Or A)
or_else true o = gives instead
or_else false (gives a) = gives (given a)
or_else false (refuses r) = refuses r

-- what a token means, or the number of its refusal: 4, then 5, then 6, then 7
abbrev pub decode : {A : Type 0} → Symbol A → Token → Outcome A
decode (word w) t = unless 4 (same t.bytes w) (gives tt)
decode (placed w) t = unless 4 (same t.bytes w) (gives t.place)
decode (choice cell words out) t = chosen out (meaning_of words t.bytes)
decode (number bound used) t =
    unless 4 (is_numeral t.bytes)
    (unless 5 (ltb (number_of t.bytes) bound)
    (unless 6 (not (is_among eqb (number_of t.bytes) used)) (gives (number_of t.bytes))))
decode name t = unless 4 (is_name t.bytes) (gives t)
decode (row_name row used) t = unless 4 (is_name t.bytes) (unless 6 (not (is_among same t.bytes used)) (gives t))
decode (value cells) t = read_value t.bytes
decode (or w cell s) t = or_else (same t.bytes w) (decode s t)

-- ---- a stream of tokens

-- what was kept, with the tokens left; or a refusal by number and place
pub data Read (A : Type 0) : Type 0 where
  got : A → Stream → Read A
  stopped : ℕ → ℕ → Read A

-- go on with what was kept and the tokens left
abbrev pub onward : {A B : Type 0} → Read A → (A → Stream → Read B) → Read B
onward (got a s) k = k a s
onward (stopped r p) k = stopped r p

abbrev pub kept : {A : Type 0} → Outcome A → ℕ → Stream → Read A
kept (gives a) p s = got a s
kept (refuses r) p s = stopped r p

-- "3 text ends, a token is due"
abbrev pub read_symbol : {A : Type 0} → Symbol A → Stream → Read A
read_symbol y (end size) = stopped 3 size
read_symbol y (token place bytes s) = kept (decode y (record { place = place; bytes = bytes })) place s

-- so many more items, after these: all of them
abbrev pub read_items : {A : Type 0} → (List A → Stream → Read A) → ℕ → List A → Stream → Read (List A)
read_items R zero before s = got before s
read_items R (suc n) before s = onward (R before s) (λ a u. read_items R n (before ++ (a ∷ [])) u)

unfoldable pub read : {A : Type 0} → Format A → Stream → Read A
read (symbol y) s = read_symbol y s
read (then f g) s = onward (read f s) (λ a u. onward (read (g a) u) (λ b v. got (a, b) v))
read (items n g) s = read_items (λ before v. read (g before) v) n [] s
read nothing s = got tt s
read (view to from p q f) s = onward (read f s) (λ a u. got (to a) u)
