-- One token: what is decoded from it is what it spells (`decode_sound`), and what it spells is decoded from it
-- (`decode_complete`), if no token spells two things by one symbol: the words of a choice differ, and a word that may stand in
-- the place of something else is no spelling of that (`ClearSymbol`).
-- Assumes nothing.
use Rattle.std.specs.Prelude.{◌≡◌, refl, Bool, true, false, not, cond, ◌&&◌, ◌⊎◌, ℕ, suc, ◌+◌, ◌-◌, ◌*◌, ◌^◌, ◌≤◌, ◌<◌, ltb, leb, eqb, length}
use Rattle.std.proofs.Common.{sym, ◌∙◌, ap, subst, inl, inr, mul-one, zero-mul, mul_assoc, add-mul, arith, ltb-true, lt-ltb, leb-true, le-leb, eqb-true, eq-eqb}
use mathlib.Core.List.Memᴰ
use mathlib.Core.List.{List, [], ◌∷◌, map, map-id, map-map, Memᴰ}
use Rattle.std.proofs.Math.Option.{Option, none, some}
use Rattle.std.proofs.Math.Nat.{pow-succ'}
use Rattle.std.proofs.lemmas.List.{length-map}
use Rattle.text.specs.Bytes.{Bytes, same, every, is_printable, is_digit, is_numeral, number_after, number_of}
use Rattle.text.proofs.BytesLaws.{clash, both, same_refl, same_true}
use Rattle.text.specs.Tokens.{Token}
use Rattle.arithmetic.specs.Outcome.{Outcome, gives, refuses}
use Rattle.numerals.proofs.Agreement.{value_read}
use Rattle.grammar.specs.Lists.{Each, NoneOf}
use Rattle.grammar.specs.Format.{Word, Or, instead, given, Symbol, word, placed, choice, number, name, row_name, value, or}
use Rattle.grammar.specs.Spelling.{WordSpelled, IsName, in_decimal, Numeral, OrSpelled, SymbolSpelled}
use Rattle.grammar.specs.Reading.{is_among, meaning_of, is_name, unless, chosen, or_else, decode}

-- a test of two that is true of equal ones, and of no others
pub record Decides {A : Type 0} (eq : A → A → Bool) : Type 0 where
  pub self : (a : A) → eq a a ≡ true
  pub sure : (a b : A) → eq a b ≡ true → a ≡ b

-- ---- one of these words

-- no word is among those after it
abbrev pub differ : List Bytes → Bool
differ [] = true
differ (w ∷ ws) = not (is_among same w ws) && differ ws

abbrev pub bytes_of : {A : Type 0} → List (Word A) → List Bytes
bytes_of {A} ws = map (λ (c : Word A). c.bytes) ws

-- ---- what is spelled is decoded, if it is clear

-- no token spells two things by this symbol
abbrev pub ClearSymbol : {A : Type 0} → Symbol A → Type 0
ClearSymbol (word w) = Unit {0}
ClearSymbol (placed w) = Unit {0}
ClearSymbol (choice cell ws out) = differ (bytes_of ws) ≡ true
ClearSymbol (number bound used) = Unit {0}
ClearSymbol name = Unit {0}
ClearSymbol (row_name row used) = Unit {0}
ClearSymbol (value cells) = Unit {0}
ClearSymbol (or {A = A} w cell s) = ClearSymbol s × ((a : A) (t : Token) → t.bytes ≡ w → SymbolSpelled s a t → ⊥)
