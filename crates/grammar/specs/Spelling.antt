-- What tokens spell: "The grammar is stated on the text alone, apart from the reader, as a relation between text and
-- certificate and not as a way of reading" (document 01, "Spelling").
-- Assumes nothing.
use Rattle.std.specs.Prelude.{◌≡◌, false, ℕ, ◌+◌, ◌*◌, ◌^◌, ◌≤◌, ◌<◌, length}
use mathlib.Core.List.{List, [], ◌∷◌, ◌++◌, map, Memᴰ}
use Rattle.text.specs.Bytes.{Bytes}
use Rattle.text.specs.Tokens.{Token}
use Rattle.numerals.specs.Spelling.{SpellsValue}
use Rattle.grammar.specs.Lists.{Each, NoneOf}
use Rattle.grammar.specs.Format.{Word, Or, instead, given, Symbol, word, placed, choice, number, name, row_name, value, or, Format, symbol, then, items, nothing, view}

-- ---- one token

-- one of these words, which has this meaning
pub record WordSpelled {A : Type 0} (words : List (Word A)) (a : A) (w : Bytes) : Type 0 where
  pub entry : Word A
  pub listed : Memᴰ entry words
  pub bytes : w ≡ entry.bytes
  pub meaning : entry.meaning ≡ a

-- "A name is any token of bytes 33 to 126"
abbrev pub IsName : Bytes → Type 0
IsName w = Each (λ (b : ℕ). (33 ≤ b) × (b ≤ 126)) w

-- the number that digits stand for in decimal: each counts ten to the number of digits after it
abbrev pub in_decimal : List ℕ → ℕ
in_decimal [] = 0
in_decimal (d ∷ ds) = d * 10 ^ length ds + in_decimal ds

-- "digits only, leading zeros allowed": one digit or more, each written by its byte (`0` is 48), that stand for n
pub record Numeral (n : ℕ) (w : Bytes) : Type 0 where
  pub digits : List ℕ
  pub below_ten : Each (λ (d : ℕ). d < 10) digits
  pub not-empty : 0 < length digits
  pub written : w ≡ map (◌+◌ 48) digits
  pub stand_for : in_decimal digits ≡ n

-- "Counts and indices are digits only", in their range, and distinct from those used
pub record NumberSpelled (bound : ℕ) (used : List ℕ) (n : ℕ) (w : Bytes) : Type 0 where
  pub numeral : Numeral n w
  pub in_range : n < bound
  pub distinct : NoneOf n used

-- this word, or else what the other symbol says
abbrev pub OrSpelled : {A : Type 0} → Bytes → (A → Type 0) → Or A → Bytes → Type 0
OrSpelled w P instead bytes = bytes ≡ w
OrSpelled w P (given a) bytes = P a

-- the token t spells the symbol, and a is kept of it
abbrev pub SymbolSpelled : {A : Type 0} → Symbol A → A → Token → Type 0
SymbolSpelled (word w) u t = t.bytes ≡ w
SymbolSpelled (placed w) p t = (t.bytes ≡ w) × (t.place ≡ p)
SymbolSpelled (choice cell words out) a t = WordSpelled words a t.bytes × (out a ≡ false)
SymbolSpelled (number bound used) n t = NumberSpelled bound used n t.bytes
SymbolSpelled name n t = (t ≡ n) × IsName n.bytes
SymbolSpelled (row_name row used) n t = (t ≡ n) × IsName n.bytes × NoneOf n.bytes used
SymbolSpelled (value cells) f t = SpellsValue f t.bytes
SymbolSpelled (or w cell s) x t = OrSpelled w (λ a. SymbolSpelled s a t) x t.bytes

-- ---- tokens in sequence

-- one token, of which P holds
pub record OneToken (P : Token → Type 0) (ts : List Token) : Type 0 where
  pub token : Token
  pub alone : ts ≡ token ∷ []
  pub spelled : P token

-- tokens of which P holds, and then tokens of which Q holds
pub record InSequence (P Q : List Token → Type 0) (ts : List Token) : Type 0 where
  pub front : List Token
  pub back : List Token
  pub tokens : ts ≡ front ++ back
  pub first : P front
  pub second : Q back

-- the items of a list, one after the other, each at the list of those before it
abbrev pub ItemsSpelled : {A : Type 0} → (List A → A → List Token → Type 0) → List A → List A → List Token → Type 0
ItemsSpelled P before [] ts = ts ≡ []
ItemsSpelled P before (x ∷ xs) ts = InSequence (P before x) (λ us. ItemsSpelled P (before ++ (x ∷ [])) xs us) ts

-- so many of them
pub record ListSpelled {A : Type 0} (n : ℕ) (P : List A → A → List Token → Type 0) (xs : List A) (ts : List Token) : Type 0 where
  pub counted : length xs ≡ n
  pub each : ItemsSpelled P [] xs ts

-- the tokens ts spell the format, and a is kept of them
abbrev pub Spells : {A : Type 0} → Format A → A → List Token → Type 0
Spells (symbol s) a ts = OneToken (λ t. SymbolSpelled s a t) ts
Spells (then f g) ab ts = InSequence (λ us. Spells f ab.0 us) (λ us. Spells (g ab.0) ab.1 us) ts
Spells (items n g) xs ts = ListSpelled n (λ before x us. Spells (g before) x us) xs ts
Spells nothing u ts = ts ≡ []
Spells (view to from p q f) b ts = Spells f (from b) ts
