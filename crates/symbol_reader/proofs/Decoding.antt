-- What a token means, from what the functions under its reading found.
-- Assumes nothing.
use mathlib.Core.Path.{◌≡◌, refl, sym, ap, ◌∙◌, subst}
use mathlib.Core.Bool.{Bool, true, false, not, cond}
use mathlib.Core.List.{List, [], ◌∷◌}
use Rattle.std.specs.Prelude.{Result, Ok, Err}
use Prim.Native.Nat.{ℕ, suc, ◌<◌}
use native.Mathlib.Omega.{arith}
use borrow.Author.Tests.{lt-ltb, ltb-true}
use lib.Dec.{ltb, eqb}
use Rattle.text.specs.Bytes.{Bytes, same, is_numeral, number_of}
use Rattle.text.proofs.BytesLaws.{clash}
use Rattle.text.specs.Tokens.{Token}
use Rattle.arithmetic.specs.Outcome.{Outcome, gives, refuses}
use Rattle.std.proofs.Math.Option.{some}
use Rattle.grammar.specs.Format.{Word, choice, Or, instead, given, Symbol, number, placed, row_name, or}
use Rattle.grammar.specs.Reading.{is_among, is_name}
use Rattle.grammar.specs.Reading.{meaning_of, chosen, unless, or_else, decode}
use Rattle.grammar.specs.Layout.{symbol_values, symbol_marks}
use Rattle.grammar.specs.declared.Refusal.{Refusal}
use Rattle.grammar.specs.declared.Refusal.TheVariants.{UsedBefore}
use Rattle.tables.specs.Limits.{largest}
use Rattle.symbol_reader.specs.Follows.{cell_or}
use Rattle.symbol_reader.specs.Leaves.{cell_of, bound_of, token_of, or_cell, Said, Means}

no : {A : Type 0} → ◌≡◌ {A = ℕ} 0 1 → A
no z = absurd (omega arith)

-- a token by its bytes
pub means_at : {A Y : Type 0} {y : Symbol A} {of : A → Y} {place : ℕ} {bytes part : Bytes} {m : Result Y Refusal} → bytes ≡ part → Means y of (token_of place bytes) m → Means y of (token_of place part) m
means_at {y = y} {of} {place} {m = m} e h = subst (λ (w : Bytes). Means y of (token_of place w) m) e h

-- ---- numbers

-- the bound of a count, within what a cell holds
pub bound_within : (n : ℕ) → n < largest → bound_of n ≡ suc n
bound_within n h = rw (lt-ltb n largest h)

-- a number that is kept is below the bound
pub number_in_range : (bound : ℕ) (used : List ℕ) (t : Token) (a : ℕ) → decode (number bound used) t ≡ gives a → a < bound
number_in_range bound used t a e = go (is_numeral t.bytes) (ltb (number_of t.bytes) bound) refl (not (is_among eqb (number_of t.bytes) used)) e
  where
    go : (x y : Bool) → ltb (number_of t.bytes) bound ≡ y → (z : Bool) → unless 4 x (unless 5 y (unless 6 z (gives (number_of t.bytes)))) ≡ gives a → a < bound
    go true true h true e = let i : number_of t.bytes ≡ a = cc in omega (arith, ltb-true (number_of t.bytes) bound h, i)
    go true true h false e = no (cc)
    go true false h z e = no (cc)
    go false y h z e = no (cc)

-- none of those used
module _ (bound : ℕ) (used : List ℕ) (t : Token) where
  abbrev value_of : ℕ
  value_of = number_of t.bytes

  abbrev tests : Bool → Bool → Bool → Outcome ℕ
  tests a b c = unless 4 a (unless 5 b (unless 6 c (gives value_of)))

  pub new_refused : {q : Refusal} → Means (number bound []) (λ n. n) t (Err q) → Means (number bound used) (λ n. n) t (Err q)
  new_refused {q} h = record { is = go (is_numeral t.bytes) (ltb value_of bound) h.is }
    where
      go : (a b : Bool) → Said {Y = ℕ} (λ n. n) (tests a b true) (Err q) → Said (λ n. n) (tests a b (not (is_among eqb value_of used))) (Err q)
      go false b h = h
      go true false h = h
      go true true h = absurd h

  module _ {n : ℕ} (h : Means (number bound []) (λ n. n) t (Ok n)) where
    both : (a b : Bool) → ltb value_of bound ≡ b → Said (λ n. n) (tests a b true) (Ok n) → (a ≡ true) × (b ≡ true) × (value_of ≡ n) × (n < bound)
    both false b e h = absurd h
    both true false e h = absurd h
    both true true e h = (refl, refl, h, omega (arith, h, ltb-true value_of bound e))

    parts : (is_numeral t.bytes ≡ true) × (ltb value_of bound ≡ true) × (value_of ≡ n) × (n < bound)
    parts = both (is_numeral t.bytes) (ltb value_of bound) refl h.is

    pub number-below : n < bound
    number-below = parts.3

    pub new_used : is_among eqb n used ≡ true → Means (number bound used) (λ n. n) t (Err UsedBefore)
    new_used u = record { is = rw (parts.0, parts.1, ap (λ (k : ℕ). is_among eqb k used) parts.2 ∙ u) refl }

    pub new_taken : is_among eqb n used ≡ false → Means (number bound used) (λ n. n) t (Ok n)
    new_taken u = record { is = rw (parts.0, parts.1, ap (λ (k : ℕ). is_among eqb k used) parts.2 ∙ u) parts.2 }

-- ---- words

-- the place that is kept of a word is that of its token
pub placed_at : (w : Bytes) (t : Token) (p : ℕ) → decode (placed w) t ≡ gives p → p ≡ t.place
placed_at w t p e = go (same t.bytes w) e
  where
    go : (b : Bool) → unless 4 b (gives t.place) ≡ gives p → p ≡ t.place
    go true e = cc
    go false e = no (cc)

-- the words of a choice with their cells
abbrev pub cells_of : {A : Type 0} → (A → ℕ) → List (Word A) → List (Bytes × ℕ)
cells_of cell [] = []
cells_of cell (c ∷ cs) = (c.bytes, cell c.meaning) ∷ cells_of cell cs

-- what a token means where one of them is due
pub choice_means : {A : Type 0} (cell : A → ℕ) (words : List (Word A)) (place : ℕ) {w : Bytes} {m : Result ℕ Refusal} → m ≡ cell_of w (cells_of cell words) → Means (choice cell words (λ a. false)) cell (token_of place w) m
choice_means {A} cell words place {w} e = record { is = subst (Said cell (chosen (λ a. false) (meaning_of words w))) (sym e) (go words) }
  where
    go : (cs : List (Word A)) → Said cell (chosen (λ a. false) (meaning_of cs w)) (cell_of w (cells_of cell cs))
    go [] = refl
    go (c ∷ cs) = by (same w c.bytes) (go cs)
      where
        by : (b : Bool) → Said cell (chosen (λ a. false) (meaning_of cs w)) (cell_of w (cells_of cell cs))
            → Said cell (chosen (λ a. false) (cond b (some c.meaning) (meaning_of cs w))) (cond b (Ok (cell c.meaning)) (cell_of w (cells_of cell cs)))
        by true h = refl
        by false h = h

-- ---- a word, or else another symbol

module _ {A : Type 0} (w : Bytes) (cell : ℕ) (y : Symbol A) (t : Token) where
  module _ {Y : Type 0} (x : Y) (of : A → Y) where
    pub or_instead : same t.bytes w ≡ true → Means (or w cell y) (or_cell x of) t (Ok x)
    or_instead e = record { is = rw e refl }

    pub or-given : {m : Result Y Refusal} → same t.bytes w ≡ false → Means y of t m → Means (or w cell y) (or_cell x of) t m
    or-given {m} e h = record { is = rw e (go (decode y t) m h.is) }
      where
        go : (o : Outcome A) (m : Result Y Refusal) → Said of o m → Said (or_cell x of) (or_else false o) m
        go (gives a) (Ok n) h = h
        go (gives a) (Err q) h = h
        go (refuses r) (Ok n) h = h
        go (refuses r) (Err q) h = h

  -- what is kept where the token is not the word
  pub given_only : same t.bytes w ≡ false → (P : Or A → Type 0) → ((x : A) → P (given x)) → (a : Or A) → decode (or w cell y) t ≡ gives a → P a
  given_only e P p (given x) d = p x
  given_only e P p instead d = go (decode y t) (sym (rw e refl) ∙ d)
    where
      go : (o : Outcome A) → or_else false o ≡ gives instead → P instead
      go (gives x) d = no (cc)
      go (refuses r) d = no (cc)

  -- the word takes no value
  pub instead_no_value : same t.bytes w ≡ true → (a : Or A) → decode (or w cell y) t ≡ gives a → symbol_values (or w cell y) a ≡ []
  instead_no_value e instead d = refl
  instead_no_value e (given a) d = go (same t.bytes w) e d
    where
      go : (b : Bool) → b ≡ true → or_else b (decode y t) ≡ gives (given a) → symbol_values y a ≡ []
      go true e d = no (cc)
      go false e d = clash refl e

-- a cell that is kept is that of the word, or a number below the bound
pub or_in_range : (w : Bytes) (cell bound : ℕ) (t : Token) (a : Or ℕ) (n : ℕ) → or_cell cell (λ n. n) a ≡ n → decode (or w cell (number bound [])) t ≡ gives a → cell_or cell bound a n
or_in_range w cell bound t instead n e d = e
or_in_range w cell bound t (given a) n e d = (e, subst (λ (k : ℕ). k < bound) e (number_in_range bound [] t a (go (same t.bytes w) (decode (number bound []) t) d)))
  where
    go : (b : Bool) (o : Outcome ℕ) → or_else b o ≡ gives (given a) → o ≡ gives a
    go true o d = no (cc)
    go false (gives k) d = let i : k ≡ a = cc in ap gives i
    go false (refuses r) d = no (cc)

-- ---- names of rows

module _ (row : ℕ) (used : List Bytes) (of : Token → ℕ) (t : Token) where
  -- what is kept is the token
  name_kept : (a : Token) → decode (row_name row used) t ≡ gives a → a ≡ t
  name_kept a e = go (is_name t.bytes) (is_among same t.bytes used) e
    where
      go : (b c : Bool) → unless 4 b (unless 6 (not c) (gives t)) ≡ gives a → a ≡ t
      go true true e = no (cc)
      go true false e = cc
      go false c e = no (cc)

  pub name_mark : (a : Token) (i v : ℕ) → decode (row_name row used) t ≡ gives a → symbol_marks (row_name row used) a i v ≡ record { row = row; name = t; cells = i; values = v } ∷ []
  name_mark a i v e = ap (λ (x : Token). record { row = row; name = x; cells = i; values = v } ∷ []) (name_kept a e)
