-- What the functions under the readers of one token answer: where the token stands, what it means, what is stored.
-- Assumes nothing.
use Rattle.std.specs.Prelude.{◌≡◌, Bool, false, cond, List, [], ◌∷◌, ◌⊎◌, ℕ, suc, ◌+◌, ◌-◌, ◌*◌, ◌%◌, ◌≤◌, ◌<◌, min, ltb, ℤ, pos, Option, Some, None, Result, Ok, Err, length, set}
use Rattle.std.proofs.Math.Seq.{slice}
use Rattle.std.proofs.lemmas.List.Edits.{sets}
use Rattle.text.specs.Bytes.{Bytes, same, every, is_digit, number_of}
use Rattle.text.specs.Tokens.{Token, Stream, end, token, rest}
use Rattle.text.specs.Scans.{Found}
use Rattle.text.specs.Words as W
use Rattle.text.specs.declared.Token.{Token as Span}
use Rattle.arithmetic.specs.Outcome.{Outcome, gives, refuses}
use Rattle.arithmetic.specs.declared.Fraction.{Fraction}
use Rattle.tables.specs.Limits.{largest}
use Rattle.grammar.specs.Tree.{Direction, minimize, maximize, Sense, equal, at_most, at_least}
use Rattle.grammar.specs.Format.{Word, Or, instead, given, Symbol}
use Rattle.grammar.specs.Certificate.{means, ClaimWord, infeas_word, range_word}
use Rattle.grammar.specs.Reading.{decode}
use Rattle.grammar.specs.Refusals.{refusal_number}
use Rattle.grammar.specs.declared.Refusal.{Refusal}
use Rattle.grammar.specs.declared.Refusal.TheVariants.{TableTooSmall, TokenMissing, WrongKind}
use Rattle.grammar.specs.declared.Stop.{Stop}
use Rattle.symbol_reader.specs.Steps.{Answer, name_at}
use Rattle.symbol_reader.specs.declared.Cursor.{Cursor}

-- what holds of x, by its cases
pub record Given {X : Type 0} (x : X) (P : X → Type 0) : Type 0 where
  pub holds : P x

-- ---- where a token stands

-- a refusal and its place
abbrev pub stop : Refusal → ℕ → Stop
stop reason place = record { reason = reason; place = place }

-- no token is left: the refusal has its place at the end of the text
abbrev pub Missing : Bytes → ℕ → Stop → Type 0
Missing text at e = (rest text at ≡ end (length text)) × (e ≡ stop TokenMissing (length text))

-- the first token from the place `at` on
abbrev pub Due : Bytes → ℕ → Result Span Stop → Type 0
Due text at (Ok t) = Found text at t.from t.to
Due text at (Err e) = Missing text at e

abbrev pub token_of : ℕ → Bytes → Token
token_of place bytes = record { place = place; bytes = bytes }

abbrev pub token_at : Bytes → Span → Token
token_at text t = token_of t.from (slice t.from t.to text)

-- the place after it, where nothing is stored
abbrev pub past : Span → Cursor → Cursor
past t c = record { at = t.to + 1; cells = c.cells; values = c.values }

-- the reading goes on with a number
abbrev pub next : ℕ → Cursor → Answer
next n c = Ok (record { number = n; cursor = c })

-- ---- what it means

-- what stands for what is kept of a token, or its refusal
abbrev pub Said : {A Y : Type 0} → (A → Y) → Outcome A → Result Y Refusal → Type 0
Said of (gives a) (Ok x) = of a ≡ x
Said of (gives a) (Err q) = ⊥
Said of (refuses r) (Ok x) = ⊥
Said of (refuses r) (Err q) = refusal_number q ≡ r

pub record Means {A Y : Type 0} (y : Symbol A) (of : A → Y) (t : Token) (m : Result Y Refusal) : Type 0 where
  pub is : Said of (decode y t) m

-- the words of each choice
abbrev pub senses : List (Word Sense)
senses = means W.E equal ∷ means W.L at_most ∷ means W.G at_least ∷ []

abbrev pub directions : List (Word Direction)
directions = means W.min minimize ∷ means W.max maximize ∷ []

abbrev pub claims : List (Word ClaimWord)
claims = means W.infeas infeas_word ∷ means W.range range_word ∷ []

-- the cell of a word, where words stand with their cells
abbrev pub cell_of : Bytes → List (Bytes × ℕ) → Result ℕ Refusal
cell_of w [] = Err WrongKind
cell_of w (c ∷ cs) = cond (same w c.0) (Ok c.1) (cell_of w cs)

-- the number that the bytes spell, or the largest that a cell holds where it is more; none where they are no digits
abbrev pub numeral_of : Bytes → Option ℕ
numeral_of w = cond (every is_digit w) (Some (min (number_of w) largest)) None

-- the bound of a count of at most n; no bound is above the largest number that a cell holds
abbrev pub bound_of : ℕ → ℕ
bound_of n = cond (ltb n largest) (suc n) largest

-- the first of these tokens is the word
abbrev pub starts_with : Bytes → Stream → Bool
starts_with w (end size) = false
starts_with w (token place bytes s) = same bytes w

-- what stands for a word, or for what was read in its place
abbrev pub or_cell : {A Y : Type 0} → Y → (A → Y) → Or A → Y
or_cell cell of instead = cell
or_cell cell of (given a) = of a

-- the value of an end; of the word for infinity none is asked
abbrev pub end_value : Or Fraction → Fraction
end_value = or_cell (record { num = pos 0; den = pos 1 }) (λ f. f)

-- ---- the answer to it

-- by its meaning, after the cursor c, where nothing is stored: the reading goes on after the token, or it is refused
abbrev pub Passed : Span → Cursor → Answer → Result ℕ Refusal → Type 0
Passed t c r (Ok n) = r ≡ next n (past t c)
Passed t c r (Err q) = r ≡ Err (stop q t.from)

-- ---- what is stored

-- with room the answer goes on at d with the number n and the table is as stored; without it the token at this place is refused,
-- and the table is kept
pub record Stored {X : Type 0} (room full : Type 0) (place n : ℕ) (d : Cursor) (stored table table' : X) (r : Answer) : Type 0 where
  pub goes : room → (r ≡ next n d) × (table' ≡ stored)
  pub stays : full → (r ≡ Err (stop TableTooSmall place)) × (table' ≡ table)

-- by the token's meaning; a refused token leaves the table as it is
abbrev pub Storing : {X Y : Type 0} → Type 0 → Type 0 → ℕ → (Y → ℕ) → Cursor → (Y → X) → X → X → Answer → Result Y Refusal → Type 0
Storing room full place number d stored table table' r (Ok x) = Stored room full place (number x) d (stored x) table table' r
Storing room full place number d stored table table' r (Err q) = (r ≡ Err (stop q place)) × (table' ≡ table)

-- the number of a token takes an index cell
abbrev pub NoCell : List ℕ → Cursor → Type 0
NoCell ix c = length ix ≤ c.cells

abbrev pub Filled : Span → Cursor → List ℕ → List ℕ → Answer → Result ℕ Refusal → Type 0
Filled t c ix ix' =
    Storing (c.cells < length ix) (NoCell ix c) t.from (λ n. n) (record { at = t.to + 1; cells = c.cells + 1; values = c.values })
    (λ n. set ix c.cells n) ix ix'

-- a value is stored
abbrev pub NoValue : List ℤ → Cursor → Type 0
NoValue vs c = length vs < 2 * c.values + 2

abbrev pub Valued : Span → Cursor → List ℤ → List ℤ → Answer → Result Fraction Refusal → Type 0
Valued t c vs vs' =
    Storing (2 * c.values + 2 ≤ length vs) (NoValue vs c) t.from (λ f. 0) (record { at = t.to + 1; cells = c.cells; values = c.values + 1 })
    (λ f. sets vs (2 * c.values) (f.num ∷ f.den ∷ [])) vs vs'

-- both: an end of a range that is a value takes the cell 1
abbrev pub Ended : Span → Cursor → (ix : List ℕ) × List ℤ → (ix : List ℕ) × List ℤ → Answer → Result Fraction Refusal → Type 0
Ended t c tables tables' =
    Storing ((c.cells < length tables.0) × (2 * c.values + 2 ≤ length tables.1)) (NoCell tables.0 c ⊎ NoValue tables.1 c) t.from (λ f. 1)
    (record { at = t.to + 1; cells = c.cells + 1; values = c.values + 1 })
    (λ f. (set tables.0 c.cells 1, sets tables.1 (2 * c.values) (f.num ∷ f.den ∷ []))) tables tables'

-- no room for an end: no cell, or no value where the token is not the word for infinity
abbrev pub NoEnd : Bytes → Bytes → List ℕ → List ℤ → Cursor → Type 0
NoEnd text w ix vs c = NoCell ix c ⊎ (NoValue vs c × (starts_with w (rest text c.at) ≡ false))

-- the row of a name is stored
abbrev pub NoRow : ℕ → List ℕ → Cursor → Type 0
NoRow row rs c = length rs < 4 * row + 4

abbrev pub Rowed : Span → Cursor → ℕ → List ℕ → List ℕ → Answer → Result ℕ Refusal → Type 0
Rowed t c row rs rs' =
    Storing ((4 * row + 4 ≤ length rs) × (t.to < 65536) × (c.cells < 65536) × (c.values < 65536)) (NoRow row rs c) t.from (λ n. n) (past t c)
    (λ n. sets rs (4 * row) (t.from ∷ (t.to - t.from) ∷ c.cells ∷ c.values ∷ [])) rs rs'

-- ---- names of rows

-- the names of rows that stand in a row table, four cells for each
abbrev pub names_in : Bytes → List ℕ → List Bytes
names_in text (p ∷ l ∷ c ∷ v ∷ cells) = name_at text p l ∷ names_in text cells
names_in text (p ∷ l ∷ c ∷ []) = []
names_in text (p ∷ l ∷ []) = []
names_in text (p ∷ []) = []
names_in text [] = []

-- a number of 16 bits for a name: of its bytes in order, after those that gave n
abbrev pub fingerprint_after : ℕ → Bytes → ℕ
fingerprint_after n [] = n
fingerprint_after n (b ∷ w) = fingerprint_after ((n * 31 + b) % 65536) w

unfoldable pub fingerprint_of : Bytes → ℕ
fingerprint_of w = fingerprint_after 0 w
