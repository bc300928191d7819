-- Formats: a grammar as data, so that what is said of a grammar is said once, for every format.
-- A symbol is one token. A format is symbols in sequence, where what follows may depend on what stands before, and lists of a
-- known number of items, where an item may depend on those before it.
-- Assumes nothing.
use Rattle.std.specs.Prelude.{◌≡◌, Bool, List, ℕ}
use Rattle.text.specs.Bytes.{Bytes}
use Rattle.text.specs.Tokens.{Token}
use Rattle.arithmetic.specs.declared.Fraction.{Fraction}

-- a word that stands for something
pub record Word (A : Type 0) : Type 0 where
  pub bytes : Bytes
  pub meaning : A

-- a word in the place of something else
pub data Or (A : Type 0) : Type 0 where
  instead : Or A
  given : A → Or A

-- One token. Each case says what is kept of it, and what of the tables it takes (Layout.antt)
pub data Symbol : Type 0 → Type 1 where
  -- this word; nothing is kept
  word : Bytes → Symbol (Unit {0})
  -- this word; its place in the text is kept
  placed : Bytes → Symbol ℕ
  -- one of these words, whose meaning is kept; a meaning that is out of range is refused. It takes the cell given for it
  choice : {A : Type 0} → (A → ℕ) → List (Word A) → (A → Bool) → Symbol A
  -- a count or an index: a number below the bound, and none of those used. It takes a cell
  number : ℕ → List ℕ → Symbol ℕ
  -- a name
  name : Symbol Token
  -- a name that the row table keeps in this row, and none of those used
  row_name : ℕ → List Bytes → Symbol Token
  -- a value, with the index cells that it takes: those of an end of a range have one, others none
  value : List ℕ → Symbol Fraction
  -- this word, which takes the cell given for it, or else the other symbol
  or : {A : Type 0} → Bytes → ℕ → Symbol A → Symbol (Or A)

pub data Format : Type 0 → Type 1 where
  symbol : {A : Type 0} → Symbol A → Format A
  -- one format, and then one that may depend on what the first kept
  then : {A : Type 0} {B : A → Type 0} → Format A → ((a : A) → Format (B a)) → Format ((a : A) × B a)
  -- so many items, each of which may depend on those before it
  items : {A : Type 0} → ℕ → (List A → Format A) → Format (List A)
  nothing : Format (Unit {0})
  -- the same tokens, kept under another type
  view : {A B : Type 0} (to : A → B) (from : B → A) → ((a : A) → from (to a) ≡ a) → ((b : B) → to (from b) ≡ b) → Format A → Format B
