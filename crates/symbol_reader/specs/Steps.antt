-- What a function that reads a part of a certificate promises: one contract, stated over formats.
-- The function starts at a state (the cursor and the three tables). Either it stops as `read` does on the tokens from the
-- cursor's place, with the same reason and place; or `read` keeps some a of them, and it goes on at the state that has a
-- written into the tables.
-- Assumes nothing.
use Rattle.std.specs.Prelude.{◌≡◌, List, [], ◌∷◌, ℕ, ◌+◌, ◌*◌, ◌≤◌, ℤ, Result, Ok, Err, length}
use Rattle.std.proofs.Math.Seq.{slice}
use Rattle.std.proofs.lemmas.List.Edits.{sets}
use Rattle.text.specs.Bytes.{Bytes}
use Rattle.text.specs.Tokens.{rest}
use Rattle.grammar.specs.Format.{Symbol, Format}
use Rattle.grammar.specs.Reading.{got, stopped, read}
use Rattle.grammar.specs.Layout.{gather, cells, values, Mark, marks}
use Rattle.grammar.specs.Tables.{by_turns, laid}
use Rattle.tables.specs.Limits.{index_cells, value_cells, row_cells}
use Rattle.grammar.specs.Refusals.{refusal_number}
use Rattle.grammar.specs.declared.Stop.{Stop}
use Rattle.symbol_reader.specs.declared.Cursor.{Cursor}
use Rattle.symbol_reader.specs.declared.Next.{Next}

-- ---- states, and the room that is left

pub record State : Type 0 where
  pub cursor : Cursor
  pub index : List ℕ
  pub values : List ℤ
  pub rows : List ℕ

abbrev pub state : Cursor → List ℕ → List ℤ → List ℕ → State
state c index values rows = record { cursor = c; index = index; values = values; rows = rows }

-- each index cell has a token behind it, of two bytes or more with its separator
pub record IndexRoom (text : Bytes) (c : Cursor) (index : List ℕ) : Type 0 where
  pub short : length text ≤ 32768
  pub inside : c.at ≤ length text + 1
  pub cells_fit : 2 * c.cells ≤ c.at
  pub index_long : index_cells ≤ length index

-- each value has two tokens behind it
pub record ValueRoom (text : Bytes) (c : Cursor) (values : List ℤ) : Type 0 where
  pub short : length text ≤ 32768
  pub inside : c.at ≤ length text + 1
  pub values_fit : 4 * c.values ≤ c.at
  pub values_long : value_cells ≤ length values

pub record RowRoom (rows : List ℕ) : Type 0 where
  pub rows_long : row_cells ≤ length rows

pub record Room (text : Bytes) (s : State) : Type 0 where
  pub of_index : IndexRoom text s.cursor s.index
  pub of_values : ValueRoom text s.cursor s.values
  pub of_rows : RowRoom s.rows

-- ---- the contract

-- an answer: a number and where the reading goes on, or where it stops
abbrev pub Answer : Type 0
Answer = Result Next Stop

abbrev pub one_of : (A : Type 0) → Symbol A → A → List ℕ
one_of A s a = 0 ∷ []

-- how many tokens spell a
abbrev pub tokens : {A : Type 0} → Format A → A → ℕ
tokens f a = length (gather one_of f a)

-- the names of marks stand in the text
abbrev pub name_at : Bytes → ℕ → ℕ → Bytes
name_at text place size = slice place (place + size) text

abbrev pub Named : Bytes → List Mark → Type 0
Named text [] = Unit {0}
Named text (m ∷ ms) = (name_at text m.name.place (length m.name.bytes) ≡ m.name.bytes) × Named text ms

-- from s to t, the tokens of the text were read as f, a was kept of them, and a was written
pub record Went {A : Type 0} (f : Format A) (a : A) (text : Bytes) (s t : State) : Type 0 where
  pub reads : read f (rest text s.cursor.at) ≡ got a (rest text t.cursor.at)
  pub cells_at : t.cursor.cells ≡ s.cursor.cells + length (cells f a)
  pub values-at : t.cursor.values ≡ s.cursor.values + length (values f a)
  pub index_is : t.index ≡ sets s.index s.cursor.cells (cells f a)
  pub values_is : t.values ≡ sets s.values (2 * s.cursor.values) (by_turns (values f a))
  pub rows_is : t.rows ≡ laid s.rows (marks f a s.cursor.cells s.cursor.values)
  pub named : Named text (marks f a s.cursor.cells s.cursor.values)
  pub ahead : s.cursor.at + 2 * tokens f a ≤ t.cursor.at
  pub room : Room text t

-- at s the tokens of the text are refused
pub record Stopped {A : Type 0} (f : Format A) (text : Bytes) (s : State) (reason place : ℕ) : Type 0 where
  pub refuses : read f (rest text s.cursor.at) ≡ stopped reason place

-- what the number says that is handed back, where a was read: nothing, or that it is this of a
abbrev pub any : {A : Type 0} → A → ℕ → Type 0
any a n = Unit {0}

abbrev pub the : {A : Type 0} → (A → ℕ) → A → ℕ → Type 0
the of a n = of a ≡ n

-- by cases on the answer
abbrev pub Answers : {A : Type 0} → Format A → (A → ℕ → Type 0) → Bytes → State → List ℕ → List ℤ → List ℕ → Answer → Type 0
Answers {A} f told text s index values rows (Ok next) = (a : A) × told a next.number × Went f a text s (state next.cursor index values rows)
Answers f told text s index values rows (Err stop) = Stopped f text s (refusal_number stop.reason) stop.place

-- THE CONTRACT: r answers to reading f at s, its number says what is told, and the tables are these afterwards
pub record Reads {A : Type 0} (f : Format A) (told : A → ℕ → Type 0) (text : Bytes) (s : State) (index : List ℕ) (values : List ℤ) (rows : List ℕ) (r : Answer) : Type 0 where
  pub is : Answers f told text s index values rows r
