-- What a function promises that reads on from a cursor: it reads a format there, as the contract of Steps.antt says. A reader of
-- one token promises besides what it answers where a table has no room.
-- Assumes nothing.
use Rattle.std.specs.Prelude.{◌≡◌, List, ℕ, ◌+◌, ◌*◌, ◌≤◌, ◌<◌, ℤ, Ok, Err}
use Rattle.text.specs.Bytes.{Bytes}
use Rattle.text.specs.Tokens.{Stream, end, token, rest}
use Rattle.arithmetic.specs.Outcome.{Outcome, gives, refuses}
use Rattle.grammar.specs.Format.{Or, instead, given, Symbol, Format}
use Rattle.grammar.specs.Reading.{Read, stopped, decode}
use Rattle.grammar.specs.Refusals.{refusal_number}
use Rattle.symbol_reader.specs.Steps.{State, state, Room, Answer, Reads}
use Rattle.symbol_reader.specs.declared.Cursor.{Cursor}

-- ---- with room

-- what must hold of the state at the start beside the room: nothing, or that a value has room
abbrev pub Always : State → Type 0
Always s = Unit {0}

abbrev pub ForValue : State → Type 0
ForValue s = 4 * s.cursor.values + 2 ≤ s.cursor.at

-- THE CONTRACT: r answers to reading f from the cursor c on, at the tables ix, vs, rs, which are ix', vs', rs' afterwards
pub record Follows {A : Type 0} (Q : State → Type 0) (f : Format A) (told : A → ℕ → Type 0) (text : Bytes) (c : Cursor) (ix : List ℕ) (vs : List ℤ) (rs : List ℕ) (ix' : List ℕ) (vs' : List ℤ) (rs' : List ℕ) (r : Answer) : Type 0 where
  pub is : Room text (state c ix vs rs) → Q (state c ix vs rs) → Reads f told text (state c ix vs rs) ix' vs' rs' r

-- what the number says that is handed back: the number that was read, below the bound
abbrev pub below : ℕ → ℕ → ℕ → Type 0
below bound a n = (a ≡ n) × (n < bound)

-- the cell of the word, or the number that was read in its place, below the bound
abbrev pub cell_or : ℕ → ℕ → Or ℕ → ℕ → Type 0
cell_or cell bound instead n = cell ≡ n
cell_or cell bound (given a) n = below bound a n

-- ---- without room

-- the number of the refusal of a token that finds no room: its own where it has one, else 1, "a table is too small"
abbrev pub refusal_of : {A : Type 0} → Outcome A → ℕ
refusal_of (gives a) = 1
refusal_of (refuses r) = r

-- the same for the first of these tokens, with its place; "3 text ends, a token is due"
abbrev pub refused : {A : Type 0} → Symbol A → Stream → Read A
refused y (end size) = stopped 3 size
refused y (token place bytes s) = stopped (refusal_of (decode y (record { place = place; bytes = bytes }))) place

-- an answer is this refusal
abbrev pub Is : {A : Type 0} → Read A → Answer → Type 0
Is r (Ok next) = ⊥
Is r (Err stop) = r ≡ stopped (refusal_number stop.reason) stop.place

-- where a table is full at the cursor, the token is refused, and the tables are kept as they are
pub record Refuses {A : Type 0} (full : Cursor → Type 0) (y : Symbol A) (text : Bytes) (c : Cursor) (kept : Type 0) (r : Answer) : Type 0 where
  pub is : full c → Is (refused y (rest text c.at)) r × kept
