-- The line that the program prints: "`verified`, or `refused C L` with reason C and line L in decimal" (document 01, "What the
-- kit offers").
-- Assumes nothing.
use Rattle.std.specs.Prelude.{ℕ, zero, suc, ◌+◌, ◌/◌, ◌%◌, ◌≤◌, ◌<◌, Bool, true, false, cond, [], ◌∷◌, ◌++◌, map, ◌≡◌, refl, ltb, leb, get_or, length, take}
use Rattle.std.proofs.Common.{ap, arith, leb-true}
use Rattle.text.specs.Bytes.{Bytes}
use Rattle.text.specs.Ascii.{ascii}
use Rattle.tables.specs.Limits.{most_bytes, index_cells, value_cells, row_cells}
use Rattle.rules.specs.Sentence.Points.{SentenceOf}
use Rattle.checker.specs.Promise.{Answer, verifies, refuses, answer_of}
use Rattle.checker.specs.Means.{verified_means}
use Rattle.grammar.specs.Texts.{read_of}
use Rattle.reader.specs.Promise.{not_begun, begun, course_of}

-- a number in decimal, by so many digits at most: a digit below ten, else the tens in decimal and then the last digit
unfoldable pub decimal_by : ℕ → ℕ → Bytes
decimal_by zero n = []
decimal_by (suc k) n = cond (ltb n 10) ((48 + n) ∷ []) (decimal_by k (n / 10) ++ ((48 + n % 10) ∷ []))

abbrev pub decimal : ℕ → Bytes
decimal n = decimal_by (suc n) n

-- the line for an answer, ended by LF
unfoldable pub line_for : Answer → Bytes
line_for verifies = ascii "verified\n"
line_for (refuses reason line) = ascii "refused " ++ decimal reason ++ ascii " " ++ decimal line ++ ascii "\n"

-- the line for a text, with tables of just the cells needed
abbrev pub printed : Bytes → Bytes
printed text = line_for (answer_of text (course_of text index_cells value_cells row_cells))

-- the lines of three answers, byte by byte
pub worked : map line_for (verifies ∷ refuses 15 14 ∷ refuses 2 0 ∷ []) ≡ ascii "verified\n" ∷ ascii "refused 15 14\n" ∷ ascii "refused 2 0\n" ∷ []
unfolding line_for decimal_by
worked = refl

-- where the line for a text is `verified`, the sentence about points holds of the text
says_verified : (a : Answer) → line_for a ≡ ascii "verified\n" → a ≡ verifies
unfolding line_for
says_verified verifies e = refl
says_verified (refuses reason line) e = absurd (let z : ◌≡◌ {A = ℕ} 114 118 = ap (λ (b : Bytes). get_or b 0 0) e in omega arith)

pub printed-means : (text : Bytes) → printed text ≡ ascii "verified\n" → SentenceOf text
printed-means text e = verified_means text index_cells value_cells row_cells (says_verified (answer_of text (course_of text index_cells value_cells row_cells)) e)

-- "2 text over 32,768 bytes", line 0
pub long_refused : (text : Bytes) → most_bytes < length text → printed text ≡ ascii "refused 2 0\n"
unfolding line_for decimal_by
long_refused text h = ap (λ (short : Bool). line_for (answer_of text (cond short (begun (read_of text)) (not_begun 2)))) (go (leb (length text) most_bytes) refl)
  where
    go : (t : Bool) → leb (length text) most_bytes ≡ t → t ≡ false
    go false e = refl
    go true e = absurd (omega (arith, h, leb-true (length text) most_bytes e))

-- ---- the promise of making the line

-- of a room with text, in which so many bytes came, the line is made
pub record LineMade (room : Bytes) (came : ℕ) (line : Bytes) : Type 0 where
  pub line_made : line ≡ printed (take came room)
  -- the room is greater than any text that is read: what fills it is too long, so that no text is verified that was cut off
  pub full_refused : length room ≤ came → line ≡ ascii "refused 2 0\n"
