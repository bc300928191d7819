-- The line that is printed for a text, and the bytes of a room that came.
-- Assumes nothing.
use mathlib.Core.Path.{◌≡◌, sym, ◌∙◌, ap}
use Prim.Native.Nat.{ℕ, min}
use native.Mathlib.Omega.{min_cases}
use lib.ListN.{length, take}
use lib.Seq.{take_all, take-length}
use Rattle.text.specs.Bytes.{Bytes}
use Rattle.tables.specs.Limits.{index_cells, value_cells, row_cells}
use Rattle.reader.specs.Promise.{course_of}
use Rattle.checker.specs.Promise.{Answer, answer_of}
use Rattle.program.specs.Line.{line_for, printed}

-- the line for the answer of verifying a text, with tables of as many cells as needed
pub line_of : (text : Bytes) {line : Bytes} {a : Answer} {i v r : ℕ} → i ≡ index_cells → v ≡ value_cells → r ≡ row_cells
    → line ≡ line_for a → a ≡ answer_of text (course_of text i v r) → line ≡ printed text
line_of text p q s l e = l ∙ ap line_for e ∙ (λ k. line_for (answer_of text (course_of text (p k) (q k) (s k))))

-- so many bytes of a room, at most all
pub at_most_all : (room : Bytes) (came : ℕ) {n : ℕ} → n ≡ min came (length room) → take n room ≡ take came room
at_most_all room came {n} h = min_cases came (length room) (take n room ≡ take came room)
    (λ less same. ap (λ (k : ℕ). take k room) (h ∙ same))
    (λ more same. ap (λ (k : ℕ). take k room) (h ∙ same) ∙ take-length room ∙ sym (take_all came room more))
