-- The reasons of derived rows, in tables in which their cells and values stand.
-- Assumes nothing.
use Rattle.std.specs.Prelude.{ℕ}
use Rattle.grammar.specs.Tree.{Reason}
use Rattle.grammar.specs.Certificate.{reason_cell, of_reason}

-- the word of a reason
abbrev pub word_in : Reason → ℕ
word_in q = reason_cell (of_reason q).0
