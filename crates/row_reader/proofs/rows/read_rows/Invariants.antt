-- The invariant of `row_reader::rows::read_rows`: so many of the rows are read and written, and the fingerprints of their names are
-- marked. The names that stand in the row table are theirs.
use mathlib.Core.Path.{◌≡◌}
use Prim.Native.Nat.{◌≤◌}
use lib.ListN.{length}
use Rattle.grammar.specs.Certificate.{row, row_names}
use Rattle.symbol_reader.specs.Steps.{state}
use Rattle.symbol_reader.specs.Marks.{Fingerprinted}
use Rattle.symbol_reader.proofs.LoopLaws.{Looping}
use Rattle.row_reader.proofs.rows.read_rows.Given as goal

abbrev pub invariant-loop-i : goal.invariant-loop-i
invariant-loop-i l =
    (l.n ≤ 256 → l.count ≤ 1024 → length l.initial.prints ≡ 1024 → Looping (λ before. row l.n (length before) (row_names before)) l.count l.i (λ done. Fingerprinted (row_names done) l.prints) l.text (state l.initial.at l.initial.index l.initial.values l.initial.rows) (state l.at l.index l.values l.rows))
    × (length l.index ≡ length l.initial.index) × (length l.values ≡ length l.initial.values) × (length l.rows ≡ length l.initial.rows) × (length l.prints ≡ length l.initial.prints)
