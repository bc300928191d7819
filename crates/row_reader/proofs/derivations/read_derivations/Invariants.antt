-- The invariant of `row_reader::derivations::read_derivations`: so many of the derivations are read and written, so many of them are
-- assumptions, and the fingerprints of their names and of those of the given rows are marked. The names that stand in the row
-- table are these.
use mathlib.Core.Path.{◌≡◌}
use mathlib.Core.List.{◌++◌, map}
use Prim.Native.Nat.{◌+◌, ◌*◌, ◌≤◌}
use lib.ListN.{length}
use lib.Seq.{slice}
use Rattle.grammar.specs.Tree.{Derivation}
use Rattle.grammar.specs.Certificate.{derivation, assumptions}
use Rattle.symbol_reader.specs.Steps.{state}
use Rattle.symbol_reader.specs.Leaves.{names_in}
use Rattle.symbol_reader.specs.Marks.{Fingerprinted}
use Rattle.symbol_reader.proofs.LoopLaws.{Looping}
use Rattle.row_reader.proofs.derivations.read_derivations.Given as goal

abbrev pub invariant-loop-i : goal.invariant-loop-i
invariant-loop-i l =
    (l.n ≤ 256 → l.m + l.count ≤ 1024 → Fingerprinted (names_in l.text (slice 0 (4 * l.m) l.initial.rows)) l.initial.prints
    → Looping (derivation l.n l.m (names_in l.text (slice 0 (4 * l.m) l.initial.rows)) l.count) l.count l.i (λ done. (assumptions done ≡ l.assumed) × Fingerprinted (names_in l.text (slice 0 (4 * l.m) l.initial.rows) ++ map (λ (x : Derivation). x.row.name.bytes) done) l.prints) l.text (state l.initial.at l.initial.index l.initial.values l.initial.rows) (state l.at l.index l.values l.rows))
    × (l.assumed ≤ l.i) × (length l.index ≡ length l.initial.index) × (length l.values ≡ length l.initial.values) × (length l.rows ≡ length l.initial.rows) × (length l.prints ≡ length l.initial.prints)
