-- The invariant of `row_reader::lists::read_pairs`: so many of the pairs are read and written, and just their indices are marked.
use mathlib.Core.Path.{◌≡◌}
use mathlib.Core.List.{List}
use Prim.Native.Nat.{ℕ, ◌≤◌}
use lib.ListN.{length}
use Rattle.grammar.specs.Certificate.{pair}
use Rattle.symbol_reader.specs.Steps.{state}
use Rattle.symbol_reader.specs.Marks.{Marks}
use Rattle.symbol_reader.proofs.LoopLaws.{Looping}
use Rattle.row_reader.proofs.Listed.{indices}
use Rattle.row_reader.proofs.lists.read_pairs.Given as goal

abbrev pub invariant-loop-i : goal.invariant-loop-i
invariant-loop-i l =
    ((rs : List ℕ) → l.bound ≤ 1024 → Looping (pair l.bound) l.count l.i (λ done. Marks (indices done) l.seen) l.text (state l.initial.at l.initial.index l.initial.values rs) (state l.at l.index l.values rs))
    × (length l.index ≡ length l.initial.index) × (length l.values ≡ length l.initial.values) × (length l.seen ≡ 16)
