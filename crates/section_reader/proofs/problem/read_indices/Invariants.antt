-- The invariant of `section_reader::problem::read_indices`: so many of the indices are read and written, and just these are marked.
use mathlib.Core.Path.{◌≡◌}
use mathlib.Core.List.{List}
use Prim.Native.Nat.{ℕ, ◌≤◌}
use lib.IntN.{ℤ}
use lib.ListN.{length}
use Rattle.tables.specs.Limits.{most_variables}
use Rattle.grammar.specs.Certificate.{new_index_below}
use Rattle.symbol_reader.specs.Steps.{state}
use Rattle.symbol_reader.specs.Marks.{Marks}
use Rattle.symbol_reader.proofs.LoopLaws.{Looping}
use Rattle.section_reader.proofs.problem.read_indices.Given as goal

abbrev pub invariant-loop : goal.invariant-loop
invariant-loop l =
    ((vs : List ℤ) (rs : List ℕ) → l.bound ≤ most_variables → Looping (new_index_below l.bound) l.count l.counter (λ done. Marks done l.seen) l.text (state l.initial.at l.initial.index vs rs) (state l.at l.index vs rs))
    × (length l.index ≡ length l.initial.index) × (length l.seen ≡ 4)
