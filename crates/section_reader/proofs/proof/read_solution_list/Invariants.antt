-- The invariant of `section_reader::proof::read_solution_list`: so many of the solutions are read and written, and the tables have the
-- lengths that they had.
use mathlib.Core.Path.{◌≡◌}
use Prim.Native.Nat.{◌≤◌}
use lib.ListN.{length}
use Rattle.tables.specs.Limits.{most_variables, most_solutions}
use Rattle.grammar.specs.Certificate.{solution}
use Rattle.symbol_reader.specs.Steps.{state}
use Rattle.symbol_reader.proofs.LoopLaws.{Looping}
use Rattle.section_reader.proofs.proof.read_solution_list.Given as goal

abbrev pub invariant-loop-j : goal.invariant-loop-j
invariant-loop-j l =
    (l.n ≤ most_variables → l.count ≤ most_solutions → Looping (solution l.n) l.count l.j (λ done. Unit {0}) l.text (state l.initial.at l.initial.index l.initial.values l.initial.rows) (state l.at l.index l.values l.rows))
    × (length l.index ≡ length l.initial.index) × (length l.values ≡ length l.initial.values) × (length l.rows ≡ length l.initial.rows)
