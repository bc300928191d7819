-- The invariant of `section_reader::problem::read_names`: so many of the names are read.
use mathlib.Core.List.{List}
use Prim.Native.Nat.{ℕ}
use lib.IntN.{ℤ}
use Rattle.grammar.specs.Format.{symbol, name}
use Rattle.symbol_reader.specs.Steps.{state}
use Rattle.symbol_reader.proofs.LoopLaws.{Looping}
use Rattle.section_reader.proofs.problem.read_names.Given as goal

abbrev pub invariant-loop : goal.invariant-loop
invariant-loop l =
    (ix : List ℕ) (vs : List ℤ) (rs : List ℕ) → Looping (λ before. symbol name) l.count l.counter (λ done. Unit {0}) l.text (state l.initial.at ix vs rs) (state l.at ix vs rs)
