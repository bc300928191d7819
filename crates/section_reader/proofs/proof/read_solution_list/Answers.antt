-- `section_reader::proof::read_solution_list` meets its contract.
use mathlib.Core.Path.{◌≡◌, refl}
use mathlib.Core.List.{List}
use Prim.Native.Nat.{ℕ, ◌≤◌, ◌<◌}
use native.Mathlib.Omega.{arith}
use lib.IntN.{ℤ}
use lib.ListN.{length}
use Rattle.text.specs.Bytes.{Bytes}
use Rattle.tables.specs.Limits.{most_variables, most_solutions}
use Rattle.grammar.specs.Tree.{Solution}
use Rattle.grammar.specs.Certificate.{solution}
use Rattle.symbol_reader.specs.Steps.{State, state, Room, Answer, any}
use Rattle.symbol_reader.specs.Follows.{Always, Follows}
use Rattle.symbol_reader.specs.declared.Cursor.{Cursor}
use Rattle.symbol_reader.proofs.Laws.{Loop}
use Rattle.symbol_reader.proofs.FollowsLaws.{follows_told}
use Rattle.symbol_reader.proofs.LoopLaws.{looping_start, looping_more, looping_stops, looping_done}
use Rattle.section_reader.proofs.proof.read_solution_list.Goals as goal

-- one more solution was read, or refused
item : {n count j : ℕ} {text : Bytes} {first : State} {at : Cursor} {ix : List ℕ} {vs : List ℤ} {rs : List ℕ} {ix' : List ℕ} {vs' : List ℤ} {rs' : List ℕ} {r : Answer}
    → n ≤ most_variables → count ≤ most_solutions → j < count
    → ((before : List Solution) → n ≤ most_variables → length before ≡ j → j < most_solutions → Follows Always (solution n before) any text at ix vs rs ix' vs' rs' r)
    → (l : Loop (solution n) count j text first (state at ix vs rs)) → Room text first → Unit {0}
    → Follows Always (solution n l.done) (λ a i. Unit {0}) text at ix vs rs ix' vs' rs' r
item few most more reads l room u = follows_told (reads l.done few l.count (omega (arith, most, more))) (λ a x e t. tt)

pub loop-j-init : goal.loop-j-init
loop-j-init c = (λ few most. looping_start tt, refl, refl, refl)

pub loop-j-preserved : goal.loop-j-preserved
loop-j-preserved c = (
  λ few most. looping_more (c.loop-j.invariant.0 few most) (omega arith) (λ done. Unit {0}) (item few most (omega arith) c.read_solution.ensures) c.in_ok-next.was,
  omega arith,
  omega arith,
  omega arith,
)

pub returns-in_err-next : goal.returns-in_err-next
returns-in_err-next c =
    λ few most.
    looping_stops (c.loop-j.invariant.0 few most) (omega arith) (λ done. Unit {0}) (item few most (omega arith) c.read_solution.ensures) c.in_err-next.was c.from_residual.ensures.1

pub returns : goal.returns
returns c = λ few most. looping_done (c.loop-j.invariant.0 few most) (omega arith) (λ l m. refl)
