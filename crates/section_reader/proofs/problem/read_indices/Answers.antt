-- `section_reader::problem::read_indices` meets its contract.
use mathlib.Core.Path.{◌≡◌, refl}
use mathlib.Core.List.{List, ◌∷◌, ◌++◌, []}
use Prim.Native.Nat.{ℕ, ◌*◌, ◌≤◌}
use native.Mathlib.Omega.{arith}
use borrow.Author.Rules.{rules}
use lib.IntN.{ℤ}
use lib.ListN.{length}
use Rattle.text.specs.Bytes.{Bytes}
use Rattle.tables.specs.Limits.{most_variables, largest}
use Rattle.grammar.specs.Certificate.{new_index_below}
use Rattle.symbol_reader.specs.Steps.{State, state, Answer, Room}
use Rattle.symbol_reader.specs.Follows.{Always, Follows}
use Rattle.symbol_reader.specs.Marks.{Marks}
use Rattle.symbol_reader.specs.declared.Cursor.{Cursor}
use Rattle.symbol_reader.proofs.Laws.{Loop}
use Rattle.symbol_reader.proofs.LoopLaws.{looping_start, looping_more, looping_stops, looping_done}
use Rattle.symbol_reader.proofs.MarksLaws.{marks_none}
use Rattle.section_reader.proofs.problem.read_indices.Goals as goal

-- one more index was read, or refused, none of those before it
item : {bound count i : ℕ} {text : Bytes} {first : State} {at : Cursor} {ix : List ℕ} {vs : List ℤ} {rs seen seen' : List ℕ} {ix' : List ℕ} {r : Answer}
    → bound ≤ most_variables → length seen ≡ 4
    → ((used : List ℕ) (vs : List ℤ) (rs : List ℕ) → bound ≤ largest → bound ≤ 64 * length seen → Marks used seen → Follows Always (new_index_below bound used) (λ a n. Marks (used ++ (a ∷ [])) seen') text at ix vs rs ix' vs rs r)
    → (l : Loop (new_index_below bound) count i text first (state at ix vs rs)) → Room text first → Marks l.done seen
    → Follows Always (new_index_below bound l.done) (λ a i. Marks (l.done ++ (a ∷ [])) seen') text at ix vs rs ix' vs rs r
item {vs = vs} {rs = rs} small long reads l room marks = reads l.done vs rs (omega (arith, small)) (omega (arith, small, long)) marks

pub loop-init : goal.loop-init
loop-init c = (λ vs rs small. looping_start (marks_none 4), refl, search rules)

pub loop-preserved : goal.loop-preserved
loop-preserved c = (
  λ vs rs small. looping_more (c.loop.invariant.0 vs rs small) (omega arith) (λ done. Marks done c.read_new_index.new.seen) (item small c.loop.invariant.2 c.read_new_index.ensures.by_index) c.in_ok-next.was,
  omega arith,
  omega (arith, c.read_new_index.ensures.seen_len_unchanged),
)

pub returns-in_err-next : goal.returns-in_err-next
returns-in_err-next c =
    λ vs rs small.
    looping_stops (c.loop.invariant.0 vs rs small) (omega arith) (λ done. Marks done c.read_new_index.new.seen) (item small c.loop.invariant.2 c.read_new_index.ensures.by_index) c.in_err-next.was c.from_residual.ensures.1

pub returns : goal.returns
returns c = λ vs rs small. looping_done (c.loop.invariant.0 vs rs small) (omega arith) (λ l m. refl)
