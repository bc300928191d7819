-- `row_reader::lists::read_pairs` meets its contract.
use mathlib.Core.Path.{◌≡◌, refl, sym, subst}
use mathlib.Core.List.{List, [], ◌∷◌, ◌++◌}
use Prim.Native.Nat.{ℕ, ◌*◌, ◌≤◌}
use native.Mathlib.Omega.{arith}
use borrow.Author.Rules.{rules}
use lib.IntN.{ℤ}
use lib.ListN.{length}
use Rattle.text.specs.Bytes.{Bytes}
use Rattle.grammar.specs.Certificate.{pair}
use Rattle.symbol_reader.specs.Steps.{State, state, Answer, Room}
use Rattle.symbol_reader.specs.Follows.{Always, Follows}
use Rattle.symbol_reader.specs.Marks.{Marks}
use Rattle.symbol_reader.specs.declared.Cursor.{Cursor}
use Rattle.symbol_reader.proofs.Laws.{Loop}
use Rattle.symbol_reader.proofs.FollowsLaws.{follows_told}
use Rattle.symbol_reader.proofs.LoopLaws.{looping_start, looping_more, looping_stops, looping_done}
use Rattle.symbol_reader.proofs.MarksLaws.{marks_none}
use Rattle.row_reader.specs.Parts.{pair_but}
use Rattle.row_reader.proofs.Listed.{indices, indices_more}
use Rattle.row_reader.proofs.lists.read_pairs.Goals as goal

-- one more pair was read, or refused, none of those before it
item : {bound count i : ℕ} {text : Bytes} {first : State} {at : Cursor} {ix : List ℕ} {vs : List ℤ} {rs seen seen' : List ℕ} {ix' : List ℕ} {vs' : List ℤ} {r : Answer}
    → bound ≤ 1024 → length seen ≡ 16
    → ((used : List ℕ) (rs : List ℕ) → bound ≤ 65535 → bound ≤ 64 * length seen → Marks used seen → Follows Always (pair_but bound used) (λ p n. Marks (used ++ (p.index ∷ [])) seen') text at ix vs rs ix' vs' rs r)
    → (l : Loop (pair bound) count i text first (state at ix vs rs)) → Room text first → Marks (indices l.done) seen
    → Follows Always (pair bound l.done) (λ p i. Marks (indices (l.done ++ (p ∷ []))) seen') text at ix vs rs ix' vs' rs r
item {rs = rs} {seen' = seen'} small long reads l room marks =
    follows_told (reads (indices l.done) rs (omega (arith, small)) (omega (arith, small, long)) marks) (λ p x e t. subst (λ (used : List ℕ). Marks used seen') (sym (indices_more l.done p)) t)

pub loop-i-init : goal.loop-i-init
loop-i-init c = (λ rs small. looping_start (marks_none 16), refl, refl, search rules)

pub loop-i-preserved : goal.loop-i-preserved
loop-i-preserved c = (
  λ rs small. looping_more (c.loop-i.invariant.0 rs small) (omega arith) (λ done. Marks (indices done) c.read_pair.new.seen) (item small c.loop-i.invariant.3 c.read_pair.ensures.by_index) c.in_ok-next.was,
  omega arith,
  omega arith,
  omega (arith, c.read_pair.ensures.seen_len_unchanged),
)

pub returns-in_err-next : goal.returns-in_err-next
returns-in_err-next c =
    λ rs small.
    looping_stops (c.loop-i.invariant.0 rs small) (omega arith) (λ done. Marks (indices done) c.read_pair.new.seen) (item small c.loop-i.invariant.3 c.read_pair.ensures.by_index) c.in_err-next.was c.from_residual.ensures.1

pub returns : goal.returns
returns c = λ rs small. looping_done (c.loop-i.invariant.0 rs small) (omega arith) (λ l m. tt)
