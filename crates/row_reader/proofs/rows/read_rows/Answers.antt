-- `row_reader::rows::read_rows` meets its contract.
use mathlib.Core.Path.{◌≡◌, refl, sym, ap, ◌∙◌, subst, subst₂}
use mathlib.Core.List.{List, [], ◌∷◌, ◌++◌, map-append}
use Prim.Native.Nat.{ℕ, ◌*◌, ◌≤◌}
use native.Mathlib.Nat.{zero-add}
use native.Mathlib.Omega.{arith}
use lib.IntN.{ℤ}
use lib.ListN.{length}
use lib.Seq.{slice}
use Rattle.text.specs.Bytes.{Bytes}
use Rattle.grammar.specs.Tree.{Row}
use Rattle.grammar.specs.Certificate.{row, row_names}
use Rattle.symbol_reader.specs.Steps.{State, state, Answer, Room}
use Rattle.symbol_reader.specs.Follows.{Always, Follows}
use Rattle.symbol_reader.specs.Leaves.{names_in}
use Rattle.symbol_reader.specs.Marks.{Fingerprinted}
use Rattle.symbol_reader.specs.declared.Cursor.{Cursor}
use Rattle.symbol_reader.proofs.Laws.{Loop}
use Rattle.symbol_reader.proofs.FollowsLaws.{follows_told}
use Rattle.symbol_reader.proofs.LoopLaws.{looping_start, looping_more, looping_stops, looping_done}
use Rattle.symbol_reader.proofs.NamesLaws.{loop_names}
use Rattle.symbol_reader.proofs.Fingerprints.{no_names}
use Rattle.row_reader.proofs.RowNames.{rows-marked}
use Rattle.row_reader.proofs.rows.read_rows.Goals as goal

-- one more row was read, or refused, with the next index and a name that none before it has
item : {n count i : ℕ} {text : Bytes} {first : State} {at : Cursor} {ix : List ℕ} {vs : List ℤ} {rs prints : List ℕ} {ix' : List ℕ} {vs' : List ℤ} {rs' prints' : List ℕ} {r : Answer}
    → count ≤ 1024
    → (Fingerprinted (names_in text (slice 0 (4 * i) rs)) prints
    → Follows Always (row n i (names_in text (slice 0 (4 * i) rs))) (λ a k. Fingerprinted (names_in text (slice 0 (4 * i) rs) ++ (a.name.bytes ∷ [])) prints') text at ix vs rs ix' vs' rs' r)
    → (l : Loop (λ before. row n (length before) (row_names before)) count i text first (state at ix vs rs)) → Room text first → Fingerprinted (row_names l.done) prints
    → Follows Always (row n (length l.done) (row_names l.done)) (λ a i. Fingerprinted (row_names (l.done ++ (a ∷ []))) prints') text at ix vs rs ix' vs' rs' r
item {n} {count} {i} {text} {first} {at} {ix} {vs} {rs} {prints} {ix'} {vs'} {rs'} {prints'} {r} few reads l room marked =
    let used : names_in text (slice 0 (4 * i) rs) ≡ row_names l.done =
    ap (λ (k : ℕ). names_in text (slice 0 (4 * k) rs)) (sym (zero-add i))
    ∙ loop_names (rows-marked n) l (omega (arith, l.within, room.of_rows.rows_long, few)) in
    follows_told
    (subst₂ (λ (own : ℕ) (names : List Bytes). Follows Always (row n own names) (λ a i. Fingerprinted (names ++ (a.name.bytes ∷ [])) prints') text at ix vs rs ix' vs' rs' r)
    (sym l.count) used (reads (subst (λ (names : List Bytes). Fingerprinted names prints) (sym used) marked)))
    (λ a x e h. subst (λ (names : List Bytes). Fingerprinted names prints') (sym (map-append (λ (x : Row). x.name.bytes) l.done (a ∷ []))) h)

pub loop-i-init : goal.loop-i-init
loop-i-init c = (λ small few long. looping_start (no_names long), refl, refl, refl, refl)

pub loop-i-preserved : goal.loop-i-preserved
loop-i-preserved c = (
  λ small few long. looping_more (c.loop-i.invariant.0 small few long) (omega arith) (λ done. Fingerprinted (row_names done) c.read_row.new.prints) (item few (c.read_row.ensures small (omega (arith, few)))) c.in_ok-next.was,
  omega arith,
  omega arith,
  omega arith,
  omega arith,
)

pub returns-in_err-next : goal.returns-in_err-next
returns-in_err-next c =
    λ small few long.
    looping_stops (c.loop-i.invariant.0 small few long) (omega arith) (λ done. Fingerprinted (row_names done) c.read_row.new.prints) (item few (c.read_row.ensures small (omega (arith, few)))) c.in_err-next.was c.from_residual.ensures.1

pub returns : goal.returns
returns c = λ small few long. looping_done (c.loop-i.invariant.0 small few long) (omega arith) (λ l m. m)
