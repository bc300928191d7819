-- What the proof of the proof's sections cites: the names of the given rows, which SOL keeps, are those that DER asks for.
-- Assumes nothing.
use mathlib.Core.Path.{◌≡◌, sym, ap, ◌∙◌, subst}
use mathlib.Core.List.{List, []}
use Prim.Native.Nat.{ℕ, ◌+◌, ◌*◌, ◌≤◌}
use lib.IntN.{ℤ}
use lib.ListN.{length}
use lib.Seq.{slice}
use Rattle.text.specs.Bytes.{Bytes}
use Rattle.tables.specs.Limits.{most_rows}
use Rattle.grammar.specs.Tree.{Constraints, Solution, Solutions, Derivations}
use Rattle.grammar.specs.Certificate.{row_names, solution, solution_section}
use Rattle.grammar.specs.Layout.{gather, marks}
use Rattle.symbol_reader.specs.Steps.{State, Went, Answer}
use Rattle.symbol_reader.specs.Follows.{Always, Follows}
use Rattle.symbol_reader.specs.Leaves.{names_in}
use Rattle.symbol_reader.specs.Marks.{Fingerprinted}
use Rattle.symbol_reader.specs.declared.Cursor.{Cursor}
use Rattle.symbol_reader.proofs.NamesLaws.{Marked, marked_beyond, unmarked_view, one_symbol, one_then, one_view}
use Rattle.row_reader.proofs.RowNames.{unmarked_list}
use Rattle.section_reader.specs.Sections.{derivations_after}

-- the solutions have the rows from 1,024 on, and leave those before as they are
solutions_marked : (n : ℕ) → Marked (solution n) most_rows (λ (x : Solution). x.name)
solutions_marked n = record { one = λ before. one_view (one_then (one_symbol (most_rows + length before) []) (λ t. unmarked_view (unmarked_list n))) }

solutions_beyond : (n m : ℕ) → m ≤ most_rows → {a : Solutions} {text : Bytes} {s t : State} → Went (solution_section n) a text s t → slice 0 (4 * m) t.rows ≡ slice 0 (4 * m) s.rows
unfolding marks gather
solutions_beyond n m le {a} {text} {s} {t} w = ap (slice 0 (4 * m)) w.rows_is ∙ marked_beyond (solutions_marked n) a.count a.solutions _ _ m s.rows le

-- the derivations, by the names of the given rows that were in the row table before the solutions
pub derived_follows : {n m : ℕ} (k : Constraints) → k.count ≡ m → m ≤ most_rows → {a : Solutions} {text : Bytes} {s t : State} → Went (solution_section n) a text s t → names_in text (slice 0 (4 * m) s.rows) ≡ row_names k.rows
    → {prints : List ℕ} → Fingerprinted (row_names k.rows) prints
    → {told : Derivations → ℕ → Type 0} {c : Cursor} {ix : List ℕ} {vs : List ℤ} {ix' : List ℕ} {vs' : List ℤ} {rs' : List ℕ} {z : Answer}
    → (Fingerprinted (names_in text (slice 0 (4 * m) t.rows)) prints → Follows Always (derivations_after n m (names_in text (slice 0 (4 * m) t.rows))) told text c ix vs t.rows ix' vs' rs' z)
    → Follows Always (derivations_after n k.count (row_names k.rows)) told text c ix vs t.rows ix' vs' rs' z
derived_follows {n} {m} k same fits {text = text} {t = t} w names {prints} printed {told} {c} {ix} {vs} {ix'} {vs'} {rs'} {z} h =
    let now : names_in text (slice 0 (4 * m) t.rows) ≡ row_names k.rows = ap (names_in text) (solutions_beyond n m fits w) ∙ names in
    subst (λ (i : ℕ). Follows Always (derivations_after n i (row_names k.rows)) told text c ix vs t.rows ix' vs' rs' z) (sym same)
    (subst (λ (us : List Bytes). Follows Always (derivations_after n m us) told text c ix vs t.rows ix' vs' rs' z) now (h (subst (λ (us : List Bytes). Fingerprinted us prints) (sym now) printed)))
