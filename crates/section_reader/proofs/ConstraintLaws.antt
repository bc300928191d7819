-- What the proof of the constraints cites: m, then b, at most m, then m rows.
-- Assumes nothing.
use mathlib.Core.Path.{◌≡◌, sym, ◌∙◌, subst}
use mathlib.Core.List.{List}
use Rattle.std.specs.Prelude.{Ok}
use Prim.Native.Nat.{ℕ, suc, ◌≤◌}
use native.Mathlib.Omega.{arith}
use lib.IntN.{ℤ}
use lib.ListN.{length}
use Rattle.text.specs.Bytes.{Bytes}
use Rattle.tables.specs.Limits.{most_rows}
use Rattle.grammar.specs.Tree.{Row}
use Rattle.grammar.specs.Format.{Format, then, items}
use Rattle.grammar.specs.Certificate.{count_to, row, row_names}
use Rattle.symbol_reader.specs.Steps.{Answer}
use Rattle.symbol_reader.specs.Follows.{Always, Follows, below}
use Rattle.symbol_reader.specs.Marks.{Fingerprinted}
use Rattle.symbol_reader.specs.declared.Cursor.{Cursor}
use Rattle.symbol_reader.specs.declared.Next.{Next}
use Rattle.symbol_reader.proofs.FollowsLaws.{follows_told}
use Rattle.section_reader.proofs.SectionLaws.{then_known}

-- what follows m
abbrev pub After : ℕ → ℕ → Format ((b : ℕ) × List Row)
After n m = then (count_to m) (λ b. items m (λ before. row n (length before) (row_names before)))

-- m is handed back in the end
pub given_follows : (n : ℕ) {prints : List ℕ} {text : Bytes} {c : Cursor} {ix : List ℕ} {vs : List ℤ} {rs : List ℕ} {ix' : List ℕ} {vs' : List ℤ} {rs' : List ℕ} {r : Answer} {x : Next} {ix'' : List ℕ} {vs'' : List ℤ} {rs'' : List ℕ} {z : Answer}
    → Follows Always (count_to most_rows) (below (suc most_rows)) text c ix vs rs ix' vs' rs' r → r ≡ Ok x
    → (x.number ≤ most_rows → Follows Always (After n x.number) (λ y k. (x.number ≡ k) × Fingerprinted (row_names y.1) prints) text x.cursor ix' vs' rs' ix'' vs'' rs'' z)
    → Follows Always (then (count_to most_rows) (After n)) (λ y k. below (suc most_rows) y.0 k × Fingerprinted (row_names y.1.1) prints) text c ix vs rs ix'' vs'' rs'' z
given_follows n {prints} {text} {ix' = ix'} {vs'} {rs'} {x = x} {ix''} {vs''} {rs''} {z} h was k =
    then_known h was {tells = λ y i. below (suc most_rows) y.0 i × Fingerprinted (row_names y.1.1) prints}
    (λ m known. follows_told
    (subst (λ (i : ℕ). Follows Always (After n i) (λ y k. (x.number ≡ k) × Fingerprinted (row_names y.1) prints) text x.cursor ix' vs' rs' ix'' vs'' rs'' z) (sym known.says.0) (k (omega (arith, known.says.1))))
    (λ y i e t. ((known.says.0 ∙ t.0, omega (arith, t.0, known.says.1)), t.1)))
