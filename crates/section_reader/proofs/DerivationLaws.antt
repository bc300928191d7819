-- What the proof of the section of derivations cites: a count and that many derivations.
-- Assumes nothing.
use mathlib.Core.Path.{◌≡◌, sym, subst}
use mathlib.Core.List.{List}
use Rattle.std.specs.Prelude.{Ok}
use Prim.Native.Nat.{ℕ, suc, ◌-◌, ◌≤◌}
use native.Mathlib.Omega.{arith}
use lib.IntN.{ℤ}
use Rattle.text.specs.Bytes.{Bytes}
use Rattle.tables.specs.Limits.{most_rows}
use Rattle.grammar.specs.Tree.{Derivation}
use Rattle.grammar.specs.Format.{then, items}
use Rattle.grammar.specs.Certificate.{count_to, derivation}
use Rattle.symbol_reader.specs.Steps.{Answer}
use Rattle.symbol_reader.specs.Follows.{Always, Follows, below}
use Rattle.symbol_reader.specs.declared.Cursor.{Cursor}
use Rattle.symbol_reader.specs.declared.Next.{Next}
use Rattle.section_reader.proofs.SectionLaws.{then_known}

module _ (n m : ℕ) (names : List Bytes) {most : ℕ} (left : most ≡ most_rows - m) {text : Bytes} {c : Cursor} {ix : List ℕ} {vs : List ℤ} {rs : List ℕ} {ix' : List ℕ} {vs' : List ℤ} {rs' : List ℕ} {r : Answer} where
  -- the count is at most as many as are left
  pub count_follows : Follows Always (count_to most) (below (suc most)) text c ix vs rs ix' vs' rs' r → Follows Always (count_to (most_rows - m)) (below (suc (most_rows - m))) text c ix vs rs ix' vs' rs' r
  count_follows h = subst (λ (i : ℕ). Follows Always (count_to i) (below (suc i)) text c ix vs rs ix' vs' rs' r) left h

  pub derived_follows : Follows Always (count_to most) (below (suc most)) text c ix vs rs ix' vs' rs' r → {x : Next} → r ≡ Ok x → {tells : (d : ℕ) × List Derivation → ℕ → Type 0} {ix'' : List ℕ} {vs'' : List ℤ} {rs'' : List ℕ} {z : Answer}
      → (x.number ≤ most_rows - m → Follows Always (items x.number (derivation n m names x.number)) (λ ds. tells (x.number, ds)) text x.cursor ix' vs' rs' ix'' vs'' rs'' z)
      → Follows Always (then (count_to (most_rows - m)) (λ d. items d (derivation n m names d))) tells text c ix vs rs ix'' vs'' rs'' z
  derived_follows h {x} was {tells} {ix''} {vs''} {rs''} {z} k =
      then_known (count_follows h) was {tells = tells}
      (λ d known. subst (λ (i : ℕ). Follows Always (items i (derivation n m names i)) (λ ds. tells (i, ds)) text x.cursor ix' vs' rs' ix'' vs'' rs'' z) (sym known.says.0) (k (omega (arith, known.says.1))))
