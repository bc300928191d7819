-- What the proofs of solutions cite: a solution by its number.
-- Assumes nothing.
use mathlib.Core.Path.{◌≡◌, subst}
use mathlib.Core.List.{List, []}
use Prim.Native.Nat.{ℕ, ◌+◌}
use lib.IntN.{ℤ}
use lib.ListN.{length}
use Rattle.text.specs.Bytes.{Bytes}
use Rattle.text.specs.Tokens.{Token}
use Rattle.tables.specs.Limits.{most_rows}
use Rattle.grammar.specs.Tree.{Solution}
use Rattle.grammar.specs.Format.{row_name, symbol}
use Rattle.symbol_reader.specs.Steps.{Answer}
use Rattle.symbol_reader.specs.Follows.{Always, Follows}
use Rattle.symbol_reader.specs.declared.Cursor.{Cursor}

-- its name takes the row after those of as many solutions
pub name_follows : (before : List Solution) {row : ℕ} → row ≡ most_rows + length before → {told : Token → ℕ → Type 0} {text : Bytes} {c : Cursor} {ix : List ℕ} {vs : List ℤ} {rs : List ℕ} {ix' : List ℕ} {vs' : List ℤ} {rs' : List ℕ} {r : Answer}
    → Follows Always (symbol (row_name row [])) told text c ix vs rs ix' vs' rs' r → Follows Always (symbol (row_name (most_rows + length before) [])) told text c ix vs rs ix' vs' rs' r
name_follows before at {told} {text} {c} {ix} {vs} {rs} {ix'} {vs'} {rs'} {r} h = subst (λ (i : ℕ). Follows Always (symbol (row_name i [])) told text c ix vs rs ix' vs' rs' r) at h
