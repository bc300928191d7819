-- A pair by the indices that are marked: as the grammar says it of the pairs before.
-- Assumes nothing.
use mathlib.Core.Path.{◌≡◌}
use mathlib.Core.List.{List, [], ◌∷◌, ◌++◌, map, map-append}
use Prim.Native.Nat.{ℕ}
use Rattle.grammar.specs.Certificate.{Pair}

abbrev pub indices : List Pair → List ℕ
indices ps = map (λ (p : Pair). p.index) ps

pub indices_more : (ps : List Pair) (p : Pair) → indices (ps ++ (p ∷ [])) ≡ indices ps ++ (p.index ∷ [])
indices_more ps p = map-append (λ (p : Pair). p.index) ps (p ∷ [])
