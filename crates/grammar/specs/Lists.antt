-- What is said of each element of a list, and of none.
-- Assumes nothing.
use Rattle.std.specs.Prelude.{◌≡◌, ◌⊎◌}
use Rattle.std.proofs.Common.{sym, subst, inl, inr}
use mathlib.Core.List.Memᴰ
use mathlib.Core.List.{List, [], ◌∷◌, ◌++◌, Memᴰ}

-- P holds of each element
pub record Each {A : Type 0} (P : A → Type 0) (xs : List A) : Type 0 where
  pub holds : (x : A) → Memᴰ x xs → P x

-- x is none of these
abbrev pub NoneOf : {A : Type 0} → A → List A → Type 0
NoneOf x xs = Memᴰ x xs → ⊥
