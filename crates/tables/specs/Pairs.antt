-- Lists of pairs as two lists: of indices, and of numbers, "numerator, denominator by turns" (document 01, "Tables lent by the
-- caller"). They may be parts of the tables, or come from anywhere.
-- Assumes nothing.
use Rattle.std.specs.Prelude.{List, [], ◌∷◌, ℕ, ◌/◌, min, ℤ, length}
use Rattle.arithmetic.specs.declared.Fraction.{Fraction}

-- how many pairs two lists have
abbrev pub pairs_in : List ℕ → List ℤ → ℕ
pairs_in indices values = min (length indices) (length values / 2)

-- each index with its value, in order, of as many as there are of both
unfoldable pub listed_in : {A : Type 0} → (ℕ → Fraction → A) → List ℕ → List ℤ → List A
listed_in make [] values = []
listed_in make (i ∷ indices) [] = []
listed_in make (i ∷ indices) (n ∷ []) = []
listed_in make (i ∷ indices) (n ∷ d ∷ values) = make i (record { num = n; den = d }) ∷ listed_in make indices values
