-- What a row of cells is written as.
-- Assumes nothing.
use Rattle.std.specs.Prelude.{ℕ, List, [], ◌∷◌, codes, Option, Some}
use Rattle.std.specs.Fmt.{◌++?◌}

-- each cell after a space; nothing is said where nothing is known of a cell
abbrev pub cells_text : {T : Type 0} → (T → Option (List ℕ)) → List T → Option (List ℕ)
cells_text text [] = Some []
cells_text text (x ∷ xs) = Some (codes " ") ++? (text x ++? cells_text text xs)
