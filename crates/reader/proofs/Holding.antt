-- Tables that are those of a tree hold its certificate, in 01's words: each row and solution by its mark (`Kept`), whose row is
-- found in the row table, and whose positions are those of its cells and its values.
-- Assumes nothing.
use mathlib.Core.Path.{◌≡◌, sym, ◌∙◌, ap, ap₂, subst}
use mathlib.Core.List.{List, ◌∷◌, ◌++◌}
use Prim.Native.Nat.{ℕ, ◌*◌, ◌≤◌}
use native.Mathlib.Nat.{add-zero}
use lib.IntN.{ℤ, pos}
use lib.ListN.{length, get_or}
use Rattle.text.specs.Bytes.{Bytes}
use Rattle.text.specs.Tokens.{Token}
use Rattle.tables.specs.Limits.{row_cells}
use Rattle.arithmetic.specs.declared.Fraction.{Fraction}
use Rattle.grammar.specs.Tree.{Row, Solution, Tree}
use Rattle.grammar.specs.Tables.{by_turns, index_table, value_table, row_table}
use Rattle.grammar.specs.Texts.{SpellsTree}
use Rattle.grammar.specs.Contents.{side_values}
use Rattle.grammar.proofs.Names.{names_stand}
use Rattle.grammar.specs.Positions.{StandsAt}
use Rattle.grammar.proofs.Positions.{stands_here, stands_next, stands_slice}
use Rattle.grammar.specs.Ranges.{rows_of}
use Rattle.grammar.proofs.Ranges.{tree_in_range}
use Rattle.grammar.specs.Rows.{Kept, RowAt}
use Rattle.grammar.proofs.Rows.{row_kept, solution-kept, index_stands, values_stand, row_found}
use Rattle.reader.specs.Holds.{row_cell, value_at, NameHeld, RowHeld, SolutionHeld}

module _ {text : Bytes} {tree : Tree} (s : SpellsTree text tree) (i v r : ℕ) (enough : row_cells ≤ r) where
  abbrev index : List ℕ
  index = index_table i tree

  abbrev values : List ℤ
  values = value_table v tree

  abbrev rows : List ℕ
  rows = row_table r tree

  module _ {row : ℕ} {name : Token} {cs : List ℕ} {vs : List Fraction} (k : Kept tree row name cs vs) where
    found : RowAt rows (record { row = row; name = name; cells = k.cell; values = k.number })
    found = row_found s r enough _ k.marked

    name_held : NameHeld text rows row name
    name_held =
        record {
          place = ap (λ (n : ℕ). get_or rows n 0) (add-zero (4 * row)) ∙ found.place;
          size = found.size;
          in_text = (names_stand s).holds _ k.marked;
        }

    -- its cells stand in the index table from its third number on, its values in the value table from its fourth
    cells_at : StandsAt index (row_cell rows row 2) cs
    cells_at = subst (λ (n : ℕ). StandsAt index n cs) (sym found.cell) (index_stands i tree k.cells_stand)

    values-at : StandsAt values (2 * row_cell rows row 3) (by_turns vs)
    values-at = subst (λ (n : ℕ). StandsAt values (2 * n) (by_turns vs)) (sym found.number) (values_stand v tree k.values_stand)

  value-here : (at : ℕ) (f : Fraction) (fs : List Fraction) → StandsAt values (2 * at) (by_turns (f ∷ fs)) → value_at values at ≡ f
  value-here at f fs h =
      ap₂ {A = ℤ} {B = ℤ} {C = Fraction} (λ n d. record { num = n; den = d }) (stands_here h (pos 0)) (stands_here (stands_next h) (pos 0))

  pub row_held : (before : List Row) (x : Row) (after : List Row) → rows_of tree ≡ before ++ (x ∷ after) → RowHeld text index values rows (length before) x
  row_held before x after e =
      let k = row_kept (tree_in_range s) before x after e in
      record { name = name_held k; sense = stands_here (cells_at k) 0; right = value-here _ x.right (side_values x.side) (values-at k) }

  pub solution_held : (before : List Solution) (x : Solution) (after : List Solution) → tree.solutions.solutions ≡ before ++ (x ∷ after)
      → SolutionHeld text index values rows (length before) x
  solution_held before x after e =
      let k = solution-kept tree before x after e in
      record { name = name_held k; count = stands_here (cells_at k) 0; own = stands_slice (values-at k) }
