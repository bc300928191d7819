-- Where each row, derivation and solution, and each section, stands in the tables (document 01, "Tables lent by the caller"):
-- a row's mark has its number, its name, and the positions at which its index cells and its values begin. This holds of every
-- tree; that the row table has each of these rows where 01 says, of every tree that is spelled.
-- Assumes nothing.
use Rattle.std.specs.Prelude.{◌≡◌, refl, ◌⊎◌, ◌≢◌, ℕ, zero, suc, ◌+◌, ◌*◌, ◌≤◌, ◌<◌, ℤ, length, get_or, take, drop, set, replicate}
use Rattle.std.proofs.Common.{sym, ◌∙◌, ap, subst, subst₂, inl, inr, add-zero, zero-add, arith, lit<, length-append, get_or-set_other, length-take-le}
use mathlib.Core.List.Memᴰ
use mathlib.Core.List.{List, [], ◌∷◌, ◌++◌, map, append_assoc, append-nil, Memᴰ}
use Rattle.std.proofs.lemmas.List.{length-replicate, length-map}
use Rattle.std.proofs.lemmas.List.Edits.{sets, sets-eq}
use Rattle.std.proofs.Math.Seq.{length-sets}
use Rattle.text.specs.Bytes.{Bytes}
use Rattle.text.specs.Tokens.{Token}
use Rattle.tables.specs.Limits.{row_cells, most_rows}
use Rattle.arithmetic.specs.declared.Fraction.{Fraction}
use Rattle.grammar.specs.Tree.{Row, Solution, Derivation, Tree}
use Rattle.grammar.specs.Format.{Format}
use Rattle.grammar.specs.Certificate.{row_names, constraints, solution_section, derivation_section, certificate}
use Rattle.grammar.specs.Layout.{Mark, cells, values, marks}
use Rattle.grammar.specs.Texts.{SpellsTree}
use Rattle.grammar.specs.Tables.{index_table, by_turns, value_table, row_of, laid, row_table}
use Rattle.grammar.specs.Ranges.{rows_of, TreeInRange, Once}
use Rattle.grammar.specs.Contents.{reason_cells, reason_values, last_cell, tree_rows, mark_rows, integers_cells, objective_cells, constraints_cells, constraints_values, claim_cells, claim_values, solutions_cells, solutions_values, derivations_cells, derivations_values, tree_cells, tree_values, row_index_cells, row_values, derivation_cells, derivation_values, term_cells, term_values, Lays}
use Rattle.grammar.specs.Positions.{StandsAt, Part, Begins}

-- ---- rows, derivations and solutions

-- the row table has a row for this name, whose third and fourth numbers are the positions of these cells and of these values
pub record Kept (tree : Tree) (row : ℕ) (name : Token) (cs : List ℕ) (vs : List Fraction) : Type 0 where
  pub cell : ℕ
  pub number : ℕ
  pub marked : Memᴰ (record { row = row; name = name; cells = cell; values = number }) (marks certificate tree 0 0)
  pub cells_stand : StandsAt (cells certificate tree) cell cs
  pub values_stand : StandsAt (values certificate tree) number vs

-- ---- the sections

-- the positions at which the sections' cells begin, and the claim's values
abbrev pub objective_at : Tree → ℕ
objective_at t = 1 + length (integers_cells t.integers)

abbrev pub constraints_at : Tree → ℕ
constraints_at t = objective_at t + length (objective_cells t.objective)

abbrev pub claim_at : Tree → ℕ
claim_at t = constraints_at t + length (constraints_cells t.constraints)

abbrev pub solutions_at : Tree → ℕ
solutions_at t = claim_at t + length (claim_cells t.relation.claim)

abbrev pub derivations_at : Tree → ℕ
derivations_at t = solutions_at t + length (solutions_cells t.solutions)

abbrev pub claim_values_at : Tree → ℕ
claim_values_at t = length (term_values t.objective.terms) + length (constraints_values t.constraints)

pub record SectionsStand (tree : Tree) : Type 0 where
  pub variables : StandsAt (cells certificate tree) 0 (tree.variables.count ∷ [])
  pub integers : StandsAt (cells certificate tree) 1 (integers_cells tree.integers)
  pub objective : StandsAt (cells certificate tree) (objective_at tree) (objective_cells tree.objective)
  pub objective-values : StandsAt (values certificate tree) 0 (term_values tree.objective.terms)
  pub constraints : StandsAt (cells certificate tree) (constraints_at tree) (constraints_cells tree.constraints)
  pub claim : StandsAt (cells certificate tree) (claim_at tree) (claim_cells tree.relation.claim)
  pub claim-values : StandsAt (values certificate tree) (claim_values_at tree) (claim_values tree.relation.claim)
  pub solutions : StandsAt (cells certificate tree) (solutions_at tree) (solutions_cells tree.solutions)
  pub derivations : StandsAt (cells certificate tree) (derivations_at tree) (derivations_cells tree.derivations)

-- "4 for each row": the four cells of a mark's row
pub record RowAt (table : List ℕ) (m : Mark) : Type 0 where
  pub place : get_or table (4 * m.row) 0 ≡ m.name.place
  pub size : get_or table (4 * m.row + 1) 0 ≡ length m.name.bytes
  pub cell : get_or table (4 * m.row + 2) 0 ≡ m.cells
  pub number : get_or table (4 * m.row + 3) 0 ≡ m.values
