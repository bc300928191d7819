-- Derived rows (document 01, "Each derived row"): refusals 11, 13, 12, 14, 16, 18 and 15, at the row's name.
-- Assumes nothing.
use Rattle.std.specs.Prelude.{Bool, false, not, List, [], ◌∷◌, map, ℕ, ◌<◌, ltb}
use Rattle.std.proofs.Math.Option.{Option, none, some}
use Rattle.arithmetic.specs.declared.Fraction.{Fraction}
use Rattle.grammar.specs.Tree.{Row, Multiplier, Unsplit, Reason, asm, lin, rnd, uns, sol, Last, never, index, Derivation, Tree}
use Rattle.rules.specs.Tests.{All}
use Rattle.rules.specs.Result.{Verdict, fine, refused, bind, ◌and_then◌, require, each}
use Rattle.rules.specs.Rows.{variables, Constraint, constraint_of, objective_with, Entry, given_row, derived_row, entry_at, row_at}
use Rattle.rules.specs.Solutions.{towards, Best, best_of}
use Rattle.rules.specs.Domination.{Dominates, dominates}
use Rattle.rules.specs.Combinations.{Denotes, suitable_combination}
use Rattle.rules.specs.Rounding.{CanBeRounded, can_be_rounded, Rounded, rounded}
use Rattle.rules.specs.Splits.{ProperSplit, is_proper_split}

-- ---- "A derived row is spent for rows above its last index; -1 means never; given rows never"

abbrev pub Past : ℕ → Last → Type 0
Past own never = ⊥
Past own (index last) = last < own

abbrev pub Spent : ℕ → Entry → Type 0
Spent own (given_row row) = ⊥
Spent own (derived_row d) = Past own d.last

abbrev pub is_past : ℕ → Last → Bool
is_past own never = false
is_past own (index last) = ltb last own

abbrev pub is_spent : ℕ → Entry → Bool
is_spent own (given_row row) = false
is_spent own (derived_row d) = is_past own d.last

-- "the rows its reason names in order": of `uns` all four
abbrev pub named : Reason → List ℕ
named asm = []
named (lin ms) = map (λ (m : Multiplier). m.row) ms.multipliers
named (rnd ms) = map (λ (m : Multiplier). m.row) ms.multipliers
named (uns u) = u.i1 ∷ u.l1 ∷ u.i2 ∷ u.l2 ∷ []
named sol = []

-- ---- the reasons, of a row, in words; `os` are the objectives of the solutions

-- "Then 15": a constraint dominates the row
abbrev pub DominatesRow : Tree → Constraint → Row → Type 0
DominatesRow tree c row = Dominates (variables tree) c (constraint_of tree row)

-- **lin**: "a suitable linear combination that dominates the associated constraint"
pub record ByCombination (tree : Tree) (row : Row) (ms : List Multiplier) : Type 0 where
  pub combination : Constraint
  pub denoted : Denotes tree ms combination
  pub dominating : DominatesRow tree combination row

-- **rnd**: "a suitable linear combination that can be rounded and the rounded constraint dominates the associated constraint"
pub record ByRounding (tree : Tree) (row : Row) (ms : List Multiplier) : Type 0 where
  pub combination : Constraint
  pub denoted : Denotes tree ms combination
  pub can_be_rounded_lem : CanBeRounded tree combination
  pub rounded_to : Constraint
  pub obtained : Rounded combination rounded_to
  pub dominating : DominatesRow tree rounded_to row

-- **uns**: a proper split; "Then each i row dominates"
pub record ByUnsplit (tree : Tree) (row : Row) (u : Unsplit) : Type 0 where
  pub proper : ProperSplit tree u.l1 u.l2
  pub first-dominates : DominatesRow tree (constraint_of tree (row_at tree u.i1)) row
  pub second_dominates : DominatesRow tree (constraint_of tree (row_at tree u.i2)) row

-- **sol**: "OBJ ≤ best objective (min), OBJ ≥ best (max) dominates the row"; there is a best one exactly if a solution is
-- listed
pub record BySolution (tree : Tree) (os : List Fraction) (row : Row) : Type 0 where
  pub best : Fraction
  pub is_best : Best tree.objective.direction os best
  pub dominating : DominatesRow tree (objective_with tree (towards tree.objective.direction) best) row

-- **asm**: "nothing more"
abbrev pub ByReason : Tree → List Fraction → Row → Reason → Type 0
ByReason tree os row asm = Unit {0}
ByReason tree os row (lin ms) = ByCombination tree row ms.multipliers
ByReason tree os row (rnd ms) = ByRounding tree row ms.multipliers
ByReason tree os row (uns u) = ByUnsplit tree row u
ByReason tree os row sol = BySolution tree os row

-- a derived row, by its own index
pub record Derived (tree : Tree) (os : List Fraction) (own : ℕ) (d : Derivation) : Type 0 where
  pub none_spent : All (λ i. Spent own (entry_at tree i) → ⊥) (named d.reason)
  pub by_reason : ByReason tree os d.row d.reason

-- ---- worked out, with the place of the row's name

abbrev pub check_dominates : Tree → Constraint → Row → Verdict
check_dominates tree c row = require (dominates (variables tree) c (constraint_of tree row)) 15 row.name.place

-- "13", "12", "15"
unfoldable pub check_lin : Tree → Row → List Multiplier → Verdict
check_lin tree row ms = bind (suitable_combination tree row.name.place ms) (λ c. check_dominates tree c row)

-- "13, 12, then 14 ..; round; 15"
unfoldable pub check_rnd : Tree → Row → List Multiplier → Verdict
check_rnd tree row ms =
    bind (suitable_combination tree row.name.place ms)
    (λ c. require (can_be_rounded tree c) 14 row.name.place and_then check_dominates tree (rounded c) row)

-- "else 16. Then each i row dominates, else 15"
unfoldable pub check_uns : Tree → Row → Unsplit → Verdict
check_uns tree row u =
    require (is_proper_split tree u.l1 u.l2) 16 row.name.place
    and_then check_dominates tree (constraint_of tree (row_at tree u.i1)) row
    and_then check_dominates tree (constraint_of tree (row_at tree u.i2)) row

-- "18, then 15 unless .."
abbrev pub check_sol : Tree → Option Fraction → Row → Verdict
check_sol tree none row = refused 18 row.name.place
check_sol tree (some best) row = check_dominates tree (objective_with tree (towards tree.objective.direction) best) row

abbrev pub check_reason : Tree → List Fraction → Row → Reason → Verdict
check_reason tree os row asm = fine
check_reason tree os row (lin ms) = check_lin tree row ms.multipliers
check_reason tree os row (rnd ms) = check_rnd tree row ms.multipliers
check_reason tree os row (uns u) = check_uns tree row u
check_reason tree os row sol = check_sol tree (best_of tree.objective.direction os) row

-- "first 11, over the rows its reason names in order .. Then"
unfoldable pub check_derivation : Tree → List Fraction → ℕ → Derivation → Verdict
check_derivation tree os own d =
    each (λ i. require (not (is_spent own (entry_at tree i))) 11 d.row.name.place) (named d.reason)
    and_then check_reason tree os d.row d.reason
