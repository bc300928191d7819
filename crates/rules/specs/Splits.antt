-- Proper splits (000, "Reason format", `uns`; document 01, **uns**; document 02, request 3): refusal 16.
-- Assumes nothing.
use Rattle.std.specs.Prelude.{◌≡◌, Bool, ◌&&◌, ◌||◌, ◌⊎◌, ℕ, ℤ, pos, ◌+ℤ◌}
use Rattle.grammar.specs.Tree.{at_most, at_least, Tree}
use Rattle.rules.specs.Values.{whole_f, same_z, is_whole}
use Rattle.rules.specs.Rows.{variables, Constraint, same_sense, constraint_of, row_of, entry_at}
use Rattle.rules.specs.Domination.{SameCoefficients, same_coefficients}
use Rattle.rules.specs.Rounding.{Integral, is_integral}

-- ---- "one is L with whole β, the other G with exactly β + 1 (never 12)"

-- c is the one, d the other
pub record Adjacent (c d : Constraint) : Type 0 where
  pub sense_is_at_most : c.sense ≡ at_most
  pub sense_is_at_least : d.sense ≡ at_least
  pub bound : ℤ
  pub is_bound : c.right ≡ whole_f bound
  pub is_next : d.right ≡ whole_f (bound +ℤ pos 1)

abbrev pub are_adjacent : Constraint → Constraint → Bool
are_adjacent c d =
    (same_sense c.sense at_most && same_sense d.sense at_least)
    && (is_whole c.right && (is_whole d.right && same_z d.right.num (c.right.num +ℤ pos 1)))

-- ---- "coefficients equal and whole, nonzero only at integer variables": so that one of the two holds wherever the integer
-- variables are whole

pub record Split (tree : Tree) (c d : Constraint) : Type 0 where
  pub same_coefficients_lem : SameCoefficients (variables tree) c d
  pub integral : Integral tree c
  -- "perhaps after reordering"
  pub adjacent : Adjacent c d ⊎ Adjacent d c

unfoldable pub is_split : Tree → Constraint → Constraint → Bool
is_split tree c d =
    same_coefficients (variables tree) c d
    && (is_integral tree c
    && (are_adjacent c d || are_adjacent d c))

-- the rows l1 and l2 are a proper split, whether given or derived, and for whatever reason: 02, "Drop the condition that l rows
-- are `asm` rows; the pair test stays"
pub record ProperSplit (tree : Tree) (l1 l2 : ℕ) : Type 0 where
  pub split : Split tree (constraint_of tree (row_of (entry_at tree l1))) (constraint_of tree (row_of (entry_at tree l2)))

unfoldable pub is_proper_split : Tree → ℕ → ℕ → Bool
is_proper_split tree l1 l2 =
    is_split tree (constraint_of tree (row_of (entry_at tree l1))) (constraint_of tree (row_of (entry_at tree l2)))
