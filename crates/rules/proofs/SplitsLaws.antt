-- The tests of `Splits` decide its words.
-- Assumes nothing.
use Rattle.std.specs.Prelude.{◌≡◌, ℕ, pos, ◌+ℤ◌}
use Rattle.std.proofs.Common.{sym, ◌∙◌, ap}
use Rattle.arithmetic.specs.declared.Fraction.{Fraction}
use Rattle.grammar.specs.Tree.{at_most, at_least, Tree}
use Rattle.rules.specs.Tests.{Decides}
use Rattle.rules.proofs.Tests.{decides_as, decides_and, decides_or}
use Rattle.rules.specs.Values.{whole_f, Whole}
use Rattle.rules.proofs.ValuesLaws.{decides_same_integer, decides_whole}
use Rattle.rules.specs.Rows.{variables, Constraint, constraint_of, row_of, entry_at}
use Rattle.rules.proofs.RowsLaws.{decides_sense}
use Rattle.rules.proofs.DominationLaws.{decides_same_coefficients}
use Rattle.rules.proofs.RoundingLaws.{decides_integral}
use Rattle.rules.specs.Splits.{Adjacent, are_adjacent, Split, is_split, ProperSplit, is_proper_split}

-- ---- β and β + 1

pub decides_adjacent : (c d : Constraint) → Decides (are_adjacent c d) (Adjacent c d)
decides_adjacent c d =
    decides_as to from
    (decides_and _ _ (decides_and _ _ (decides_sense c.sense at_most) (decides_sense d.sense at_least))
    (decides_and _ _ (decides_whole c.right) (decides_and _ _ (decides_whole d.right) (decides_same_integer d.right.num (c.right.num +ℤ pos 1)))))
  where
    Parts : Type 0
    Parts = ((c.sense ≡ at_most) × (d.sense ≡ at_least)) × (Whole c.right × (Whole d.right × (d.right.num ≡ c.right.num +ℤ pos 1)))

    to : Parts → Adjacent c d
    to h =
        let whole = h.1.0 in
        let next = h.1.1.0 in
        record {
          sense_is_at_most = h.0.0;
          sense_is_at_least = h.0.1;
          bound = whole.0;
          is_bound = whole.1;
          is_next = next.1 ∙ ap whole_f (sym (ap (λ (f : Fraction). f.num) next.1) ∙ h.1.1.1 ∙ ap (λ (f : Fraction). f.num +ℤ pos 1) whole.1);
        }

    from : Adjacent c d → Parts
    from h = (
      (h.sense_is_at_most, h.sense_is_at_least),
      ((h.bound, h.is_bound), ((h.bound +ℤ pos 1, h.is_next), ap (λ (f : Fraction). f.num) h.is_next ∙ ap (λ (f : Fraction). f.num +ℤ pos 1) (sym h.is_bound))),
    )

pub decides_split : (tree : Tree) (c d : Constraint) → Decides (is_split tree c d) (Split tree c d)
unfolding is_split
decides_split tree c d =
    decides_as (λ h. record { same_coefficients_lem = h.0; integral = h.1.0; adjacent = h.1.1 }) (λ h. (h.same_coefficients_lem, (h.integral, h.adjacent)))
    (decides_and _ _ (decides_same_coefficients (variables tree) c d)
    (decides_and _ _ (decides_integral tree c) (decides_or _ _ (decides_adjacent c d) (decides_adjacent d c))))

pub decides_proper_split : (tree : Tree) (l1 l2 : ℕ) → Decides (is_proper_split tree l1 l2) (ProperSplit tree l1 l2)
unfolding is_proper_split
decides_proper_split tree l1 l2 =
    decides_as (λ h. record { split = h }) (λ h. h.split)
    (decides_split tree (constraint_of tree (row_of (entry_at tree l1))) (constraint_of tree (row_of (entry_at tree l2))))
