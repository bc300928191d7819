-- `section_reader::proof::read_solution` meets its contract: a name, which takes its row, and a list of pairs.
use native.Mathlib.Omega.{arith}
use Rattle.symbol_reader.proofs.FollowsLaws.{then_stops, view_follows}
use Rattle.section_reader.proofs.SectionLaws.{then_known}
use Rattle.section_reader.proofs.SolutionLaws.{name_follows}
use Rattle.section_reader.proofs.proof.read_solution.Goals as goal

pub returns-in_err-name : goal.returns-in_err-name
returns-in_err-name c =
    let row = c.saturating_add-row.ensures in
    λ before few same within.
    view_follows (λ a n t. t)
    (then_stops (name_follows before (omega (arith, row, same, within)) (c.read_free_name.ensures.by_index _ _ (omega (arith, row, within)))) c.in_err-name.was c.from_residual.ensures.1)

pub returns : goal.returns
returns c =
    let row = c.saturating_add-row.ensures in
    λ before few same within.
    view_follows (λ a n t. t)
    (then_known (name_follows before (omega (arith, row, same, within)) (c.read_free_name.ensures.by_index _ _ (omega (arith, row, within)))) c.in_ok-name.was
    (λ a k. view_follows (λ y n t. t) (c.read_pair_list.ensures _ (omega (arith, few)))))
