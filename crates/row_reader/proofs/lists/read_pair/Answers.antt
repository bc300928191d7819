-- `row_reader::lists::read_pair` meets its contract: an index, then a value.
use mathlib.Core.Path.{refl}
use Rattle.symbol_reader.proofs.FollowsLaws.{then_stops, then_follows, leads_value, view_follows}
use Rattle.row_reader.proofs.lists.read_pair.Goals as goal

pub returns-in_err-listed-clause-by_index : goal.returns-in_err-listed-clause-by_index
returns-in_err-listed-clause-by_index c =
    λ used rs small fits marks. view_follows (λ p n t. t) (then_stops (c.read_new_index.ensures.by_index used _ rs small fits marks) c.in_err-listed.was c.from_residual.ensures.1)

pub returns-clause-by_index : goal.returns-clause-by_index
returns-clause-by_index c =
    λ used rs small fits marks.
    view_follows (λ p n t. t.0)
    (then_follows (c.read_new_index.ensures.by_index used _ rs small fits marks) c.in_ok-listed.was (leads_value (λ a. refl)) (λ a t. c.read_value.ensures.by_index _ rs))
