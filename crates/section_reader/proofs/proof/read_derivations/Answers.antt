-- `section_reader::proof::read_derivations` meets its contract: a word, whose place is handed back, a count and that many derivations.
use mathlib.Core.Path.{refl, sym}
use Prim.Native.Nat.{◌*◌}
use native.Mathlib.Omega.{arith}
use lib.Seq.{slice}
use Rattle.symbol_reader.specs.Leaves.{names_in}
use Rattle.symbol_reader.proofs.FollowsLaws.{then_stops, follows_stop, follows_next, view_follows}
use Rattle.section_reader.proofs.SectionLaws.{step_up, then_known}
use Rattle.section_reader.proofs.DerivationLaws.{count_follows, derived_follows}
use Rattle.section_reader.proofs.proof.read_derivations.Goals as goal

pub returns-in_err-word : goal.returns-in_err-word
returns-in_err-word c = λ few fits marks. view_follows (λ a n t. t) (then_stops (c.read_placed.ensures _ _ _) c.in_err-word.was (step_up _ _ _ c.from_residual.ensures.1))

pub returns-in_err-count : goal.returns-in_err-count
returns-in_err-count c =
    let s = c.args in
    let left = c.saturating_sub-most.ensures in
    λ few fits marks.
    view_follows (λ a n t. t)
    (then_known (c.read_placed.ensures _ _ _) c.in_ok-word.was
    (λ p k. then_stops (count_follows s.n s.m (names_in s.text.now (slice 0 (4 * s.m) s.rows.now)) left (c.read_count.ensures.follows _ _ (omega (arith, left)))) c.in_err-count.was (step_up _ _ _ c.from_residual-in_err-count.ensures.1)))

pub returns-in_err-end : goal.returns-in_err-end
returns-in_err-end c =
    let s = c.args in
    let left = c.saturating_sub-most.ensures in
    λ few fits marks.
    view_follows (λ a n t. t)
    (then_known (c.read_placed.ensures _ _ _) c.in_ok-word.was
    (λ p k. derived_follows s.n s.m (names_in s.text.now (slice 0 (4 * s.m) s.rows.now)) left (c.read_count.ensures.follows _ _ (omega (arith, left))) c.in_ok-count.was
    (λ most. follows_stop (c.read_derivations.ensures few (omega (arith, most, fits)) marks) c.in_err-end.was (step_up _ _ _ c.from_residual-in_err-end.ensures.1))))

pub returns : goal.returns
returns c =
    let s = c.args in
    let left = c.saturating_sub-most.ensures in
    λ few fits marks.
    view_follows (λ a n t. t)
    (then_known (c.read_placed.ensures _ _ _) c.in_ok-word.was
    (λ p k. derived_follows s.n s.m (names_in s.text.now (slice 0 (4 * s.m) s.rows.now)) left (c.read_count.ensures.follows _ _ (omega (arith, left))) c.in_ok-count.was
    (λ most. follows_next (c.read_derivations.ensures few (omega (arith, most, fits)) marks) c.in_ok-end.was (λ ds t. record { place = sym k.says; count = refl; within = most }))))
