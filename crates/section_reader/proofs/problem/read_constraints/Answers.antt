-- `section_reader::problem::read_constraints` meets its contract: a word, m, b, and m rows.
use mathlib.Core.Path.{refl}
use native.Mathlib.Omega.{arith}
use Rattle.symbol_reader.proofs.FollowsLaws.{then_stops, follows_stop, follows_next, view_follows}
use Rattle.section_reader.proofs.SectionLaws.{then_known, section_follows, section_stops}
use Rattle.section_reader.proofs.ConstraintLaws.{given_follows}
use Rattle.section_reader.proofs.problem.read_constraints.Goals as goal

pub returns-in_err-word : goal.returns-in_err-word
returns-in_err-word c = λ few marks. section_stops (c.read_word.ensures _ _ _) c.in_err-word.was c.from_residual.ensures.1

pub returns-in_err-given : goal.returns-in_err-given
returns-in_err-given c =
    λ few marks.
    section_follows (c.read_word.ensures _ _ _) c.in_ok-word.was (view_follows (λ a n t. t) (then_stops (c.read_count.ensures.follows _ _ (omega arith)) c.in_err-given.was c.from_residual-in_err-given.ensures.1))

pub returns-in_err-bounds : goal.returns-in_err-bounds
returns-in_err-bounds c =
    λ few marks.
    section_follows (c.read_word.ensures _ _ _) c.in_ok-word.was
    (view_follows (λ a n t. t)
    (given_follows c.args.n (c.read_count.ensures.follows _ _ (omega arith)) c.in_ok-given.was
    (λ most. then_stops (c.read_count-2.ensures.follows _ _ (omega (arith, most))) c.in_err-bounds.was c.from_residual-in_err-bounds.ensures.1)))

pub returns-in_err-end : goal.returns-in_err-end
returns-in_err-end c =
    λ few marks.
    section_follows (c.read_word.ensures _ _ _) c.in_ok-word.was
    (view_follows (λ a n t. t)
    (given_follows c.args.n (c.read_count.ensures.follows _ _ (omega arith)) c.in_ok-given.was
    (λ most. then_known (c.read_count-2.ensures.follows _ _ (omega (arith, most))) c.in_ok-bounds.was
    (λ b k. follows_stop (c.read_rows.ensures few most marks) c.in_err-end.was c.from_residual-in_err-end.ensures.1))))

pub returns : goal.returns
returns c =
    λ few marks.
    section_follows (c.read_word.ensures _ _ _) c.in_ok-word.was
    (view_follows (λ a n t. t)
    (given_follows c.args.n (c.read_count.ensures.follows _ _ (omega arith)) c.in_ok-given.was
    (λ most. then_known (c.read_count-2.ensures.follows _ _ (omega (arith, most))) c.in_ok-bounds.was
    (λ b k. follows_next (c.read_rows.ensures few most marks) c.in_ok-end.was (λ rows t. (refl, t))))))
