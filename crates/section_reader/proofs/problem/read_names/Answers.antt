-- `section_reader::problem::read_names` meets its contract.
use mathlib.Core.Path.{refl}
use native.Mathlib.Omega.{arith}
use Rattle.symbol_reader.proofs.FollowsLaws.{follows_told}
use Rattle.symbol_reader.proofs.LoopLaws.{looping_start, looping_more, looping_stops, looping_done}
use Rattle.section_reader.proofs.problem.read_names.Goals as goal

pub loop-init : goal.loop-init
loop-init c = λ ix vs rs. looping_start tt

pub loop-preserved : goal.loop-preserved
loop-preserved c =
    λ ix vs rs. looping_more (c.loop.invariant ix vs rs) (omega arith) (λ done. Unit {0}) (λ l room p. follows_told (c.read_name.ensures ix vs rs) (λ a x e t. tt)) c.in_ok-next.was

pub returns-in_err-next : goal.returns-in_err-next
returns-in_err-next c =
    λ ix vs rs.
    looping_stops (c.loop.invariant ix vs rs) (omega arith) (λ done. Unit {0}) (λ l room p. follows_told (c.read_name.ensures ix vs rs) (λ a x e t. tt)) c.in_err-next.was c.from_residual.ensures.1

pub returns : goal.returns
returns c = λ ix vs rs. looping_done (c.loop.invariant ix vs rs) (omega arith) (λ l m. refl)
