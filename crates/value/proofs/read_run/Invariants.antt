-- `value::read_run` meets its contract. The loop's invariant: the bytes from `from` up to `next` are digits, and `digits` is
-- `start` with them after it (`Reading`). The measure is what is left of the token.
-- Assumes nothing.
use Prim.Native.Nat.{◌-◌}
use lib.ListN.{length}
use Rattle.value.proofs.Runs.{Reading}
use Rattle.value.proofs.read_run.Given as goal

abbrev pub invariant-loop-next : goal.invariant-loop-next
invariant-loop-next l = Reading l.token l.from l.next l.initial.digits l.digits

abbrev pub decreases-loop-next : goal.decreases-loop-next
decreases-loop-next l = length l.token - l.next
