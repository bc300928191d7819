-- What came is within the room. The measure is the room that is left.
use Rattle.std.proofs.Common.{length, ◌-◌, ◌≤◌}
use Rattle.case_texts.proofs.read_full.Given as goal

abbrev pub invariant-loop-came : goal.invariant-loop-came
invariant-loop-came g l = l.came ≤ length l.room

abbrev pub decreases-loop-came : goal.decreases-loop-came
decreases-loop-came g l = length l.room - l.came
