-- What came is within the text and is what the input gave; reading has not come to the end. The measure is the room that is left.
use Rattle.std.proofs.Common.{length, ◌-◌, ◌≡◌, take, Some, ◌≤◌}
use Rattle.std.specs.Io.KnownBytes.{Consumes}
use Rattle.program.proofs.input.read_input.Given as goal

abbrev pub invariant-loop-came : goal.invariant-loop-came
invariant-loop-came g l = record {
  in_room : l.came ≤ length l.text;
  consumed : Consumes (g.R.Read.remaining l.fn.from) (g.R.Read.remaining l.from) (take l.came l.text);
  going : l.last ≡ Some 0 → ⊥;
}

abbrev pub decreases-loop-came : goal.decreases-loop-came
decreases-loop-came g l = length l.initial.text - l.came
