-- `text::gap` meets its contract: all bytes so far lead the part.
use Rattle.std.specs.Prelude.{◌≡◌, ◌+◌, length, drop, take_while}
use Rattle.text.specs.Bytes.{is_separator}
use Rattle.text.proofs.gap.Given as goal

abbrev pub invariant-loop-b : goal.invariant-loop-b
invariant-loop-b l = (l.len ≡ l.b-index) × (l.len + length (take_while is_separator (drop l.b-index l.part)) ≡ length (take_while is_separator l.part))
