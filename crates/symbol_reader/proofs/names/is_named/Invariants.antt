-- `symbol_reader::names::is_named` meets its contract. The invariant: the token is a name of all the rows exactly if it is one of those left.
-- Assumes nothing.
use mathlib.Core.Path.{◌≡◌}
use lib.ListN.{length}
use Rattle.text.specs.Bytes.{same}
use Rattle.grammar.specs.Reading.{is_among}
use Rattle.symbol_reader.specs.Leaves.{names_in}
use Rattle.symbol_reader.proofs.names.is_named.Given as goal

abbrev pub invariant-loop-rows : goal.invariant-loop-rows
invariant-loop-rows l = is_among same l.token (names_in l.text l.rows) ≡ is_among same l.token (names_in l.text l.initial.rows)

abbrev pub decreases-loop-rows : goal.decreases-loop-rows
decreases-loop-rows l = length l.rows
