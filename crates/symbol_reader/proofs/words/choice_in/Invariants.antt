-- `symbol_reader::words::choice_in` meets its contract. The invariant: the words from the next on give the token's cell.
-- Assumes nothing.
use mathlib.Core.Path.{◌≡◌}
use mathlib.Core.List.{map}
use lib.ListN.{drop}
use Rattle.symbol_reader.specs.Leaves.{cell_of}
use Rattle.symbol_reader.proofs.words.choice_in.Given as goal

abbrev pub invariant-loop-word : goal.invariant-loop-word
invariant-loop-word l = cell_of l.token (map (λ w. (w.0.now, w.1)) (drop l.word-index l.choice)) ≡ cell_of l.token (map (λ w. (w.0.now, w.1)) l.choice)
