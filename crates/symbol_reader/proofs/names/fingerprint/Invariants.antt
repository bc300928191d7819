-- `symbol_reader::names::fingerprint` meets its contract. The invariant: the bytes from the next on, after n, give the fingerprint.
-- Assumes nothing.
use lib.ListN.{length}
use Rattle.symbol_reader.specs.Leaves.{fingerprint_after, fingerprint_of}
use Rattle.symbol_reader.proofs.Turns.{Left}
use Rattle.symbol_reader.proofs.names.fingerprint.Given as goal

abbrev pub invariant-loop-b : goal.invariant-loop-b
invariant-loop-b l = Left (fingerprint_after l.n) l.name l.b-index (length l.name) (fingerprint_of l.name)
