-- `symbol_reader::names::fingerprint` meets its contract. The invariant: the bytes from the next on, after n, give the fingerprint.
-- Assumes nothing.
use mathlib.Core.Path.{◌≡◌, ap}
use lib.ListN.{length}
use lib.Seq.{slice, take-length}
use Rattle.text.specs.Bytes.{Bytes}
use Rattle.symbol_reader.specs.Leaves.{fingerprint_after, fingerprint_of}
use Rattle.symbol_reader.proofs.names.fingerprint.Goals as goal

-- all bytes are left
whole : (name : Bytes) → fingerprint_after 0 (slice 0 (length name) name) ≡ fingerprint_of name
unfolding fingerprint_of
whole name = ap (fingerprint_after 0) (take-length name)

pub loop-b-init : goal.loop-b-init
loop-b-init c = record { is = whole c.args.name.now }
