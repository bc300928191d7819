-- `claims::proving::sense_asked` meets its contract: it is the sense of being as good the other way.
-- Assumes nothing.
use mathlib.Core.Path.{◌≡◌, ap}
use mathlib.Core.Bool.{not}
use Rattle.grammar.specs.Tree.{minimize, maximize}
use Rattle.grammar.specs.Header.{is_maximize}
use Rattle.senses.specs.Senses.{sense_is}
use Rattle.claims.specs.Asked.{against}
use Rattle.claims.proofs.proving.sense_asked.Goals as goal

pub returns : goal.returns
returns c =
    let sense = c.sense_towards.ensures in
    λ d.
    elim d as (λ k. c.args.maximize ≡ is_maximize k → sense_is c.sense_towards.result ≡ against k)
    [ minimize ↦ λ e. sense maximize (ap not e) | maximize ↦ λ e. sense minimize (ap not e) ]
