-- `claims::last_place` meets its contract: the place of the last row's name, or of the word `DER`.
-- Assumes nothing.
use mathlib.Core.Path.{◌∙◌}
use native.Mathlib.Omega.{arith}
use Rattle.claims.proofs.AskedLaws.{place_of_last}
use Rattle.claims.proofs.last_place.Goals as goal

pub returns-in-Some : goal.returns-in-Some
returns-in-Some c =
    let last = c.in-Some.ensures in
    λ tree e.
    c.entry_at.ensures.place.is ∙ (e.row _ (omega (arith, last.1))).place_is ∙ place_of_last e last.0 last.1 _
