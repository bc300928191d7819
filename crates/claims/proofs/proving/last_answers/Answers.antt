-- `claims::proving::last_answers` meets its contract: there is a last row, it meets what is asked, and it has no assumptions.
-- Assumes nothing.
use mathlib.Core.Path.{◌∙◌}
use native.Mathlib.Omega.{arith}
use Rattle.claims.specs.Asked.{asked_says, meets}
use Rattle.claims.proofs.AskedLaws.{last-passes, both_pass, first_fails}
use Rattle.claims.proofs.proving.last_answers.Goals as goal

pub returns-then-meets : goal.returns-then-meets
returns-then-meets c =
    let last = c.in-Some.ensures in
    λ tree e ok.
    let k = e.row c.in-Some.last (omega (arith, last.1)) in
    both_pass (c.meets.ensures tree _ e (c.row.ensures tree _ k) k.formed ok) c.if-meets.true (c.is_free.ensures tree e)
    ∙ last-passes e last.0 last.1 (meets tree (asked_says tree c.args.asked))

pub returns-else-meets : goal.returns-else-meets
returns-else-meets c =
    let last = c.in-Some.ensures in
    λ tree e ok.
    let k = e.row c.in-Some.last (omega (arith, last.1)) in
    first_fails _ (c.meets.ensures tree _ e (c.row.ensures tree _ k) k.formed ok) c.if-meets.false
    ∙ last-passes e last.0 last.1 (meets tree (asked_says tree c.args.asked))
