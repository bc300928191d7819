-- `claims::proving::asked_of` meets its contract: by the word of the claim, and by the end that is asked.
-- Assumes nothing.
use mathlib.Core.Path.{sym, ◌∙◌, ap}
use Rattle.grammar.specs.Tree.{Sense}
use Rattle.rules.specs.Rows.{objective_with}
use Rattle.rules.specs.Claims.{domination}
use Rattle.encoding.proofs.EncodesLaws.{maximize_is}
use Rattle.encoding.specs.Claims.{end_says}
use Rattle.claims.proofs.AskedLaws.{asked_at, infeas-asked, end_asked}
use Rattle.claims.proofs.proving.asked_of.Goals as goal

pub returns-then-is_infeas-clause-says : goal.returns-then-is_infeas-clause-says
returns-then-is_infeas-clause-says c = λ tree e. infeas-asked e c.is_infeas.ensures c.if-is_infeas.true

pub returns-in-None-clause-says : goal.returns-in-None-clause-says
returns-in-None-clause-says c =
    λ tree e.
    ap (λ r. asked_at tree tree.objective.direction (end_says r)) (sym c.in-None.is)
    ∙ (end_asked e c.is_infeas.ensures c.if-is_infeas.false (end_says c.end.result) c.end.ensures).0

pub returns-in-Some-clause-says : goal.returns-in-Some-clause-says
returns-in-Some-clause-says c =
    λ tree e.
    ap (λ (s : Sense). domination (objective_with tree s c.in-Some.right)) (c.sense_asked.ensures tree.objective.direction (maximize_is e))
    ∙ ap (λ r. asked_at tree tree.objective.direction (end_says r)) (sym c.in-Some.is)
    ∙ (end_asked e c.is_infeas.ensures c.if-is_infeas.false (end_says c.end.result) c.end.ensures).0
