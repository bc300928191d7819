-- `claims::proving::is_proved` meets its contract: nothing is asked, or the last row answers.
-- Assumes nothing.
use mathlib.Core.Path.{sym, ◌∙◌, ap}
use Rattle.claims.specs.Asked.{asked_says}
use Rattle.claims.proofs.AskedLaws.{nothing_asked, last-asked}
use Rattle.claims.proofs.proving.is_proved.Goals as goal

pub returns-in-Nothing : goal.returns-in-Nothing
returns-in-Nothing c = λ tree e. nothing_asked tree (sym (ap (asked_says tree) c.in-Nothing.is) ∙ c.asked_of.ensures.says tree e)

pub returns-in_default : goal.returns-in_default
returns-in_default c =
    let a = c.asked_of in
    λ tree e. c.last_answers.ensures tree e (a.ensures.formed tree e) ∙ last-asked tree a.result c.in_default.not-Nothing (a.ensures.says tree e)
