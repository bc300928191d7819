-- `senses::signs::Signs::sense` meets its contract: the two tests tell the sense.
use mathlib.Core.Path.{sym, ◌∙◌, ap, ap₂}
use mathlib.Core.Bool.{Bool}
use Rattle.senses.specs.Signs.{sense_by, sense_by_lem}
use Rattle.senses.proofs.signs.Signs.sense.Goals as goal

pub returns-in-true-true : goal.returns-in-true-true
returns-in-true-true c = λ tree ms are. sym (ap₂ sense_by c.in-true-true.is-0 c.in-true-true.is-1) ∙ sense_by_lem are

pub returns-in-true-false : goal.returns-in-true-false
returns-in-true-false c = λ tree ms are. sym (ap₂ sense_by c.in-true-false.is-0 c.in-true-false.is-1) ∙ sense_by_lem are

pub returns-in-false-default : goal.returns-in-false-default
returns-in-false-default c =
    λ tree ms are. sym (ap (λ (t : Bool). sense_by t c.args.self.nonpositive) c.in-false-default.is-0) ∙ sense_by_lem are
