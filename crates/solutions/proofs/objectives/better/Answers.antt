-- `solutions::objectives::better` meets its contract: the best of them stays where it is as good as one more.
use Rattle.solutions.proofs.ObjectivesLaws.{kept, taken}
use Rattle.solutions.proofs.objectives.better.Goals as goal

pub returns-in-Some : goal.returns-in-Some
returns-in-Some c = λ d os e b f h. kept d os c.in-Some.is e b f h c.holds_of.ensures c.if-holds_of.true

pub returns-in_default : goal.returns-in_default
returns-in_default c = λ d os e b f h. taken d os c.in-Some.is e b f h c.holds_of.ensures c.if-holds_of.false
