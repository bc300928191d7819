-- `senses::Bound::rounded_right` meets its contract: a right side is rounded by `floor` or `ceiling`, whose results are stated.
use mathlib.Core.Path.{◌∙◌, ap}
use Rattle.senses.specs.Senses.{sense_is}
use Rattle.senses.specs.Rounding.{with_rounding}
use Rattle.senses.proofs.RoundingLaws.{rounded_to}
use Rattle.senses.proofs.Bound.rounded_right.Goals as goal

pub returns-in-AtMost : goal.returns-in-AtMost
returns-in-AtMost c =
    λ v.
    rounded_to (sense_is c.args.self.sense) _ _ (rw c.in-AtMost.is)
    (c.with_rounding.ensures ∙ ap (with_rounding _) (c.floor.ensures v)) v

pub returns-in-AtLeast : goal.returns-in-AtLeast
returns-in-AtLeast c =
    λ v.
    rounded_to (sense_is c.args.self.sense) _ _ (rw c.in-AtLeast.is)
    (c.with_rounding-in-AtLeast.ensures ∙ ap (with_rounding _) (c.ceiling.ensures v)) v
