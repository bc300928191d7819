-- What is promised of an outcome: its equation, from which its meaning follows.
-- Assumes nothing.
use mathlib.Core.Path.{◌≡◌, sym, subst}
use Rattle.arithmetic.specs.Outcome.{Outcome}
use Rattle.fraction.specs.Promise.{Meant}

pub meant : {A : Type 0} {definition outcome : Outcome A} {Meaning : Outcome A → Type 0} → Meaning definition → outcome ≡ definition → Meant definition Meaning outcome
meant {Meaning = Meaning} m e = record { equation = e; meaning = subst Meaning (sym e) m }
