-- No mark stands before the place, so the text is cut where the rest from there on is.
use Rattle.std.proofs.Common.{◌≡◌, ◌++◌, take, drop}
use Rattle.case_texts.specs.Cases.{before_mark, from_mark}
use Rattle.case_texts.proofs.cut.Given as goal

abbrev pub invariant-loop-at : goal.invariant-loop-at
invariant-loop-at l =
    (before_mark l.mark l.text ≡ take l.at l.text ++ before_mark l.mark (drop l.at l.text))
    × (from_mark l.mark l.text ≡ from_mark l.mark (drop l.at l.text))
