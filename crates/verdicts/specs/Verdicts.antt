-- What a verdict of the code says, in the words of the rules: 01's number of the refusal, and its place.
-- Assumes nothing.
use Rattle.std.specs.Prelude.{⊤, Result, Ok, Err}
use Rattle.grammar.specs.Refusals.{refusal_number}
use Rattle.grammar.specs.declared.Stop.{Stop}
use Rattle.rules.specs.Result as result

abbrev pub verdict_says : Result ⊤ Stop → result.Verdict
verdict_says (Ok _) = result.fine
verdict_says (Err stop) = result.refused (refusal_number stop.reason) stop.place
