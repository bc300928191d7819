-- What the promise says of worked texts: each of the certificates of rules' Worked.antt gets from verifying the answer that
-- document 01 gives it. Some are verified and some are refused, each for its own reason, so no function that answers every text
-- alike meets the promise.
-- Assumes nothing.
use Rattle.std.specs.Prelude.{◌≡◌, refl, List, [], ◌∷◌, map}
use Rattle.std.proofs.Common.{◌∙◌, ap}
use Rattle.text.specs.Bytes.{Bytes}
use Rattle.grammar.specs.Texts.{ReadText, taken, refused, read_of}
use Rattle.rules.specs.Result as rules
use Rattle.rules.specs.Check.{check_of}
use Rattle.rules.specs.Worked as worked
use Rattle.rules.specs.Worked.{Case, cases}
use Rattle.rules.proofs.Worked as shown_by
use Rattle.reader.specs.Promise.{begun}
use Rattle.checker.specs.Promise.{Answer, verifies, refuses, checked_says, answer_of}

-- the answer to a text of at most 32,768 bytes, with tables that have the cells needed
abbrev pub answered : Bytes → Answer
answered text = answer_of text (begun (read_of text))

-- what a worked case expects
abbrev pub expected_of : worked.Answer → Answer
expected_of worked.verified = verifies
expected_of (worked.refused reason line) = refuses reason line

same_answer : (text : Bytes) → answered text ≡ expected_of (worked.answer text)
same_answer text = read (read_of text)
  where
    checked : (v : rules.Verdict) → checked_says text v ≡ expected_of (worked.lined text v)
    checked (rules.done u) = refl
    checked (rules.refused reason place) = refl

    read : (r : ReadText) → answer_of text (begun r) ≡ expected_of (worked.lined text (worked.verdict r))
    read (taken tree) = checked (check_of tree)
    read (refused reason place) = refl

each-answer : (cs : List Case) → map (λ (c : Case). answered c.text) cs ≡ map expected_of (map (λ (c : Case). worked.answer c.text) cs)
each-answer [] = refl
each-answer (c ∷ cs) = λ i. same_answer c.text i ∷ each-answer cs i

pub shown : map (λ (c : Case). answered c.text) cases ≡ map expected_of (map (λ (c : Case). c.expected) cases)
shown = each-answer cases ∙ ap (map expected_of) shown_by.worked
