-- THE PROMISE of Verify a certificate, for every text and all tables (document 01, "Reasons of refusal", "Solutions, then
-- derivations").
-- Assumes nothing.
use Rattle.std.specs.Prelude.{◌≡◌, ⊤, Result, Ok, Err, List, ◌↔◌, ℕ, ℤ, length}
use Rattle.text.specs.Bytes.{Bytes}
use Rattle.text.specs.Lines.{line_of}
use Rattle.grammar.specs.Tree.{Tree}
use Rattle.grammar.specs.Texts.{SpellsTree, taken, refused}
use Rattle.grammar.specs.Refusals.{refusal_number}
use Rattle.grammar.specs.declared.Refused.{Refused}
use Rattle.rules.specs.Result as rules
use Rattle.rules.specs.Check.{check_of}
use Rattle.rules.specs.Meets.{Meets}
use Rattle.rules.specs.Sentence.Points.{SentenceOf}
use Rattle.reader.specs.Promise.{Course, not_begun, begun, course_of, TablesLeft, Begun}

-- ---- the answer

-- verified; or 01's number of the reason, and the line
pub data Answer : Type 0 where
  verifies : Answer
  refuses : (reason line : ℕ) → Answer

-- for each case of the answer, what 01 calls it
abbrev pub verification_says : Result ⊤ Refused → Answer
verification_says (Ok u) = verifies
verification_says (Err r) = refuses (refusal_number r.reason) r.line

-- the answer of checking, with the line of the name or word that stands at its place
abbrev pub checked_says : Bytes → rules.Verdict → Answer
checked_says text (rules.done u) = verifies
checked_says text (rules.refused reason place) = refuses reason (line_of text place)

-- reading's refusals first; "Only a text that reads fully is checked"
abbrev pub answer_of : Bytes → Course → Answer
answer_of text (not_begun reason) = refuses reason 0
answer_of text (begun (refused reason place)) = refuses reason (line_of text place)
answer_of text (begun (taken tree)) = checked_says text (check_of tree)

-- ---- the promise

-- verifying this text with these tables answers r and leaves these tables (marked '): untouched after 1 and 2, all zero after
-- 3 to 8, as read after 9 to 18 and where it is verified
pub record CertificateVerified (text : Bytes) (index : List ℕ) (values : List ℤ) (rows : List ℕ) (index' : List ℕ) (values' : List ℤ) (rows' : List ℕ) (r : Result ⊤ Refused) : Type 0 where
  pub answer : verification_says r ≡ answer_of text (course_of text (length index) (length values) (length rows))
  pub tables : TablesLeft text index values rows index' values' rows'
  -- "It says verified exactly when the certificate meets the rules": the tables have the cells needed, the text has at most
  -- 32,768 bytes and spells a certificate, and this meets the rules
  pub verified_exactly : (r ≡ Ok tt) ↔ (Begun text index values rows × ((tree : Tree) × SpellsTree text tree × Meets tree))
  -- the sentence about points (document 02, request 11), of this very text: its solutions are feasible, and "no feasible point
  -- lies beyond a verified bound"
  pub verified_means : r ≡ Ok tt → SentenceOf text
