-- Read a certificate and Verify a certificate for C: the promises of `reader` and `checker`, said of the number that is
-- returned and of the line that is stored.
-- Assumes nothing.
use Rattle.std.specs.Prelude.{◌≡◌, Result, Ok, Err, List, ◌↔◌, ℕ, ℤ, length}
use Rattle.text.specs.Bytes.{Bytes}
use Rattle.grammar.specs.Tree.{Tree}
use Rattle.grammar.specs.Texts.{SpellsTree, Certificate, SpellsCertificate}
use Rattle.grammar.specs.Refusals.{refusal_number}
use Rattle.grammar.specs.declared.Refused.{Refused}
use Rattle.rules.specs.Meets.{Meets}
use Rattle.rules.specs.Sentence.Points.{SentenceOf}
use Rattle.reader.specs.Promise as reading
use Rattle.reader.specs.Holds.{Holds}
use Rattle.reader.specs.Promise.{course_of, TablesLeft, Begun}
use Rattle.checker.specs.Promise as checking

-- ---- what is returned, and the line that is stored

pub record Reply : Type 0 where
  pub status : ℕ
  pub line : ℕ

abbrev pub reply : ℕ → ℕ → Reply
reply status line = record { status = status; line = line }

-- 0 and line 0 where there is nothing to refuse; or 01's number of the reason, and the line
abbrev pub reply_to : {A : Type 0} → Result A Refused → Reply
reply_to (Ok a) = reply 0 0
reply_to (Err refused) = reply (refusal_number refused.reason) refused.line

-- 0 and line 0 where the certificate was taken
abbrev pub read_reply : reading.Answer → Reply
read_reply (reading.takes header) = reply 0 0
read_reply (reading.refuses reason line) = reply reason line

-- 0 and line 0 where it is verified
abbrev pub verify_reply : checking.Answer → Reply
verify_reply checking.verifies = reply 0 0
verify_reply (checking.refuses reason line) = reply reason line

-- ---- the promises

-- reading this text with these tables returns this number, stores this line and leaves these tables (marked ')
pub record CertificateReturned (text : Bytes) (index : List ℕ) (values : List ℤ) (rows : List ℕ) (index' : List ℕ) (values' : List ℤ) (rows' : List ℕ) (returned line : ℕ) : Type 0 where
  pub answer : reply returned line ≡ read_reply (reading.answer_of text (course_of text (length index) (length values) (length rows)))
  pub tables : TablesLeft text index values rows index' values' rows'
  -- 0 exactly where the tables have the cells needed, the text has at most 32,768 bytes, and "01's grammar .. says that it
  -- spells a certificate"
  pub taken_exactly : (returned ≡ 0) ↔ (Begun text index values rows × ((c : Certificate) × SpellsCertificate text c))
  -- "no text spells two"
  pub spelled_once : (c d : Certificate) → SpellsCertificate text c → SpellsCertificate text d → c ≡ d
  -- "the tables then hold the one it spells"
  pub held : Begun text index values rows → (c : Certificate) (s : SpellsCertificate text c) → Holds text index' values' rows' c s.tree

-- and so of verifying
pub record VerificationReturned (text : Bytes) (index : List ℕ) (values : List ℤ) (rows : List ℕ) (index' : List ℕ) (values' : List ℤ) (rows' : List ℕ) (returned line : ℕ) : Type 0 where
  pub answer : reply returned line ≡ verify_reply (checking.answer_of text (course_of text (length index) (length values) (length rows)))
  pub tables : TablesLeft text index values rows index' values' rows'
  -- 0 exactly where the tables have the cells needed, the text has at most 32,768 bytes, and it spells a certificate that
  -- "meets the rules"
  pub verified_exactly : (returned ≡ 0) ↔ (Begun text index values rows × ((tree : Tree) × SpellsTree text tree × Meets tree))
  -- the sentence about points, of this very text: "no feasible point lies beyond a verified bound"
  pub verified_means : returned ≡ 0 → SentenceOf text
