-- THE PROMISE of Read a certificate, for every text and all tables (document 01, "Tables lent by the caller", "Reasons of
-- refusal" and "Spelling").
-- Assumes nothing.
use Rattle.std.specs.Prelude.{◌≡◌, Result, Ok, Err, cond, List, ◌↔◌, ℕ, ◌≤◌, ℤ, pos, length, replicate}
use Rattle.text.specs.Bytes.{Bytes}
use Rattle.text.specs.Lines.{line_of}
use Rattle.tables.specs.declared.Header.{Header}
use Rattle.tables.specs.Limits.{most_bytes, is_short, index_cells, value_cells, row_cells, has_cells}
use Rattle.grammar.specs.Tree.{Tree}
use Rattle.grammar.specs.Header.{header_of}
use Rattle.grammar.specs.Tables.{index_table, value_table, row_table}
use Rattle.grammar.specs.Texts.{Certificate, SpellsCertificate, ReadText, taken, refused, read_of}
use Rattle.grammar.specs.Refusals.{refusal_number}
use Rattle.grammar.specs.declared.Refused.{Refused}
use Rattle.reader.specs.Holds.{Holds}

-- ---- the course of a reading

-- "1 and 2 are tested in that order. Then the whole text is read"
pub data Course : Type 0 where
  not_begun : (reason : ℕ) → Course
  begun : ReadText → Course

abbrev pub course_of : Bytes → ℕ → ℕ → ℕ → Course
course_of text index values rows =
    cond (has_cells index values rows) (cond (is_short text) (begun (read_of text)) (not_begun 2)) (not_begun 1)

-- ---- the answer

-- a certificate was taken, with this header; or 01's number of the reason, and the line
pub data Answer : Type 0 where
  takes : Header → Answer
  refuses : (reason line : ℕ) → Answer

-- what `read_certificate` answers
abbrev pub Reading : Type 0
Reading = Result Header Refused

-- for each case of it, what 01 calls it
abbrev pub reading_says : Reading → Answer
reading_says (Ok header) = takes header
reading_says (Err r) = refuses (refusal_number r.reason) r.line

-- the column "line" of 01's table: 0 for 1 and 2, else the line of the token, or of the end
abbrev pub answer_of : Bytes → Course → Answer
answer_of text (not_begun reason) = refuses reason 0
answer_of text (begun (taken tree)) = takes (header_of tree)
answer_of text (begun (refused reason place)) = refuses reason (line_of text place)

-- ---- the tables

-- the column "tables" of 01's table: untouched, all zero, or as read
abbrev pub table_of : {A : Type 0} → A → (ℕ → Tree → List A) → List A → Course → List A
table_of zero held before (not_begun reason) = before
table_of zero held before (begun (taken tree)) = held (length before) tree
table_of zero held before (begun (refused reason place)) = replicate (length before) zero

-- each of the three (marked ' after the call)
pub record TablesLeft (text : Bytes) (index : List ℕ) (values : List ℤ) (rows : List ℕ) (index' : List ℕ) (values' : List ℤ) (rows' : List ℕ) : Type 0 where
  pub index_table_lem : index' ≡ table_of 0 index_table index (course_of text (length index) (length values) (length rows))
  pub value_table_lem : values' ≡ table_of (pos 0) value_table values (course_of text (length index) (length values) (length rows))
  pub row_table_lem : rows' ≡ table_of 0 row_table rows (course_of text (length index) (length values) (length rows))

-- ---- the promise

-- the tables have the cells needed, and the text has at most 32,768 bytes
pub record Begun (text : Bytes) (index : List ℕ) (values : List ℤ) (rows : List ℕ) : Type 0 where
  pub index-cells : index_cells ≤ length index
  pub value-cells : value_cells ≤ length values
  pub row-cells : row_cells ≤ length rows
  pub short : length text ≤ most_bytes

-- reading this text with these tables answers r and leaves these tables (marked ')
pub record CertificateRead (text : Bytes) (index : List ℕ) (values : List ℤ) (rows : List ℕ) (index' : List ℕ) (values' : List ℤ) (rows' : List ℕ) (r : Reading) : Type 0 where
  pub answer : reading_says r ≡ answer_of text (course_of text (length index) (length values) (length rows))
  pub tables : TablesLeft text index values rows index' values' rows'
  -- taken exactly where the tables and the text have these sizes and "01's grammar .. says that it spells a certificate"
  pub taken_exactly : ((header : Header) × (r ≡ Ok header)) ↔ (Begun text index values rows × ((c : Certificate) × SpellsCertificate text c))
  -- "no text spells two"
  pub spelled_once : (c d : Certificate) → SpellsCertificate text c → SpellsCertificate text d → c ≡ d
  -- "the tables then hold the one it spells"
  pub held : Begun text index values rows → (c : Certificate) (s : SpellsCertificate text c) → Holds text index' values' rows' c s.tree
