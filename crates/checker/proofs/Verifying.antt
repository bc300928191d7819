-- From reading to verifying: what a taken text leaves in the tables, and what the answer says of what is spelled.
-- Assumes nothing.
use mathlib.Core.Path.{◌≡◌, refl, sym, ◌∙◌, ap, subst}
use mathlib.Core.List.{List}
use mathlib.Core.Logic.{◌↔◌}
use Prim.Native.Nat.{ℕ}
use native.Mathlib.Omega.{arith}
use lib.IntN.{ℤ, pos}
use lib.ListN.{length}
use Rattle.std.specs.Prelude.{⊤, Result, Ok, Err, MatchResult}
use Rattle.std.specs.Result.{IsErrAnd}
use Rattle.text.specs.Lines.{line_of}
use Rattle.text.specs.Bytes.{Bytes}
use Rattle.tables.specs.declared.Header.{Header}
use Rattle.grammar.specs.Tree.{Tree}
use Rattle.grammar.specs.Header.{header_of}
use Rattle.grammar.specs.Tables.{index_table, value_table, row_table}
use Rattle.grammar.specs.Texts.{SpellsTree, ReadText, taken, refused, read_of}
use Rattle.grammar.proofs.Texts.{read_sound, read_complete}
use Rattle.grammar.specs.declared.Refused.{Refused}
use Rattle.grammar.specs.declared.Stop.{Stop}
use Rattle.rules.specs.Check.{check_of}
use Rattle.rules.specs.Meets.{Meets}
use Rattle.rules.proofs.Agreement.{check_says}
use Rattle.reader.specs.Promise as reading
use Rattle.reader.specs.Promise.{Course, not_begun, begun, course_of, table_of, Begun, CertificateRead}
use Rattle.reader.proofs.Courses.{begun_course, by_course}
use Rattle.encoding.specs.Held.{Held}
use Rattle.encoding.specs.Encodes.{Encodes}
use Rattle.encoding.proofs.HeldLaws.{held_encodes}
use Rattle.verdicts.specs.Verdicts.{verdict_says}
use Rattle.checker.specs.Means.{not_verified, passes, verified_means}
use Rattle.checker.specs.Promise.{verifies, refuses, verification_says, checked_says, answer_of, CertificateVerified}

-- ---- answers

not_taken : {X : Type 0} {n l : ℕ} {h : Header} → reading.takes h ≡ reading.refuses n l → X
not_taken e = absurd (let z : ◌≡◌ {A = ℕ} 0 1 = cc in omega arith)

not_begun_so : {X : Type 0} {n : ℕ} {read : ReadText} → not_begun n ≡ begun read → X
not_begun_so e = absurd (let z : ◌≡◌ {A = ℕ} 0 1 = cc in omega arith)

-- a refusal of reading is the refusal of verifying
pub refused_reading : (text : Bytes) (course : Course) {n l : ℕ} → reading.refuses n l ≡ reading.answer_of text course → refuses n l ≡ answer_of text course
refused_reading text (not_begun reason) e = cc
refused_reading text (begun (taken tree)) e = not_taken (sym e)
refused_reading text (begun (refused reason place)) e = cc

-- a refusal of checking is at the line of its place
pub lined : (text : Bytes) (v : Result ⊤ Stop) (a : Result ⊤ Refused) (Q : Stop → Refused → Type 0)
    → MatchResult v (λ x. a ≡ Ok x) (λ stop. IsErrAnd a (Q stop))
    → ((stop : Stop) (r : Refused) → Q stop r → r ≡ record { reason = stop.reason; line = line_of text stop.place })
    → verification_says a ≡ checked_says text (verdict_says v)
lined text (Ok u) a Q h at = ap verification_says h
lined text (Err stop) a Q h at = go a h
  where
    go : (a : Result ⊤ Refused) → IsErrAnd a (Q stop) → verification_says a ≡ checked_says text (verdict_says (Err stop))
    go (Ok u) h = absurd h
    go (Err r) h = ap (λ (r : Refused). verification_says (Err r)) (at stop r h)

-- ---- what a taken text leaves

pub record Taken (text : Bytes) (course : Course) (header : Header) : Type 0 where
  pub tree : Tree
  pub course_is : course ≡ begun (taken tree)
  pub header_is : header ≡ header_of tree

taken_answer : (text : Bytes) (course : Course) (header : Header) → reading.takes header ≡ reading.answer_of text course → Taken text course header
taken_answer text (not_begun reason) header e = not_taken e
taken_answer text (begun (taken tree)) header e = record { tree = tree; course_is = refl; header_is = cc }
taken_answer text (begun (refused reason place)) header e = not_taken e

-- the tables of a text that was taken hold the tree that it spells
module _ (text : Bytes) (index : List ℕ) (values : List ℤ) (rows : List ℕ) (index' : List ℕ) (values' : List ℤ) (rows' : List ℕ) where
  abbrev course : Course
  course = course_of text (length index) (length values) (length rows)

  -- the course of a reading that was begun
  was_begun : (read : ReadText) → course ≡ begun read → Begun text index values rows × (read_of text ≡ read)
  was_begun read e =
      by_course text index values rows (λ c. c ≡ begun read → Begun text index values rows × (read_of text ≡ read)) (λ q. not_begun_so q) (λ q. not_begun_so q) (λ b q. (b, cc)) e

  pub record TakenHeld (header : Header) : Type 0 where
    pub tree : Tree
    pub course_is : course ≡ begun (taken tree)
    pub header_is : header ≡ header_of tree
    pub held : Held tree index' values' rows'

  pub taken_held : (header : Header) → reading.takes header ≡ reading.answer_of text course
      → index' ≡ table_of 0 index_table index course → values' ≡ table_of (pos 0) value_table values course → rows' ≡ table_of 0 row_table rows course
      → length index' ≡ length index → length values' ≡ length values → length rows' ≡ length rows
      → TakenHeld header
  taken_held header e ei ev er li lv lr =
      let t = taken_answer text course header e in
      let b = was_begun (taken t.tree) t.course_is in
      record {
        tree = t.tree;
        course_is = t.course_is;
        header_is = t.header_is;
        held =
            record {
              text = text;
              spelled = read_sound text t.tree b.1;
              index_is = ei ∙ ap (table_of 0 index_table index) t.course_is ∙ ap (λ (n : ℕ). index_table n t.tree) (sym li);
              values_is = ev ∙ ap (table_of (pos 0) value_table values) t.course_is ∙ ap (λ (n : ℕ). value_table n t.tree) (sym lv);
              rows_is = er ∙ ap (table_of 0 row_table rows) t.course_is ∙ ap (λ (n : ℕ). row_table n t.tree) (sym lr);
              row-cells = omega (arith, lr, b.0.row-cells);
            };
      }

-- ---- verified exactly if what is spelled meets the rules

answered : (r : Result ⊤ Refused) → verification_says r ≡ verifies → r ≡ Ok tt
answered (Ok u) e = refl
answered (Err r) e = not_verified e

module _ (text : Bytes) (index : List ℕ) (values : List ℤ) (rows : List ℕ) (r : Result ⊤ Refused)
    (e : verification_says r ≡ answer_of text (course_of text (length index) (length values) (length rows))) where
  -- a text that is verified was begun to be read
  verified_begun : r ≡ Ok tt → Begun text index values rows
  verified_begun v =
      by_course text index values rows (λ c. verifies ≡ answer_of text c → Begun text index values rows)
      (λ q. not_verified (sym q)) (λ q. not_verified (sym q)) (λ b q. b) (sym (ap verification_says v) ∙ e)

  answered_begun : Begun text index values rows → verification_says r ≡ answer_of text (begun (read_of text))
  answered_begun b = e ∙ ap (answer_of text) (begun_course text index values rows b)

  meets : answer_of text (begun (read_of text)) ≡ verifies → (tree : Tree) × SpellsTree text tree × Meets tree
  meets v = let p = passes text (read_of text) refl v in (p.tree, read_sound text p.tree p.reads, (check_says p.tree).0 p.checked)

  verifies_it : (tree : Tree) → SpellsTree text tree → Meets tree → answer_of text (begun (read_of text)) ≡ verifies
  verifies_it tree s m = ap (λ (x : ReadText). answer_of text (begun x)) (read_complete text tree s) ∙ ap (checked_says text) ((check_says tree).1 m)

  pub exactly : (r ≡ Ok tt) ↔ (Begun text index values rows × ((tree : Tree) × SpellsTree text tree × Meets tree))
  exactly = (
    λ v. let b = verified_begun v in (b, meets (sym (answered_begun b) ∙ ap verification_says v)),
    λ h. answered r (answered_begun h.0 ∙ verifies_it h.1.0 h.1.1 h.1.2),
  )

-- ---- the promise, from reading's

module _ {text : Bytes} {index : List ℕ} {values : List ℤ} {rows : List ℕ} {index' : List ℕ} {values' : List ℤ} {rows' : List ℕ} {r : Result Header Refused}
    (h : CertificateRead text index values rows index' values' rows' r) where
  -- the answer is the one of 01; reading left the tables
  promised : (a : Result ⊤ Refused) → verification_says a ≡ answer_of text (course_of text (length index) (length values) (length rows)) → CertificateVerified text index values rows index' values' rows' a
  promised a answer =
      record {
        answer = answer;
        tables = h.tables;
        verified_exactly = exactly text index values rows a answer;
        verified_means = λ v. verified_means text (length index) (length values) (length rows) (sym answer ∙ ap verification_says v);
      }

  -- reading refused, and that is handed on
  pub refused_verified : {refusal : Refused} {z : Result ⊤ Refused} → r ≡ Err refusal → z ≡ Err refusal → CertificateVerified text index values rows index' values' rows' z
  refused_verified e up =
      promised _ (ap verification_says up ∙ refused_reading text (course_of text (length index) (length values) (length rows)) (sym (ap reading.reading_says e) ∙ h.answer))

  module _ (li : length index' ≡ length index) (lv : length values' ≡ length values) (lr : length rows' ≡ length rows) {header : Header} (e : r ≡ Ok header) where
    the_tree : TakenHeld text index values rows index' values' rows' header
    the_tree =
        let q = h.tables in
        taken_held text index values rows index' values' rows' header (sym (ap reading.reading_says e) ∙ h.answer) q.index_table_lem q.value_table_lem q.row_table_lem li lv lr

    -- the tables encode what was read, under its header, and it was checked
    pub checked_verified : (v : Result ⊤ Stop) {a : Result ⊤ Refused} → ((tree : Tree) → Encodes tree header index' values' rows' → verdict_says v ≡ check_of tree)
        → verification_says a ≡ checked_says text (verdict_says v)
        → CertificateVerified text index values rows index' values' rows' a
    checked_verified v check says =
        let t = the_tree in
        promised _
        (says ∙ ap (checked_says text) (check t.tree (subst (λ (x : Header). Encodes t.tree x index' values' rows') (sym t.header_is) (held_encodes t.held))) ∙ sym (ap (answer_of text) t.course_is))
