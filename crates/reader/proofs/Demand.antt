-- The promise of Read a certificate: its equations in each course of a reading, and demand 3 from the equations.
-- Assumes nothing.
use mathlib.Core.Path.{◌≡◌, refl, sym, ap, ◌∙◌, subst}
use mathlib.Core.Bool.{true, false}
use mathlib.Core.List.{List}
use Rattle.std.specs.Prelude.{Result, Ok, Err}
use Prim.Native.Nat.{ℕ, ◌-◌, ◌≤◌}
use native.Mathlib.Omega.{arith}
use lib.IntN.{ℤ, pos}
use lib.Seq.{sets}
use lib.ListN.{length, replicate, length-append, length-replicate}
use Rattle.text.specs.Bytes.{Bytes}
use Rattle.text.specs.Lines.{line_of}
use Rattle.tables.specs.Limits.{has_cells, is_short}
use Rattle.tables.specs.declared.Header.{Header}
use Rattle.grammar.specs.Tree.{Tree}
use Rattle.grammar.specs.Certificate.{certificate}
use Rattle.grammar.specs.Header.{header_of}
use Rattle.grammar.specs.Layout.{cells, marks}
use Rattle.grammar.specs.Layout as L
use Rattle.grammar.specs.Tables.{filled, by_turns, laid, index_table, value_table, row_table}
use Rattle.grammar.specs.Texts.{SpellsTree, Certificate, certificate_of, ReadText, taken, refused, read_of}
use Rattle.grammar.proofs.Texts.{read_sound, read_complete, taken_certificate, certificate_once}
use Rattle.grammar.proofs.AllNames.{tree_names, variables_stand}
use Rattle.grammar.proofs.Fits.{fits}
use Rattle.grammar.specs.Refusals.{refusal_number}
use Rattle.grammar.specs.declared.Refusal.TheVariants.{TableTooSmall, TextTooLong}
use Rattle.grammar.specs.declared.Stop.{Stop}
use Rattle.symbol_reader.specs.Steps.{state}
use Rattle.reader.specs.Documents.{start_of, Written, AnswersToEnd, ReadsToEnd}
use Rattle.reader.specs.Holds.{Holds}
use Rattle.reader.specs.Promise.{Course, not_begun, begun, course_of, takes, refuses, Reading, reading_says, answer_of, table_of, TablesLeft, Begun, CertificateRead}
use Rattle.reader.proofs.Courses.{begun_course, by_course}
use Rattle.reader.proofs.Holding.{row_held, solution_held}
use Rattle.reader.proofs.Fill.{filled_cleared}

no : {A : Type 0} → ◌≡◌ {A = ℕ} 0 1 → A
no z = absurd (omega arith)

filled-length : {A : Type 0} (z : A) (size : ℕ) (xs : List A) → length xs ≤ size → length (filled z size xs) ≡ size
filled-length z size xs h = omega (arith, length-append xs (replicate (size - length xs) z), length-replicate (size - length xs) z)

-- ---- the equations, in each course

-- the answer, and the tables that are left
pub record Equations (text : Bytes) (index : List ℕ) (values : List ℤ) (rows : List ℕ) (index' : List ℕ) (values' : List ℤ) (rows' : List ℕ) (r : Reading) : Type 0 where
  pub answer : reading_says r ≡ answer_of text (course_of text (length index) (length values) (length rows))
  pub tables : TablesLeft text index values rows index' values' rows'

module _ {text : Bytes} {index : List ℕ} {values : List ℤ} {rows : List ℕ} where
  -- all of them from the course that was taken
  of_course : (course : Course) → course_of text (length index) (length values) (length rows) ≡ course → {index' : List ℕ} {values' : List ℤ} {rows' : List ℕ} {r : Reading}
      → reading_says r ≡ answer_of text course → index' ≡ table_of 0 index_table index course → values' ≡ table_of (pos 0) value_table values course → rows' ≡ table_of 0 row_table rows course
      → Equations text index values rows index' values' rows' r
  of_course course e a i v r =
      record {
        answer = a ∙ ap (answer_of text) (sym e);
        tables =
            record {
              index_table_lem = i ∙ ap (table_of 0 index_table index) (sym e);
              value_table_lem = v ∙ ap (table_of (pos 0) value_table values) (sym e);
              row_table_lem = r ∙ ap (table_of 0 row_table rows) (sym e);
            };
      }

  pub small_table : has_cells (length index) (length values) (length rows) ≡ false → Equations text index values rows index values rows (Err (record { reason = TableTooSmall; line = 0 }))
  small_table e = of_course (not_begun 1) (rw e refl) refl refl refl refl

  pub long_text : has_cells (length index) (length values) (length rows) ≡ true → is_short text ≡ false → Equations text index values rows index values rows (Err (record { reason = TextTooLong; line = 0 }))
  long_text e f = of_course (not_begun 2) (rw (e, f) refl) refl refl refl refl

  module _ (b : Begun text index values rows) {index₀ : List ℕ} {values₀ : List ℤ} {rows₀ : List ℕ} {index₁ : List ℕ} {values₁ : List ℤ} {rows₁ : List ℕ} {s : Result Header Stop} (h : ReadsToEnd text (state (start_of text) index₀ values₀ rows₀) index₁ values₁ rows₁ s) where
    -- it was read to the end, into tables that were cleared
    pub taken_equations : {header : Header} → s ≡ Ok header
        → index₀ ≡ replicate (length index) 0 → values₀ ≡ replicate (length values) (pos 0) → rows₀ ≡ replicate (length rows) 0
        → Equations text index values rows index₁ values₁ rows₁ (Ok header)
    unfolding index_table value_table row_table
    taken_equations {header} e i v r =
        let w : Written text header (state (start_of text) index₀ values₀ rows₀) index₁ values₁ rows₁ = subst (AnswersToEnd text (state (start_of text) index₀ values₀ rows₀) index₁ values₁ rows₁) e h.is in
        let f = fits (read_sound text w.tree w.reads) b.short in
        of_course (begun (taken w.tree)) (begun_course text index values rows b ∙ ap begun w.reads) (ap takes w.header_is)
        (w.index_is ∙ (λ k. sets (i k) 0 (cells certificate w.tree)) ∙ filled_cleared 0 (length index) (cells certificate w.tree) (omega (arith, f.index_inside, b.index-cells)))
        (w.values_is ∙ (λ k. sets (v k) 0 (by_turns (L.values certificate w.tree))) ∙ filled_cleared (pos 0) (length values) (by_turns (L.values certificate w.tree)) (omega (arith, f.values_inside, b.value-cells)))
        (w.rows_is ∙ (λ k. laid (r k) (marks certificate w.tree 0 0)))

    -- it was refused, and the tables were cleared again
    pub refused_equations : {stop : Stop} {line : ℕ} → s ≡ Err stop → line ≡ line_of text stop.place → {index' : List ℕ} {values' : List ℤ} {rows' : List ℕ}
        → index' ≡ replicate (length index) 0 → values' ≡ replicate (length values) (pos 0) → rows' ≡ replicate (length rows) 0
        → Equations text index values rows index' values' rows' (Err (record { reason = stop.reason; line = line }))
    refused_equations {stop} e l i v r =
        let w : read_of text ≡ refused (refusal_number stop.reason) stop.place = subst (AnswersToEnd text (state (start_of text) index₀ values₀ rows₀) index₁ values₁ rows₁) e h.is in
        of_course (begun (refused (refusal_number stop.reason) stop.place)) (begun_course text index values rows b ∙ ap begun w) (ap (refuses (refusal_number stop.reason)) l) i v r

-- ---- demand 3

module _ {text : Bytes} {index : List ℕ} {values : List ℤ} {rows : List ℕ} {index' : List ℕ} {values' : List ℤ} {rows' : List ℕ} {r : Reading} (e : Equations text index values rows index' values' rows' r) where
  answer_is : Begun text index values rows → reading_says r ≡ answer_of text (begun (read_of text))
  answer_is b = e.answer ∙ ap (answer_of text) (begun_course text index values rows b)

  read_tree : Begun text index values rows → (header : Header) × (r ≡ Ok header) → (tree : Tree) × (read_of text ≡ taken tree)
  read_tree b t = go (read_of text) refl (sym (ap reading_says t.1) ∙ answer_is b)
    where
      go : (x : ReadText) → read_of text ≡ x → takes t.0 ≡ answer_of text (begun x) → (tree : Tree) × (read_of text ≡ taken tree)
      go (taken tree) p q = (tree, p)
      go (refused k m) p q = no (cc)

  tree_read : Begun text index values rows → (tree : Tree) × (read_of text ≡ taken tree) → (header : Header) × (r ≡ Ok header)
  tree_read b t = go r refl (answer_is b ∙ ap (λ (x : ReadText). answer_of text (begun x)) t.1)
    where
      go : (x : Reading) → r ≡ x → reading_says x ≡ takes (header_of t.0) → (header : Header) × (r ≡ Ok header)
      go (Ok header) p q = (header, p)
      go (Err k) p q = no (cc)

  -- a text that was taken was begun to be read
  taken_begun : (header : Header) × (r ≡ Ok header) → Begun text index values rows
  taken_begun t =
      by_course text index values rows (λ c. takes t.0 ≡ answer_of text c → Begun text index values rows) (λ q. no (cc)) (λ q. no (cc)) (λ b q. b)
      (sym (ap reading_says t.1) ∙ e.answer)

  module _ (b : Begun text index values rows) (tree : Tree) (s : SpellsTree text tree) where
    course_is : course_of text (length index) (length values) (length rows) ≡ begun (taken tree)
    course_is = begun_course text index values rows b ∙ ap begun (read_complete text tree s)

    index_is : index' ≡ index_table (length index) tree
    index_is = e.tables.index_table_lem ∙ ap (table_of 0 index_table index) course_is

    values_are : values' ≡ value_table (length values) tree
    values_are = e.tables.value_table_lem ∙ ap (table_of (pos 0) value_table values) course_is

    rows_are : rows' ≡ row_table (length rows) tree
    rows_are = e.tables.row_table_lem ∙ ap (table_of 0 row_table rows) course_is

    hold : Holds text index' values' rows' (certificate_of tree) tree
    unfolding index_table value_table
    hold =
        let f = fits s b.short in
        let il : length index' ≡ length index = ap length index_is ∙ filled-length 0 (length index) (cells certificate tree) (omega (arith, f.index_inside, b.index-cells)) in
        let vl : length values' ≡ length values = ap length values_are ∙ filled-length (pos 0) (length values) (by_turns (L.values certificate tree)) (omega (arith, f.values_inside, b.value-cells)) in
        record {
          numbers_held = index_is ∙ ap (λ (n : ℕ). filled 0 n (cells certificate tree)) (sym il);
          values_held = values_are ∙ ap (λ (n : ℕ). filled (pos 0) n (by_turns (L.values certificate tree))) (sym vl);
          names_are = tree_names tree;
          variables_held = variables_stand s;
          rows_held = λ before x after p. rw (index_is, values_are, rows_are) (row_held s (length index) (length values) (length rows) b.row-cells before x after p);
          solutions_held = λ before x after p. rw (index_is, values_are, rows_are) (solution_held s (length index) (length values) (length rows) b.row-cells before x after p);
        }

  pub promised : CertificateRead text index values rows index' values' rows' r
  promised =
      record {
        answer = e.answer;
        tables = e.tables;
        taken_exactly = (
          λ t. let b = taken_begun t in (b, (taken_certificate text).0 (read_tree b t)),
          λ c. tree_read c.0 ((taken_certificate text).1 c.1),
        );
        spelled_once = certificate_once text;
        held = λ b c s. subst (λ (x : Certificate). Holds text index' values' rows' x s.tree) s.lists (hold b s.tree s.spells);
      }
