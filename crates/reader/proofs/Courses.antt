-- The course of a reading, by the sizes of tables and text: what holds in each course holds of the course.
-- Assumes nothing.
use mathlib.Core.Path.{◌≡◌, refl}
use mathlib.Core.Bool.{Bool, true, false, cond, ◌&&◌}
use mathlib.Core.List.{List}
use Prim.Native.Nat.{ℕ}
use borrow.Author.Tests.{leb-true, le-leb}
use lib.Dec.{leb}
use lib.IntN.{ℤ}
use lib.ListN.{length}
use Rattle.text.specs.Bytes.{Bytes}
use Rattle.text.proofs.BytesLaws.{both}
use Rattle.tables.specs.Limits.{index_cells, value_cells, row_cells, has_cells, most_bytes, is_short}
use Rattle.grammar.specs.Texts.{read_of}
use Rattle.reader.specs.Promise.{Course, not_begun, begun, course_of, Begun}

module _ (text : Bytes) (index : List ℕ) (values : List ℤ) (rows : List ℕ) where
  -- the sizes that were tested
  pub begun_by : has_cells (length index) (length values) (length rows) ≡ true → is_short text ≡ true → Begun text index values rows
  begun_by h s =
      let p = both (leb index_cells (length index)) (leb value_cells (length values) && leb row_cells (length rows)) h in
      let q = both (leb value_cells (length values)) (leb row_cells (length rows)) p.1 in
      record {
        index-cells = leb-true index_cells (length index) p.0;
        value-cells = leb-true value_cells (length values) q.0;
        row-cells = leb-true row_cells (length rows) q.1;
        short = leb-true (length text) most_bytes s;
      }

  pub begun_course : Begun text index values rows → course_of text (length index) (length values) (length rows) ≡ begun (read_of text)
  begun_course b = rw (le-leb _ _ b.index-cells, le-leb _ _ b.value-cells, le-leb _ _ b.row-cells, le-leb _ _ b.short) refl

  pub by_course : (P : Course → Type 0) → P (not_begun 1) → P (not_begun 2) → (Begun text index values rows → P (begun (read_of text)))
      → P (course_of text (length index) (length values) (length rows))
  by_course P one two more = go (has_cells (length index) (length values) (length rows)) (is_short text) refl refl
    where
      go : (b c : Bool) → has_cells (length index) (length values) (length rows) ≡ b → is_short text ≡ c
          → P (cond b (cond c (begun (read_of text)) (not_begun 2)) (not_begun 1))
      go true true p q = more (begun_by p q)
      go true false p q = two
      go false c p q = one
