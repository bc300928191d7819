-- What is returned and stored, if it goes by the course of a reading: no line is above 32,769, and 0 is returned exactly where it
-- went well.
-- Assumes nothing.
use mathlib.Core.Path.{◌≡◌, sym, ap, ◌∙◌}
use mathlib.Core.List.{List}
use mathlib.Core.Logic.{◌↔◌}
use Prim.Native.Nat.{ℕ, ◌≤◌}
use native.Mathlib.Omega.{arith}
use lib.IntN.{ℤ}
use lib.ListN.{length}
use Rattle.std.specs.Prelude.{Result, Ok, Err, IfErr}
use Rattle.text.specs.Bytes.{Bytes}
use Rattle.text.specs.Lines.{line_of}
use Rattle.tables.specs.Limits.{most_bytes}
use Rattle.grammar.specs.Texts.{ReadText, read_of}
use Rattle.grammar.specs.declared.Refused.{Refused}
use Rattle.reader.specs.Promise.{Course, not_begun, begun, course_of}
use Rattle.reader.proofs.Courses.{by_course}
use Rattle.vipr_c.specs.Certificates.{Reply, reply, reply_to}
use Rattle.vipr_c.proofs.Lines.{lines_few}

-- a text that is read has 32,769 lines at most
pub line_bound : (text : Bytes) (place : ℕ) → length text ≤ 32768 → line_of text place ≤ 32769
line_bound text place h = omega (arith, lines_few text place)

-- an answer r, replied to by the course
module _ (text : Bytes) (index : List ℕ) (values : List ℤ) (rows : List ℕ) (f : Course → Reply) (stops : (n : ℕ) → f (not_begun n) ≡ reply n 0)
    {A : Type 0} (r : Result A Refused) (answer : reply_to r ≡ f (course_of text (length index) (length values) (length rows))) where
  few : ((read : ReadText) → length text ≤ most_bytes → (f (begun read)).line ≤ 32769) → (reply_to r).line ≤ 32769
  few lines =
      rw answer
      (by_course text index values rows (λ c. (f c).line ≤ 32769) (rw (stops 1) (omega arith)) (rw (stops 2) (omega arith)) (λ b. lines (read_of text) b.short))

  pub line_small : ((read : ReadText) → length text ≤ most_bytes → (f (begun read)).line ≤ 32769) → IfErr r (λ refusal. refusal.line ≤ 32769)
  line_small lines = go r (few lines)
    where
      go : (r : Result A Refused) → (reply_to r).line ≤ 32769 → IfErr r (λ refusal. refusal.line ≤ 32769)
      go (Ok a) h = tt
      go (Err refusal) h = h

-- 0 exactly where it went well, which is where it should
pub returned_exactly : {returned line : ℕ} {Well Should : Type 0} (replied : Reply) → reply returned line ≡ replied → (replied.status ≡ 0) ↔ Well → Well ↔ Should → (returned ≡ 0) ↔ Should
returned_exactly replied q w s =
    let e = ap (λ (r : Reply). r.status) q in
    (λ z. s.0 (w.0 (sym e ∙ z)), λ p. e ∙ w.1 (s.1 p))
