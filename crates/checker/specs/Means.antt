-- What the answer `verifies` means: the text was read, and checking refused nothing; so the sentence about points holds of it.
-- Assumes nothing.
use Rattle.std.specs.Prelude.{◌≡◌, refl, Bool, true, false, cond, ℕ}
use Rattle.std.proofs.Common.{arith}
use Rattle.text.specs.Bytes.{Bytes}
use Rattle.tables.specs.Limits.{has_cells, is_short}
use Rattle.grammar.specs.Tree.{Tree}
use Rattle.grammar.specs.Texts.{ReadText, taken, refused, read_of}
use Rattle.grammar.proofs.Texts.{read_sound}
use Rattle.rules.specs.Result as rules
use Rattle.rules.specs.Check.{check_of}
use Rattle.rules.specs.Sentence.Points.{SentenceOf}
use Rattle.rules.proofs.Sentence.Verified as sentence
use Rattle.reader.specs.Promise.{not_begun, begun, course_of}
use Rattle.checker.specs.Promise.{verifies, refuses, checked_says, answer_of}

pub not_verified : {X : Type 0} {n l : ℕ} → refuses n l ≡ verifies → X
not_verified e = absurd (let z : ◌≡◌ {A = ℕ} 0 1 = cc in omega arith)

-- the text is read as a tree that checking does not refuse
pub record Passes (text : Bytes) : Type 0 where
  pub tree : Tree
  pub reads : read_of text ≡ taken tree
  pub checked : check_of tree ≡ rules.fine

pub passes : (text : Bytes) (read : ReadText) → read_of text ≡ read → answer_of text (begun read) ≡ verifies → Passes text
passes text (refused reason place) r e = not_verified e
passes text (taken tree) r e = record { tree = tree; reads = r; checked = fine (check_of tree) e }
  where
    fine : (v : rules.Verdict) → checked_says text v ≡ verifies → v ≡ rules.fine
    fine (rules.done tt) e = refl
    fine (rules.refused reason place) e = not_verified e

-- with tables of any sizes
pub verified_means : (text : Bytes) (i v r : ℕ) → answer_of text (course_of text i v r) ≡ verifies → SentenceOf text
verified_means text i v r = course (has_cells i v r) (is_short text)
  where
    course : (cells short : Bool) → answer_of text (cond cells (cond short (begun (read_of text)) (not_begun 2)) (not_begun 1)) ≡ verifies → SentenceOf text
    course true true e = let p = passes text (read_of text) refl e in sentence.verified_means text p.tree (read_sound text p.tree p.reads) p.checked
    course true false e = not_verified e
    course false short e = not_verified e
