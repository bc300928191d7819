-- THE PROMISE of the program: "reads standard input and prints one line" (document 01, "What the kit offers").
-- No contract can say what the system's standard input gives, and what becomes of what is written. So the promise is about the
-- transcript of a run: the bytes that its reads left in the room for the text, and the bytes that it handed over to be written.
-- Assumes nothing.
use Rattle.std.specs.Prelude.{ℕ, [], ◌≡◌, Option, Some, None, get_or, length, take}
use Rattle.std.proofs.Common.{ap, arith}
use Rattle.text.specs.Bytes.{Bytes}
use Rattle.text.specs.Ascii.{ascii}
use Rattle.rules.specs.Sentence.Points.{SentenceOf}
use Rattle.program.specs.declared.Transcript.{Transcript}
use Rattle.program.specs.Input.{Stopped}
use Rattle.program.specs.Line.{printed, printed-means}

-- the line for what came, by how many bytes came with the last read: none where it failed
abbrev pub line_after : Option ℕ → Bytes → Bytes
line_after (Some more) text = printed text
line_after None text = []

-- a run that left this transcript. Free is what stands after the bytes that came
pub record InputAnswered (t : Transcript) : Type 0 where
  -- reading went on to the end of the input, or until the room was full, or a read failed
  pub stopped : Stopped (length t.text) t.came t.last
  -- the line is that for the bytes that came
  pub line_made : t.line.bytes ≡ line_after t.last (take t.came t.text)
  -- where it is `verified`, the sentence about points holds of them
  pub verified_means : t.line.bytes ≡ ascii "verified\n" → SentenceOf (take t.came t.text)

pub after-means : (last : Option ℕ) (text : Bytes) → line_after last text ≡ ascii "verified\n" → SentenceOf text
after-means (Some more) text h = printed-means text h
after-means None text h = absurd (let z : ◌≡◌ {A = ℕ} 0 118 = ap (λ (b : Bytes). get_or b 0 0) h in omega arith)
