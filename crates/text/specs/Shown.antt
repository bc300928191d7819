-- Show a token (document 01, "What the kit offers"): "a text and a byte place. If a token begins there (no separator at it,
-- none but a separator before it), the answer is that part of the lent text itself; otherwise an empty part at its end."
-- It goes by the neighbours of the place, and knows no comments.
-- Assumes nothing.
use Rattle.std.specs.Prelude.{◌≡◌, Bool, cond, ◌&&◌, ◌||◌, ℕ, ◌+◌, ◌-◌, ◌≤◌, min, eqb, ltb, length, get_or}
use Rattle.std.proofs.Math.Seq.{slice}
use Rattle.std.specs.Borrow.{Bor}
use Rattle.text.specs.Bytes.{Bytes, is_separator}
use Rattle.text.specs.Tokens.{is_token_byte, token_end}

-- "none but a separator before it": the place is the start of the text, or a separator stands before it
abbrev pub follows_separator : Bytes → ℕ → Bool
follows_separator text place = eqb place 0 || is_separator (get_or text (place - 1) 0)

-- "a token begins there (no separator at it, none but a separator before it)"
unfoldable pub begins_token : Bytes → ℕ → Bool
begins_token text place = ltb place (length text) && (is_token_byte (get_or text place 0) && follows_separator text place)

-- the part that is shown: from where to where it goes, and its bytes
unfoldable pub shown_from : Bytes → ℕ → ℕ
shown_from text place = cond (begins_token text place) place (length text)

unfoldable pub shown_to : Bytes → ℕ → ℕ
shown_to text place = cond (begins_token text place) (token_end text place) (length text)

abbrev pub shown_at : Bytes → ℕ → Bytes
shown_at text place = slice (shown_from text place) (shown_to text place) text

-- "that part of the lent text itself": a reference to the text's own bytes from `from` up to `to`. Where a reference points is
-- a block of memory and an offset in it: the block is the text's, and the offset is `from` bytes after the text's.
pub record IsPart (text : Bor Bytes) (from to : ℕ) (part : Bor Bytes) : Type 0 where
  pub ordered : from ≤ to
  pub inside : to ≤ length text.now
  pub block : part.ref_ptr.0 ≡ text.ref_ptr.0
  pub offset : part.ref_ptr.1 ≡ text.ref_ptr.1 + from
  pub bytes : part.now ≡ slice from to text.now

-- where the part `from` .. `to` of a text begins and ends, as far as the text goes: one that would begin after its end is empty at
-- that end
abbrev pub part_to : Bytes → ℕ → ℕ
part_to text to = min to (length text)

abbrev pub part_from : Bytes → ℕ → ℕ → ℕ
part_from text from to = min from (part_to text to)
