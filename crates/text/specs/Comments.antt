-- The comments at the start of a text (document 01, "Spelling"): "Lines at the start whose first byte is `%` are comments,
-- of any bytes, through their LF or the end." A line ends at LF only. What does not begin with `%`, a blank line or a space
-- before `%` among it, ends the comments.
-- Assumes nothing.
use Rattle.std.specs.Prelude.{◌≡◌, Bool, true, false, cond, not, [], ◌∷◌, ◌++◌, ℕ, suc, ◌+◌, eqb, length}
use Rattle.text.specs.Bytes.{Bytes, every}

-- LF
abbrev pub is_line_feed : ℕ → Bool
is_line_feed b = eqb b 10

-- a byte within a line
abbrev pub is_line_byte : ℕ → Bool
is_line_byte b = not (is_line_feed b)

-- `%`
abbrev pub is_percent : ℕ → Bool
is_percent b = eqb b 37

-- a line "whose first byte is `%`" comes first
abbrev pub is_comment : Bytes → Bool
is_comment [] = false
is_comment (b ∷ part) = is_percent b

-- ---- in words: the comments of a text end at a place

pub data CommentsEndAt : Bytes → ℕ → Type 0 where
  -- the text does not begin with `%`: it has none
  none : {text : Bytes} → is_comment text ≡ false → CommentsEndAt text 0
  -- the text is `%`, bytes within a line, LF, and then `after`, whose comments end at `place`
  line : {text : Bytes} {place : ℕ} (inside after : Bytes) → text ≡ 37 ∷ (inside ++ (10 ∷ after))
      → every is_line_byte inside ≡ true → CommentsEndAt after place → CommentsEndAt text (length inside + 2 + place)
  -- the text is `%` and bytes within a line: it ends with the comment
  last : {text : Bytes} (inside : Bytes) → text ≡ 37 ∷ inside → every is_line_byte inside ≡ true
      → CommentsEndAt text (length text)

-- ---- worked out: how many bytes at the start of a part are comments, where it begins within a comment (true), or as a
-- line begins (false)
abbrev pub comment_bytes : Bool → Bytes → ℕ
comment_bytes within [] = 0
comment_bytes true (b ∷ part) = suc (comment_bytes (is_line_byte b) part)
comment_bytes false (b ∷ part) = cond (is_percent b) (suc (comment_bytes true part)) 0

-- the place after the comments
unfoldable pub comments_end : Bytes → ℕ
comments_end text = comment_bytes false text
