-- Lines of a text (document 01, "Reasons of refusal"): "A line is 1 plus the LF bytes before the token's first byte, or
-- before the end." LF bytes in comments count too; a place past the end has the line of the end.
-- Assumes nothing.
use Rattle.std.specs.Prelude.{cond, [], ◌∷◌, ℕ, suc, ◌+◌, take}
use Rattle.text.specs.Bytes.{Bytes}
use Rattle.text.specs.Comments.{is_line_feed}

-- how many LF bytes
abbrev pub line_feeds : Bytes → ℕ
line_feeds [] = 0
line_feeds (b ∷ part) = let after = line_feeds part in cond (is_line_feed b) (suc after) after

-- the line of a place
unfoldable pub line_of : Bytes → ℕ → ℕ
line_of text place = 1 + line_feeds (take place text)
