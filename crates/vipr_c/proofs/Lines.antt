-- A text has no more lines than bytes, and one.
-- Assumes nothing.
use mathlib.Core.Bool.{Bool, true, false, cond}
use mathlib.Core.List.{[], ◌∷◌}
use Prim.Native.Nat.{ℕ, suc, ◌+◌, ◌≤◌}
use native.Mathlib.Nat.{min-le_right}
use native.Mathlib.Omega.{arith}
use lib.ListN.{length, take, length-take}
use Rattle.text.specs.Bytes.{Bytes}
use Rattle.text.specs.Comments.{is_line_feed}
use Rattle.text.specs.Lines.{line_feeds, line_of}

feeds_few : (part : Bytes) → line_feeds part ≤ length part
feeds_few [] = omega arith
feeds_few (b ∷ part) = go (is_line_feed b) (feeds_few part)
  where
    go : (x : Bool) → line_feeds part ≤ length part → cond x (suc (line_feeds part)) (line_feeds part) ≤ suc (length part)
    go true h = omega arith
    go false h = omega arith

pub lines_few : (text : Bytes) (place : ℕ) → line_of text place ≤ length text + 1
unfolding line_of
lines_few text place = omega (arith, feeds_few (take place text), length-take place text, min-le_right place (length text))
