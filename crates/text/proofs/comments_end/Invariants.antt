-- `text::comments_end` meets its contract. The invariant: a line begins at `at`, and the comments from there on end where all of them end.
-- The measure is what is left of the text.
-- Assumes nothing.
use Prim.Native.Nat.{◌+◌, ◌-◌}
use mathlib.Core.Path.{◌≡◌}
use mathlib.Core.Bool.{false}
use lib.ListN.{length, drop}
use Rattle.text.specs.Comments.{comment_bytes, comments_end}
use Rattle.text.proofs.comments_end.Given as goal

abbrev pub invariant-loop-at : goal.invariant-loop-at
invariant-loop-at l = l.at + comment_bytes false (drop l.at l.text) ≡ comments_end l.text

abbrev pub decreases-loop-at : goal.decreases-loop-at
decreases-loop-at l = length l.text - l.at
