-- How an input is cut into cases.
-- Assumes nothing.
use Rattle.std.specs.Prelude.{◌≡◌, ℕ, nat_eq, List, [], ◌∷◌, if◌then◌else◌, drop}
use Rattle.std.specs.List.{starts_with}

-- what stands before the first mark in a text, or all of it where no mark stands there
abbrev pub before_mark : List ℕ → List ℕ → List ℕ
before_mark mark [] = []
before_mark mark (b ∷ bs) = if starts_with nat_eq (b ∷ bs) mark then [] else b ∷ before_mark mark bs

-- the rest of a text from its first mark on, or nothing where no mark stands there
abbrev pub from_mark : List ℕ → List ℕ → List ℕ
from_mark mark [] = []
from_mark mark (b ∷ bs) = if starts_with nat_eq (b ∷ bs) mark then b ∷ bs else from_mark mark bs

-- LF, which ends a line, and LF and `=`, before which a case ends
abbrev pub line_end : List ℕ
line_end = 10 ∷ []

abbrev pub case_end : List ℕ
case_end = 10 ∷ 61 ∷ []

-- The next case of what is left of an input: its name is the first line without that line's first two bytes, and its text stands
-- below the line, up to where the case ends. What is left then begins with the `=`.
pub record IsNextCase (rest name text left : List ℕ) : Type 0 where
  pub name_is : name ≡ drop 2 (before_mark line_end rest)
  pub text_is : text ≡ drop 1 (before_mark case_end (from_mark line_end rest))
  pub left_is : left ≡ drop 1 (from_mark case_end (from_mark line_end rest))
