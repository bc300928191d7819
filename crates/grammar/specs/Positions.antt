-- Where parts stand: of a list, a part from a position on; of what a format keeps, the cells, values and marks of a part of it
-- (Layout.antt), each said once, for every format.
-- Assumes nothing.
use Rattle.std.specs.Prelude.{◌≡◌, refl, ℕ, suc, ◌+◌, ◌≤◌, ◌<◌, length, get_or, take, drop}
use Rattle.std.proofs.Common.{sym, ◌∙◌, ap, ap₂, subst, subst₂, add-zero, add_assoc, arith, length-append, take_at, drop_at, length-take-le, get_or-append-add}
use mathlib.Core.List.Memᴰ
use mathlib.Core.List.{List, [], ◌∷◌, ◌++◌, append_assoc, append-nil, Memᴰ}
use Rattle.std.proofs.Math.ListN.{get_or-append}
use Rattle.std.proofs.Math.Seq.{slice, split_at}
use Rattle.text.specs.Bytes.{Bytes}
use Rattle.text.proofs.BytesLaws.{slice_take}
use Rattle.text.specs.Tokens.{Token}
use Rattle.arithmetic.specs.declared.Fraction.{Fraction}
use Rattle.grammar.specs.Format.{row_name, Format, symbol, then, items, view}
use Rattle.grammar.specs.Layout.{Mark, gather_items, gather, cells, values, marks_items, marks}

-- ---- a part of a list

-- xs stands in a list from a position on
pub record StandsAt {A : Type 0} (all : List A) (position : ℕ) (xs : List A) : Type 0 where
  pub before : List A
  pub after : List A
  pub cut : all ≡ before ++ (xs ++ after)
  pub from : length before ≡ position

-- ---- a part of a format

-- among cells, values and marks (these after i cells and v values) stand those of b, which the format h keeps: its cells and
-- its values in one run, from a position on, and its marks with these positions before them
pub record Within (cs : List ℕ) (vs : List Fraction) (ms : ℕ → ℕ → List Mark) {B : Type 0} (h : Format B) (b : B) : Type 0 where
  pub cell : ℕ
  pub number : ℕ
  pub cells_stand : StandsAt cs cell (cells h b)
  pub values_stand : StandsAt vs number (values h b)
  pub marks_among : (i v : ℕ) (m : Mark) → Memᴰ m (marks h b (i + cell) (v + number)) → Memᴰ m (ms i v)

-- b, which the format h keeps, is a part of a, which the format f keeps
pub record Part {A B : Type 0} (f : Format A) (a : A) (h : Format B) (b : B) : Type 0 where
  pub within : Within (cells f a) (values f a) (marks f a) h b

-- ---- what begins with a name of the row table

-- the first mark of what a format keeps has this row and this name
pub record Begins {A : Type 0} (f : Format A) (a : A) (row : ℕ) (name : Token) : Type 0 where
  pub marked : (i v : ℕ) → Memᴰ (record { row = row; name = name; cells = i; values = v }) (marks f a i v)
