-- Tests made of tests, as the code branches on them.
-- Assumes nothing.
use mathlib.Core.Path.{◌≡◌, sym, ◌∙◌, ap}
use mathlib.Core.Bool.{Bool, true, false, ◌&&◌, ◌||◌, and_comm, or_comm}

-- a test that a call answered with r, and what is tested next
module _ {r a : Bool} (b : Bool) (e : r ≡ a) where
  pub and_yes : r ≡ true → b ≡ a && b
  and_yes t = ap (λ (x : Bool). x && b) (sym t ∙ e)

  pub and_no : r ≡ false → false ≡ a && b
  and_no t = ap (λ (x : Bool). x && b) (sym t ∙ e)

  pub or_yes : r ≡ true → true ≡ a || b
  or_yes t = ap (λ (x : Bool). x || b) (sym t ∙ e)

  pub or_no : r ≡ false → b ≡ a || b
  or_no t = ap (λ (x : Bool). x || b) (sym t ∙ e)

-- the same, where the second of the two is asked first
module _ {r b : Bool} (a : Bool) (e : r ≡ b) where
  pub and_first : r ≡ true → a ≡ a && b
  and_first t = and_yes a e t ∙ and_comm b a

  pub and_neither : r ≡ false → false ≡ a && b
  and_neither t = and_no a e t ∙ and_comm b a

  pub or_either : r ≡ true → true ≡ a || b
  or_either t = or_yes a e t ∙ or_comm b a

  pub or-first : r ≡ false → a ≡ a || b
  or-first t = or_no a e t ∙ or_comm b a
