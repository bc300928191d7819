-- Cases of powers of ten (document 02, request 6), on either side of the greatest.
-- Assumes nothing.
use Rattle.std.specs.Prelude.{◌≡◌, List, [], ◌∷◌, ℕ}
use Rattle.powers.specs.Powers.{power_of_ten}

-- a number, and its power of ten
pub data Case : Type 0 where
  powers : ℕ → ℕ → Case

abbrev pub All : List Case → Type 0
All [] = Unit {0}
All (powers k p ∷ cs) = (power_of_ten k ≡ p) × All cs

abbrev pub cases : List Case
cases =
    -- "exactly ten to the power for 0 to 18"
    powers 0 1
    ∷ powers 1 10
    ∷ powers 18 1000000000000000000
    -- "and 0 for any number above"
    ∷ powers 19 0
    ∷ powers 18446744073709551615 0
    ∷ []
