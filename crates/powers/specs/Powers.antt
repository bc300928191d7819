-- Powers of ten of at most 18.
-- Assumes nothing.
use Rattle.std.specs.Prelude.{cond, ℕ, ◌^◌, leb}

-- 02, request 6: "exactly ten to the power for 0 to 18, and 0 for any number above"
unfoldable pub power_of_ten : ℕ → ℕ
power_of_ten k = cond (leb k 18) (10 ^ k) 0
