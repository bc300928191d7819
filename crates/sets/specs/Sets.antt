-- A mask as a set of numbers.
-- Assumes nothing.
use Rattle.std.specs.Prelude.{Bool, true, false, ℕ, ◌/◌, ◌%◌, ◌^◌}

-- 1 where k is in the set m, else 0
abbrev pub bit : ℕ → ℕ → ℕ
bit m k = m / 2 ^ k % 2

-- 1 where the test passes, else 0
abbrev pub one : Bool → ℕ
one true = 1
one false = 0
