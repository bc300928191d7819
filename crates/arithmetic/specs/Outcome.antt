-- An answer by document 01's numbers: what an operation gives, or the number of its refusal.
-- Assumes nothing.
use Rattle.std.specs.Prelude.{ℕ}

pub data Outcome (A : Type 0) : Type 0 where
  gives : A → Outcome A
  refuses : ℕ → Outcome A
