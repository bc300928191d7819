-- What a function for C returns, and what its pointers point to afterwards: 0 and the result; or document 01's number of the
-- refusal, and what they pointed to before. One record says so of every function, over the outcomes of `fraction`.
-- Assumes nothing.
use Rattle.std.specs.Prelude.{◌≡◌, ℕ, ℤ}
use Rattle.arithmetic.specs.Outcome.{Outcome, gives, refuses}
use Rattle.arithmetic.specs.declared.Fraction.{Fraction}

-- the number that is returned
abbrev pub status : {A : Type 0} → Outcome A → ℕ
status (gives a) = 0
status (refuses n) = n

-- what the pointers point to afterwards, given what they pointed to before
abbrev pub contents : {A : Type 0} → Outcome A → A → A
contents (gives a) before = a
contents (refuses n) before = before

pub record Stored {A : Type 0} (o : Outcome A) (returned : ℕ) (before after : A) : Type 0 where
  pub returns : returned ≡ status o
  pub stores : after ≡ contents o before

-- a numerator and a denominator: two operands, or what two pointers point to
abbrev pub pair : ℤ → ℤ → Fraction
pair n d = record { num = n; den = d }
