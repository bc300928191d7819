-- Read one value for C: "a token's bytes to a fraction, or a refusal". The promise of `value`, said of the number that is
-- returned and of what the pointers point to before and afterwards.
-- Assumes nothing.
use Rattle.std.specs.Prelude.{◌≡◌, ◌↔◌, ℕ}
use Rattle.text.specs.Bytes.{Bytes}
use Rattle.arithmetic.specs.declared.Fraction.{Fraction}
use Rattle.fraction.specs.Stored.{Stored}
use Rattle.numerals.specs.Spelling.{SpellsValue, SpellsTooWide, Misspelled}
use Rattle.numerals.specs.Reading.{read_value}
use Rattle.numerals.specs.ValueRead.{ValueRead}

pub record ValueReturned (token : Bytes) (returned : ℕ) (before after : Fraction) : Type 0 where
  -- 0 and the fraction stored; or the number of the refusal, and nothing stored
  pub by_definition : Stored (read_value token) returned before after
  -- what Read one value promises of that outcome
  pub promised : ValueRead token (read_value token)
  -- 0 exactly where the token spells a fraction, which is then stored; 7 exactly where it is too wide, 4 exactly where it has
  -- not the shape of a value
  pub returns_0 : (returned ≡ 0) ↔ ((f : Fraction) × SpellsValue f token)
  pub stores_spelled : (f : Fraction) → SpellsValue f token → after ≡ f
  pub returns-7 : (returned ≡ 7) ↔ SpellsTooWide token
  pub returns-4 : (returned ≡ 4) ↔ Misspelled token
