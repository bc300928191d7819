-- What Read one value promises of a token and of the outcome of reading it.
-- Assumes nothing.
use Rattle.std.specs.Prelude.{◌≡◌, ◌↔◌, ◌⊎◌, ℕ}
use Rattle.text.specs.Bytes.{Bytes}
use Rattle.arithmetic.specs.Outcome.{Outcome, gives, refuses}
use Rattle.arithmetic.specs.Quotient.{◌≈◌}
use Rattle.arithmetic.specs.Fraction.{IsFraction, exact}
use Rattle.arithmetic.specs.declared.Fraction.{Fraction}
use Rattle.numerals.specs.Spelling.{quotient_of, SpellsValue, SpellsTooWide, Misspelled}
use Rattle.numerals.specs.Reading.{read_value}

pub record ValueRead (token : Bytes) (outcome : Outcome Fraction) : Type 0 where
  -- the outcome is that of the definition
  pub by_definition : outcome ≡ read_value token
  -- it is a fraction exactly where the token spells that fraction, 7 exactly where the token has the shape of a value and is
  -- too wide, 4 exactly where it has not that shape
  pub gives_spelled : (f : Fraction) → (outcome ≡ gives f) ↔ SpellsValue f token
  pub refuses_too_wide : (outcome ≡ refuses 7) ↔ SpellsTooWide token
  pub refuses_misspelled : (outcome ≡ refuses 4) ↔ Misspelled token
  -- "Reading one value gives only 4 or 7"
  pub only_4_or_7 : (n : ℕ) → outcome ≡ refuses n → (n ≡ 4) ⊎ (n ≡ 7)
  -- no token spells two fractions; what it spells is the rational number that is written, in lowest terms within the limit
  pub spells_one : (f g : Fraction) → SpellsValue f token → SpellsValue g token → f ≡ g
  pub spells_exactly : (f : Fraction) (s : SpellsValue f token) → IsFraction f × (exact f ≈ quotient_of s.written)
