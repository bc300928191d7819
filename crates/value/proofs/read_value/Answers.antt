-- `value::read_value` meets its contract: what it answers is `read_value` of the token, of which `value_read` proves the rest.
-- Assumes nothing.
use mathlib.Core.Path.{◌≡◌, ◌∙◌, sym, subst}
use borrow.Author.Rules.{rules}
use Rattle.text.specs.Bytes.{Bytes}
use Rattle.arithmetic.specs.Outcome.{Outcome}
use Rattle.arithmetic.specs.declared.Fraction.{Fraction}
use Rattle.numerals.specs.Reading.{read_value}
use Rattle.numerals.specs.ValueRead.{ValueRead}
use Rattle.numerals.proofs.Agreement.{value_read}
use Rattle.value.proofs.Tokens.{read-empty, read_minus, read_plain}
use Rattle.value.proofs.read_value.Goals as goal

as_read : (token : Bytes) (o : Outcome Fraction) → read_value token ≡ o → ValueRead token o
as_read token o e = subst (ValueRead token) e (value_read token)

pub returns-in_default : goal.returns-in_default
returns-in_default c = as_read _ _ (read-empty _ (search rules))

pub returns-then-first-eq45 : goal.returns-then-first-eq45
returns-then-first-eq45 c = as_read _ _ (read_minus _ (search rules) (search rules) ∙ sym c.read_unsigned.ensures)

pub returns-else-first-eq45 : goal.returns-else-first-eq45
returns-else-first-eq45 c = as_read _ _ (read_plain _ (search rules) (search rules) ∙ sym c.read_unsigned-else-first-eq45.ensures)
