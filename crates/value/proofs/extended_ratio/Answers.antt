-- `value::extended_ratio` meets its contract, by the byte after the digits: with a letter, the digits are read again as N.
-- Assumes nothing.
use mathlib.Core.Path.{◌∙◌, sym}
use Rattle.value.proofs.Scaled.{misspelled_exponent}
use Rattle.value.proofs.Tokens.{letter_missing}
use Rattle.value.proofs.extended_ratio.Goals as goal

pub returns-else-is_letter : goal.returns-else-is_letter
returns-else-is_letter c =
    let a = c.args in
    (tt, λ s w after g p. sym (misspelled_exponent s w after _ (letter_missing a.token.now a.end c.requires.2 (sym c.is_letter.ensures ∙ c.if-is_letter.false))))
