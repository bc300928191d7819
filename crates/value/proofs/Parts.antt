-- The digits of a part that runs to its token's end, by what `ended` answers.
-- Assumes nothing.
use mathlib.Core.Path.{◌≡◌, sym, subst}
use mathlib.Core.Bool.{true, false}
use Rattle.text.specs.Bytes.{Bytes, is_numeral}
use Rattle.numerals.specs.Reading.{digits_of}
use Rattle.value.specs.Runs.{Stands, Ended}
use Rattle.value.specs.declared.Digits.{Digits}
use Rattle.std.proofs.Common.{Option, Some, None}
use Rattle.numerals.proofs.Numbers.{digits_numeral}

module _ (t : Bytes) (d : Digits) (p : Option Digits) (h : Ended t d p) where
  pub part_misspelled : p ≡ None → is_numeral t ≡ false
  part_misspelled e = subst (Ended t d) e h

  module _ (r : Digits) (e : p ≡ Some r) where
    ends : (is_numeral t ≡ true) × (r ≡ d)
    ends = subst (Ended t d) e h

    pub part_numeral : is_numeral t ≡ true
    part_numeral = ends.0

    pub part_stands : Stands (digits_of t) d → Stands t r
    part_stands g = subst (λ (u : Bytes). Stands u r) (digits_numeral t part_numeral) (subst (Stands (digits_of t)) (sym ends.1) g)
