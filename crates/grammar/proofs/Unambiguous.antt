-- No tokens spell two certificates: the words of each choice differ, and no word that may stand in the place of a number or a
-- value spells one.
-- Assumes nothing.
use Rattle.std.specs.Prelude.{◌≡◌, refl, false, List, ◌++◌, map, ℕ, ◌+◌, length}
use Rattle.std.proofs.Common.{sym, ◌∙◌, ap}
use Rattle.text.specs.Bytes.{Bytes, is_digit, is_numeral}
use Rattle.text.proofs.BytesLaws.{clash}
use Rattle.text.specs.Words as W
use Rattle.text.specs.Tokens.{Token}
use Rattle.arithmetic.specs.Outcome.{Outcome, gives, refuses}
use Rattle.arithmetic.specs.declared.Fraction.{Fraction}
use Rattle.numerals.specs.Reading.{read_value, outcome_of}
use Rattle.numerals.specs.Spelling.{SpellsValue}
use Rattle.numerals.proofs.Agreement.{value_read}
use Rattle.grammar.specs.Tree.{Constraints, Derivation}
use Rattle.grammar.specs.Format.{Or, instead, given}
use Rattle.grammar.specs.Spelling.{NumberSpelled}
use Rattle.grammar.specs.Certificate.{pair_list, listed_terms, side, row, row_names, ReasonWord, asm_word, lin_word, rnd_word, uns_word, sol_word, detail, reason, last, derivation, end_or, ClaimWord, infeas_word, range_word, ends, claim, certificate}
use Rattle.grammar.proofs.SymbolAgreement.{impossible, is_numeral_lem}
use Rattle.grammar.proofs.Agreement.{Clear}

-- a word that is no numeral spells no number
no_number : {bound : ℕ} {used : List ℕ} {w : Bytes} → is_numeral w ≡ false → (n : ℕ) (t : Token) → t.bytes ≡ w → NumberSpelled bound used n t.bytes → ⊥
no_number e n t p h = clash (ap is_numeral p ∙ e) (is_numeral_lem h.numeral)

-- a word that is read as no value spells none
no_value : {w : Bytes} → read_value w ≡ refuses 4 → (f : Fraction) (t : Token) → t.bytes ≡ w → SpellsValue f t.bytes → ⊥
no_value e f t p h =
    let clear : gives f ≡ refuses 4 = sym (((value_read t.bytes).gives_spelled f).1 h) ∙ ap read_value p ∙ e in
    impossible (cc clear)

module _ (bound : ℕ) where
  pairs_clear : Clear (pair_list bound)
  pairs_clear = (tt, λ k before. (tt, λ i. tt))

  listed_clear : (k : Or ℕ) → Clear (listed_terms bound k)
  listed_clear instead = tt
  listed_clear (given k) = λ before. (tt, λ i. tt)

-- `OBJ` is no number
side_clear : (n : ℕ) → Clear (side n)
unfolding is_digit
side_clear n = ((tt, no_number {w = W.OBJ} refl), listed_clear n)

row_clear : (n own : ℕ) (used : List Bytes) → Clear (row n own used)
row_clear n own used = (tt, λ t. (refl, λ s. (tt, λ b. side_clear n)))

detail_clear : (own : ℕ) (w : ReasonWord) → Clear (detail own w)
detail_clear own asm_word = tt
detail_clear own lin_word = pairs_clear own
detail_clear own rnd_word = pairs_clear own
detail_clear own uns_word = (tt, λ i. (tt, λ l. (tt, λ j. tt)))
detail_clear own sol_word = tt

-- `-1` is no number
last_clear : (rows : ℕ) → Clear (last rows)
unfolding is_digit
last_clear rows = (tt, no_number {w = W.minus_one} refl)

derivation_clear : (n m d : ℕ) (names : List Bytes) (before : List Derivation) → Clear (derivation n m names d before)
derivation_clear n m d names before = (
  row_clear n (m + length before) (names ++ map (λ (x : Derivation). x.row.name.bytes) before),
  λ r. (tt, λ o. ((refl, detail_clear (m + length before)), λ q. (tt, λ c. last_clear (m + d)))),
)

-- `-inf` and `inf` are no values
ends_clear : (w : ClaimWord) → Clear (ends w)
unfolding is_digit read_value outcome_of
ends_clear infeas_word = tt
ends_clear range_word = ((tt, no_value {w = W.minus_inf} refl), λ lower. (tt, no_value {w = W.inf} refl))

pub certificate_clear : Clear certificate
certificate_clear = (
  (tt, λ u. tt),
  λ u. (
    (tt, λ u. (tt, λ n before. tt)),
    λ v. (
      (tt, λ u. (tt, λ k before. tt)),
      λ i. (
        (tt, λ u. (refl, λ c. pairs_clear v.count)),
        λ o. (
          (tt, λ u. (tt, λ m. (tt, λ b before. row_clear v.count (length before) (row_names before)))),
          λ c. (
            (tt, λ p. (refl, ends_clear)),
            λ r. (
              (tt, λ u. (tt, λ s before. (tt, λ t. pairs_clear v.count))),
              λ s. (tt, λ p. (tt, λ d before. derivation_clear v.count c.count d (row_names c.rows) before)),
            ),
          ),
        ),
      ),
    ),
  ),
)
