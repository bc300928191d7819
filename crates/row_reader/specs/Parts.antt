-- Formats as the code reads them: where the grammar says which indices or names are used, the code reads that off the tables.
-- Assumes nothing.
use Rattle.std.specs.Prelude.{refl, List, ℕ}
use Rattle.text.specs.Bytes.{Bytes}
use Rattle.text.specs.Words as W
use Rattle.arithmetic.specs.declared.Fraction.{Fraction}
use Rattle.grammar.specs.Tree.{Sense, Side, Row, Reason, Last, Derivation}
use Rattle.grammar.specs.Format.{Format, symbol, word, then, view}
use Rattle.grammar.specs.Certificate.{Pair, new_index_below, plain_value, sense, side, row, reason_cell, of_reason, reason, last}

-- a pair whose index is none of those used
abbrev pub pair_but : ℕ → List ℕ → Format Pair
pair_but bound used =
    view {A = (i : ℕ) × Fraction} {B = Pair}
    (λ p. record { index = p.0; value = p.1 }) (λ p. (p.index, p.value)) (λ p. refl) (λ p. refl)
    (then (new_index_below bound used) (λ i. plain_value))

-- what follows a row's name
abbrev pub row_body : ℕ → Format ((s : Sense) × ((b : Fraction) × Side))
row_body n = then sense (λ s. then plain_value (λ b. side n))

-- what follows a derivation's row: a reason in braces, and a last index
abbrev pub justification : ℕ → ℕ → ℕ → Format ((o : Unit {0}) × ((q : Reason) × ((c : Unit {0}) × Last)))
justification own total assumed =
    then (symbol (word W.open_brace)) (λ o. then (reason own assumed) (λ q. then (symbol (word W.close_brace)) (λ c. last total)))

-- a derivation of the row `own`, of so many rows in all, after so many assumptions, whose name is none of those used
abbrev pub derivation_but : ℕ → ℕ → ℕ → ℕ → List Bytes → Format Derivation
derivation_but n own total assumed used =
    view {A = (r : Row) × ((o : Unit {0}) × ((q : Reason) × ((c : Unit {0}) × Last)))} {B = Derivation}
    (λ p. record { row = p.0; reason = p.1.1.0; last = p.1.1.1.1 })
    (λ r. (r.row, (tt, (r.reason, (tt, r.last))))) (λ p. refl) (λ r. refl)
    (then (row n own used) (λ r. justification own total assumed))

-- the cell of a reason's word
abbrev pub word_cell : Reason → ℕ
word_cell r = reason_cell (of_reason r).0
