-- Rows and derivations have one name each, and their rows of the row table follow one another.
-- Assumes nothing.
use mathlib.Core.Path.{refl}
use mathlib.Core.List.{List, ◌++◌, map}
use Prim.Native.Nat.{ℕ, ◌+◌}
use native.Mathlib.Nat.{zero-add}
use lib.ListN.{length}
use Rattle.text.specs.Bytes.{Bytes}
use Rattle.grammar.specs.Tree.{Row, Derivation}
use Rattle.grammar.specs.Format.{Or, instead, given, items}
use Rattle.grammar.specs.Certificate.{pair, pair_list, listed_terms, row, row_names, ReasonWord, asm_word, lin_word, rnd_word, uns_word, sol_word, detail, derivation, assumptions}
use Rattle.row_reader.specs.Parts.{row_body, justification, derivation_but}
use Rattle.symbol_reader.proofs.NamesLaws.{OneMark, Marked, Unmarked, unmarked_symbol, unmarked_nothing, unmarked_then, unmarked_view, unmarked_items, unmarked_or, one_symbol, one_then, one_view}

-- ---- rows

unmarked_pairs : (bound n : ℕ) → Unmarked (items n (pair bound))
unmarked_pairs bound n = unmarked_items n (λ before. unmarked_view (unmarked_then (unmarked_symbol (λ a i v. refl)) (λ k. unmarked_symbol (λ a i v. refl))))

pub unmarked_list : (bound : ℕ) → Unmarked (pair_list bound)
unmarked_list bound = unmarked_then (unmarked_symbol (λ a i v. refl)) (λ k. unmarked_pairs bound k)

unmarked_terms : (n : ℕ) (k : Or ℕ) → Unmarked (listed_terms n k)
unmarked_terms n instead = unmarked_nothing
unmarked_terms n (given k) = unmarked_pairs n k

unmarked_body : (n : ℕ) → Unmarked (row_body n)
unmarked_body n =
    unmarked_then (unmarked_symbol (λ a i v. refl))
    (λ s. unmarked_then (unmarked_symbol (λ a i v. refl)) (λ b. unmarked_view (unmarked_then (unmarked_or (unmarked_symbol (λ a i v. refl))) (unmarked_terms n))))

pub one-row : (n own : ℕ) (used : List Bytes) → OneMark (row n own used) own (λ (x : Row). x.name)
one-row n own used = one_view (one_then (one_symbol own used) (λ t. unmarked_body n))

-- the given rows have the rows from 0 on
pub rows-marked : (n : ℕ) → Marked (λ before. row n (length before) (row_names before)) 0 (λ (x : Row). x.name)
rows-marked n = record { one = λ before. rw zero-add (one-row n (length before) (row_names before)) }

-- ---- derivations

unmarked_detail : (own : ℕ) (w : ReasonWord) → Unmarked (detail own w)
unmarked_detail own asm_word = unmarked_nothing
unmarked_detail own lin_word = unmarked_view (unmarked_list own)
unmarked_detail own rnd_word = unmarked_view (unmarked_list own)
unmarked_detail own uns_word =
    let index = unmarked_symbol (λ a i v. refl) in
    unmarked_view (unmarked_then index (λ a. unmarked_then index (λ b. unmarked_then index (λ c. index))))
unmarked_detail own sol_word = unmarked_nothing

unmarked_justification : (own total assumed : ℕ) → Unmarked (justification own total assumed)
unmarked_justification own total assumed =
    unmarked_then (unmarked_symbol (λ a i v. refl))
    (λ o. unmarked_then (unmarked_view (unmarked_then (unmarked_symbol (λ a i v. refl)) (unmarked_detail own)))
    (λ q. unmarked_then (unmarked_symbol (λ a i v. refl)) (λ c. unmarked_view (unmarked_or (unmarked_symbol (λ a i v. refl))))))

pub one-derivation : (n own total assumed : ℕ) (used : List Bytes) → OneMark (derivation_but n own total assumed used) own (λ (x : Derivation). x.row.name)
one-derivation n own total assumed used = one_view (one_then (one-row n own used) (λ r. unmarked_justification own total assumed))

-- after m given rows, the derivations have the rows from m on
pub derivations-marked : (n m : ℕ) (names : List Bytes) (d : ℕ) → Marked (derivation n m names d) m (λ (x : Derivation). x.row.name)
derivations-marked n m names d =
    record { one = λ before. one-derivation n (m + length before) (m + d) (assumptions before) (names ++ map (λ (x : Derivation). x.row.name.bytes) before) }
