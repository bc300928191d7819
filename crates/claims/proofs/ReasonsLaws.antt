-- The set of a derivation by the word of its reason and the rows that it names.
-- Assumes nothing.
use mathlib.Core.Path.{◌≡◌, refl, sym, ◌∙◌, ap}
use mathlib.Core.Bool.{Bool, true, false}
use mathlib.Core.List.{List, [], ◌∷◌}
use Prim.Native.Nat.{ℕ, ◌≤◌, ◌<◌, max}
use native.Mathlib.Omega.{arith}
use denote.Enum.Bare.{sameb}
use Rattle.std.proofs.lemmas.Bool.{lt-leb}
use lib.Dec.{leb}
use lib.IntN.{ℤ}
use Rattle.std.proofs.Common.{not-suc-le-zero, le_of_suc-le-suc, take, zero, suc}
use lib.ListN.{length, get_or}
use Rattle.tables.specs.declared.Header.{Header}
use Rattle.grammar.specs.Tree.{Reason, asm, lin, rnd, uns, sol, Tree}
use Rattle.grammar.specs.Certificate.{ReasonWord, asm_word, lin_word, rnd_word, uns_word, sol_word, reason_cell, of_reason, is_assumption}
use Rattle.rules.specs.Rows.{entry_at}
use Rattle.rules.specs.Assumptions.{assumed}
use Rattle.rules.specs.Derivations.{named}
use Rattle.sets.specs.Sets.{bit}
use Rattle.encoding.specs.Places.{word_of}
use Rattle.encoding.specs.Encodes.{Encodes}
use Rattle.encoding.proofs.EncodesLaws.{given-at, derived_row_lem}
use Rattle.encoding.specs.Rows.{word_says}
use Rattle.encoding.specs.declared.reasons.Word.{Word}
use Rattle.encoding.specs.contracts.reasons.Word.{the_type}
use Rattle.encoding.specs.declared.reasons.Word.TheVariants.{Asm, Lin, Rnd, Uns, Sol}
use Rattle.claims.specs.Masks.{mask_at, union_bit}

-- ---- `asm` rows

is_asm : ReasonWord → Bool
is_asm asm_word = true
is_asm lin_word = false
is_asm rnd_word = false
is_asm uns_word = false
is_asm sol_word = false

by_case : (w : Word) → sameb the_type w Asm ≡ is_asm (word_says w)
unfolding is_asm
by_case Asm = refl
by_case Lin = refl
by_case Rnd = refl
by_case Uns = refl
by_case Sol = refl

by_reason : (why : Reason) → is_asm (of_reason why).0 ≡ is_assumption why
unfolding is_asm
by_reason asm = refl
by_reason (lin ms) = refl
by_reason (rnd ms) = refl
by_reason (uns u) = refl
by_reason sol = refl

module _ {tree : Tree} {h : Header} {index : List ℕ} {values : List ℤ} {rows : List ℕ} (e : Encodes tree h index values rows) (r : ℕ) where
  -- a given row is none
  pub given-not : r < h.given → leb h.given r ≡ assumed (entry_at tree r)
  given-not lt = lt-leb h.given r lt ∙ sym (ap assumed (given-at e r lt))

  pub word_asm : (w : Word) → ((x : ReasonWord) → word_of index rows r ≡ reason_cell x → word_says w ≡ x) → h.given ≤ r → r < h.rows → sameb the_type w Asm ≡ assumed (entry_at tree r)
  word_asm w is ge lt =
      let row = derived_row_lem e r ge lt in
      by_case w ∙ ap is_asm (is _ row.encodes.word_is) ∙ by_reason row.derivation.reason ∙ sym (ap assumed row.entry_is)

-- ---- the union of the sets of some rows

-- of one row more
pub union_next : (masks named : List ℕ) (k j : ℕ) → k < length named
    → union_bit masks (take (suc k) named) j ≡ max (union_bit masks (take k named) j) (bit (mask_at masks (get_or named k 0)) j)
union_next masks [] k j h = absurd (not-suc-le-zero h)
union_next masks (i ∷ named) zero j h = omega arith
union_next masks (i ∷ named) (suc k) j h = omega (arith, union_next masks named k j (le_of_suc-le-suc h))
