-- Spent rows: by the last index in the tables, and of each named row.
-- Assumes nothing.
use Rattle.std.specs.Prelude.{◌≡◌, Bool, false, Option, Some, None, MatchOption, ℕ, ◌≤◌, ◌<◌, ltb}
use Rattle.std.proofs.Common.{sym, ◌∙◌, ap}
use Rattle.grammar.specs.Tree.{Tree}
use Rattle.rules.specs.Rows.{entry_at}
use Rattle.rules.specs.Derivations.{is_past, is_spent}
use Rattle.encoding.specs.Encodes.{Holds}
use Rattle.encoding.proofs.EncodesLaws.{given-at, derived_row_lem, last_known}
use Rattle.encoding.specs.Rows.{LastIs, last_says}
use Rattle.encoding.specs.declared.Certificate.{Certificate}

-- whether a last index is below the row `own`
pub past_by : (own : ℕ) (o : Option ℕ) {b : Bool} → MatchOption o (b ≡ false) (λ last. b ≡ ltb last own) → b ≡ is_past own (last_says o)
past_by own None e = e
past_by own (Some last) e = e

module _ {tree : Tree} (c : Certificate) (e : Holds tree c) (own r : ℕ) where
  -- a given row never
  pub spent_given : r < c.header.given → false ≡ is_spent own (entry_at tree r)
  spent_given lt = sym (ap (is_spent own) (given-at e r lt))

  -- a derived one by its last index
  pub spent_by : c.header.given ≤ r → r < c.header.rows → {o : Option ℕ} → LastIs c.index.now c.rows.now r o → is_past own (last_says o) ≡ is_spent own (entry_at tree r)
  spent_by le lt {o} k =
      let here = derived_row_lem e r le lt in
      ap (is_past own) (last_known {o = o} {l = here.derivation.last} k here.encodes.last_is here.encodes.last-below) ∙ sym (ap (is_spent own) here.entry_is)
