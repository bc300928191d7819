-- Laws of `Rows`.
-- Assumes nothing.
use Rattle.std.specs.Prelude.{◌≡◌, refl, ℕ, zero, suc, ◌+◌, ◌<◌, ◌≤◌, length}
use Rattle.std.proofs.Common.{sym, ◌∙◌}
use Rattle.std.proofs.Math.Path.{ap}
use mathlib.Core.List.{List, ◌∷◌, ◌++◌, map}
use Rattle.std.proofs.Math.ListN.{get_or, get_or-append, get_or-eq_default, get_or-map}
use Rattle.std.proofs.lemmas.List.{length-map}
use Rattle.std.proofs.Math.Seq.{get_or-append-add, get_or_at}
use Rattle.grammar.specs.Tree.{Sense, equal, at_most, at_least, Row, Derivation, Tree}
use Rattle.grammar.specs.Certificate.{sense_cell}
use Rattle.rules.specs.Tests.{Decides}
use Rattle.rules.proofs.Tests.{decides_as, decides_equal}
use Rattle.rules.specs.Rows.{same_sense, Entry, given_row, derived_row, no_row, entries, entry_at}

of_cell : ℕ → Sense
of_cell zero = equal
of_cell (suc zero) = at_most
of_cell (suc (suc n)) = at_least

cell_back : (s : Sense) → of_cell (sense_cell s) ≡ s
unfolding of_cell
cell_back equal = refl
cell_back at_most = refl
cell_back at_least = refl

pub decides_sense : (s t : Sense) → Decides (same_sense s t) (s ≡ t)
decides_sense s t =
    decides_as (λ e. sym (cell_back s) ∙ ap of_cell e ∙ cell_back t) (ap sense_cell) (decides_equal (sense_cell s) (sense_cell t))

-- ---- rows by their index

module _ (tree : Tree) where
  abbrev rows : List Row
  rows = tree.constraints.rows

  abbrev derivations : List Derivation
  derivations = tree.derivations.derivations

  -- indices below m are given rows
  pub entry_given : (i : ℕ) → i < length rows → entry_at tree i ≡ given_row (get_or rows i no_row)
  unfolding entry_at entries
  entry_given i h =
      get_or-append (map given_row rows) (map derived_row derivations) (given_row no_row) i (rw (length-map rows given_row) h)
      ∙ get_or-map given_row rows i no_row

  -- and from m on derived ones
  pub entry_derived : (k : ℕ) → entry_at tree (length rows + k) ≡ get_or (map derived_row derivations) k (given_row no_row)
  unfolding entry_at entries
  entry_derived k =
      ap (λ (n : ℕ). get_or (map given_row rows ++ map derived_row derivations) (n + k) (given_row no_row)) (sym (length-map rows given_row))
      ∙ get_or-append-add (map given_row rows) (map derived_row derivations) k (given_row no_row)

  -- the row at which a list of entries goes on
  pub entry_next : (front : List Entry) (e : Entry) (back : List Entry) (i : ℕ) → entries tree ≡ front ++ e ∷ back → length front ≡ i → entry_at tree i ≡ e
  unfolding entry_at
  entry_next front e back i p q = ap (λ (l : List Entry). get_or l i (given_row no_row)) p ∙ get_or_at front e back (given_row no_row) i q

  pub entry_beyond : (i : ℕ) → length (entries tree) ≤ i → entry_at tree i ≡ given_row no_row
  unfolding entry_at
  entry_beyond i h = get_or-eq_default (entries tree) (given_row no_row) h
