-- What the proof of the objective cites: where its terms stand, and what its direction says.
-- Assumes nothing.
use mathlib.Core.Path.{◌≡◌, refl, sym, ap, ◌∙◌, subst}
use mathlib.Core.List.{List, map}
use Prim.Native.Nat.{ℕ, suc, ◌+◌}
use native.Mathlib.Omega.{arith}
use lib.Dec.{eqb}
use lib.IntN.{ℤ}
use Rattle.text.specs.Bytes.{Bytes}
use Rattle.text.specs.Words as W
use Rattle.grammar.specs.Tree.{Direction, minimize, maximize}
use Rattle.grammar.specs.Format.{word, symbol, items}
use Rattle.grammar.specs.Certificate.{Pair, as_term, pair, direction, direction_cell, count_to}
use Rattle.grammar.specs.Header.{is_maximize}
use Rattle.grammar.specs.Layout.{gather}
use Rattle.symbol_reader.specs.Steps.{Answer, the}
use Rattle.symbol_reader.specs.Follows.{Always, Follows, below}
use Rattle.symbol_reader.specs.declared.Cursor.{Cursor}
use Rattle.symbol_reader.specs.declared.Next.{Next}
use Rattle.section_reader.specs.Sections.{SaysObjective}
use Rattle.section_reader.proofs.SectionLaws.{Known}

-- the cell of `max`
is_maximize_lem : (d : Direction) → eqb (direction_cell d) 1 ≡ is_maximize d
is_maximize_lem minimize = refl
is_maximize_lem maximize = refl

-- as many terms as the count says
pub pairs_follow : {n i k : ℕ} → i ≡ k → {told : List Pair → ℕ → Type 0} {text : Bytes} {c : Cursor} {ix : List ℕ} {vs : List ℤ} {rs : List ℕ} {ix' : List ℕ} {vs' : List ℤ} {rs' : List ℕ} {r : Answer}
    → Follows Always (items i (pair n)) told text c ix vs rs ix' vs' rs' r → Follows Always (items k (pair n)) told text c ix vs rs ix' vs' rs' r
pairs_follow {n} e {told} {text} {c} {ix} {vs} {rs} {ix'} {vs'} {rs'} {r} h = subst (λ (i : ℕ). Follows Always (items i (pair n)) told text c ix vs rs ix' vs' rs' r) e h

-- the word takes nothing, the direction and the count take a cell each
module _ {n : ℕ} {text : Bytes} {c : Cursor} {ix₀ : List ℕ} {vs₀ : List ℤ} {rs₀ : List ℕ} {ix₁ : List ℕ} {vs₁ : List ℤ} {rs₁ : List ℕ} {ix₂ : List ℕ} {vs₂ : List ℤ} {rs₂ : List ℕ} {ix₃ : List ℕ} {vs₃ : List ℤ} {rs₃ : List ℕ} {told : Unit {0} → ℕ → Type 0} {x₁ x₂ x₃ : Next} {u : Unit {0}} {d : Direction} {k : ℕ}
    (a : Known Always (symbol (word W.OBJ)) told text c ix₀ vs₀ rs₀ ix₁ vs₁ rs₁ x₁ u) (b : Known Always direction (the direction_cell) text x₁.cursor ix₁ vs₁ rs₁ ix₂ vs₂ rs₂ x₂ d) (e : Known Always (count_to n) (below (suc n)) text x₂.cursor ix₂ vs₂ rs₂ ix₃ vs₃ rs₃ x₃ k) where
  cell_is : x₃.cursor.cells ≡ c.cells + 2
  unfolding gather
  cell_is = omega (arith, a.went.cells_at, b.went.cells_at, e.went.cells_at)

  number_is : x₃.cursor.values ≡ c.values
  unfolding gather
  number_is = omega (arith, a.went.values-at, b.went.values-at, e.went.values-at)

  pub objective_says : (t : List Pair) {end : Cursor}
      → SaysObjective c (record { direction = d; terms = record { count = k; terms = map as_term t } }) (record { maximize = eqb x₂.number 1; terms = record { cell = x₃.cursor.cells; number = x₃.cursor.values; count = x₃.number }; cursor = end })
  objective_says t =
      record {
        direction = ap (λ (m : ℕ). eqb m 1) (sym b.says) ∙ is_maximize_lem d;
        terms = λ i. record { cell = cell_is i; number = number_is i; count = sym e.says.0 i };
      }
