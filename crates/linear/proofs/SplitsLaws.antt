-- Splits: three tests, the last asked first.
-- Assumes nothing.
use mathlib.Core.Path.{◌≡◌, sym, ◌∙◌, ap}
use mathlib.Core.Bool.{Bool, true, false, ◌&&◌, ◌||◌, and-true, and-false}
use Prim.Native.Nat.{ℕ}
use Rattle.arithmetic.specs.declared.Fraction.{Fraction}
use Rattle.grammar.specs.Tree.{Tree}
use Rattle.rules.specs.Tests.{every_below}
use Rattle.rules.specs.Values.{is_same}
use Rattle.rules.specs.Rows.{variables, Constraint}
use Rattle.rules.specs.Domination.{same_coefficients}
use Rattle.rules.specs.Rounding.{is_integral}
use Rattle.rules.specs.Splits.{are_adjacent, is_split}

module _ (tree : Tree) (c d : Constraint) where
  abbrev same : Bool
  same = same_coefficients (variables tree) c d

  abbrev adjacent : Bool
  adjacent = are_adjacent c d || are_adjacent d c

  pub not-adjacent : {r : Bool} → r ≡ are_adjacent c d || are_adjacent d c → r ≡ false → false ≡ is_split tree c d
  unfolding is_split
  not-adjacent e q =
      sym (and-false same)
      ∙ ap (λ (t : Bool). same && t) (sym (and-false (is_integral tree c)))
      ∙ ap (λ (t : Bool). same && (is_integral tree c && t)) (sym q ∙ e)

  pub not_integral : {r : Bool} → r ≡ is_integral tree c → r ≡ false → false ≡ is_split tree c d
  unfolding is_split
  not_integral e q = sym (and-false same) ∙ ap (λ (t : Bool). same && (t && adjacent)) (sym q ∙ e)

  -- where both hold, equal coefficients
  pub split_by : {i a : Bool} → i ≡ is_integral tree c → i ≡ true → a ≡ are_adjacent c d || are_adjacent d c → a ≡ true → same ≡ is_split tree c d
  unfolding is_split
  split_by e p f q =
      sym (and-true same)
      ∙ ap (λ (t : Bool). same && t) (sym q ∙ f)
      ∙ ap (λ (t : Bool). same && (t && adjacent)) (sym p ∙ e)

-- equal coefficients, of as many variables
pub same_are : (c d : Constraint) (f : ℕ → Fraction) → f ≡ c.coefficient → {n m : ℕ} → m ≡ n → every_below n (λ v. is_same (f v) (d.coefficient v)) ≡ same_coefficients m c d
unfolding same_coefficients
same_are c d f e {n} q =
    ap (λ (g : ℕ → Fraction). every_below n (λ v. is_same (g v) (d.coefficient v))) e
    ∙ ap (λ (k : ℕ). every_below k (λ v. is_same (c.coefficient v) (d.coefficient v))) (sym q)
