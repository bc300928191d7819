-- What stands in a cleared table, whatever its elements are, after a run of stores from its start.
-- Assumes nothing.
use mathlib.Core.Path.{◌≡◌, sym, ap, ◌∙◌}
use mathlib.Core.List.{List, ◌++◌}
use Prim.Native.Nat.{ℕ, zero, suc, ◌-◌, ◌≤◌}
use native.Mathlib.Nat.{sub-zero, zero-add}
use native.Mathlib.Omega.{arith}
use lib.ListN.{length, drop, replicate, length-replicate}
use lib.Seq.{sets, sets-eq}
use Rattle.grammar.specs.Tables.{filled}

module _ {A : Type 0} (z : A) where
  drop_zeros : (k n : ℕ) → drop k (replicate n z) ≡ replicate (n - k) z
  drop_zeros zero n = ap (λ (k : ℕ). replicate k z) (sym (sub-zero n))
  drop_zeros (suc k) zero = let e : 0 ≡ 0 - suc k = omega arith in ap (λ (i : ℕ). replicate i z) e
  drop_zeros (suc k) (suc n) = let e : n - k ≡ suc n - suc k = omega arith in drop_zeros k n ∙ ap (λ (i : ℕ). replicate i z) e

  -- these from the start of a cleared table, and z elsewhere
  pub filled_cleared : (size : ℕ) (xs : List A) → length xs ≤ size → sets (replicate size z) 0 xs ≡ filled z size xs
  filled_cleared size xs h =
      sets-eq xs (replicate size z) 0 (omega (arith, length-replicate size z))
      ∙ ap (λ (k : ℕ). xs ++ drop k (replicate size z)) (zero-add (length xs))
      ∙ ap (λ (t : List A). xs ++ t) (drop_zeros (length xs) size)
