-- `sets::is_empty` meets its contract: a mask with no bit is 0.
-- Assumes nothing.
use mathlib.Core.Path.{ap, ◌∙◌, sym}
use Prim.Native.Nat.{ℕ}
use borrow.Author.Tests.{eqb-true, eq-eqb}
use lib.Dec.{lit<}
use Rattle.sets.specs.Sets.{bit}
use Rattle.sets.specs.SetsLaws.{bit-zero, same_bits}
use Rattle.sets.proofs.is_empty.Goals as goal

pub returns : goal.returns
returns c = (
  (λ e k. ap (λ (x : ℕ). bit x k) (eqb-true _ _ e) ∙ bit-zero k),
  λ z. eq-eqb _ _ (same_bits 64 c.ranges.a.fits (lit< tt) (λ k. z k ∙ sym (bit-zero k))),
)
