-- The bits of `asm` rows: each has its own, below 64.
-- Assumes nothing.
use mathlib.Core.Path.{◌≡◌, refl, sym, ◌∙◌, ap, subst}
use mathlib.Core.Bool.{Bool, true, false, cond}
use mathlib.Core.List.{List, [], ◌∷◌, map}
use Prim.Native.Nat.{ℕ, zero, suc, ◌+◌, ◌-◌, ◌≤◌, ◌<◌}
use native.Mathlib.Nat.{add-zero}
use native.Mathlib.Omega.{arith}
use borrow.Author.Tests.{ltb-true, ltb-false}
use lib.Dec.{ltb}
use lib.ListN.{length, get_or, take}
use lib.Seq.{take_all}
use Rattle.tables.specs.Limits.{most_assumptions}
use Rattle.grammar.specs.Tree.{Derivation, Tree}
use Rattle.grammar.specs.Certificate.{is_assumption, assumptions}
use Rattle.grammar.specs.Ranges.{TreeInRange}
use Rattle.rules.specs.Rows.{Entry, given_row, derived_row, no_row, entry_at}
use Rattle.rules.proofs.RowsLaws.{entry_given, entry_derived}
use Rattle.rules.specs.Assumptions.{IsAssumption, assumed}
use Rattle.rules.proofs.AssumptionsLaws.{decides_assumed}
use Rattle.claims.specs.Masks.{number}

-- one more is counted where it is an assumption
counted_next : (ds : List Derivation) (x : ℕ)
    → assumptions (take (suc x) ds) ≡ cond (assumed (get_or (map derived_row ds) x (given_row no_row))) (assumptions (take x ds) + 1) (assumptions (take x ds))
counted_next [] zero = refl
counted_next [] (suc x) = refl
counted_next (d ∷ ds) zero = refl
counted_next (d ∷ ds) (suc x) = go (is_assumption d.reason) (assumed (get_or (map derived_row ds) x (given_row no_row))) _ _ (counted_next ds x)
  where
    go : (s t : Bool) (m n : ℕ) → m ≡ cond t (n + 1) n → cond s (suc m) m ≡ cond t (cond s (suc n) n + 1) (cond s (suc n) n)
    go true true m n e = omega arith
    go true false m n e = omega arith
    go false true m n e = e
    go false false m n e = e

module _ (tree : Tree) where
  abbrev given : ℕ
  given = length tree.constraints.rows

  pub number-next : (r : ℕ) → given ≤ r → number tree (r + 1) ≡ cond (assumed (entry_at tree r)) (number tree r + 1) (number tree r)
  number-next r le =
      let n = number tree r in
      let up : r + 1 - given ≡ suc (r - given) = omega arith in
      let at : given + (r - given) ≡ r = omega arith in
      ap (λ (x : ℕ). assumptions (take x tree.derivations.derivations)) up
      ∙ counted_next tree.derivations.derivations (r - given)
      ∙ ap (λ (e : Entry). cond (assumed e) (n + 1) n) (sym (entry_derived tree (r - given)) ∙ ap (entry_at tree) at)

  number_up : (r d : ℕ) → given ≤ r → number tree r ≤ number tree (r + d)
  number_up r zero le = subst (λ (n : ℕ). number tree r ≤ number tree n) (sym (add-zero r)) (omega arith)
  number_up r (suc d) le =
      let e : r + d + 1 ≡ r + suc d = omega arith in
      subst (λ (n : ℕ). number tree r ≤ number tree n) e
      (go (assumed (entry_at tree (r + d))) _ _ (number-next (r + d) (omega arith)) (number_up r d le))
    where
      go : (t : Bool) (m n : ℕ) → m ≡ cond t (n + 1) n → number tree r ≤ n → number tree r ≤ m
      go true m n e h = omega arith
      go false m n e h = omega arith

  -- a given row is none
  asm_derived : (a : ℕ) → IsAssumption (entry_at tree a) → given ≤ a
  asm_derived a h = go (ltb a given) refl
    where
      go : (t : Bool) → ltb a given ≡ t → given ≤ a
      go true e = absurd (subst IsAssumption (entry_given tree a (ltb-true a given e)) h)
      go false e = ltb-false a given e

  number_less : (a b : ℕ) → IsAssumption (entry_at tree a) → a < b → number tree a < number tree b
  number_less a b h l =
      let le = asm_derived a h in
      let n = number tree a in
      let e : a + 1 + (b - (a + 1)) ≡ b = omega arith in
      let next : number tree (a + 1) ≡ n + 1 = number-next a le ∙ ap (λ (t : Bool). cond t (n + 1) n) ((decides_assumed (entry_at tree a)).1 h) in
      subst (λ (m : ℕ). n < number tree m) e (omega (arith, next, number_up (a + 1) (b - (a + 1)) (omega (arith, le))))

  -- "one bit for each asm row"
  pub number_once : (a b : ℕ) → IsAssumption (entry_at tree a) → IsAssumption (entry_at tree b) → number tree a ≡ number tree b → a ≡ b
  number_once a b p q e = go (ltb a b) refl (ltb b a) refl
    where
      go : (s : Bool) → ltb a b ≡ s → (t : Bool) → ltb b a ≡ t → a ≡ b
      go true h t l = absurd (omega (arith, number_less a b p (ltb-true a b h)))
      go false h true l = absurd (omega (arith, number_less b a q (ltb-true b a l)))
      go false h false l = omega (arith, ltb-false a b h, ltb-false b a l)

  -- "The 65th word `asm` is 5"
  pub number_few : TreeInRange tree → (a : ℕ) → IsAssumption (entry_at tree a) → a < given + length tree.derivations.derivations → number tree a < most_assumptions
  number_few t a h l =
      let ds = tree.derivations.derivations in
      let all : number tree (given + length ds) ≡ assumptions ds = ap assumptions (take_all (given + length ds - given) ds (omega arith)) in
      omega (arith, number_less a (given + length ds) h l, all, t.assumptions_most)
