-- Laws of lists: going through them from one pair to the next; and what terms give a variable.
-- Assumes nothing.
use Rattle.std.specs.Prelude.{◌≡◌, Bool, cond, ◌⊎◌, ℕ, zero, suc, ◌+◌, ◌*◌, ◌≤◌, ◌<◌, ℤ, pos}
use Rattle.std.proofs.Math.Path.{refl, ap, ap₂}
use Rattle.std.proofs.Common.{sym, ◌∙◌, subst, ⊎_elim, add-one, arith, eqb-true, length-drop}
use Rattle.std.proofs.Math.Bool.{true, false}
use Rattle.std.proofs.Math.Logic.{inl, inr}
use mathlib.Core.List.{List, [], ◌∷◌}
use Rattle.std.proofs.Math.Dec.{eqb}
use Rattle.std.proofs.Math.ListN.{get_or, drop}
use Rattle.std.proofs.Math.Seq.{drop-cons}
use Rattle.arithmetic.specs.Fraction.{IsFraction}
use Rattle.arithmetic.specs.Laws.{zero_f}
use Rattle.arithmetic.proofs.Laws.{zero_is}
use Rattle.arithmetic.specs.declared.Fraction.{Fraction}
use Rattle.tables.specs.Cells.{fraction_at}
use Rattle.tables.specs.Pairs.{pairs_in, listed_in}
use Rattle.grammar.specs.Tree.{Term}
use Rattle.rules.specs.Tests.{All}
use Rattle.rules.specs.Rows.{value_in}
use Rattle.rules.specs.Sentence.Formed.{Formed}
use Rattle.linear.specs.Lists.{TermsBelow}
use Rattle.linear.specs.Coefficients.{AreFractions}

module _ {A : Type 0} (make : ℕ → Fraction → A) where
  listed_short : (indices : List ℕ) (parts : List ℤ) → pairs_in indices parts ≤ 0 → listed_in make indices parts ≡ []
  unfolding listed_in
  listed_short [] parts h = refl
  listed_short (i ∷ indices) [] h = refl
  listed_short (i ∷ indices) (n ∷ []) h = refl
  listed_short (i ∷ indices) (n ∷ d ∷ parts) h = absurd (omega arith)

  listed-first : {indices rest : List ℕ} {parts more : List ℤ} {i : ℕ} {n d : ℤ} → indices ≡ i ∷ rest → parts ≡ n ∷ d ∷ more
      → listed_in make indices parts ≡ make i (record { num = n; den = d }) ∷ listed_in make rest more
  unfolding listed_in
  listed-first e q = ap₂ (listed_in make) e q

module _ {A : Type 0} (make : ℕ → Fraction → A) (indices : List ℕ) (parts : List ℤ) where
  -- the pairs from number k on
  abbrev pub listed_from : ℕ → List A
  listed_from k = listed_in make (drop k indices) (drop (2 * k) parts)

  pub listed_next : (k : ℕ) → k < pairs_in indices parts → listed_from k ≡ make (get_or indices k 0) (fraction_at parts k) ∷ listed_from (k + 1)
  unfolding fraction_at
  listed_next k h = listed-first make here (first ∙ ap (λ (l : List ℤ). get_or parts (2 * k) (pos 0) ∷ l) second)
    where
      here : drop k indices ≡ get_or indices k 0 ∷ drop (k + 1) indices
      here = drop-cons indices k 0 (omega arith) ∙ ap (λ (j : ℕ). get_or indices k 0 ∷ drop j indices) (sym (add-one k))

      first : drop (2 * k) parts ≡ get_or parts (2 * k) (pos 0) ∷ drop (2 * k + 1) parts
      first = drop-cons parts (2 * k) (pos 0) (omega arith) ∙ ap (λ (j : ℕ). get_or parts (2 * k) (pos 0) ∷ drop j parts) (sym (add-one (2 * k)))

      second : drop (2 * k + 1) parts ≡ get_or parts (2 * k + 1) (pos 0) ∷ drop (2 * (k + 1)) parts
      second = drop-cons parts (2 * k + 1) (pos 0) (omega arith) ∙ ap (λ (j : ℕ). get_or parts (2 * k + 1) (pos 0) ∷ drop j parts) (let q : suc (2 * k + 1) ≡ 2 * (k + 1) = omega arith in q)

  pub listed_none : (k : ℕ) → pairs_in indices parts ≤ k → listed_from k ≡ []
  listed_none k h = listed_short make (drop k indices) (drop (2 * k) parts) (omega (arith, length-drop k indices, length-drop (2 * k) parts))

  -- what holds of all holds of those from number k on, and of the one with this number
  pub all_from : (P : A → Type 0) → All P (listed_from 0) → (k : ℕ) → k ≤ pairs_in indices parts → All P (listed_from k)
  all_from P h zero l = h
  all_from P h (suc k) l = subst (λ (j : ℕ). All P (listed_from j)) (add-one k) (subst (All P) (listed_next k (omega arith)) (all_from P h k (omega arith))).1

  pub all-at : (P : A → Type 0) → All P (listed_from 0) → (k : ℕ) → k < pairs_in indices parts → P (make (get_or indices k 0) (fraction_at parts k))
  all-at P h k l = (subst (All P) (listed_next k l) (all_from P h k (omega arith))).0

-- terms that are well formed
pub formed_below : (n m : ℕ) (terms : List Term) → n ≤ m → Formed n terms → TermsBelow m terms
formed_below n m [] l h = tt
formed_below n m (t ∷ ts) l h = ((h.0.0, omega (arith, h.0.1)), formed_below n m ts l h.1.1)

-- ---- the value that terms give a variable

module _ (R : ℕ → Fraction → Type 0) where
  -- it is that of one of them, or 0
  pub value_by : (terms : List Term) → All (λ (t : Term). R t.variable t.coefficient) terms → (v : ℕ) → R v (value_in terms v) ⊎ (value_in terms v ≡ zero_f)
  unfolding value_in
  value_by [] h v = inr refl
  value_by (t ∷ ts) h v = go (eqb t.variable v) refl (value_by ts h.1 v)
    where
      go : (b : Bool) → eqb t.variable v ≡ b → R v (value_in ts v) ⊎ (value_in ts v ≡ zero_f)
          → R v (cond b t.coefficient (value_in ts v)) ⊎ (cond b t.coefficient (value_in ts v) ≡ zero_f)
      go true e later = inl (subst (λ (w : ℕ). R w t.coefficient) (eqb-true t.variable v e) h.0)
      go false e later = later

-- terms of fractions give fractions
pub fractions_in : (n : ℕ) (terms : List Term) → TermsBelow n terms → AreFractions (value_in terms)
fractions_in n terms h v =
    ⊎_elim (λ r. r) (λ e. subst IsFraction (sym e) zero_is) (value_by (λ (v : ℕ) (f : Fraction). IsFraction f) terms (fractions terms h) v)
  where
    fractions : (ts : List Term) → TermsBelow n ts → All (λ (t : Term). IsFraction t.coefficient) ts
    fractions [] h = tt
    fractions (t ∷ ts) h = (h.0.0, fractions ts h.1)
