-- Tests of every variable, by the terms that are listed: distinct variables below n, each with its coefficient; all others have 0.
-- Assumes nothing.
use mathlib.Core.Path.{◌≡◌, refl, sym, ◌∙◌, ap}
use mathlib.Core.Logic.{◌⊎◌, inl, inr, ⊎_elim}
use mathlib.Core.Bool.{Bool, true, false, cond, ◌&&◌}
use mathlib.Core.List.{List, [], ◌∷◌}
use Prim.Native.Nat.{ℕ, suc, ◌<◌}
use native.Mathlib.Omega.{arith}
use borrow.Author.Tests.{eq-eqb, ne_eqb, not-false}
use lib.Dec.{eqb}
use Rattle.arithmetic.specs.Fraction.{IsFraction, exact}
use Rattle.arithmetic.specs.Laws.{zero_f}
use Rattle.arithmetic.proofs.Laws.{zero_is}
use Rattle.arithmetic.proofs.Meaning.{exact_unique}
use Rattle.arithmetic.specs.declared.Fraction.{Fraction}
use Rattle.grammar.specs.Tree.{Term}
use Rattle.rules.specs.Tests.{All, all_of, EveryBelow, every_below}
use Rattle.rules.proofs.Tests.{not-true, decides_as, decides_and, decides_all, decides_below, decides_equal}
use Rattle.rules.specs.Values.{is_zero, is_same}
use Rattle.rules.proofs.ValuesLaws.{decides_zero}
use Rattle.rules.specs.Rows.{value_in}
use Rattle.rules.specs.Sentence.Formed.{Formed}
use Rattle.senses.proofs.ValuesLaws.{decides_one, same_parts, decides_parts, decides_same_fraction}
use Rattle.linear.specs.Coefficients.{AreFractions}
use Rattle.linear.specs.ListsLaws.{formed_below, value_by, fractions_in}
use Rattle.linear.specs.Comparing.{is_nonzero, nonzeros_below}
use Rattle.linear.proofs.Counting.{count_same, count_changed, count-all, count_end}

all_both : {A : Type 0} {P Q R : A → Type 0} → ((x : A) → P x → Q x → R x) → (xs : List A) → All P xs → All Q xs → All R xs
all_both f [] p q = tt
all_both f (x ∷ xs) p q = (f x p.0 q.0, all_both f xs p.1 q.1)

all_as : {A : Type 0} {P Q : A → Type 0} → ((x : A) → P x → Q x) → (xs : List A) → All P xs → All Q xs
all_as f [] p = tt
all_as f (x ∷ xs) p = (f x p.0, all_as f xs p.1)

-- ---- the value that terms give a variable

module _ (t : Term) (ts : List Term) where
  value_head : value_in (t ∷ ts) t.variable ≡ t.coefficient
  unfolding value_in
  value_head = rw (eq-eqb t.variable t.variable refl)

  value_later : (v : ℕ) → (t.variable ≡ v → ⊥) → value_in (t ∷ ts) v ≡ value_in ts v
  unfolding value_in
  value_later v n = rw (ne_eqb t.variable v n)

value_none : (ts : List Term) (v : ℕ) → All (λ (u : Term). v ≡ u.variable → ⊥) ts → value_in ts v ≡ zero_f
unfolding value_in
value_none [] v h = refl
value_none (t ∷ ts) v h = rw (ne_eqb t.variable v (λ e. h.0 (sym e)), value_none ts v h.1)

-- each listed one has its own
listed-values : (n : ℕ) (ts : List Term) → Formed n ts → All (λ (t : Term). (t.variable < n) × (value_in ts t.variable ≡ t.coefficient)) ts
listed-values n [] h = tt
listed-values n (t ∷ ts) h = (
  (h.0.1, value_head t ts),
  all_both (λ (u : Term) (other : t.variable ≡ u.variable → ⊥) r. (r.0, value_later t ts u.variable other ∙ r.1)) ts h.1.0 (listed-values n ts h.1.1),
)

-- ---- a test of every variable that 0 passes is a test of the listed terms

module _ (n : ℕ) (ts : List Term) (formed : Formed n ts) where
  module _ (test : ℕ → Fraction → Bool) (zero-passes : (v : ℕ) → test v zero_f ≡ true) where
    pub every-listed : all_of (λ (t : Term). test t.variable t.coefficient) ts ≡ every_below n (λ v. test v (value_in ts v))
    every-listed =
        decides_one _ _ (decides_all _ (λ (t : Term). test t.variable t.coefficient ≡ true) (λ t. ((λ e. e), λ e. e)) ts)
        (decides_as to from (decides_below (λ v. test v (value_in ts v)) (λ v. test v (value_in ts v) ≡ true) (λ v. ((λ e. e), λ e. e)) n))
      where
        to : EveryBelow n (λ v. test v (value_in ts v) ≡ true) → All (λ (t : Term). test t.variable t.coefficient ≡ true) ts
        to h = all_as (λ (t : Term) r. sym (ap (test t.variable) r.1) ∙ h t.variable r.0) ts (listed-values n ts formed)

        from : All (λ (t : Term). test t.variable t.coefficient ≡ true) ts → EveryBelow n (λ v. test v (value_in ts v) ≡ true)
        from h v l =
            ⊎_elim (λ r. r) (λ e. ap (test v) e ∙ zero-passes v)
            (value_by (λ (v : ℕ) (f : Fraction). test v f ≡ true) ts h v)

-- ---- how many are not zero

-- how many of a list pass a test
abbrev pub count_of : {A : Type 0} → (A → Bool) → List A → ℕ
count_of test [] = 0
count_of test (x ∷ xs) = let count = count_of test xs in cond (test x) (suc count) count

abbrev pub nonzeros_in : List Term → ℕ
nonzeros_in ts = count_of (λ (t : Term). is_nonzero t.coefficient) ts

none_listed : (n : ℕ) → 0 ≡ nonzeros_below n (value_in [])
unfolding value_in
none_listed n = count_end (λ v. is_nonzero (value_in [] v)) n 0 (omega arith) (λ u k l. refl)

count-listed : (n : ℕ) (ts : List Term) → Formed n ts → nonzeros_in ts ≡ nonzeros_below n (value_in ts)
count-listed n [] h = none_listed n
count-listed n (t ∷ ts) h =
    ap (λ (c : ℕ). cond (is_nonzero t.coefficient) (suc c) c) (count-listed n ts h.1.1)
    ∙ sym
    (count_changed (λ v. is_nonzero (value_in ts v)) (λ v. is_nonzero (value_in (t ∷ ts) v)) t.variable n h.0.1 (ap is_nonzero (value_none ts t.variable h.1.0))
    (λ v other. ap is_nonzero (value_later t ts v other))
    ∙ ap (λ (f : Fraction). cond (is_nonzero f) (suc (nonzeros_below n (value_in ts))) (nonzeros_below n (value_in ts))) (value_head t ts))

-- ---- coefficients are those that terms give exactly if each listed one is, and as many of them are not zero

zero_one : (f : Fraction) → IsFraction f → is_nonzero f ≡ false → f ≡ zero_f
zero_one f v e = exact_unique f zero_f v zero_is ((decides_zero (exact f)).0 (not-false (is_zero (exact f)) e))

module _ (n : ℕ) (ts : List Term) (formed : Formed n ts) (f : ℕ → Fraction) (are : AreFractions f) where
  abbrev Same : Type 0
  Same = EveryBelow n (λ v. f v ≡ value_in ts v)

  abbrev Listed : Type 0
  Listed = All (λ (t : Term). f t.variable ≡ t.coefficient) ts × (nonzeros_in ts ≡ nonzeros_below n f)

  -- what is not zero of the terms is so of the coefficients
  nonzero_both : All (λ (t : Term). f t.variable ≡ t.coefficient) ts → (v : ℕ) → is_nonzero (value_in ts v) ≡ true → is_nonzero (f v) ≡ true
  nonzero_both h v p =
      ⊎_elim (λ e. ap is_nonzero e ∙ p) (λ e. not-true (sym (ap is_nonzero e) ∙ p)) (value_by (λ (v : ℕ) (x : Fraction). f v ≡ x) ts h v)

  enough : Listed → Same
  enough h v l = go (is_nonzero (f v)) refl (value_by (λ (v : ℕ) (x : Fraction). f v ≡ x) ts h.0 v)
    where
      as_many : nonzeros_below n f ≡ nonzeros_below n (value_in ts)
      as_many = sym h.1 ∙ count-listed n ts formed

      go : (t : Bool) → is_nonzero (f v) ≡ t → (f v ≡ value_in ts v) ⊎ (value_in ts v ≡ zero_f) → f v ≡ value_in ts v
      go t e (inl q) = q
      go true e (inr q) =
          not-true (sym (ap is_nonzero q) ∙ count-all (λ v. is_nonzero (f v)) (λ v. is_nonzero (value_in ts v)) (nonzero_both h.0) n as_many v l e)
      go false e (inr q) = zero_one (f v) (are v) e ∙ sym q

  needed : Same → Listed
  needed h = (
    all_as (λ (t : Term) r. h t.variable r.0 ∙ r.1) ts (listed-values n ts formed),
    count-listed n ts formed ∙ count_same (λ v. is_nonzero (value_in ts v)) (λ v. is_nonzero (f v)) n (λ v l. ap is_nonzero (sym (h v l))),
  )

  pub same-listed : all_of (λ (t : Term). same_parts (f t.variable) t.coefficient) ts && eqb (nonzeros_in ts) (nonzeros_below n f)
      ≡ every_below n (λ v. is_same (f v) (value_in ts v))
  same-listed =
      decides_one _ _
      (decides_as enough needed
      (decides_and _ _ (decides_all _ (λ (t : Term). f t.variable ≡ t.coefficient) (λ t. decides_parts (f t.variable) t.coefficient) ts)
      (decides_equal (nonzeros_in ts) (nonzeros_below n f))))
      (decides_below _ (λ v. f v ≡ value_in ts v) (λ v. decides_same_fraction (f v) (value_in ts v) (are v) (fractions_in n ts (formed_below n n ts (omega arith) formed) v)) n)
