-- Coefficients in an array: what is stored there, what is beyond it, how many are not zero, and those of listed terms.
-- Assumes nothing.
use mathlib.Core.Path.{◌≡◌, refl, sym, ◌∙◌, ap, ap₂, subst}
use mathlib.Core.Bool.{Bool, true, false, cond}
use mathlib.Core.List.{List, [], ◌∷◌}
use Prim.Native.Nat.{ℕ, zero, suc, ◌+◌, ◌≤◌, ◌<◌}
use native.Mathlib.Omega.{arith}
use borrow.Author.Tests.{eqb-true, eqb-false}
use lib.Dec.{eqb}
use lib.IntN.{ℤ, pos}
use lib.ListN.{length, get_or, set, replicate, take}
use Rattle.std.specs.Prelude.{count_by}
use Rattle.std.specs.List.{range_with_len}
use Rattle.std.proofs.lemmas.List.{get_or_past}
use Rattle.std.proofs.lemmas.List.Sums.{sum_by-cons}
use lib.Seq.{get_or-set_same, get_or-set_other, take-nil}
use lib.Signed.{◌<ℤ◌}
use Rattle.arithmetic.specs.Fraction.{IsFraction}
use Rattle.arithmetic.specs.Laws.{zero_f}
use Rattle.arithmetic.specs.declared.Fraction.{Fraction}
use Rattle.tables.specs.Cells.{fraction_at}
use Rattle.tables.specs.Pairs.{pairs_in}
use Rattle.grammar.specs.Tree.{Term}
use Rattle.rules.proofs.Tests.{fails}
use Rattle.rules.specs.Values.{same_z}
use Rattle.rules.proofs.ValuesLaws.{decides_same_integer}
use Rattle.rules.specs.Rows.{value_in}
use Rattle.rules.specs.Combinations.{with_coefficient}
use Rattle.linear.specs.Lists.{a_term, terms_in, TermsBelow}
use Rattle.linear.specs.ListsLaws.{listed_from, listed_next, listed_none, all-at}
use Rattle.linear.specs.Coefficients.{denominator_of, stored, cells_of, coefficients_of}
use Rattle.linear.specs.Comparing.{is_nonzero, nonzeros_below}
use Rattle.linear.proofs.Counting.{count_range}
use Rattle.linear.specs.declared.coefficients.Coefficients.{Coefficients}

-- ---- what is stored

-- a denominator that is stored
pub denominator_is : (d : ℤ) → (d ≡ pos 0 → ⊥) → denominator_of d ≡ d
denominator_is d n = ap (λ (t : Bool). cond t (pos 1) d) (fails (same_z d (pos 0)) (decides_same_integer d (pos 0)) n)

-- a number over a denominator that is not 0 is stored as it is
stored_is : (f : Fraction) → (f.den ≡ pos 0 → ⊥) → stored f ≡ f
stored_is f n = ap (λ (d : ℤ). record { num = f.num; den = d }) (denominator_is f.den n)

-- such is a fraction
pub not-zero : (f : Fraction) → IsFraction f → f.den ≡ pos 0 → ⊥
not-zero f h e = none (subst (λ (d : ℤ). pos 0 <ℤ d) e h.positive)
  where
    none : pos 0 <ℤ pos 0 → ⊥
    none k = k.lt

-- what is stored stands in its cell, and no other cell changes
pub cells_set : (before after : Coefficients) (v : ℕ) (f : Fraction) → v < length before.of → after.of ≡ set before.of v f
    → cells_of after ≡ with_coefficient v f (cells_of before)
cells_set before after v f h e = λ i w. at w (eqb v w) refl i
  where
    at : (w : ℕ) (t : Bool) → eqb v w ≡ t → get_or after.of w zero_f ≡ cond t f (get_or before.of w zero_f)
    at w true q =
        ap₂ (λ (l : List Fraction) (u : ℕ). get_or l u zero_f) e (sym (eqb-true v w q)) ∙ get_or-set_same before.of v f zero_f h
    at w false q =
        ap (λ (l : List Fraction). get_or l w zero_f) e ∙ get_or-set_other before.of v w f zero_f (λ r. eqb-false v w q (sym r))

-- a number over a denominator that is not 0 is then the coefficient of its variable, and no other variable's changes
pub coefficients_set : (before after : Coefficients) (v : ℕ) (f : Fraction) → v < length before.of → after.of ≡ set before.of v f → (f.den ≡ pos 0 → ⊥)
    → coefficients_of after ≡ with_coefficient v f (coefficients_of before)
unfolding coefficients_of
coefficients_set before after v f h e n =
    let coefficients : (ℕ → Fraction) → ℕ → Fraction = λ cells w. stored (cells w) in
    ap coefficients (cells_set before after v f h e) ∙ (λ i w. at (eqb v w) (cells_of before w) i)
  where
    at : (t : Bool) (g : Fraction) → stored (cond t f g) ≡ cond t f (stored g)
    at true g = stored_is f n
    at false g = refl

-- nothing is stored yet
pub all_zero : (n v : ℕ) → stored (get_or (replicate n (record { num = pos 0; den = pos 0 })) v zero_f) ≡ zero_f
all_zero zero v = refl
all_zero (suc n) zero = refl
all_zero (suc n) (suc v) = all_zero n v

-- beyond the array
pub coefficient_beyond : (c : Coefficients) (v : ℕ) → length c.of ≤ v → coefficients_of c v ≡ zero_f
unfolding coefficients_of
coefficient_beyond c v h = ap stored (get_or_past c.of v zero_f h)

-- ---- the coefficients of listed terms, from the last to the first

-- those of the terms from number `left` on
pub record Spread (variables : List ℕ) (parts : List ℤ) (c : Coefficients) (left : ℕ) : Type 0 where
  pub few : left ≤ pairs_in variables parts
  pub same : TermsBelow 256 (terms_in variables parts) → coefficients_of c ≡ value_in (listed_from a_term variables parts left)

module _ (variables : List ℕ) (parts : List ℤ) where
  pub spread_start : (c : Coefficients) (left : ℕ) → ((v : ℕ) → coefficients_of c v ≡ zero_f) → left ≡ pairs_in variables parts → Spread variables parts c left
  unfolding value_in
  spread_start c left none e =
      record {
        few = omega arith;
        same = λ below. (λ i v. none v i) ∙ sym (ap value_in (listed_none a_term variables parts left (omega arith)));
      }

  -- one term more
  pub spread_on : {c d : Coefficients} {k : ℕ} → Spread variables parts c (k + 1) → {v : ℕ} {f : Fraction} → v ≡ get_or variables k 0 → f ≡ fraction_at parts k
      → (IsFraction f → v < 256 → coefficients_of d ≡ with_coefficient v f (coefficients_of c)) → Spread variables parts d k
  unfolding value_in
  spread_on {c} {d} {k} g {v} {f} p q kept =
      record {
        few = omega (arith, g.few);
        same = λ below.
            kept (subst IsFraction (sym q) (term_is below).0) (subst (λ (u : ℕ). u < 256) (sym p) (term_is below).1)
            ∙ ap (with_coefficient v f) (g.same below)
            ∙ sym (ap value_in next_is);
      }
    where
      term_is : TermsBelow 256 (terms_in variables parts) → IsFraction (fraction_at parts k) × (get_or variables k 0 < 256)
      term_is below = all-at a_term variables parts (λ (t : Term). IsFraction t.coefficient × (t.variable < 256)) below k (omega (arith, g.few))

      next_is : listed_from a_term variables parts k ≡ a_term v f ∷ listed_from a_term variables parts (k + 1)
      next_is =
          listed_next a_term variables parts k (omega (arith, g.few))
          ∙ ap₂ (λ (u : ℕ) (x : Fraction). a_term u x ∷ listed_from a_term variables parts (k + 1)) (sym p) (sym q)

  pub spread_end : {c : Coefficients} {left : ℕ} → Spread variables parts c left → left ≤ 0
      → TermsBelow 256 (terms_in variables parts) → coefficients_of c ≡ value_in (terms_in variables parts)
  spread_end {left = left} g h below = g.same below ∙ ap (λ (k : ℕ). value_in (listed_from a_term variables parts k)) (let z : left ≡ 0 = omega arith in z)

-- ---- how many are not zero

-- of the first n that are stored, and of n variables from number a on, by a test that tells it of each
nonzeros_from : (xs : List Fraction) (test : ℕ → Bool) (a n : ℕ) → ((i : ℕ) → test (a + i) ≡ is_nonzero (get_or xs i zero_f))
    → count_by is_nonzero (take n xs) ≡ count_by test (range_with_len a n)
nonzeros_from xs test a zero h = refl
nonzeros_from [] test a (suc n) h =
    let at : test a ≡ is_nonzero zero_f = (let e : a ≡ a + 0 = omega arith in ap test e) ∙ h 0 in
    let rest = count_by test (range_with_len (a + 1) n) in
    let none_more : rest ≡ 0 + rest = omega arith in
    sym (ap (λ (l : List Fraction). count_by is_nonzero l) (take-nil n))
    ∙ nonzeros_from [] test (a + 1) n (λ i. (let e : a + 1 + i ≡ a + suc i = omega arith in ap test e) ∙ h (suc i))
    ∙ none_more
    ∙ sym (ap (λ (b : Bool). cond b 1 0 + rest) at)
    ∙ sym (sum_by-cons (λ (v : ℕ). cond (test v) 1 0) a (range_with_len (a + 1) n))
nonzeros_from (x ∷ xs) test a (suc n) h =
    let at : test a ≡ is_nonzero x = (let e : a ≡ a + 0 = omega arith in ap test e) ∙ h 0 in
    sum_by-cons (λ (y : Fraction). cond (is_nonzero y) 1 0) x (take n xs)
    ∙ ap₂ (λ (b : Bool) (m : ℕ). cond b 1 0 + m) (sym at)
    (nonzeros_from xs test (a + 1) n (λ i. (let e : a + 1 + i ≡ a + suc i = omega arith in ap test e) ∙ h (suc i)))
    ∙ sym (sum_by-cons (λ (v : ℕ). cond (test v) 1 0) a (range_with_len (a + 1) n))

pub nonzeros_stored : (c : Coefficients) (n : ℕ) → count_by is_nonzero (take n c.of) ≡ nonzeros_below n (coefficients_of c)
unfolding coefficients_of
nonzeros_stored c n =
    nonzeros_from c.of (λ v. is_nonzero (coefficients_of c v)) 0 n (λ i. let e : 0 + i ≡ i = omega arith in ap (λ (v : ℕ). is_nonzero (coefficients_of c v)) e)
    ∙ count_range (λ v. is_nonzero (coefficients_of c v)) n
