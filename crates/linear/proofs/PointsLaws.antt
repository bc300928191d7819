-- Left sides, term by term.
-- Assumes nothing.
use mathlib.Core.Path.{◌≡◌, refl, sym, ◌∙◌, ap, ap₂, subst}
use mathlib.Core.List.{List, ◌∷◌}
use Prim.Native.Nat.{ℕ, ◌+◌, ◌≤◌, ◌<◌}
use lib.IntN.{ℤ}
use lib.ListN.{get_or}
use Rattle.arithmetic.specs.Fraction.{IsFraction}
use Rattle.arithmetic.specs.Laws.{zero_f}
use Rattle.arithmetic.proofs.Laws.{zero_is}
use Rattle.arithmetic.specs.declared.ArithmeticError.{ArithmeticError}
use Rattle.arithmetic.specs.declared.Fraction.{Fraction}
use Rattle.tables.specs.Limits.{most_variables}
use Rattle.tables.specs.Cells.{fraction_at}
use Rattle.tables.specs.Pairs.{pairs_in}
use Rattle.grammar.specs.Tree.{Term}
use Rattle.std.specs.Prelude.{Ok, Err, Result as Answer}
use Rattle.rules.specs.Result.{Result, done, refused, through}
use Rattle.rules.specs.Rows.{value_in}
use Rattle.rules.specs.Solutions.{left_side}
use Rattle.senses.proofs.ArithmeticLaws.{says, plus_product, plus_product_is}
use Rattle.linear.specs.Lists.{a_term, terms_in, TermsBelow}
use Rattle.linear.specs.ListsLaws.{listed_from, listed_next, listed_none}
use Rattle.linear.specs.Coefficients.{AreFractions}
use Rattle.linear.proofs.Going.{Going, first_is, going_on, going_stop, going_end}

-- one term
abbrev pub sum_step : (ℕ → Fraction) → ℕ → Fraction → Term → Result Fraction
sum_step point place sum t = plus_product place sum t.coefficient (point t.variable)

module _ (variables : List ℕ) (parts : List ℤ) (point : ℕ → Fraction) where
  -- what is asked of the terms and the point, and a place
  pub record At : Type 0 where
    pub terms-below : TermsBelow most_variables (terms_in variables parts)
    pub fractions : AreFractions point
    pub place : ℕ

  abbrev Asked : At → Term → Type 0
  Asked i t = IsFraction t.coefficient × (t.variable < most_variables)

  abbrev Good : At → Fraction → Type 0
  Good i sum = IsFraction sum

  abbrev step : At → Fraction → Term → Result Fraction
  step i = sum_step point i.place

  abbrev pub sum_of : At → Result Fraction
  sum_of i = through (step i) zero_f (terms_in variables parts)

  -- the left side of terms, at a point that a term list gives
  pub left-side : (i : At) (values : List Term) → point ≡ value_in values → sum_of i ≡ left_side i.place values (terms_in variables parts)
  unfolding left_side
  left-side i values e = ap (λ (p : ℕ → Fraction). through (sum_step p i.place) zero_f (terms_in variables parts)) e

  -- the loop, before term k
  abbrev pub Adding : Fraction → ℕ → Type 0
  Adding sum k = Going Asked Good step sum_of sum (listed_from a_term variables parts k)

  pub adding : Adding zero_f 0
  adding = record { same = λ i. refl; each = λ i. i.terms-below; good = λ i. zero_is }

  -- term k is v with f
  module _ {sum : Fraction} {k : ℕ} (g : Adding sum k) (h : k < pairs_in variables parts) {v : ℕ} {f x : Fraction} (p : v ≡ get_or variables k 0) (e : f ≡ fraction_at parts k)
      (q : x ≡ point v) (answer : Answer Fraction ArithmeticError)
      (s : IsFraction sum → IsFraction f → IsFraction x → (place : ℕ) → says place answer ≡ plus_product place sum f x) where
    abbrev next : listed_from a_term variables parts k ≡ a_term v f ∷ listed_from a_term variables parts (k + 1)
    next =
        listed_next a_term variables parts k h
        ∙ ap₂ (λ (u : ℕ) (y : Fraction). a_term u y ∷ listed_from a_term variables parts (k + 1)) (sym p) (sym e)

    step-says : (i : At) → says i.place answer ≡ step i sum (a_term v f)
    step-says i =
        s (g.good i) (first_is Asked Good step sum_of next g i).0 (subst IsFraction (sym q) (i.fractions v)) i.place
        ∙ ap (plus_product i.place sum f) q

    step_gives : {t : Fraction} → answer ≡ Ok t → (i : At) → step i sum (a_term v f) ≡ done t
    step_gives r i = sym (step-says i) ∙ ap (says i.place) r

    pub adding_on : {t : Fraction} → answer ≡ Ok t → Adding t (k + 1)
    adding_on {t = t} r =
        going_on Asked Good step sum_of next g
        (λ i. (step_gives r i, plus_product_is i.place sum f (point v) t (step_gives r i)))

    pub adding_stop : {error : ArithmeticError} → answer ≡ Err error → (i : At) → refused 12 i.place ≡ sum_of i
    adding_stop r i = going_stop Asked Good step sum_of next g i 12 i.place (sym (step-says i) ∙ ap (says i.place) r)

  pub adding_end : {sum : Fraction} {k : ℕ} → Adding sum k → pairs_in variables parts ≤ k → (i : At) → done sum ≡ sum_of i
  adding_end {k = k} g h i = going_end Asked Good step sum_of (listed_none a_term variables parts k h) g i
