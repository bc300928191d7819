-- One term and one row of a combination: what the code's answers say of each.
-- Assumes nothing.
use mathlib.Core.Path.{◌≡◌, refl, sym, ◌∙◌, ap, ap₂, subst}
use mathlib.Core.Bool.{Bool, true, false, cond}
use mathlib.Core.List.{List, ◌∷◌}
use Prim.Native.Nat.{ℕ, ◌+◌, ◌≤◌, ◌<◌}
use lib.Dec.{eqb}
use lib.IntN.{ℤ}
use lib.ListN.{get_or}
use Rattle.arithmetic.specs.Fraction.{IsFraction}
use Rattle.arithmetic.specs.declared.ArithmeticError.{ArithmeticError}
use Rattle.arithmetic.specs.declared.Fraction.{Fraction}
use Rattle.tables.specs.Limits.{most_variables}
use Rattle.tables.specs.Cells.{fraction_at}
use Rattle.tables.specs.Pairs.{pairs_in}
use Rattle.grammar.specs.Tree.{Term}
use Rattle.std.specs.Prelude.{Option, Some, None, IfSome, Ok, Err, Result as Answer}
use Rattle.rules.specs.Result.{Result, done, refused, bind, through}
use Rattle.rules.specs.Values.{product_at, sum_at}
use Rattle.rules.specs.Combinations.{Combination, with_coefficient, add_multiple, next_combination}
use Rattle.senses.proofs.ArithmeticLaws.{says, plus_product, plus_product_is, bind_assoc}
use Rattle.linear.specs.Lists.{a_term, terms_in}
use Rattle.linear.specs.ListsLaws.{listed_from, listed_next, listed_none}
use Rattle.linear.specs.Coefficients.{coefficients_of, AreFractions}
use Rattle.linear.specs.Combinations.{combination_with, combination_says, HasFractions, Takes}
use Rattle.linear.specs.declared.coefficients.Coefficients.{Coefficients}
use Rattle.linear.specs.declared.combinations.Combination.{Combination as Code}
use Rattle.linear.proofs.Going.{Going, first_is, going_on, going_stop, going_end}

-- ---- one term

pub term_is : (place : ℕ) (factor : Fraction) (coefficient : ℕ → Fraction) (v : ℕ) (f : Fraction) {r : Result Fraction} → plus_product place (coefficient v) factor f ≡ r
    → add_multiple place factor coefficient (a_term v f) ≡ bind r (λ s. done (with_coefficient v s coefficient))
term_is place factor coefficient v f q =
    bind_assoc (product_at place factor f) (λ p. sum_at place (coefficient v) p) (λ s. done (with_coefficient v s coefficient))
    ∙ ap (λ (r : Result Fraction). bind r (λ s. done (with_coefficient v s coefficient))) q

-- an answer that is no value
pub no_value : (place : ℕ) (a : Answer Fraction ArithmeticError) → ((f : Fraction) → a ≡ Ok f → ⊥) → says place a ≡ refused 12 place
no_value place (Ok f) h = absurd (h f refl)
no_value place (Err e) h = refl

-- a combination that is too wide stays so
pub stays : (place : ℕ) (c : Code) → ((f : Fraction) → c.right ≡ Some f → ⊥) → (next : Combination → Result Combination) → combination_says place c ≡ bind (combination_says place c) next
stays place c h next = go c.right refl
  where
    go : (o : Option Fraction) → c.right ≡ o → combination_with (coefficients_of c.coefficients) place o ≡ bind (combination_with (coefficients_of c.coefficients) place o) next
    go (Some f) e = absurd (h f e)
    go None e = refl

-- coefficients stay fractions
pub fractions_with : (v : ℕ) (f : Fraction) (coefficient : ℕ → Fraction) → IsFraction f → AreFractions coefficient → AreFractions (with_coefficient v f coefficient)
fractions_with v f coefficient h are w = go (eqb v w)
  where
    go : (t : Bool) → IsFraction (cond t f (coefficient w))
    go true = h
    go false = are w

-- ---- one row

module _ (place : ℕ) (factor : Fraction) (terms : List Term) (right : Fraction) (c : Combination) where
  abbrev with_right : Result Fraction → (ℕ → Fraction) → Result Combination
  with_right r left = bind r (λ s. done (record { coefficient = left; right = s }))

  -- the right side, after the terms: in steps of the product and of the sum, and in one
  next_is : next_combination place factor terms right c ≡ bind (through (add_multiple place factor) c.coefficient terms) (with_right (plus_product place c.right factor right))
  unfolding next_combination
  next_is = go (through (add_multiple place factor) c.coefficient terms)
    where
      go : (r : Result (ℕ → Fraction))
          → bind r (λ left. bind (product_at place factor right) (λ p. bind (sum_at place c.right p) (λ s. done (record { coefficient = left; right = s }))))
          ≡ bind r (with_right (plus_product place c.right factor right))
      go (done left) = bind_assoc (product_at place factor right) (λ p. sum_at place c.right p) (λ s. done (record { coefficient = left; right = s }))
      go (refused reason at) = refl

  -- a term is too wide
  pub next_stops : refused 12 place ≡ through (add_multiple place factor) c.coefficient terms → refused 12 place ≡ next_combination place factor terms right c
  next_stops e = ap (λ (r : Result (ℕ → Fraction)). bind r (with_right (plus_product place c.right factor right))) e ∙ sym next_is

  -- no term is; then by what comes of the right side
  pub next_by : {left : ℕ → Fraction} {r : Result Fraction} → done left ≡ through (add_multiple place factor) c.coefficient terms → plus_product place c.right factor right ≡ r
      → bind r (λ s. done (record { coefficient = left; right = s })) ≡ next_combination place factor terms right c
  next_by {left} e q =
      sym (ap (λ (r : Result Fraction). with_right r left) q)
      ∙ ap (λ (r : Result (ℕ → Fraction)). bind r (with_right (plus_product place c.right factor right))) e
      ∙ sym next_is

-- ---- the loop over a row's terms

-- the loop, before term k, from a combination with this right side: what is left to do from the coefficients on gives what all terms
-- do
module _ (variables : List ℕ) (parts : List ℤ) (right factor : Fraction) (start : Code) (so_far : Fraction) where
  abbrev terms : List Term
  terms = terms_in variables parts

  -- what is asked of a row, and a place
  pub record At : Type 0 where
    pub takes : Takes start terms right factor
    pub so_far_is : start.right ≡ Some so_far
    pub place : ℕ

  abbrev Asked : At → Term → Type 0
  Asked i t = IsFraction t.coefficient × (t.variable < most_variables)

  abbrev Good : At → (ℕ → Fraction) → Type 0
  Good i coefficient = AreFractions coefficient

  abbrev step : At → (ℕ → Fraction) → Term → Result (ℕ → Fraction)
  step i = add_multiple i.place factor

  abbrev with_terms : At → Result (ℕ → Fraction)
  with_terms i = through (step i) (coefficients_of start.coefficients) terms

  abbrev from_start : Combination
  from_start = record { coefficient = coefficients_of start.coefficients; right = so_far }

  -- what the whole row gives
  abbrev next_of : At → Result Combination
  next_of i = bind (combination_says i.place start) (next_combination i.place factor terms right)

  from_so_far : (i : At) → next_combination i.place factor terms right from_start ≡ next_of i
  from_so_far i = ap (λ (o : Option Fraction). bind (combination_with (coefficients_of start.coefficients) i.place o) (next_combination i.place factor terms right)) (sym i.so_far_is)

  pub record Combining (c : Coefficients) (k : ℕ) : Type 0 where
    pub going : Going Asked Good step with_terms (coefficients_of c) (listed_from a_term variables parts k)

  pub combining : Combining start.coefficients 0
  combining = record { going = record { same = λ i. refl; each = λ i. i.takes.terms-below; good = λ i. i.takes.so_far.coefficients } }

  -- term k is v with f
  module _ {c : Coefficients} {k : ℕ} (g : Combining c k) (h : k < pairs_in variables parts) {v : ℕ} {f : Fraction} (p : v ≡ get_or variables k 0) (e : f ≡ fraction_at parts k) where
    abbrev next : listed_from a_term variables parts k ≡ a_term v f ∷ listed_from a_term variables parts (k + 1)
    next =
        listed_next a_term variables parts k h
        ∙ ap₂ (λ (u : ℕ) (x : Fraction). a_term u x ∷ listed_from a_term variables parts (k + 1)) (sym p) (sym e)

    first : (i : At) → IsFraction f × (v < most_variables)
    first i = first_is Asked Good step with_terms next g.going i

    module _ {old : Fraction} (q : old ≡ coefficients_of c v) (answer : Answer Fraction ArithmeticError)
        (s : IsFraction old → IsFraction factor → IsFraction f → (place : ℕ) → says place answer ≡ plus_product place old factor f) where
      sum_says : (i : At) → plus_product i.place (coefficients_of c v) factor f ≡ says i.place answer
      sum_says i =
          ap (λ (x : Fraction). plus_product i.place x factor f) (sym q)
          ∙ sym (s (subst IsFraction (sym q) (g.going.good i v)) i.takes.factor_is (first i).0 i.place)

      -- a term more
      pub combining_on : {sum : Fraction} → answer ≡ Ok sum → (d : Coefficients)
          → (IsFraction sum → v < most_variables → coefficients_of d ≡ with_coefficient v sum (coefficients_of c)) → Combining d (k + 1)
      combining_on {sum} t d kept =
          record {
            going = going_on Asked Good step with_terms next g.going
                (λ i. (added i, subst AreFractions (sym (kept (sum_is i) (first i).1)) (fractions_with v sum _ (sum_is i) (g.going.good i))));
          }
        where
          given : (i : At) → plus_product i.place (coefficients_of c v) factor f ≡ done sum
          given i = sum_says i ∙ ap (says i.place) t

          sum_is : At → IsFraction sum
          sum_is i = plus_product_is i.place (coefficients_of c v) factor f sum (given i)

          added : (i : At) → step i (coefficients_of c) (a_term v f) ≡ done (coefficients_of d)
          added i = term_is i.place factor (coefficients_of c) v f (given i) ∙ ap done (sym (kept (sum_is i) (first i).1))

      -- a sum that is too wide
      pub combining_stop : ((f : Fraction) → answer ≡ Ok f → ⊥) → (i : At) → refused 12 i.place ≡ next_of i
      combining_stop t i =
          next_stops i.place factor terms right from_start
          (going_stop Asked Good step with_terms next g.going i 12 i.place
          (term_is i.place factor (coefficients_of c) v f (sum_says i ∙ no_value i.place answer t)))
          ∙ from_so_far i

  -- fractions so far, where a sum is too wide
  pub stopped_fractions : {c : Coefficients} {k : ℕ} → Combining c k → At → HasFractions (record { coefficients = c; right = None })
  stopped_fractions g i = record { coefficients = g.going.good i; right = tt }

  -- the right side, after all terms
  module _ {c : Coefficients} {k : ℕ} (g : Combining c k) (h : pairs_in variables parts ≤ k)
      (answer : Answer Fraction ArithmeticError) (s : IsFraction so_far → IsFraction factor → IsFraction right → (place : ℕ) → says place answer ≡ plus_product place so_far factor right) where
    right_says : (i : At) → plus_product i.place so_far factor right ≡ says i.place answer
    right_says i = sym (s (subst (λ (o : Option Fraction). IfSome o IsFraction) i.so_far_is i.takes.so_far.right) i.takes.factor_is i.takes.right_is i.place)

    all-terms : (i : At) → done (coefficients_of c) ≡ with_terms i
    all-terms i = going_end Asked Good step with_terms (listed_none a_term variables parts k h) g.going i

    pub combined : {f : Fraction} → answer ≡ Ok f → (i : At) → done (record { coefficient = coefficients_of c; right = f }) ≡ next_of i
    combined t i = next_by i.place factor terms right from_start (all-terms i) (right_says i ∙ ap (says i.place) t) ∙ from_so_far i

    pub combined_fractions : {f : Fraction} → answer ≡ Ok f → (i : At) → HasFractions (record { coefficients = c; right = Some f })
    combined_fractions {f} t i =
        record { coefficients = g.going.good i; right = plus_product_is i.place so_far factor right f (right_says i ∙ ap (says i.place) t) }

    pub combined_not : ((f : Fraction) → answer ≡ Ok f → ⊥) → (i : At) → refused 12 i.place ≡ next_of i
    combined_not h i =
        next_by i.place factor terms right from_start (all-terms i) (right_says i ∙ no_value i.place answer h) ∙ from_so_far i
