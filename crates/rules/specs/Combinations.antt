-- Suitable linear combinations (000, "Suitable linear combinations of constraints"; document 01, **lin**): refusals 13 and 12.
-- Assumes nothing.
use Rattle.std.specs.Prelude.{◌≡◌, Bool, not, cond, ◌||◌, List, ◌⊎◌, ℕ, eqb, ℤ, pos, negsuc}
use Rattle.arithmetic.specs.Quotient.{Quotient, ◌≈◌, ◌≤Q◌, ◌*Q◌, whole_q}
use Rattle.arithmetic.specs.Fraction.{exact}
use Rattle.arithmetic.specs.Laws.{zero_f}
use Rattle.arithmetic.specs.declared.Fraction.{Fraction}
use Rattle.grammar.specs.Tree.{Term, Sense, equal, at_most, at_least, Multiplier, Tree}
use Rattle.rules.specs.Tests.{All, all_of, Some}
use Rattle.rules.specs.Result.{Result, done, bind, ◌and_then◌, require, through, Through}
use Rattle.rules.specs.Values.{zero_q, is_zero, is_positive, is_negative, IsProduct, IsSum, product_at, sum_at}
use Rattle.rules.specs.Rows.{terms_of, Constraint, row_at}

-- ---- the sign rule

-- "s(C) = 1 if C is a ≥-constraint, 0 if C is a =-constraint, -1 if C is a ≤-constraint"
abbrev pub sign_of : Sense → ℤ
sign_of at_least = pos 1
sign_of equal = pos 0
sign_of at_most = negsuc 0

-- λ s(C), for a multiplier λ of the row C
abbrev pub signed : Tree → Multiplier → Quotient
signed tree m = exact m.factor *Q whole_q (sign_of (row_at tree m.row).sense)

-- "λ_j s(C_j) ≥ 0 for all j, or λ_j s(C_j) ≤ 0 for all j"
abbrev pub Suitable : Tree → List Multiplier → Type 0
Suitable tree ms = All (λ m. zero_q ≤Q signed tree m) ms ⊎ All (λ m. signed tree m ≤Q zero_q) ms

unfoldable pub is_suitable : Tree → List Multiplier → Bool
is_suitable tree ms = all_of (λ m. not (is_negative (signed tree m))) ms || all_of (λ m. not (is_positive (signed tree m))) ms

-- the sense that a suitable combination has:
-- "= if λ_j s(C_j) = 0 for all j", so also if there is none;
-- "≥ if λ_j s(C_j) ≥ 0 for all j and λ_q s(C_q) ≠ 0 for some q"; "≤" likewise. That terms cancel is no matter
abbrev pub HasSense : Tree → List Multiplier → Sense → Type 0
HasSense tree ms equal = All (λ m. signed tree m ≈ zero_q) ms
HasSense tree ms at_least = All (λ m. zero_q ≤Q signed tree m) ms × Some (λ m. signed tree m ≈ zero_q → ⊥) ms
HasSense tree ms at_most = All (λ m. signed tree m ≤Q zero_q) ms × Some (λ m. signed tree m ≈ zero_q → ⊥) ms

unfoldable pub sense_of : Tree → List Multiplier → Sense
sense_of tree ms =
    cond (all_of (λ m. is_zero (signed tree m)) ms) equal
    (cond (all_of (λ m. not (is_negative (signed tree m))) ms) at_least at_most)

-- ---- "A running combination takes one row and its multiplier and yields the next combination"

pub record Combination : Type 0 where
  pub coefficient : ℕ → Fraction
  pub right : Fraction

abbrev pub empty_combination : Combination
empty_combination = record { coefficient = λ v. zero_f; right = zero_f }

-- the coefficients with another one for a variable
abbrev pub with_coefficient : ℕ → Fraction → (ℕ → Fraction) → ℕ → Fraction
with_coefficient v f coefficient w = cond (eqb v w) f (coefficient w)

-- one term: "product, then sum for that variable"
abbrev pub AddsMultiple : Fraction → (ℕ → Fraction) → Term → (ℕ → Fraction) → Type 0
AddsMultiple factor coefficient t next =
    (p : Fraction) × IsProduct factor t.coefficient p
    × ((s : Fraction) × IsSum (coefficient t.variable) p s × (with_coefficient t.variable s coefficient ≡ next))

abbrev pub add_multiple : ℕ → Fraction → (ℕ → Fraction) → Term → Result (ℕ → Fraction)
add_multiple place factor coefficient t =
    bind (product_at place factor t.coefficient)
    (λ p. bind (sum_at place (coefficient t.variable) p)
    (λ s. done (with_coefficient t.variable s coefficient)))

-- one row, by its term list and right side, and its multiplier: "each listed term in order .., then the right side; 12 at the
-- first too wide"
abbrev pub Next : Fraction → List Term → Fraction → Combination → Combination → Type 0
Next factor terms right c next =
    (left : ℕ → Fraction) × Through (AddsMultiple factor) c.coefficient terms left
    × ((p : Fraction) × IsProduct factor right p
    × ((s : Fraction) × IsSum c.right p s × (record { coefficient = left; right = s } ≡ next)))

unfoldable pub next_combination : ℕ → Fraction → List Term → Fraction → Combination → Result Combination
next_combination place factor terms right c =
    bind (through (add_multiple place factor) c.coefficient terms)
    (λ left. bind (product_at place factor right)
    (λ p. bind (sum_at place c.right p)
    (λ s. done (record { coefficient = left; right = s }))))

-- all rows, in order, from the empty combination
abbrev pub Combines : Tree → List Multiplier → Combination → Type 0
Combines tree ms c =
    Through (λ so_far m next. Next m.factor (terms_of tree (row_at tree m.row)) (row_at tree m.row).right so_far next)
    empty_combination ms c

unfoldable pub combine : Tree → ℕ → List Multiplier → Result Combination
combine tree place ms =
    through (λ so_far m. next_combination place m.factor (terms_of tree (row_at tree m.row)) (row_at tree m.row).right so_far)
    empty_combination ms

-- ---- the constraint that a suitable combination "denotes"

pub record Denotes (tree : Tree) (ms : List Multiplier) (c : Constraint) : Type 0 where
  pub suitable : Suitable tree ms
  pub sense : HasSense tree ms c.sense
  pub combines : Combines tree ms (record { coefficient = c.coefficient; right = c.right })

-- "sign rule of 000, else 13"; then the running combination, 12; "All multiplier-times-sign zero gives an equality; so does
-- p = 0"
unfoldable pub suitable_combination : Tree → ℕ → List Multiplier → Result Constraint
suitable_combination tree place ms =
    require (is_suitable tree ms) 13 place
    and_then bind (combine tree place ms)
    (λ c. done (record { sense = sense_of tree ms; coefficient = c.coefficient; right = c.right }))
