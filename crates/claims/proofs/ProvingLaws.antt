-- The last row's constraint, absurd or dominating, by its listed terms.
-- Assumes nothing.
use mathlib.Core.Path.{◌≡◌, sym, ◌∙◌, ap, ap₂, subst}
use mathlib.Core.Bool.{Bool}
use mathlib.Core.List.{List}
use Prim.Native.Nat.{ℕ}
use lib.IntN.{ℤ}
use Rattle.arithmetic.specs.Fraction.{IsFraction}
use Rattle.arithmetic.specs.declared.Fraction.{Fraction}
use Rattle.tables.specs.Limits.{most_variables}
use Rattle.tables.specs.declared.Header.{Header}
use Rattle.grammar.specs.Tree.{Row, Tree}
use Rattle.rules.specs.Rows.{variables, value_in, objective, terms_of, constraint_of, objective_with}
use Rattle.rules.specs.Domination.{is_absurd, dominates}
use Rattle.rules.specs.Sentence.Formed.{Formed, RowFormed}
use Rattle.senses.specs.Senses.{sense_is, constraint_by}
use Rattle.senses.specs.declared.Bound.{Bound}
use Rattle.linear.specs.Lists.{terms_in, TermsBelow}
use Rattle.linear.specs.ListsLaws.{formed_below, fractions_in}
use Rattle.linear.specs.Coefficients.{AreFractions}
use Rattle.linear.specs.Comparing.{Compares}
use Rattle.linear.specs.declared.domination.Compared.{Compared}
use Rattle.encoding.specs.Places.{indices_at, values_at}
use Rattle.encoding.specs.Encodes.{Encodes}
use Rattle.encoding.proofs.EncodesLaws.{variables_are}
use Rattle.encoding.specs.Rows.{RowIs}
use Rattle.encoding.specs.declared.rows.ListedRow.{ListedRow}

module _ (tree : Tree) {index : List ℕ} {values : List ℤ} {row : Row} {x : ListedRow} (is : RowIs tree index values row x) (formed : RowFormed tree row)
    {cells : List ℕ} {parts : List ℤ} (p : cells ≡ indices_at index x.terms) (q : parts ≡ values_at values x.terms) where
  the-terms : terms_in cells parts ≡ terms_of tree row
  the-terms = ap₂ terms_in p q ∙ is.terms_are

  terms_formed : Formed (variables tree) (terms_in cells parts)
  terms_formed = subst (Formed (variables tree)) (sym the-terms) formed.terms_formed

  the_constraint : constraint_by (value_in (terms_in cells parts)) x.bound ≡ constraint_of tree row
  unfolding constraint_of
  the_constraint = λ i. record { sense = is.sense_is_lem i; coefficient = value_in (the-terms i); right = is.right_is i }

  pub absurd_row : {b : Bool} → ((n : ℕ) → Formed n (terms_in cells parts) → b ≡ is_absurd n (constraint_by (value_in (terms_in cells parts)) x.bound))
      → b ≡ is_absurd (variables tree) (constraint_of tree row)
  absurd_row f = f (variables tree) terms_formed ∙ ap (is_absurd (variables tree)) the_constraint

  -- the row's coefficients in arrays, held against the objective's listed terms
  module _ {rows : List ℕ} {h : Header} (e : Encodes tree h index values rows) {listed : List ℕ} {numbers : List ℤ}
      (o : listed ≡ indices_at index h.objective) (v : numbers ≡ values_at values h.objective) (coefficient : ℕ → Fraction)
      (are : TermsBelow most_variables (terms_in cells parts) → coefficient ≡ value_in (terms_in cells parts)) where
    below : TermsBelow most_variables (terms_in cells parts)
    below = formed_below (variables tree) most_variables (terms_in cells parts) e.in_range.variables_most terms_formed

    the-objective : terms_in listed numbers ≡ objective tree
    the-objective = ap₂ terms_in o v ∙ e.objective_is

    claimed : (b : Bound) → constraint_by (value_in (terms_in listed numbers)) b ≡ objective_with tree (sense_is b.sense) b.right
    unfolding objective_with
    claimed b = λ i. record { sense = sense_is b.sense; coefficient = value_in (the-objective i); right = b.right }

    pub dominating_row : (r : Compared) {b : Bool} (bound : Bound) → IsFraction bound.right
        → (Formed h.variables (terms_in listed numbers) → AreFractions coefficient → Compares h.variables coefficient (value_in (terms_in listed numbers)) r)
        → ((n : ℕ) (c d : ℕ → Fraction) → Compares n c d r → IsFraction x.bound.right → IsFraction bound.right → b ≡ dominates n (constraint_by c x.bound) (constraint_by d bound))
        → b ≡ dominates (variables tree) (constraint_of tree row) (objective_with tree (sense_is bound.sense) bound.right)
    dominating_row r {b} bound is_bound compared f =
        let fractions : AreFractions coefficient = subst AreFractions (sym (are below)) (fractions_in most_variables (terms_in cells parts) below) in
        let listed-formed : Formed h.variables (terms_in listed numbers) = subst (λ (n : ℕ). Formed n (terms_in listed numbers)) (sym (variables_are e)) (subst (Formed (variables tree)) (sym the-objective) e.formed.objective_formed) in
        let right : IsFraction x.bound.right = subst IsFraction (sym is.right_is) formed.right_fraction in
        f h.variables coefficient (value_in (terms_in listed numbers)) (compared listed-formed fractions) right is_bound
        ∙ ap (λ (n : ℕ). dominates n (constraint_by coefficient x.bound) (constraint_by (value_in (terms_in listed numbers)) bound)) (variables_are e)
        ∙ ap₂ (dominates (variables tree))
        (ap (λ (c : ℕ → Fraction). constraint_by c x.bound) (are below) ∙ the_constraint)
        (claimed bound)
