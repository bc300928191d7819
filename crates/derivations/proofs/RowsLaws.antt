-- Rows in the tables as the constraints that they are.
-- Assumes nothing.
use mathlib.Core.Path.{◌≡◌, sym, ◌∙◌, ap, ap₂, subst}
use mathlib.Core.Bool.{Bool}
use Prim.Native.Nat.{ℕ, ◌≤◌, ◌<◌}
use native.Mathlib.Omega.{arith}
use Rattle.arithmetic.specs.Fraction.{IsFraction}
use Rattle.arithmetic.specs.declared.Fraction.{Fraction}
use Rattle.tables.specs.Limits.{most_variables}
use Rattle.grammar.specs.Tree as grammar
use Rattle.grammar.specs.Tree.{Term, Tree}
use Rattle.rules.specs.Rows as rows
use Rattle.rules.specs.Rows.{variables, value_in, constraint_of, row_at}
use Rattle.rules.specs.Domination.{dominates}
use Rattle.rules.specs.Sentence.Formed.{Formed}
use Rattle.senses.specs.Senses.{constraint_by}
use Rattle.linear.specs.Lists.{terms_in, terms_of, TermsBelow}
use Rattle.linear.specs.ListsLaws.{formed_below, fractions_in}
use Rattle.linear.specs.Coefficients.{coefficients_of, AreFractions}
use Rattle.linear.specs.declared.coefficients.Coefficients.{Coefficients}
use Rattle.linear.specs.declared.lists.Terms.{Terms}
use Rattle.linear.specs.declared.rows.Row.{Row}
use Rattle.encoding.specs.Places.{indices_at, values_at}
use Rattle.encoding.specs.Encodes.{Holds}
use Rattle.encoding.proofs.EncodesLaws.{variables_are}
use Rattle.encoding.specs.Rows.{RowIs}
use Rattle.encoding.specs.declared.Certificate.{Certificate}
use Rattle.encoding.specs.declared.rows.ListedRow.{ListedRow}
use Rattle.derivations.specs.Checks.{Lists}
use Rattle.derivations.specs.Constraints.{Stands}

-- a row of a certificate, fetched by its index
pub lists_row : {tree : Tree} (c : Certificate) (e : Holds tree c) {x : ListedRow} (i : ℕ) → i < c.header.rows → RowIs tree c.index.now c.values.now (row_at tree i) x → Lists tree c (row_at tree i) x
lists_row c e i lt k = record { is = k; formed = (e.row i lt).formed; number = sym (variables_are e); few = omega (arith, variables_are e, e.in_range.variables_most) }

module _ {tree : Tree} {c : Certificate} {r : grammar.Row} {x : ListedRow} (l : Lists tree c r x) where
  -- with its terms as two parts of the tables
  pub stands : (ts : Terms) → ts.variables.now ≡ indices_at c.index.now x.terms → ts.parts.now ≡ values_at c.values.now x.terms → Stands tree c r (record { terms = ts; bound = x.bound })
  unfolding constraint_of
  stands ts e f =
      let q = ap₂ terms_in e f ∙ l.is.terms_are in
      record {
        is = λ i. record { sense = l.is.sense_is_lem i; coefficient = value_in (q i); right = l.is.right_is i };
        terms_are = q;
        right_is = l.is.right_is;
        formed = subst (Formed c.header.variables) (sym q) (subst (λ (n : ℕ). Formed n (rows.terms_of tree r)) l.number l.formed.terms_formed);
        fraction = subst IsFraction (sym l.is.right_is) l.formed.right_fraction;
      }

  pub dominates-row : {y : Row} → Stands tree c r y → {b : Bool} (d : rows.Constraint) → b ≡ dominates c.header.variables d (constraint_by (value_in (terms_of y.terms)) y.bound) → b ≡ dominates (variables tree) d (constraint_of tree r)
  dominates-row s d q = q ∙ (λ i. dominates (sym l.number i) d (s.is i))

-- coefficients of the code that were made of listed terms
module _ {n : ℕ} (few : n ≤ most_variables) (x : Row) (formed : Formed n (terms_of x.terms)) (k : Coefficients)
    (e : TermsBelow most_variables (terms_of x.terms) → coefficients_of k ≡ value_in (terms_of x.terms)) where
  below : TermsBelow most_variables (terms_of x.terms)
  below = formed_below n most_variables (terms_of x.terms) few formed

  pub made_is : constraint_by (coefficients_of k) x.bound ≡ constraint_by (value_in (terms_of x.terms)) x.bound
  made_is = ap (λ (f : ℕ → Fraction). constraint_by f x.bound) (e below)

  pub made_fractions : AreFractions (coefficients_of k)
  made_fractions = subst AreFractions (sym (e below)) (fractions_in most_variables (terms_of x.terms) below)
