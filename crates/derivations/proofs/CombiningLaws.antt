-- Multipliers in two lists, one by one: their signs, and the combination of the rows that they name.
-- Assumes nothing.
use mathlib.Core.Path.{◌≡◌, refl, sym, ◌∙◌, ap, subst}
use mathlib.Core.Bool.{Bool, true, false, not, ◌&&◌}
use mathlib.Core.List.{List, [], ◌∷◌}
use Prim.Native.Nat.{ℕ, ◌+◌, ◌≤◌, ◌<◌}
use lib.IntN.{ℤ}
use lib.ListN.{get_or}
use Rattle.arithmetic.specs.Fraction.{IsFraction}
use Rattle.arithmetic.specs.Quotient.{Quotient}
use Rattle.arithmetic.specs.declared.Fraction.{Fraction}
use Rattle.tables.specs.Cells.{fraction_at}
use Rattle.tables.specs.Pairs.{pairs_in}
use Rattle.grammar.specs.Tree.{Sense, Multiplier, Tree}
use Rattle.rules.specs.Tests.{all_of}
use Rattle.rules.specs.Values.{is_positive, is_negative}
use Rattle.rules.specs.Result.{Result, done, refused, bind, through}
use Rattle.rules.specs.Rows as rows
use Rattle.rules.specs.Rows.{row_at}
use Rattle.rules.specs.Combinations as rules
use Rattle.rules.specs.Combinations.{signed, next_combination, combine}
use Rattle.senses.specs.Signs.{signed_by, next_signs, none_negative, none_positive, SignsAre}
use Rattle.senses.specs.declared.signs.Signs.{Signs}
use Rattle.linear.specs.Lists.{terms_of}
use Rattle.linear.specs.ListsLaws.{listed_from, listed_next, all-at, formed_below}
use Rattle.std.specs.Prelude.{Option, None}
use Rattle.linear.specs.declared.rows.Row.{Row}
use Rattle.tables.specs.Limits.{most_variables}
use Rattle.senses.proofs.ArithmeticLaws.{bind_assoc}
use Rattle.linear.specs.Coefficients.{coefficients_of}
use Rattle.linear.specs.Combinations.{combination_with, combination_says, HasFractions, Takes}
use Rattle.linear.specs.declared.combinations.Combination.{Combination}
use Rattle.encoding.specs.Places.{a_multiplier}
use Rattle.encoding.specs.declared.Certificate.{Certificate}
use Rattle.derivations.specs.Combining.{multipliers_in, MultipliersBelow}
use Rattle.derivations.specs.Constraints.{Stands}

-- multiplier k
module _ (named : List ℕ) (factors : List ℤ) (n : ℕ) (below : MultipliersBelow n (multipliers_in named factors)) (k : ℕ) (lt : k < pairs_in named factors) where
  pub multiplier-below : (get_or named k 0 < n) × IsFraction (fraction_at factors k)
  multiplier-below = all-at a_multiplier named factors (λ (m : Multiplier). (m.row < n) × IsFraction m.factor) below k lt

-- ---- signs

and_assoc : (a b c : Bool) → (a && b) && c ≡ (a && (b && c))
and_assoc true b c = refl
and_assoc false b c = refl

and-true : (a : Bool) → a && true ≡ a
and-true true = refl
and-true false = refl

-- the signs so far, with those of the multipliers that are left, are those of all
pub record Signing (tree : Tree) (all left : List Multiplier) (s : Signs) : Type 0 where
  pub nonnegative : s.nonnegative && none_negative tree left ≡ none_negative tree all
  pub nonpositive : s.nonpositive && none_positive tree left ≡ none_positive tree all

pub signing : (tree : Tree) (all : List Multiplier) {s : Signs} → (s.nonnegative ≡ true) × (s.nonpositive ≡ true) → Signing tree all all s
signing tree all h = record { nonnegative = ap (λ (b : Bool). b && none_negative tree all) h.0; nonpositive = ap (λ (b : Bool). b && none_positive tree all) h.1 }

module _ {tree : Tree} {all left rest : List Multiplier} {m : Multiplier} {s : Signs} (e : left ≡ m ∷ rest) (g : Signing tree all left s) where
  pub signing_on : {t : Signs} (x : Quotient) → t ≡ next_signs s x → x ≡ signed tree m → Signing tree all rest t
  signing_on x f q =
      subst (Signing tree all rest) (sym f)
      (record {
        nonnegative = step (λ (m : Multiplier). not (is_negative (signed tree m))) s.nonnegative (ap (λ (y : Quotient). not (is_negative y)) q) ∙ g.nonnegative;
        nonpositive = step (λ (m : Multiplier). not (is_positive (signed tree m))) s.nonpositive (ap (λ (y : Quotient). not (is_positive y)) q) ∙ g.nonpositive;
      })
    where
      step : (test : Multiplier → Bool) (so_far : Bool) {b : Bool} → b ≡ test m → (so_far && b) && all_of test rest ≡ so_far && all_of test left
      step test so_far {b} p =
          and_assoc so_far b (all_of test rest) ∙ ap (λ (c : Bool). so_far && (c && all_of test rest)) p ∙ sym (ap (λ (ms : List Multiplier). so_far && all_of test ms) e)

pub signing_end : {tree : Tree} {all left : List Multiplier} {s : Signs} → left ≡ [] → Signing tree all left s → SignsAre tree all s
signing_end {tree} {s = s} e g =
    record {
      nonnegative = sym (and-true s.nonnegative) ∙ sym (ap (λ (ms : List Multiplier). s.nonnegative && none_negative tree ms) e) ∙ g.nonnegative;
      nonpositive = sym (and-true s.nonpositive) ∙ sym (ap (λ (ms : List Multiplier). s.nonpositive && none_positive tree ms) e) ∙ g.nonpositive;
    }

-- λ s(C), where a row's sense and a factor were fetched
pub signed_is : (tree : Tree) (m : Multiplier) {s : Sense} {f : Fraction} → s ≡ (row_at tree m.row).sense → f ≡ m.factor → signed_by s f ≡ signed tree m
signed_is tree m p q = λ i. signed_by (p i) (q i)

-- ---- the combination

-- one row more
abbrev pub row_step : Tree → ℕ → rules.Combination → Multiplier → Result rules.Combination
row_step tree place so_far m = next_combination place m.factor (rows.terms_of tree (row_at tree m.row)) (row_at tree m.row).right so_far

-- a combination so far, with the rows that are left, gives that of all
pub record Combining (tree : Tree) (all left : List Multiplier) (c : Combination) : Type 0 where
  pub fractions : HasFractions c
  pub same : (place : ℕ) → bind (combination_says place c) (λ (u : rules.Combination). through (row_step tree place) u left) ≡ combine tree place all

pub combining : (tree : Tree) (all : List Multiplier) {c : Combination} → ((place : ℕ) → combination_says place c ≡ done rules.empty_combination) → HasFractions c → Combining tree all all c
unfolding combine
combining tree all e h =
    record { fractions = h; same = λ place. ap (λ (r : Result rules.Combination). bind r (λ (u : rules.Combination). through (row_step tree place) u all)) (e place) }

-- by what fetching the row and its factor gives, and what the next combination says
module _ {tree : Tree} (n : Certificate) (named : List ℕ) (factors : List ℤ) (below : MultipliersBelow n.header.rows (multipliers_in named factors)) {k : ℕ} (lt : k < pairs_in named factors) (few : n.header.variables ≤ most_variables) where
  pub combining_on : {all : List Multiplier} {c : Combination} → Combining tree all (listed_from a_multiplier named factors k) c → {x : Row} → Stands tree n (row_at tree (get_or named k 0)) x
      → {factor : Fraction} → factor ≡ fraction_at factors k → (d : Combination)
      → (Takes c (terms_of x.terms) x.bound.right factor → (place : ℕ) → combination_says place d ≡ bind (combination_says place c) (next_combination place factor (terms_of x.terms) x.bound.right))
      → (Takes c (terms_of x.terms) x.bound.right factor → HasFractions d) → Combining tree all (listed_from a_multiplier named factors (k + 1)) d
  combining_on {all} {c} g {x} s {factor} q d says fractions =
      let one = multiplier-below named factors n.header.rows below k lt in
      let taken : Takes c (terms_of x.terms) x.bound.right factor =
      record { so_far = g.fractions; terms-below = formed_below _ most_variables (terms_of x.terms) few s.formed; right_is = s.fraction; factor_is = subst IsFraction (sym q) one.1 } in
      record {
        fractions = fractions taken;
        same = λ place.
            let rest : rules.Combination → Result rules.Combination = λ u. through (row_step tree place) u (listed_from a_multiplier named factors (k + 1)) in
            ap (λ (r : Result rules.Combination). bind r rest) (says taken place)
            ∙ (λ j. bind (bind (combination_says place c) (next_combination place (q j) (s.terms_are j) (s.right_is j))) rest)
            ∙ sym (bind_assoc (combination_says place c) (λ (u : rules.Combination). row_step tree place u (a_multiplier (get_or named k 0) (fraction_at factors k))) rest)
            ∙ sym (ap (λ (ms : List Multiplier). bind (combination_says place c) (λ (u : rules.Combination). through (row_step tree place) u ms)) (listed_next a_multiplier named factors k lt))
            ∙ g.same place;
      }

-- one that is too wide is the answer
pub combining_stop : {tree : Tree} {all left : List Multiplier} {c : Combination} → c.right ≡ None → Combining tree all left c → (place : ℕ) → combination_says place c ≡ combine tree place all
combining_stop {tree} {left = left} {c = c} e g place =
    ap (combination_with (coefficients_of c.coefficients) place) e
    ∙ sym (ap (λ (o : Option Fraction). bind (combination_with (coefficients_of c.coefficients) place o) (λ (u : rules.Combination). through (row_step tree place) u left)) e)
    ∙ g.same place

pub combining_end : {tree : Tree} {all left : List Multiplier} {c : Combination} → left ≡ [] → Combining tree all left c → (place : ℕ) → combination_says place c ≡ combine tree place all
combining_end {tree} {c = c} e g place =
    sym (whole (combination_says place c))
    ∙ sym (ap (λ (ms : List Multiplier). bind (combination_says place c) (λ (u : rules.Combination). through (row_step tree place) u ms)) e)
    ∙ g.same place
  where
    whole : (r : Result rules.Combination) → bind r (λ (u : rules.Combination). done u) ≡ r
    whole (done u) = refl
    whole (refused reason at) = refl
