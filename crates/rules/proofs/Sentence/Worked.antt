-- The sentence of three certificates in whole numbers: what the definitions of Points.antt come to where the problem is small.
-- All are verified, by computation; what is said of numerators and denominators is taken from the sentence and from nothing else.
-- Assumes nothing.
use Rattle.std.specs.Prelude.{◌≡◌, refl, List, [], ◌∷◌, ◌↔◌, ℕ, zero, suc, ◌<◌, ℤ, pos, negsuc, ◌+ℤ◌, ◌*ℤ◌, ◌≤ℤ◌}
use Rattle.std.proofs.Common.{sym, ◌∙◌, ap, subst, arith}
use Rattle.std.proofs.Math.Logic.Iff.{trans as iff_trans}
use Rattle.std.proofs.Math.IntN.{+ℤ_idr}
use Rattle.text.specs.Bytes.{Bytes, is_separator, is_printable, is_digit}
use Rattle.text.specs.Comments.{comments_end}
use Rattle.text.specs.Tokens.{rest, stream_at}
use Rattle.arithmetic.specs.Quotient.{◌≈◌, whole_q, lowest, floor_z, ceiling_z}
use Rattle.arithmetic.specs.Fraction.{is_fraction, on_fractions, within, order}
use Rattle.integers.specs.Gcd.{gcd, euclid}
use Rattle.integers.specs.Integers.{*ℤ-pos-one}
use Rattle.numerals.specs.Spelling.{quotient_of}
use Rattle.numerals.specs.Reading.{read_value, outcome_of, narrowed}
use Rattle.grammar.specs.Tree.{Term, Sense, at_most, at_least, Tree}
use Rattle.grammar.specs.Reading.{read}
use Rattle.grammar.specs.Texts.{ReadText, taken, refused, read_of}
use Rattle.grammar.proofs.Texts.{read_sound, read_complete}
use Rattle.grammar.specs.Example.{example, example_tree}
use Rattle.rules.specs.Result.{fine}
use Rattle.rules.proofs.Result.{no_value}
use Rattle.rules.specs.Values.{whole_f}
use Rattle.rules.specs.Rows.{value_in, constraint_of, objective_with, entries, entry_at}
use Rattle.rules.specs.Solutions.{left_side, check_row, check_solution, objectives_of}
use Rattle.rules.specs.Domination.{is_absurd, same_coefficients, dominates}
use Rattle.rules.specs.Combinations.{is_suitable, sense_of, next_combination, combine, suitable_combination}
use Rattle.rules.specs.Rounding.{is_integral, can_be_rounded, rounded}
use Rattle.rules.specs.Splits.{is_split, is_proper_split}
use Rattle.rules.specs.Assumptions.{sets_of, assumptions_of}
use Rattle.rules.specs.Derivations.{check_lin, check_rnd, check_uns, check_derivation}
use Rattle.rules.specs.Claims.{is_proved}
use Rattle.rules.specs.Check.{check_of}
use Rattle.rules.specs.Worked.{verdict, one_integer, mixed}
use Rattle.rules.specs.Sentence.Points.{Point, value_at, Compares, FeasiblePoint, Sentence, SentenceOf}
use Rattle.rules.proofs.Sentence.Senses.{Rel, rel_same}
use Rattle.rules.proofs.Sentence.Scale.{FairBy}
use Rattle.rules.proofs.Sentence.Lines.{sum_by, FairTerms, sum_compares}
use Rattle.rules.proofs.Sentence.Verified.{verified_means}

-- ---- rows with whole coefficients at a point

-- the points X / D, and (X / D, Y / D)
abbrev one : ℤ → ℕ → ℤ
one X v = X

abbrev two : ℤ → ℤ → ℕ → ℤ
two X Y zero = X
two X Y (suc v) = Y

-- a times the variable with this index
abbrev term : ℤ → ℕ → Term
term a v = record { variable = v; coefficient = whole_f a }

-- a whole number is 1 times itself
whole : (a : ℤ) → FairBy 1 (λ f. f.num) (whole_f a)
whole a = record { positive = omega arith; scales = refl }

module _ (numerator : ℕ → ℤ) (D : ℕ) (positive : 0 < D) where
  abbrev over : Point
  over = record { numerator = numerator; denominator = D; positive = positive }

  -- the sum of coefficient times numerator
  abbrev total : List Term → ℤ
  total [] = pos 0
  total (t ∷ []) = t.coefficient.num *ℤ numerator t.variable
  total (t ∷ (u ∷ ts)) = t.coefficient.num *ℤ numerator t.variable +ℤ total (u ∷ ts)

  total_sum : (ts : List Term) → sum_by over (λ f. f.num) ts ≡ total ts
  total_sum [] = refl
  total_sum (t ∷ []) = +ℤ_idr (t.coefficient.num *ℤ numerator t.variable)
  total_sum (t ∷ (u ∷ ts)) = ap (λ (z : ℤ). t.coefficient.num *ℤ numerator t.variable +ℤ z) (total_sum (u ∷ ts))

  -- a left side compares with a whole b exactly as the sum does with b D
  compares : (s : Sense) (ts : List Term) → FairTerms over 1 (λ f. f.num) ts → (b : ℤ) → Compares s (value_at ts over) (whole_q b) ↔ Rel s (total ts) (b *ℤ pos D)
  compares s ts h b =
      iff_trans (sum_compares over 1 (λ f. f.num) (omega arith) s ts (whole_f b) h (whole b))
      (rel_same s (total_sum ts) refl, rel_same s (sym (total_sum ts)) refl)

-- ---- what a verified text says of the tree that it is read as

-- none of the texts below is refused, so any tree will do there
abbrev tree_of : ReadText → Tree
tree_of (taken tree) = tree
tree_of (refused reason place) = example_tree

module _ (text : Bytes) (verified : verdict (read_of text) ≡ fine) where
  means : SentenceOf text
  means = go (read_of text) refl verified
    where
      go : (r : ReadText) → read_of text ≡ r → verdict r ≡ fine → SentenceOf text
      go (taken tree) r e = verified_means text tree (read_sound text tree r) e
      go (refused reason place) r e = no_value e

  says : Sentence (tree_of (read_of text))
  says = subst Sentence (sym (ap tree_of (read_complete text means.tree means.spelled))) means.sentence

-- ---- the certificates

-- `example` is 01's: maximize x, an integer variable, with 2 x ≤ 3, by rounding; the claim is `range 1 1`

-- 2 x ≥ 1 and 2 x ≤ 1, x an integer variable, by branching on x ≤ 0 or x ≥ 1; the claim is `infeas`
abbrev pub branching : Bytes
branching =
    one_integer "OBJ min 0\nCON 2 0 R1 G 1 1 0 2 R2 L 1 1 0 2\nRTP infeas\nSOL 0\nDER 5\nA1 L 0 1 0 1 { asm } -1\nA2 G 1 1 0 1 { asm } -1\nD1 G 1 0 { lin 2 0 1 2 -2 } -1\nD2 L -1 0 { lin 2 1 1 3 -2 } -1\nD3 G 1 0 { uns 4 2 5 3 } -1\n"

-- minimize y with 2 x + y ≥ 3 and y ≥ x, x an integer variable, by branching and the bound y ≤ 1 of the solution (`sol`), which
-- does not hold at every feasible point; the claim is `range 1 1`
abbrev pub pruned : Bytes
pruned =
    mixed "OBJ min 1 1 1\nCON 2 0 R1 G 3 2 0 2 1 1 R2 G 0 2 0 -1 1 1\nRTP range 1 1\nSOL 1 a 2 0 1 1 1\nDER 6\nS1 L 1 OBJ { sol } -1\nA1 L 0 1 0 1 { asm } -1\nA2 G 1 1 0 1 { asm } -1\nD1 G 2 0 { lin 3 0 1 3 -2 2 -1 } -1\nD2 G 1 1 1 1 { lin 2 1 1 4 1 } -1\nD3 G 1 OBJ { uns 5 3 6 4 } -1\n"

all_verified : (verdict (read_of example) ≡ fine) × ((verdict (read_of branching) ≡ fine) × (verdict (read_of pruned) ≡ fine))
unfolding read_of comments_end rest stream_at read is_separator is_printable is_digit read_value outcome_of narrowed quotient_of lowest floor_z ceiling_z gcd euclid is_fraction on_fractions within order check_of value_in constraint_of objective_with entries entry_at left_side check_row check_solution objectives_of is_absurd same_coefficients dominates is_suitable sense_of next_combination combine suitable_combination is_integral can_be_rounded rounded is_split is_proper_split sets_of assumptions_of check_lin check_rnd check_uns check_derivation is_proved
all_verified = (refl, (refl, refl))

-- ---- in whole numbers

-- no feasible point has x above 1: where X / D is whole and 2 X ≤ 3 D, X ≤ D
pub example_bound : (X z : ℤ) (D : ℕ) → 0 < D → X ≡ z *ℤ pos D → (pos 2 *ℤ X) ≤ℤ (pos 3 *ℤ pos D) → (pos 1 *ℤ X) ≤ℤ (pos 1 *ℤ pos D)
unfolding read_of comments_end rest stream_at read is_separator is_printable is_digit read_value outcome_of narrowed quotient_of lowest gcd euclid ◌≈◌
example_bound X z D positive multiple row =
    (compares (one X) D positive at_most (term (pos 1) 0 ∷ []) (whole (pos 1), tt) (pos 1)).0 ((says example all_verified.0).claim_true.0 (over (one X) D positive) feasible)
  where
    feasible : FeasiblePoint (tree_of (read_of example)) (over (one X) D positive)
    feasible =
        record {
          integers-whole = ((z, *ℤ-pos-one X ∙ multiple), tt);
          rows_hold = ((compares (one X) D positive at_most (term (pos 2) 0 ∷ []) (whole (pos 2), tt) (pos 3)).1 row, tt);
        }

-- there is no feasible point: X / D is not whole where D ≤ 2 X and 2 X ≤ D
pub branching_none : (X z : ℤ) (D : ℕ) → 0 < D → X ≡ z *ℤ pos D → (pos 1 *ℤ pos D) ≤ℤ (pos 2 *ℤ X) → (pos 2 *ℤ X) ≤ℤ (pos 1 *ℤ pos D) → ⊥
unfolding read_of comments_end rest stream_at read is_separator is_printable is_digit read_value outcome_of narrowed quotient_of lowest gcd euclid ◌≈◌
branching_none X z D positive multiple first second = (says branching all_verified.1.0).claim_true (over (one X) D positive) feasible
  where
    feasible : FeasiblePoint (tree_of (read_of branching)) (over (one X) D positive)
    feasible =
        record {
          integers-whole = ((z, *ℤ-pos-one X ∙ multiple), tt);
          rows_hold = (
            (compares (one X) D positive at_least (term (pos 2) 0 ∷ []) (whole (pos 2), tt) (pos 1)).1 first,
            ((compares (one X) D positive at_most (term (pos 2) 0 ∷ []) (whole (pos 2), tt) (pos 1)).1 second, tt),
          );
        }

-- no feasible point has y below 1: where X / D is whole, 3 D ≤ 2 X + Y and 0 ≤ -X + Y, D ≤ Y
pub pruned_bound : (X Y z : ℤ) (D : ℕ) → 0 < D → X ≡ z *ℤ pos D → (pos 3 *ℤ pos D) ≤ℤ (pos 2 *ℤ X +ℤ pos 1 *ℤ Y) → (pos 0 *ℤ pos D) ≤ℤ (negsuc 0 *ℤ X +ℤ pos 1 *ℤ Y)
    → (pos 1 *ℤ pos D) ≤ℤ (pos 1 *ℤ Y)
unfolding read_of comments_end rest stream_at read is_separator is_printable is_digit read_value outcome_of narrowed quotient_of lowest gcd euclid ◌≈◌
pruned_bound X Y z D positive multiple first second =
    (compares (two X Y) D positive at_least (term (pos 1) 1 ∷ []) (whole (pos 1), tt) (pos 1)).0 ((says pruned all_verified.1.1).claim_true.0 (over (two X Y) D positive) feasible)
  where
    feasible : FeasiblePoint (tree_of (read_of pruned)) (over (two X Y) D positive)
    feasible =
        record {
          integers-whole = ((z, *ℤ-pos-one X ∙ multiple), tt);
          rows_hold = (
            (compares (two X Y) D positive at_least (term (pos 2) 0 ∷ term (pos 1) 1 ∷ []) (whole (pos 2), (whole (pos 1), tt)) (pos 3)).1 first,
            ((compares (two X Y) D positive at_least (term (negsuc 0) 0 ∷ term (pos 1) 1 ∷ []) (whole (negsuc 0), (whole (pos 1), tt)) (pos 0)).1 second, tt),
          );
        }
