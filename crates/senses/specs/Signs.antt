-- The sign rule, multiplier by multiplier: what the code's signs stand for; and that two tests, that no multiplier times its
-- row's sign is negative and that none is positive, tell whether they are suitable, and the sense.
-- Assumes nothing.
use Rattle.std.specs.Prelude.{◌≡◌, refl, Bool, true, false, not, cond, ◌&&◌, ◌||◌, List, [], ◌∷◌, zero, suc, ℤ, pos, negsuc, ◌*ℤ◌}
use Rattle.std.proofs.Common.{◌∙◌, ap, ap₂, arith, le-ltb, lt-ltb, ne_eqb}
use Rattle.std.specs.Int.Signed.{lt_z}
use Rattle.arithmetic.specs.Quotient.{Quotient, ◌*Q◌, whole_q}
use Rattle.arithmetic.specs.Fraction.{exact}
use Rattle.arithmetic.specs.declared.Fraction.{Fraction}
use Rattle.grammar.specs.Tree.{Sense, equal, at_most, at_least, Multiplier, Tree}
use Rattle.rules.specs.Tests.{all_of}
use Rattle.rules.specs.Values.{same_z, is_zero, is_positive, is_negative}
use Rattle.rules.specs.Combinations.{sign_of, signed, is_suitable, sense_of}
use Rattle.senses.specs.declared.signs.Signs.{Signs}

-- λ s(C), for a multiplier λ of a row C with this sense: `signed` of rules; and without its positive denominator
abbrev pub signed_by : Sense → Fraction → Quotient
signed_by sense factor = exact factor *Q whole_q (sign_of sense)

abbrev pub signed_number : Sense → Fraction → ℤ
signed_number sense factor = factor.num *ℤ sign_of sense

-- the signs of multipliers, and one more
abbrev pub next_signs : Signs → Quotient → Signs
next_signs s x = record { nonnegative = s.nonnegative && not (is_negative x); nonpositive = s.nonpositive && not (is_positive x) }

-- "λ_j s(C_j) ≥ 0 for all j", "λ_j s(C_j) ≤ 0 for all j"
abbrev pub none_negative : Tree → List Multiplier → Bool
none_negative tree ms = all_of (λ m. not (is_negative (signed tree m))) ms

abbrev pub none_positive : Tree → List Multiplier → Bool
none_positive tree ms = all_of (λ m. not (is_positive (signed tree m))) ms

-- the signs of a tree's multipliers
pub record SignsAre (tree : Tree) (ms : List Multiplier) (s : Signs) : Type 0 where
  pub nonnegative : s.nonnegative ≡ none_negative tree ms
  pub nonpositive : s.nonpositive ≡ none_positive tree ms

-- ---- the two tests tell whether multipliers are suitable

pub suitable_by : {tree : Tree} {ms : List Multiplier} {s : Signs} → SignsAre tree ms s → s.nonnegative || s.nonpositive ≡ is_suitable tree ms
unfolding is_suitable
suitable_by h = ap₂ ◌||◌ h.nonnegative h.nonpositive

-- ---- and the sense

-- the sense of multipliers of which none is negative, of which none is positive, or of which all are zero
abbrev pub sense_by : Bool → Bool → Sense
sense_by nonnegative nonpositive = cond (nonnegative && nonpositive) equal (cond nonnegative at_least at_most)

-- neither negative nor positive: zero
neither : (z : ℤ) → not (lt_z z (pos 0)) && not (lt_z (pos 0) z) ≡ same_z z (pos 0)
neither (pos zero) = refl
neither (pos (suc n)) = rw (le-ltb (suc n) 0 (omega arith), lt-ltb 0 (suc n) (omega arith), ne_eqb (suc n) 0 (λ e. omega arith))
neither (negsuc n) = refl

-- two tests of each, made one
all_both : {A : Type 0} (f g h : A → Bool) → ((x : A) → f x && g x ≡ h x) → (xs : List A) → all_of f xs && all_of g xs ≡ all_of h xs
all_both f g h e [] = refl
all_both f g h e (x ∷ xs) = exchange (f x) (g x) (all_of f xs) (all_of g xs) ∙ ap₂ ◌&&◌ (e x) (all_both f g h e xs)
  where
    exchange : (a b c d : Bool) → (a && c) && (b && d) ≡ (a && b) && (c && d)
    exchange true true c d = refl
    exchange true false true d = refl
    exchange true false false d = refl
    exchange false b c d = refl

pub sense_by_lem : {tree : Tree} {ms : List Multiplier} {s : Signs} → SignsAre tree ms s → sense_by s.nonnegative s.nonpositive ≡ sense_of tree ms
unfolding sense_of
sense_by_lem {tree} {ms} {s} h =
    ap₂ sense_by h.nonnegative h.nonpositive
    ∙ ap (λ (t : Bool). cond t equal (cond (none_negative tree ms) at_least at_most))
    (all_both _ _ (λ m. is_zero (signed tree m)) (λ m. neither (signed tree m).top) ms)
