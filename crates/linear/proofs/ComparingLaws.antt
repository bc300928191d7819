-- Coefficients held against listed terms: the loops that count and compare them.
-- Assumes nothing.
use mathlib.Core.Path.{◌≡◌, refl, sym, ◌∙◌, ap, ap₂}
use mathlib.Core.Bool.{Bool, true, false, not, cond, ◌&&◌}
use mathlib.Core.List.{List, ◌∷◌}
use Prim.Native.Nat.{ℕ, suc, ◌+◌, ◌≤◌, ◌<◌}
use native.Mathlib.Omega.{arith}
use lib.Dec.{eqb}
use lib.IntN.{ℤ}
use lib.ListN.{get_or}
use Rattle.arithmetic.specs.Fraction.{exact}
use Rattle.arithmetic.specs.declared.Fraction.{Fraction}
use Rattle.tables.specs.Cells.{fraction_at}
use Rattle.tables.specs.Pairs.{pairs_in}
use Rattle.grammar.specs.Tree.{Term}
use Rattle.rules.specs.Tests.{all_of, every_below}
use Rattle.rules.specs.Values.{is_zero, is_same}
use Rattle.rules.specs.Rows.{value_in}
use Rattle.rules.specs.Sentence.Formed.{Formed}
use Rattle.senses.proofs.ValuesLaws.{same_parts}
use Rattle.linear.specs.Lists.{a_term, terms_in}
use Rattle.linear.specs.ListsLaws.{listed_from, listed_next, listed_none}
use Rattle.linear.specs.Coefficients.{AreFractions}
use Rattle.linear.specs.Comparing.{nonzeros_below}
use Rattle.linear.proofs.ListedLaws.{nonzeros_in, same-listed}

-- ---- whether each listed term is there, and how many of them are not zero

module _ (variables : List ℕ) (parts : List ℤ) (f : ℕ → Fraction) where
  abbrev same_at : Term → Bool
  same_at t = same_parts (f t.variable) t.coefficient

  -- the terms before number k are there
  pub record Matched (found k : ℕ) : Type 0 where
    pub small : found ≤ k
    pub same : all_of same_at (listed_from a_term variables parts k) ≡ all_of same_at (terms_in variables parts)
    pub count : found + nonzeros_in (listed_from a_term variables parts k) ≡ nonzeros_in (terms_in variables parts)

  pub matched : Matched 0 0
  matched = record { small = omega arith; same = refl; count = omega arith }

  -- term k is v with y
  module _ {found k : ℕ} (g : Matched found k) (h : k < pairs_in variables parts) {v : ℕ} {x y : Fraction} (p : v ≡ get_or variables k 0) (q : y ≡ fraction_at parts k) (e : x ≡ f v)
      {r : Bool} (s : r ≡ same_parts x y) where
    abbrev next : listed_from a_term variables parts k ≡ a_term v y ∷ listed_from a_term variables parts (k + 1)
    next =
        listed_next a_term variables parts k h
        ∙ ap₂ (λ (u : ℕ) (z : Fraction). a_term u z ∷ listed_from a_term variables parts (k + 1)) (sym p) (sym q)

    answer : r ≡ same_at (a_term v y)
    answer = s ∙ ap (λ (z : Fraction). same_parts z y) e

    rest : r && all_of same_at (listed_from a_term variables parts (k + 1)) ≡ all_of same_at (terms_in variables parts)
    rest = ap (λ (b : Bool). b && all_of same_at (listed_from a_term variables parts (k + 1))) answer ∙ sym (ap (all_of same_at) next) ∙ g.same

    pub matched_not : r ≡ false → (t : Bool) → false ≡ all_of same_at (terms_in variables parts) && t
    matched_not n t = ap (λ (b : Bool). b && t) (ap (λ (b : Bool). b && all_of same_at (listed_from a_term variables parts (k + 1))) (sym n) ∙ rest)

    -- one more is
    pub matched_on : {z : Bool} {now : ℕ} → r ≡ true → z ≡ is_zero (exact y) → now ≡ cond (not z) (found + 1) found → Matched now (k + 1)
    matched_on {z} {now} so told n =
        record {
          small = few z now n;
          same = ap (λ (b : Bool). b && all_of same_at (listed_from a_term variables parts (k + 1))) (sym so) ∙ rest;
          count = counts;
        }
      where
        few : (z : Bool) (now : ℕ) → now ≡ cond (not z) (found + 1) found → now ≤ k + 1
        few true now n = omega (arith, g.small)
        few false now n = omega (arith, g.small)

        moved : (z : Bool) (now c : ℕ) → now ≡ cond (not z) (found + 1) found → now + c ≡ found + cond (not z) (suc c) c
        moved true now c n = omega arith
        moved false now c n = omega arith

        counts : now + nonzeros_in (listed_from a_term variables parts (k + 1)) ≡ nonzeros_in (terms_in variables parts)
        counts =
            moved z now (nonzeros_in (listed_from a_term variables parts (k + 1))) n
            ∙ ap (λ (b : Bool). found + cond (not b) (suc (nonzeros_in (listed_from a_term variables parts (k + 1)))) (nonzeros_in (listed_from a_term variables parts (k + 1)))) told
            ∙ ap (λ (ts : List Term). found + nonzeros_in ts) (sym next)
            ∙ g.count

  pub matched_end : {found k : ℕ} → Matched found k → pairs_in variables parts ≤ k → (nonzero : ℕ)
      → eqb found nonzero ≡ all_of same_at (terms_in variables parts) && eqb (nonzeros_in (terms_in variables parts)) nonzero
  matched_end {found} {k} g h nonzero =
      let none = listed_none a_term variables parts k h in
      ap₂ (λ (b : Bool) (c : ℕ). b && eqb c nonzero) (sym (ap (all_of same_at) none) ∙ g.same) (zero_more ∙ ap (λ (ts : List Term). found + nonzeros_in ts) (sym none) ∙ g.count)
    where
      zero_more : found ≡ found + 0
      zero_more = omega arith

  -- what is found tells whether the coefficients are equal, of any number of variables below which the terms are
  pub found_same : (n : ℕ) → Formed n (terms_in variables parts) → AreFractions f → {nonzero : ℕ} → nonzero ≡ nonzeros_below n f → {r : Bool}
      → r ≡ all_of same_at (terms_in variables parts) && eqb (nonzeros_in (terms_in variables parts)) nonzero
      → r ≡ every_below n (λ v. is_same (f v) (value_in (terms_in variables parts) v))
  found_same n formed are many e =
      e
      ∙ ap (λ (m : ℕ). all_of same_at (terms_in variables parts) && eqb (nonzeros_in (terms_in variables parts)) m) many
      ∙ same-listed n (terms_in variables parts) formed f are
