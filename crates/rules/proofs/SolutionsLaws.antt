-- What `Solutions` works out is what it says in words: left sides, feasible solutions, objectives, the end reached, the best.
-- Assumes nothing.
use Rattle.std.specs.Prelude.{◌≡◌, refl, Bool, true, false, cond, List, [], ◌∷◌, ◌↔◌, ◌⊎◌, ℕ}
use Rattle.std.proofs.Common.{ap, subst, inl, inr, ⊎_elim, arith}
use Rattle.std.proofs.Math.Option.{some}
use Rattle.arithmetic.proofs.QuotientLaws.{≈_refl, ≤Q-total, ≤Q_of_≈, ≤Q_of_<, ≤Q_trans, ≤Q_antisym}
use Rattle.arithmetic.specs.Fraction.{IsFraction, exact}
use Rattle.arithmetic.proofs.Meaning.{exact_positive, exact_unique}
use Rattle.arithmetic.specs.Laws.{zero_f}
use Rattle.arithmetic.proofs.Laws.{zero_is}
use Rattle.arithmetic.specs.declared.Fraction.{Fraction}
use Rattle.grammar.specs.Tree.{Term, Sense, equal, at_most, at_least, Row, Direction, minimize, maximize, End, infinite, finite, Solution, Tree}
use Rattle.rules.specs.Tests.{Decides, All, In}
use Rattle.rules.proofs.Tests.{failed, decides_some}
use Rattle.rules.specs.Result.{Says, Gives, Through, Each}
use Rattle.rules.proofs.Result.{says_as, says-require, says_then, says-bind, says-each, gives_bind, gives_through, gives_collect}
use Rattle.rules.specs.Values.{Whole, AtMost, product_at, sum_at}
use Rattle.rules.proofs.ValuesLaws.{decides_whole, decides_at_most, decides_same, gives_product, gives_sum}
use Rattle.rules.specs.Rows.{value_in, objective, terms_of}
use Rattle.rules.specs.Solutions.{AddsTerm, add_term, LeftSide, left_side, Holds, holds, RowHolds, check_row, Feasible, check_solution, Objectives, objectives_of, towards, Reached, reached, Best, best_from, best_of}

-- ---- left sides

pub gives_left-side : (place : ℕ) (values terms : List Term) → Gives (left_side place values terms) (LeftSide values terms)
unfolding left_side
gives_left-side place values terms = gives_through (add_term place values) (AddsTerm values) adds zero_f terms
  where
    adds : (sum : Fraction) (t : Term) → Gives (add_term place values sum t) (AddsTerm values sum t)
    adds sum t = gives_bind (product_at place t.coefficient (value_in values t.variable)) (λ p. sum_at place sum p) (gives_product place t.coefficient (value_in values t.variable)) (λ p. gives_sum place sum p)

-- a left side is a fraction
pub left-side_fraction : (values terms : List Term) (left : Fraction) → LeftSide values terms left → IsFraction left
left-side_fraction values terms left h = go zero_f terms zero_is h
  where
    go : (sum : Fraction) (terms : List Term) → IsFraction sum → Through (AddsTerm values) sum terms left → IsFraction left
    go sum [] v h = subst IsFraction h v
    go sum (t ∷ ts) v h = go h.0 ts h.1.2.1.0 h.2

-- ---- feasible solutions

pub decides_holds : (s : Sense) (left right : Fraction) → Decides (holds s left right) (Holds s left right)
decides_holds equal left right = decides_same left right
decides_holds at_most left right = decides_at_most left right
decides_holds at_least left right = decides_at_most right left

module _ (tree : Tree) (s : Solution) where
  pub says_row : (row : Row) → Says (check_row tree s row) (RowHolds tree s row)
  unfolding check_row
  says_row row =
      says_as (λ h. record { left = h.0; left-side = h.1; sense-holds = h.2 }) (λ h. (h.left, h.left-side, h.sense-holds))
      (says-bind (left_side s.name.place s.values.terms (terms_of tree row)) _
      (gives_left-side s.name.place s.values.terms (terms_of tree row))
      (λ left h. says-require (holds row.sense left row.right) 9 s.name.place (decides_holds row.sense left row.right)))

  pub says-solution : Says (check_solution tree s) (Feasible tree s)
  unfolding check_solution
  says-solution =
      says_as (λ h. record { integers-whole = h.0; rows_hold = h.1 }) (λ h. (h.integers-whole, h.rows_hold))
      (says_then _ _
      (says-each _ (λ v. Whole (value_in s.values.terms v)) (λ v. says-require _ 9 s.name.place (decides_whole (value_in s.values.terms v))) tree.integers.indices)
      (says-each (check_row tree s) (RowHolds tree s) says_row tree.constraints.rows))

-- ---- objectives

pub gives_objectives : (tree : Tree) → Gives (objectives_of tree) (Objectives tree)
unfolding objectives_of
gives_objectives tree =
    gives_collect _ (λ (s : Solution) o. LeftSide s.values.terms (objective tree) o)
    (λ s. gives_left-side s.name.place s.values.terms (objective tree)) tree.solutions.solutions

pub objectives_fractions : (tree : Tree) (os : List Fraction) → Objectives tree os → All IsFraction os
objectives_fractions tree os h = go tree.solutions.solutions os h
  where
    go : (ss : List Solution) (os : List Fraction) → Each (λ s o. LeftSide s.values.terms (objective tree) o) ss os → All IsFraction os
    go [] [] h = tt
    go [] (o ∷ os) h = absurd h
    go (s ∷ ss) [] h = absurd h
    go (s ∷ ss) (o ∷ os) h = (left-side_fraction s.values.terms (objective tree) o h.0, go ss os h.1)

pub decides_reached : (d : Direction) (e : End) (os : List Fraction) → Decides (reached d e os) (Reached d e os)
decides_reached d infinite os = ((λ e. tt), λ u. refl)
decides_reached d (finite bound) os = decides_some _ (λ o. Holds (towards d) o bound) (λ o. decides_holds (towards d) o bound) os

-- ---- the best objective

-- being as good is an order of fractions
at_most_refl : (a : Fraction) → IsFraction a → AtMost a a
at_most_refl a v = record { fractions = (v, v); compared = ≤Q_of_≈ (exact a) (exact a) (≈_refl (exact a)) }

at_most_trans : (a b c : Fraction) → AtMost a b → AtMost b c → AtMost a c
at_most_trans a b c h k =
    record { fractions = (h.fractions.0, k.fractions.1); compared = ≤Q_trans (exact a) (exact b) (exact c) (exact_positive b h.fractions.1) h.compared k.compared }

at_most_total : (a b : Fraction) → IsFraction a → IsFraction b → AtMost a b ⊎ AtMost b a
at_most_total a b v w =
    ⊎_elim (λ h. inl (record { fractions = (v, w); compared = h })) (λ h. inr (record { fractions = (w, v); compared = ≤Q_of_< (exact b) (exact a) h }))
    (≤Q-total (exact a) (exact b))

at_most_antisym : (a b : Fraction) → AtMost a b → AtMost b a → a ≡ b
at_most_antisym a b h k = exact_unique a b h.fractions.0 h.fractions.1 (≤Q_antisym (exact a) (exact b) h.compared k.compared)

good_refl : (d : Direction) (a : Fraction) → IsFraction a → Holds (towards d) a a
good_refl minimize a v = at_most_refl a v
good_refl maximize a v = at_most_refl a v

good_trans : (d : Direction) (a b c : Fraction) → Holds (towards d) a b → Holds (towards d) b c → Holds (towards d) a c
good_trans minimize a b c h k = at_most_trans a b c h k
good_trans maximize a b c h k = at_most_trans c b a k h

good_total : (d : Direction) (a b : Fraction) → IsFraction a → IsFraction b → Holds (towards d) a b ⊎ Holds (towards d) b a
good_total minimize a b v w = at_most_total a b v w
good_total maximize a b v w = at_most_total b a w v

good_antisym : (d : Direction) (a b : Fraction) → Holds (towards d) a b → Holds (towards d) b a → a ≡ b
good_antisym minimize a b h k = at_most_antisym a b h k
good_antisym maximize a b h k = at_most_antisym a b k h

pub all_in : {A : Type 0} (P : A → Type 0) (a : A) (xs : List A) → All P xs → In a xs → P a
all_in P a [] h i = absurd i
all_in P a (x ∷ xs) h (inl e) = subst P e h.0
all_in P a (x ∷ xs) h (inr i) = all_in P a xs h.1 i

module _ (d : Direction) where
  best_from_lem : (b : Fraction) (os : List Fraction) → IsFraction b → All IsFraction os → Best d (b ∷ os) (best_from d b os)
  best_from_lem b [] v w = record { is_one = inl refl; as_good = (good_refl d b v, tt) }
  best_from_lem b (o ∷ os) v w = go (holds (towards d) b o) refl (λ (c : Fraction) (u : IsFraction c). best_from_lem c os u w.1)
    where
      go : (t : Bool) → holds (towards d) b o ≡ t → ((c : Fraction) → IsFraction c → Best d (c ∷ os) (best_from d c os)) → Best d (b ∷ o ∷ os) (best_from d (cond t b o) os)
      go true e rest =
          let r = rest b v in
          let k = (decides_holds (towards d) b o).0 e in
          record {
            is_one = ⊎_elim (λ h. inl h) (λ h. inr (inr h)) r.is_one;
            as_good = (r.as_good.0, (good_trans d (best_from d b os) b o r.as_good.0 k, r.as_good.1));
          }
      go false e rest =
          let r = rest o w.0 in
          let k : Holds (towards d) o b = ⊎_elim (λ h. absurd (failed (decides_holds (towards d) b o) e h)) (λ h. h) (good_total d b o v w.0) in
          record {
            is_one = inr r.is_one;
            as_good = (good_trans d (best_from d o os) o b r.as_good.0 k, r.as_good);
          }

  best-one : (os : List Fraction) (a b : Fraction) → Best d os a → Best d os b → a ≡ b
  best-one os a b h k =
      good_antisym d a b (all_in (λ o. Holds (towards d) a o) b os h.as_good k.is_one) (all_in (λ o. Holds (towards d) b o) a os k.as_good h.is_one)

  -- the best of a list of fractions, where it has one, is the best in words
  pub best_is : (os : List Fraction) → All IsFraction os → (best : Fraction) → (best_of d os ≡ some best) ↔ Best d os best
  best_is [] w b = ((λ e. absurd (let z : ◌≡◌ {A = ℕ} 0 1 = cc in omega arith)), λ h. absurd h.is_one)
  best_is (o ∷ os) w b = (
    (λ e. let q : best_from d o os ≡ b = cc in subst (Best d (o ∷ os)) q (best_from_lem o os w.0 w.1)),
    λ h. ap some (best-one (o ∷ os) (best_from d o os) b (best_from_lem o os w.0 w.1) h),
  )
