-- The sentence about points holds of every certificate that is well formed and meets the rules.
-- Assumes nothing.
use Rattle.std.specs.Prelude.{◌≡◌, List, [], ◌∷◌, ◌++◌, map, ◌↔◌, ◌⊎◌, ℕ, ◌+◌, ◌*◌, ◌<◌, length, get_or, ℤ, pos, ◌+ℤ◌, ◌*ℤ◌}
use Rattle.std.proofs.Math.Path.{refl}
use Rattle.std.proofs.Common.{sym, ◌∙◌, ap, subst, inl, inr, ⊎_elim, mul-pos, mul_comm, arith}
use Rattle.std.proofs.Math.Option.{Option, none, some}
use Rattle.std.proofs.Math.IntN.{zero-*ℤ, +ℤ_idl, +ℤ_idr, +ℤ_assoc}
use Rattle.integers.specs.Signs.{*ℤ_cancel}
use Rattle.integers.specs.Integers.{ring, +ℤ-*ℤ, ≤ℤ_trans, ≤ℤ-total, ≤ℤ_of_<}
use Rattle.arithmetic.specs.Quotient.{◌≈◌, whole_q}
use Rattle.arithmetic.specs.Fraction.{IsFraction, exact}
use Rattle.arithmetic.specs.Laws.{zero_f}
use Rattle.arithmetic.specs.declared.Fraction.{Fraction}
use Rattle.grammar.specs.Tree.{Term, Sense, equal, at_most, at_least, Row, Direction, minimize, maximize, End, infinite, finite, Claim, infeas, range, Solution, Derivation, Tree}
use Rattle.rules.specs.Tests.{All, Some}
use Rattle.rules.specs.Result.{Through, Each}
use Rattle.rules.specs.Values.{Whole}
use Rattle.rules.specs.Rows.{variables, value_in, objective, terms_of, Constraint, constraint_of, objective_with, Entry, given_row, derived_row, row_of, no_row, entry_at}
use Rattle.rules.proofs.RowsLaws.{entry_derived}
use Rattle.rules.specs.Solutions.{AddsTerm, LeftSide, Holds, RowHolds, Feasible, towards, end_to_reach, Reached, Best, best_of}
use Rattle.rules.proofs.SolutionsLaws.{left-side_fraction, objectives_fractions, best_is}
use Rattle.rules.specs.Domination.{Absurd, Dominates}
use Rattle.rules.specs.Claims.{asked_by, LastProves, Answers}
use Rattle.rules.specs.Meets.{Meets}
use Rattle.rules.specs.Sentence.Points.{Point, coordinate, value_at, objective_at, Compares, HoldsAt, FeasiblePoint, IsPointOf, SolutionFeasible, EveryFeasible, SomeListed, IfFinite, ClaimTrue, Sentence}
use Rattle.rules.specs.Sentence.Formed.{Formed, RowFormed, EndFormed, ClaimFormed, WellFormed}
use Rattle.rules.proofs.Sentence.Senses.{Rel, rel_same, rel_eq, rel_times, rel_cancel}
use Rattle.rules.proofs.Sentence.Scale.{Scales, scales_times, compares_scaled, common, common_positive, scaled, Fair, fair, scaled-zero, at_most_scaled, same-scaled, sum_scaled, product-scaled}
use Rattle.rules.proofs.Sentence.Lines.{value_fraction, weight, terms_compare, line-terms}
use Rattle.rules.proofs.Sentence.Sound.{True, row_true, absurd_never, dominated_true}
use Rattle.rules.proofs.Sentence.Derive.{all_zip, Good, row_formed, sound}

-- ---- lists

some_zip : {A : Type 0} {P Q R : A → Type 0} → ((a : A) → P a → Q a → R a) → (xs : List A) → All P xs → Some Q xs → Some R xs
some_zip f [] h k = absurd k
some_zip f (x ∷ xs) h (inl k) = inl (f x h.0 k)
some_zip f (x ∷ xs) h (inr k) = inr (some_zip f xs h.1 k)

some_one : {A : Type 0} (P : A → Type 0) (xs : List A) → Some P xs → (a : A) × P a
some_one P [] h = absurd h
some_one P (x ∷ xs) (inl h) = (x, h)
some_one P (x ∷ xs) (inr h) = some_one P xs h

-- what holds of one of the second list holds of what it comes of
some_each : {A B : Type 0} (R : A → B → Type 0) (Q : B → Type 0) (xs : List A) (ys : List B) → Each R xs ys → Some Q ys → Some (λ a. (b : B) × R a b × Q b) xs
some_each R Q [] [] e s = absurd s
some_each R Q [] (y ∷ ys) e s = absurd e
some_each R Q (x ∷ xs) [] e s = absurd s
some_each R Q (x ∷ xs) (y ∷ ys) e (inl q) = inl (y, e.0, q)
some_each R Q (x ∷ xs) (y ∷ ys) e (inr s) = inr (some_each R Q xs ys e.1 s)

-- ---- a left side at the point that a solution lists

term_law : (p a v y k e g s w : ℤ) (c : ℕ) → 0 < c → k ≡ pos c → p *ℤ k ≡ a *ℤ v → y *ℤ k ≡ v *ℤ e → g ≡ s +ℤ p → g *ℤ e +ℤ w ≡ s *ℤ e +ℤ (a *ℤ y +ℤ w)
term_law p a v y k e g s w c h q hp hy hg =
    let one : (p *ℤ e) *ℤ k ≡ (p *ℤ k) *ℤ e = simp ring in
    let two : (a *ℤ v) *ℤ e ≡ a *ℤ (v *ℤ e) = simp ring in
    let three : a *ℤ (y *ℤ k) ≡ (a *ℤ y) *ℤ k = simp ring in
    let all : (p *ℤ e) *ℤ k ≡ (a *ℤ y) *ℤ k = one ∙ ap (λ (z : ℤ). z *ℤ e) hp ∙ two ∙ ap (λ (z : ℤ). a *ℤ z) (sym hy) ∙ three in
    let same : p *ℤ e ≡ a *ℤ y = *ℤ_cancel (p *ℤ e) (a *ℤ y) c h (ap (λ (z : ℤ). (p *ℤ e) *ℤ z) (sym q) ∙ all ∙ ap (λ (z : ℤ). (a *ℤ y) *ℤ z) q) in
    ap (λ (z : ℤ). z *ℤ e +ℤ w) hg ∙ ap (λ (z : ℤ). z +ℤ w) (+ℤ-*ℤ s p e) ∙ +ℤ_assoc (s *ℤ e) (p *ℤ e) w ∙ ap (λ (z : ℤ). s *ℤ e +ℤ (z +ℤ w)) same

module _ (tree : Tree) (s : Solution) (x : Point) (is_point : IsPointOf tree s x) where
  abbrev D : ℤ
  D = pos x.denominator

  abbrev value : ℕ → Fraction
  value v = value_in s.values.terms v

  numerator_is : (v : ℕ) → v < variables tree → Fair (value v) → x.numerator v *ℤ pos common ≡ scaled (value v) *ℤ D
  numerator_is v l f =
      (compares_scaled equal (x.denominator * common) (coordinate x v) (exact (value v)) (x.numerator v *ℤ pos common) (scaled (value v) *ℤ D) (mul-pos x.positive common_positive) x.positive f.positive
      (scales_times x.denominator common (coordinate x v) (x.numerator v) refl)
      (subst (λ (k : ℕ). Scales k (exact (value v)) (scaled (value v) *ℤ D)) (mul_comm common x.denominator) (scales_times common x.denominator (exact (value v)) (scaled (value v)) f.scales))).0 (is_point v l)

  terms-at : (ts : List Term) (sum left : Fraction) → Formed (variables tree) ts → Through (AddsTerm s.values.terms) sum ts left → scaled left *ℤ D ≡ scaled sum *ℤ D +ℤ weight x ts
  terms-at [] sum left f e = ap (λ (g : Fraction). scaled g *ℤ D) (sym e) ∙ sym (+ℤ_idr (scaled sum *ℤ D))
  terms-at (t ∷ ts) sum left f e =
      let next = e.0 in
      let p = e.1.0 in
      let product = e.1.1 in
      let v = t.variable in
      terms-at ts next left f.1.1 e.2
      ∙ term_law (scaled p) (scaled t.coefficient) (scaled (value v)) (x.numerator v) (pos common) D (scaled next) (scaled sum) (weight x ts) common common_positive refl
      (product-scaled t.coefficient (value v) p product) (numerator_is v f.0.1 (fair (value v) product.0.1)) (sum_scaled sum p next e.1.2)

  -- a left side that was worked out is the sum at the point
  left_at : (ts : List Term) (left : Fraction) → Formed (variables tree) ts → LeftSide s.values.terms ts left → scaled left *ℤ D ≡ weight x ts
  left_at ts left f e =
      terms-at ts zero_f left f e ∙ ap (λ (z : ℤ). z *ℤ D +ℤ weight x ts) scaled-zero ∙ ap (λ (z : ℤ). z +ℤ weight x ts) (zero-*ℤ D) ∙ +ℤ_idl (weight x ts)

  -- a comparison of values, at the point's denominator
  holds-scaled : (sense : Sense) (left right : Fraction) → Holds sense left right → Rel sense (scaled left *ℤ D) (scaled right *ℤ D)
  holds-scaled equal left right h = rel_times equal x.denominator (scaled left) (scaled right) (same-scaled left right h)
  holds-scaled at_most left right h = rel_times at_most x.denominator (scaled left) (scaled right) (at_most_scaled left right h)
  holds-scaled at_least left right h = rel_times at_least x.denominator (scaled left) (scaled right) (at_most_scaled right left h)

  terms_hold : (sense : Sense) (ts : List Term) (left right : Fraction) → Formed (variables tree) ts → IsFraction right → LeftSide s.values.terms ts left → Holds sense left right → Compares sense (value_at ts x) (exact right)
  terms_hold sense ts left right f v l h =
      (terms_compare x sense (variables tree) ts right f (fair right v)).1 (rel_same sense (left_at ts left f l) refl (holds-scaled sense left right h))

  -- ---- each listed solution is a feasible point

  feasible_at : WellFormed tree → Feasible tree s → FeasiblePoint tree x
  feasible_at formed feasible =
      record {
        integers-whole = all_zip whole tree.integers.indices formed.integers-below feasible.integers-whole;
        rows_hold = all_zip row-holds tree.constraints.rows formed.rows_formed feasible.rows_hold;
      }
    where
      whole : (v : ℕ) → v < variables tree → Whole (value v) → (z : ℤ) × (coordinate x v ≈ whole_q z)
      whole v l w = (w.0, subst (λ (f : Fraction). coordinate x v ≈ exact f) w.1 (is_point v l))

      row-holds : (row : Row) → RowFormed tree row → RowHolds tree s row → HoldsAt tree x row
      row-holds row f h = terms_hold row.sense (terms_of tree row) h.left row.right f.terms_formed f.right_fraction h.left-side h.sense-holds

-- the point that a solution lists, over the common denominator
module _ (tree : Tree) (s : Solution) (formed : Formed (variables tree) s.values.terms) where
  point_of : Point
  point_of = record { numerator = λ v. scaled (value_in s.values.terms v); denominator = common; positive = common_positive }

  is_point_of : IsPointOf tree s point_of
  unfolding point_of ◌≈◌
  is_point_of v l = (fair (value_in s.values.terms v) (value_fraction (variables tree) s.values.terms formed v)).scales

-- ---- the claim

-- not better
abbrev against : Direction → Sense
against minimize = at_least
against maximize = at_most

one-or_other : (d : Direction) (a b : ℤ) → Rel (towards d) a b ⊎ Rel (against d) a b
one-or_other minimize a b = ⊎_elim (λ h. inl h) (λ h. inr (≤ℤ_of_< b a h)) (≤ℤ-total a b)
one-or_other maximize a b = ⊎_elim (λ h. inr h) (λ h. inl (≤ℤ_of_< b a h)) (≤ℤ-total a b)

against_trans : (d : Direction) (a b c : ℤ) → Rel (against d) a b → Rel (against d) b c → Rel (against d) a c
against_trans minimize a b c h k = ≤ℤ_trans c b a k h
against_trans maximize a b c h k = ≤ℤ_trans a b c h k

last_entry : (before : List Derivation) (last : Derivation) (e : Entry) → get_or (map derived_row (before ++ (last ∷ []))) (length before) e ≡ derived_row last
last_entry [] last e = refl
last_entry (d ∷ before) last e = last_entry before last e

module _ (tree : Tree) (formed : WellFormed tree) (meets : Meets tree) where
  abbrev direction : Direction
  direction = tree.objective.direction

  abbrev os : List Fraction
  os = meets.objectives

  abbrev GoodPoint : Point → Type 0
  GoodPoint x = Good tree os x

  -- a feasible point whose objective is b
  record Reaches (b : Fraction) : Type 0 where
    point : Point
    feasible : FeasiblePoint tree point
    objective_is : scaled b *ℤ pos point.denominator ≡ weight point (objective tree)
    fraction : IsFraction b

  abbrev Listed : Solution → Type 0
  Listed s = Formed (variables tree) s.values.terms × Feasible tree s

  listed-all : All Listed tree.solutions.solutions
  listed-all = all_zip (λ s a b. (a, b)) tree.solutions.solutions formed.solutions_formed meets.solutions_feasible

  -- some objective is that of a listed solution
  objectives_some : (Q : Fraction → Type 0) → Some Q os → Some (λ s. Listed s × ((b : Fraction) × LeftSide s.values.terms (objective tree) b × Q b)) tree.solutions.solutions
  objectives_some Q h = some_zip (λ s a b. (a, b)) tree.solutions.solutions listed-all (some_each _ Q tree.solutions.solutions os meets.objectives_are h)

  reaches : (s : Solution) → Listed s → (b : Fraction) → LeftSide s.values.terms (objective tree) b → Reaches b
  reaches s l b e =
      let x = point_of tree s l.0 in
      let p = is_point_of tree s l.0 in
      record {
        point = x;
        feasible = feasible_at tree s x p formed l.1;
        objective_is = left_at tree s x p (objective tree) b formed.objective_formed e;
        fraction = left-side_fraction s.values.terms (objective tree) b e;
      }

  best-reached : (b : Fraction) → Best direction os b → Reaches b
  best-reached b h =
      let i = some_one _ tree.solutions.solutions (objectives_some (λ o. o ≡ b) h.is_one) in
      subst Reaches i.1.1.2 (reaches i.0 i.1.0 i.1.1.0 i.1.1.1)

  -- a feasible point is as good as the best listed solution; or there is one, and the point is not better
  record Worse (x : Point) : Type 0 where
    value : Fraction
    by : Reaches value
    by_good : GoodPoint by.point
    than : Rel (against direction) (weight x (objective tree)) (scaled value *ℤ pos x.denominator)

  good_or_worse : (x : Point) → GoodPoint x ⊎ Worse x
  good_or_worse x = go (best_of direction os) refl
    where
      is : (b : Fraction) → (best_of direction os ≡ some b) ↔ Best direction os b
      is = best_is direction os (objectives_fractions tree os meets.objectives_are)

      go : (o : Option Fraction) → best_of direction os ≡ o → GoodPoint x ⊎ Worse x
      go none e = inl (λ best h. let p = (is best).1 h in absurd (let z : ◌≡◌ {A = ℕ} 0 1 = cc in omega arith))
      go (some b) e =
          ⊎_elim (λ h. inl (good x h))
          (λ h. inr (record { value = b; by = r; by_good = good r.point (rel_eq (towards direction) _ _ (sym r.objective_is)); than = h }))
          (one-or_other direction (weight x (objective tree)) (scaled b *ℤ pos x.denominator))
        where
          r : Reaches b
          r = best-reached b ((is b).0 e)

          good : (y : Point) → Rel (towards direction) (weight y (objective tree)) (scaled b *ℤ pos y.denominator) → GoodPoint y
          good y h best k =
              let p = (is best).1 k in
              let q : b ≡ best = cc in
              subst (λ (b : Fraction). Fair b × Rel (towards direction) (weight y (objective tree)) (scaled b *ℤ pos y.denominator)) q (fair b r.fraction, h)

  no_point : ((x : Point) → FeasiblePoint tree x → GoodPoint x → ⊥) → (x : Point) → FeasiblePoint tree x → ⊥
  no_point h x f = ⊎_elim (λ g. h x f g) (λ w. h w.by.point w.by.feasible w.by_good) (good_or_worse x)

  objective_rel : (x : Point) (s : Sense) (b : Fraction) → True tree x (objective_with tree s b) → Rel s (weight x (objective tree)) (scaled b *ℤ pos x.denominator)
  unfolding objective_with
  objective_rel x s b h = rel_same s (line-terms x (variables tree) (objective tree) formed.objective_formed) refl h

  -- what holds at the good feasible points holds at all
  none_beyond : (b : Fraction) → IsFraction b → ((x : Point) → FeasiblePoint tree x → GoodPoint x → True tree x (objective_with tree (against direction) b))
      → EveryFeasible tree (λ value. Compares (against direction) value (exact b))
  none_beyond b v h x f =
      (terms_compare x (against direction) (variables tree) (objective tree) b formed.objective_formed (fair b v)).1
      (⊎_elim (λ g. objective_rel x (against direction) b (h x f g)) worse (good_or_worse x))
    where
      worse : Worse x → Rel (against direction) (weight x (objective tree)) (scaled b *ℤ pos x.denominator)
      worse w =
          let y = w.by.point in
          let there = objective_rel y (against direction) b (h y w.by.feasible w.by_good) in
          let values = rel_cancel (against direction) y.denominator (scaled w.value) (scaled b) y.positive (rel_same (against direction) (sym w.by.objective_is) refl there) in
          against_trans direction (weight x (objective tree)) (scaled w.value *ℤ pos x.denominator) (scaled b *ℤ pos x.denominator) w.than (rel_times (against direction) x.denominator (scaled w.value) (scaled b) values)

  some_reaches : (sense : Sense) (b : Fraction) → IsFraction b → Some (λ o. Holds sense o b) os
      → SomeListed tree (λ value. Compares sense value (exact b))
  some_reaches sense b v h = some_zip at_point tree.solutions.solutions listed-all (objectives_some (λ o. Holds sense o b) h)
    where
      at_point : (s : Solution) → Listed s → Listed s × ((o : Fraction) × LeftSide s.values.terms (objective tree) o × Holds sense o b)
          → (x : Point) × IsPointOf tree s x × FeasiblePoint tree x × Compares sense (objective_at tree x) (exact b)
      at_point s l h =
          let x = point_of tree s l.0 in
          let p = is_point_of tree s l.0 in
          (x, p, feasible_at tree s x p formed l.1, terms_hold tree s x p sense (objective tree) h.1.0 b formed.objective_formed v h.1.1 h.1.2)

  -- ---- the last row

  module _ (P : Constraint → Type 0) (last : LastProves tree P) (x : Point) (feasible : FeasiblePoint tree x) (good : GoodPoint x) where
    abbrev own : ℕ
    own = length tree.constraints.rows + length last.before

    own_entry : entry_at tree own ≡ derived_row last.last
    own_entry =
        entry_derived tree (length last.before)
        ∙ ap (λ (ds : List Derivation). get_or (map derived_row ds) (length last.before) (given_row no_row)) last.is_last
        ∙ last_entry last.before last.last (given_row no_row)

    last-holds : HoldsAt tree x last.last.row
    last-holds =
        subst (λ (e : Entry). HoldsAt tree x (row_of e)) own_entry
        (sound tree formed x feasible os meets.rows_derived good own (λ a s. absurd (last.no_assumptions a s)))

    last_formed : RowFormed tree last.last.row
    last_formed = subst (λ (e : Entry). RowFormed tree (row_of e)) own_entry (row_formed tree formed x feasible os meets.rows_derived own)

    last_true : True tree x (constraint_of tree last.last.row)
    last_true = (row_true tree x last.last.row last_formed).0 last-holds

    last_fair : Fair (constraint_of tree last.last.row).right
    unfolding constraint_of
    last_fair = fair last.last.row.right last_formed.right_fraction

  asked_true : (c : Constraint) → LastProves tree (λ d. Dominates (variables tree) d c) → (x : Point) → FeasiblePoint tree x → GoodPoint x → True tree x c
  asked_true c last x f g =
      dominated_true tree x (constraint_of tree last.last.row) c (last_fair _ last x f g) last.proves (last_true _ last x f g)

  asked-never : LastProves tree (Absurd (variables tree)) → (x : Point) → FeasiblePoint tree x → GoodPoint x → ⊥
  asked-never last x f g = absurd_never tree x (constraint_of tree last.last.row) (last_fair _ last x f g) last.proves (last_true _ last x f g)

  -- ---- the claim

  bounded : (d : Direction) → direction ≡ d → (b : Fraction) → IsFraction b → LastProves tree (λ c. Dominates (variables tree) c (objective_with tree (against d) b))
      → EveryFeasible tree (λ value. Compares (against d) value (exact b))
  bounded d q b v a =
      subst (λ (d : Direction). EveryFeasible tree (λ value. Compares (against d) value (exact b))) q
      (none_beyond b v
      (subst (λ (d : Direction). (x : Point) → FeasiblePoint tree x → GoodPoint x → True tree x (objective_with tree (against d) b)) (sym q) (asked_true (objective_with tree (against d) b) a)))

  reached_by : (d : Direction) (e : End) → EndFormed e → Reached d e os → IfFinite e (λ bound. SomeListed tree (λ value. Compares (towards d) value bound))
  reached_by d infinite v r = tt
  reached_by d (finite b) v r = some_reaches (towards d) b v r

  claim-holds : (d : Direction) → direction ≡ d → (c : Claim) → ClaimFormed c → Reached d (end_to_reach d c) os → Answers tree (asked_by tree d c) → ClaimTrue tree d c
  claim-holds d q infeas v r a = no_point (asked-never a)
  claim-holds minimize q (range infinite upper) v r a = (tt, reached_by minimize upper v.1 r)
  claim-holds minimize q (range (finite b) upper) v r a = (bounded minimize q b v.0 a, reached_by minimize upper v.1 r)
  claim-holds maximize q (range lower infinite) v r a = (tt, reached_by maximize lower v.0 r)
  claim-holds maximize q (range lower (finite b)) v r a = (bounded maximize q b v.1 a, reached_by maximize lower v.0 r)

  pub sentence : Sentence tree
  sentence =
      record {
        solutions_feasible = all_zip solution tree.solutions.solutions formed.solutions_formed meets.solutions_feasible;
        claim_true = claim-holds direction refl tree.relation.claim formed.claim_formed meets.claim-reached meets.claim_proved;
      }
    where
      solution : (s : Solution) → Formed (variables tree) s.values.terms → Feasible tree s → SolutionFeasible tree s
      solution s f m = record { point = point_of tree s f; is_point = is_point_of tree s f; feasible = λ x p. feasible_at tree s x p formed m }
