-- Every row holds at a feasible point where its assumptions hold, if the point is as good as the best listed solution.
-- Assumes nothing.
use Rattle.std.specs.Prelude.{◌≡◌, Bool, true, false, ltb, eqb, get_or, pos, ◌*ℤ◌}
use Rattle.std.proofs.Math.Path.{refl, subst}
use Rattle.std.proofs.Common.{sym, ap, inl, inr, ⊎_elim, arith, ltb-true, ltb-false, eqb-true}
use mathlib.Core.List.{List, [], ◌∷◌, map}
use Prim.Native.Nat.{ℕ, zero, suc, ◌+◌, ◌-◌, ◌<◌}
use Rattle.std.proofs.lemmas.Bool.{eqb-false}
use Rattle.std.proofs.Math.ListN.{length}
use Rattle.arithmetic.proofs.QuotientLaws.{≈_refl}
use Rattle.arithmetic.proofs.Laws.{zero_is}
use Rattle.arithmetic.specs.declared.Fraction.{Fraction}
use Rattle.grammar.specs.Tree.{Multiplier, Unsplit, Reason, asm, lin, rnd, uns, sol, Derivation, Tree}
use Rattle.rules.specs.Tests.{All, In}
use Rattle.rules.specs.Result.{AllFrom}
use Rattle.rules.specs.Values.{zero_q}
use Rattle.rules.specs.Rows.{variables, objective, Constraint, constraint_of, objective_with, Entry, given_row, derived_row, row_of, no_row, entry_at, row_at}
use Rattle.rules.proofs.RowsLaws.{entry_given, entry_derived}
use Rattle.rules.specs.Solutions.{towards, Best}
use Rattle.rules.proofs.SolutionsLaws.{all_in}
use Rattle.rules.specs.Assumptions.{HasReason, Assumes, itself, by_lin, by_rnd, by_first, by_second}
use Rattle.rules.specs.Derivations.{named, DominatesRow, ByReason, Derived}
use Rattle.rules.specs.Sentence.Points.{Point, HoldsAt, FeasiblePoint}
use Rattle.rules.specs.Sentence.Formed.{RowFormed, DerivationFormed, WellFormed}
use Rattle.rules.proofs.Sentence.Senses.{Rel, rel_same}
use Rattle.rules.proofs.Sentence.Scale.{scaled, Fair, fair, fair_whole}
use Rattle.rules.proofs.Sentence.Lines.{weight, line-terms}
use Rattle.rules.proofs.Sentence.Sound.{True, row_true, dominated_true, combination_true, rounded_true, split_true}

-- ---- lists

all-at : {A : Type 0} (P : A → Type 0) (d : A) → P d → (xs : List A) → All P xs → (i : ℕ) → P (get_or xs i d)
all-at P d p [] h i = p
all-at P d p (x ∷ xs) h zero = h.0
all-at P d p (x ∷ xs) h (suc i) = all-at P d p xs h.1 i

all_by : {A : Type 0} (P : A → Type 0) (xs : List A) → ((a : A) → In a xs → P a) → All P xs
all_by P [] f = tt
all_by P (x ∷ xs) f = (f x (inl refl), all_by P xs (λ a i. f a (inr i)))

pub all_zip : {A : Type 0} {P Q R : A → Type 0} → ((a : A) → P a → Q a → R a) → (xs : List A) → All P xs → All Q xs → All R xs
all_zip f [] h k = tt
all_zip f (x ∷ xs) h k = (f x h.0 k.0, all_zip f xs h.1 k.1)

in_map : {A B : Type 0} (f : A → B) (a : A) (xs : List A) → In a xs → In (f a) (map f xs)
in_map f a [] i = absurd i
in_map f a (x ∷ xs) (inl e) = inl (ap f e)
in_map f a (x ∷ xs) (inr i) = inr (in_map f a xs i)

-- ---- rows

no_row_formed : (tree : Tree) → RowFormed tree no_row
no_row_formed tree = record { right_fraction = zero_is; terms_formed = tt }

-- a point is as good as the best of these objectives, where there is one
abbrev pub Good : Tree → List Fraction → Point → Type 0
Good tree os x =
    (best : Fraction) → Best tree.objective.direction os best
    → Fair best × Rel (towards tree.objective.direction) (weight x (objective tree)) (scaled best *ℤ pos x.denominator)

module _ (tree : Tree) (formed : WellFormed tree) (x : Point) (feasible : FeasiblePoint tree x)
    (os : List Fraction) (derived : AllFrom (Derived tree os) (length tree.constraints.rows) tree.derivations.derivations) where
  -- what is known of the row with an index
  Known : ℕ → Entry → Type 0
  Known i (given_row row) = RowFormed tree row × HoldsAt tree x row
  Known i (derived_row d) = DerivationFormed tree i d × Derived tree os i d

  known_none : (i : ℕ) → Known i (given_row no_row)
  unfolding Known
  known_none i = (no_row_formed tree, ≈_refl zero_q)

  known_derived : (k own : ℕ) (ds : List Derivation) → AllFrom (DerivationFormed tree) own ds → AllFrom (Derived tree os) own ds → Known (own + k) (get_or (map derived_row ds) k (given_row no_row))
  unfolding Known
  known_derived k own [] h l = known_none (own + k)
  known_derived zero own (d ∷ ds) h l = subst (λ (i : ℕ). Known i (derived_row d)) (omega arith) (h.0, l.0)
  known_derived (suc k) own (d ∷ ds) h l = subst (λ (i : ℕ). Known i (get_or (map derived_row ds) k (given_row no_row))) (omega arith) (known_derived k (suc own) ds h.1 l.1)

  known : (i : ℕ) → Known i (entry_at tree i)
  unfolding Known
  known i = go (ltb i m) refl
    where
      m : ℕ
      m = length tree.constraints.rows

      go : (t : Bool) → ltb i m ≡ t → Known i (entry_at tree i)
      go true e =
          subst (Known i) (sym (entry_given tree i (ltb-true i m e)))
          (all-at (λ row. RowFormed tree row × HoldsAt tree x row) no_row (known_none i) tree.constraints.rows (all_zip (λ row f h. (f, h)) tree.constraints.rows formed.rows_formed feasible.rows_hold) i)
      go false e =
          let q : m + (i - m) ≡ i = omega (arith, ltb-false i m e) in
          subst (λ (j : ℕ). Known j (entry_at tree j)) q
          (subst (Known (m + (i - m))) (sym (entry_derived tree (i - m))) (known_derived (i - m) m tree.derivations.derivations formed.derivations_formed derived))

  entry_formed : (i : ℕ) (e : Entry) → Known i e → RowFormed tree (row_of e)
  unfolding Known
  entry_formed i (given_row row) k = k.0
  entry_formed i (derived_row d) k = k.0.row_formed

  pub row_formed : (i : ℕ) → RowFormed tree (row_at tree i)
  row_formed i = entry_formed i (entry_at tree i) (known i)

  abbrev Holds : ℕ → Type 0
  Holds i = HoldsAt tree x (row_at tree i)

  abbrev Truth : Constraint → Type 0
  Truth c = True tree x c

  row_is_true : (i : ℕ) → Holds i → Truth (constraint_of tree (row_at tree i))
  row_is_true i h = (row_true tree x (row_at tree i) (row_formed i)).0 h

  row_fair : (i : ℕ) → Fair (constraint_of tree (row_at tree i)).right
  unfolding constraint_of
  row_fair i = fair (row_at tree i).right (row_formed i).right_fraction

  module _ (good : Good tree os x) where
    -- ---- one derived row

    module _ (i : ℕ) (d : Derivation) (is : entry_at tree i ≡ derived_row d) (formed-row : RowFormed tree d.row)
        (assumed : (a : ℕ) → Assumes tree a i → Holds a)
        (before : (j : ℕ) → j < i → ((a : ℕ) → Assumes tree a j → Holds a) → Holds j) where
      by : (c : Constraint) → Fair c.right → Truth c → DominatesRow tree c d.row → HoldsAt tree x d.row
      by c v t h = (row_true tree x d.row formed-row).1 (dominated_true tree x c (constraint_of tree d.row) v h t)

      -- rows that multipliers name hold, where their assumptions are among those of row i
      named_hold : (ms : List Multiplier) → All (λ j. j < i) (map (λ (m : Multiplier). m.row) ms)
          → ((m : Multiplier) → In m ms → m.row < i → (a : ℕ) → Assumes tree a m.row → Assumes tree a i)
          → All (λ m. RowFormed tree (row_at tree m.row) × HoldsAt tree x (row_at tree m.row)) ms
      named_hold ms below more =
          all_by _ ms (λ m k. let l = all_in (λ j. j < i) m.row (map (λ (m : Multiplier). m.row) ms) below (in_map (λ (m : Multiplier). m.row) m ms k) in
          (row_formed m.row, before m.row l (λ a s. assumed a (more m k l a s))))

      unsplit : (u : Unsplit) → HasReason tree i (uns u) → u.i1 < i → u.i2 < i → ByReason tree os d.row (uns u) → HoldsAt tree x d.row
      unsplit u has l1 l2 h =
          ⊎_elim first second (split_true tree x feasible.integers-whole (constraint_of tree (row_at tree u.l1)) (constraint_of tree (row_at tree u.l2)) h.proper.split)
        where
          -- the row holds at which one assumption of another does, and the others are among those of row i
          without : (l j : ℕ) → Holds l → (j < i) → ((a : ℕ) → Assumes tree a j → (l ≡ a → ⊥) → Assumes tree a i) → Holds j
          without l j hl k more = before j k (λ a s. go a s (eqb l a) refl)
            where
              go : (a : ℕ) → Assumes tree a j → (t : Bool) → eqb l a ≡ t → Holds a
              go a s true e = subst Holds (eqb-true l a e) hl
              go a s false e = assumed a (more a s (eqb-false l a e))

          first : Truth (constraint_of tree (row_at tree u.l1)) → HoldsAt tree x d.row
          first t =
              let hl = (row_true tree x (row_at tree u.l1) (row_formed u.l1)).1 t in
              let hi = without u.l1 u.i1 hl l1 (λ a s n. by_first u has l1 s n) in
              by (constraint_of tree (row_at tree u.i1)) (row_fair u.i1) (row_is_true u.i1 hi) h.first-dominates

          second : Truth (constraint_of tree (row_at tree u.l2)) → HoldsAt tree x d.row
          second t =
              let hl = (row_true tree x (row_at tree u.l2) (row_formed u.l2)).1 t in
              let hi = without u.l2 u.i2 hl l2 (λ a s n. by_second u has l2 s n) in
              by (constraint_of tree (row_at tree u.i2)) (row_fair u.i2) (row_is_true u.i2 hi) h.second_dominates

      by_best_lem : (best : Fraction) → Best tree.objective.direction os best → Fair (objective_with tree (towards tree.objective.direction) best).right × Truth (objective_with tree (towards tree.objective.direction) best)
      unfolding objective_with
      by_best_lem best is_best =
          let g = good best is_best in
          (g.0, rel_same (towards tree.objective.direction) (sym (line-terms x (variables tree) (objective tree) formed.objective_formed)) refl g.1)

      by_reason : (why : Reason) → d.reason ≡ why → All (λ j. j < i) (named why) → ByReason tree os d.row why → HoldsAt tree x d.row
      by_reason asm e below h = subst (λ (y : Entry). HoldsAt tree x (row_of y)) is (assumed i (itself (d, is, e) refl))
      by_reason (lin ms) e below h =
          let t = combination_true tree x ms.multipliers h.combination (named_hold ms.multipliers below (λ m k l a s. by_lin ms m (d, is, e) k l s)) h.denoted in
          by h.combination t.0 t.1 h.dominating
      by_reason (rnd ms) e below h =
          let t = combination_true tree x ms.multipliers h.combination (named_hold ms.multipliers below (λ m k l a s. by_rnd ms m (d, is, e) k l s)) h.denoted in
          by h.rounded_to (subst Fair h.obtained.right_is (fair_whole h.obtained.whole)) (rounded_true tree x feasible.integers-whole h.combination h.rounded_to t.0 h.can_be_rounded_lem.integral h.obtained t.1) h.dominating
      by_reason (uns u) e below h = unsplit u (d, is, e) below.0 below.1.1.0 h
      by_reason sol e below h = let b = by_best_lem h.best h.is_best in by (objective_with tree (towards tree.objective.direction) h.best) b.0 b.1 h.dominating

    -- ---- all rows

    entry_holds : (i : ℕ) (e : Entry) → entry_at tree i ≡ e → Known i e → ((a : ℕ) → Assumes tree a i → Holds a) → ((j : ℕ) → j < i → ((a : ℕ) → Assumes tree a j → Holds a) → Holds j) → HoldsAt tree x (row_of e)
    unfolding Known
    entry_holds i (given_row row) is k assumed before = k.1
    entry_holds i (derived_row d) is k assumed before = by_reason i d is k.0.row_formed assumed before d.reason refl k.0.named-below k.1.by_reason

    sound_below : (n i : ℕ) → i < n → ((a : ℕ) → Assumes tree a i → Holds a) → Holds i
    sound_below zero i h assumed = absurd (omega arith)
    sound_below (suc n) i h assumed = entry_holds i (entry_at tree i) refl (known i) assumed (λ j k. sound_below n j (omega arith))

    -- a row holds where its assumptions do
    pub sound : (i : ℕ) → ((a : ℕ) → Assumes tree a i → Holds a) → Holds i
    sound i assumed = sound_below (suc i) i (omega arith) assumed
