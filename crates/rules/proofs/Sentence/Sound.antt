-- Each rule keeps what holds at a point.
-- Assumes nothing.
use Rattle.std.specs.Prelude.{◌≡◌, Bool, true, false, ◌↔◌, ◌⊎◌, ℕ, zero, suc, ◌*◌, ◌/◌, ◌<◌, ℤ, pos, negsuc, neg_ℤ, nat_abs, ◌+ℤ◌, ◌*ℤ◌, ◌≤ℤ◌, ◌<ℤ◌}
use Rattle.std.proofs.Math.Path.{refl, sym, subst}
use Rattle.std.proofs.Common.{◌∙◌, ap, inl, inr, ⊎_elim, mul-pos, arith}
use mathlib.Core.List.{List, [], ◌∷◌}
use Rattle.std.proofs.Math.IntN.{zero-*ℤ, +ℤ_idr, neg_ℤ-neg_ℤ}
use Rattle.integers.specs.Integers.{ring, +ℤ-*ℤ, *ℤ-pos-one, *ℤ-neg_l, *ℤ-neg_r, *ℤ_mono, ≤ℤ-neg, ≤ℤ_trans, ≤ℤ-total, <ℤ-suc}
use Rattle.arithmetic.specs.Quotient.{◌≈◌, whole_q}
use Rattle.arithmetic.proofs.QuotientLaws.{≈_sym, <Q_clash}
use Rattle.arithmetic.specs.Fraction.{IsFraction, exact}
use Rattle.arithmetic.specs.Laws.{zero_f}
use Rattle.arithmetic.proofs.Laws.{zero_is}
use Rattle.arithmetic.specs.declared.Fraction.{Fraction}
use Rattle.grammar.specs.Tree.{Sense, equal, at_most, at_least, Row, Multiplier, Tree}
use Rattle.rules.specs.Tests.{All, EveryBelow}
use Rattle.rules.specs.Result.{Through}
use Rattle.rules.specs.Values.{whole_f, Whole, zero_q, is_zero}
use Rattle.rules.proofs.ValuesLaws.{decides_zero}
use Rattle.rules.specs.Rows.{variables, terms_of, Constraint, constraint_of, row_at}
use Rattle.rules.specs.Domination.{FailsAtZero, Absurd, SameCoefficients, Tighter, Dominates}
use Rattle.rules.specs.Combinations.{sign_of, signed, HasSense, Combination, empty_combination, Next, Denotes}
use Rattle.rules.specs.Rounding.{IsInteger, Integral, RoundsTo, Rounded}
use Rattle.rules.specs.Splits.{Adjacent, Split}
use Rattle.rules.proofs.SolutionsLaws.{all_in}
use Rattle.rules.proofs.Tests.{failed}
use Rattle.rules.specs.Sentence.Points.{Point, coordinate, Compares, HoldsAt}
use Rattle.rules.specs.Sentence.Formed.{RowFormed}
use Rattle.rules.proofs.Sentence.Senses.{Rel, rel_same, rel_eq, rel_add, rel_times, rel_cancel}
use Rattle.rules.proofs.Sentence.Scale.{scales_product, scales_whole, compares_scaled, common, common_positive, scaled, Fair, fair, fair_whole, scaled-whole, scaled-zero, fractions_compare, at_most_scaled, same-scaled, sum_scaled, product-scaled}
use Rattle.rules.proofs.Sentence.Lines.{weight, line, terms_compare, line_same, line-zero, line-terms, line_multiple}

-- ---- a factor of either sign

by_nonneg : (f y z : ℤ) → pos 0 ≤ℤ f → y ≤ℤ z → (f *ℤ y) ≤ℤ (f *ℤ z)
by_nonneg (pos k) y z h l = *ℤ_mono k y z l
by_nonneg (negsuc k) y z h l = absurd h.le

by_nonpos : (f y z : ℤ) → f ≤ℤ pos 0 → y ≤ℤ z → (f *ℤ z) ≤ℤ (f *ℤ y)
by_nonpos f y z h l =
    let turned : neg_ℤ (neg_ℤ f *ℤ z) ≤ℤ neg_ℤ (neg_ℤ f *ℤ y) = ≤ℤ-neg (neg_ℤ f *ℤ y) (neg_ℤ f *ℤ z) (by_nonneg (neg_ℤ f) y z (≤ℤ-neg f (pos 0) h) l) in
    rel_same at_most (back z) (back y) turned
  where
    back : (w : ℤ) → neg_ℤ (neg_ℤ f *ℤ w) ≡ f *ℤ w
    back w = ap neg_ℤ (*ℤ-neg_l f w) ∙ neg_ℤ-neg_ℤ (f *ℤ w)

minus : (f : ℤ) → f *ℤ negsuc 0 ≡ neg_ℤ f
minus f = *ℤ-neg_r f (pos 1) ∙ ap neg_ℤ (*ℤ-pos-one f)

-- a relation times a factor whose product with the relation's sign compares with 0 as u says
factor_rel : (s u : Sense) (f z y : ℤ) → Rel u (f *ℤ sign_of s) (pos 0) → Rel s z y → Rel u (f *ℤ z) (f *ℤ y)
factor_rel equal u f z y g h = rel_eq u (f *ℤ z) (f *ℤ y) (ap (λ (w : ℤ). f *ℤ w) h)
factor_rel at_least equal f z y g h =
    let e : f ≡ pos 0 = sym (*ℤ-pos-one f) ∙ g in
    ap (λ (w : ℤ). w *ℤ z) e ∙ zero-*ℤ z ∙ sym (ap (λ (w : ℤ). w *ℤ y) e ∙ zero-*ℤ y)
factor_rel at_least at_least f z y g h = by_nonneg f y z (rel_same at_most refl (*ℤ-pos-one f) g) h
factor_rel at_least at_most f z y g h = by_nonpos f y z (rel_same at_most (*ℤ-pos-one f) refl g) h
factor_rel at_most equal f z y g h =
    let e : f ≡ pos 0 = sym (neg_ℤ-neg_ℤ f) ∙ ap neg_ℤ (sym (minus f) ∙ g) in
    ap (λ (w : ℤ). w *ℤ z) e ∙ zero-*ℤ z ∙ sym (ap (λ (w : ℤ). w *ℤ y) e ∙ zero-*ℤ y)
factor_rel at_most at_least f z y g h = by_nonpos f z y (rel_same at_most (neg_ℤ-neg_ℤ f) refl (≤ℤ-neg (pos 0) (neg_ℤ f) (rel_same at_most refl (minus f) g))) h
factor_rel at_most at_most f z y g h = by_nonneg f z y (rel_same at_most refl (neg_ℤ-neg_ℤ f) (≤ℤ-neg (neg_ℤ f) (pos 0) (rel_same at_most (minus f) refl g))) h

-- ---- the sense of a combination: every multiplier times sign compares with 0 as it says

goes : (tree : Tree) (ms : List Multiplier) (u : Sense) → HasSense tree ms u → All (λ m. Compares u (signed tree m) zero_q) ms
goes tree ms equal h = h
goes tree ms at_least h = h.0
goes tree ms at_most h = h.0

signed-scaled : (tree : Tree) (m : Multiplier) (u : Sense) → Fair m.factor → Compares u (signed tree m) zero_q → Rel u (scaled m.factor *ℤ sign_of (row_at tree m.row).sense) (pos 0)
signed-scaled tree m u v h =
    let sign = sign_of (row_at tree m.row).sense in
    (compares_scaled u (common * 1) (signed tree m) zero_q (scaled m.factor *ℤ sign) (pos 0) (mul-pos common_positive (omega arith)) (mul-pos v.positive (omega arith)) (omega arith)
    (scales_product common 1 (exact m.factor) (whole_q sign) (scaled m.factor) sign v.scales refl)
    (ap (λ (z : ℤ). z *ℤ pos 1) (sym (zero-*ℤ (pos (common * 1)))) ∙ scales_whole (common * 1) (pos 0))).0 h

-- ---- at a point

zero-scaled : (f : Fraction) → exact f ≈ zero_q → scaled f ≡ pos 0
unfolding ◌≈◌ scaled
zero-scaled f e =
    ap (λ (z : ℤ). z *ℤ pos (common / nat_abs f.den)) (sym (*ℤ-pos-one f.num) ∙ e ∙ zero-*ℤ (pos (nat_abs f.den)))
    ∙ zero-*ℤ (pos (common / nat_abs f.den))

module _ (tree : Tree) (x : Point) where
  abbrev D : ℤ
  D = pos x.denominator

  abbrev n : ℕ
  n = variables tree

  -- a constraint is true at the point
  abbrev pub True : Constraint → Type 0
  True c = Rel c.sense (line x n c.coefficient) (scaled c.right *ℤ D)

  pub row_true : (row : Row) → RowFormed tree row → HoldsAt tree x row ↔ True (constraint_of tree row)
  unfolding constraint_of
  row_true row f =
      let r = terms_compare x row.sense n (terms_of tree row) row.right f.terms_formed (fair row.right f.right_fraction) in
      let e = line-terms x n (terms_of tree row) f.terms_formed in
      ((λ h. rel_same row.sense (sym e) refl (r.0 h)), λ h. r.1 (rel_same row.sense e refl h))

  -- ---- domination

  pub absurd_never : (c : Constraint) → Fair c.right → Absurd n c → True c → ⊥
  absurd_never c v a t =
      let zero-line = line-zero x n c.coefficient (λ w k. zero-scaled (c.coefficient w) (a.all-zero w k)) in
      never c.sense a.fails
      ((fractions_compare c.sense zero_f c.right (fair zero_f zero_is) v).1
      (rel_same c.sense (sym scaled-zero) refl
      (rel_cancel c.sense x.denominator (pos 0) (scaled c.right) x.positive (rel_same c.sense (zero-line ∙ sym (zero-*ℤ D)) refl t))))
    where
      never : (s : Sense) → FailsAtZero s c.right → Compares s zero_q (exact c.right) → ⊥
      never equal f h = f (≈_sym zero_q (exact c.right) h)
      never at_most f h = <Q_clash (exact c.right) zero_q f h
      never at_least f h = <Q_clash zero_q (exact c.right) f h

  tighter_true : (s : Sense) (b : Fraction) (s' : Sense) (b' : Fraction) (z : ℤ) → Tighter s b s' b' → Rel s z (scaled b *ℤ D) → Rel s' z (scaled b' *ℤ D)
  tighter_true at_least b at_least b' z t h = ≤ℤ_trans (scaled b' *ℤ D) (scaled b *ℤ D) z (rel_times at_most x.denominator (scaled b') (scaled b) (at_most_scaled b' b t)) h
  tighter_true equal b at_least b' z t h = rel_same at_most refl (sym h) (rel_times at_most x.denominator (scaled b') (scaled b) (at_most_scaled b' b t))
  tighter_true at_most b at_most b' z t h = ≤ℤ_trans z (scaled b *ℤ D) (scaled b' *ℤ D) h (rel_times at_most x.denominator (scaled b) (scaled b') (at_most_scaled b b' t))
  tighter_true equal b at_most b' z t h = rel_same at_most (sym h) refl (rel_times at_most x.denominator (scaled b) (scaled b') (at_most_scaled b b' t))
  tighter_true equal b equal b' z t h = h ∙ ap (λ (w : ℤ). w *ℤ D) (same-scaled b b' t)
  tighter_true at_most b at_least b' z t h = absurd t
  tighter_true at_most b equal b' z t h = absurd t
  tighter_true at_least b at_most b' z t h = absurd t
  tighter_true at_least b equal b' z t h = absurd t

  same_line : (c d : Constraint) → SameCoefficients n c d → line x n c.coefficient ≡ line x n d.coefficient
  same_line c d s = line_same x n c.coefficient d.coefficient (λ v k. same-scaled (c.coefficient v) (d.coefficient v) (s v k))

  pub dominated_true : (c d : Constraint) → Fair c.right → Dominates n c d → True c → True d
  dominated_true c d v (inl a) t = absurd (absurd_never c v a t)
  dominated_true c d v (inr h) t =
      tighter_true c.sense c.right d.sense d.right (line x n d.coefficient) h.1 (rel_same c.sense (same_line c d h.0) refl t)

  -- ---- combinations

  next_law : (k : ℕ) (l' l r' r b m w : ℤ) (u : Sense) → 0 < k → l' *ℤ pos k ≡ l *ℤ pos k +ℤ m *ℤ w → r' *ℤ pos k ≡ r *ℤ pos k +ℤ m *ℤ b
      → Rel u l (r *ℤ D) → Rel u (m *ℤ w) (m *ℤ (b *ℤ D)) → Rel u l' (r' *ℤ D)
  next_law k l' l r' r b m w u p el er h i =
      let one : (r' *ℤ D) *ℤ pos k ≡ (r' *ℤ pos k) *ℤ D = simp ring in
      let two : (r *ℤ pos k +ℤ m *ℤ b) *ℤ D ≡ (r *ℤ D) *ℤ pos k +ℤ m *ℤ (b *ℤ D) = simp ring in
      rel_cancel u k l' (r' *ℤ D) p
      (rel_same u (sym el) (sym (one ∙ ap (λ (z : ℤ). z *ℤ D) er ∙ two))
      (rel_add u (l *ℤ pos k) ((r *ℤ D) *ℤ pos k) (m *ℤ w) (m *ℤ (b *ℤ D)) (rel_times u k l (r *ℤ D) h) i))

  sum_law : (r' r p m b k : ℤ) → r' ≡ r +ℤ p → p *ℤ k ≡ m *ℤ b → r' *ℤ k ≡ r *ℤ k +ℤ m *ℤ b
  sum_law r' r p m b k e h = ap (λ (z : ℤ). z *ℤ k) e ∙ +ℤ-*ℤ r p k ∙ ap (λ (z : ℤ). r *ℤ k +ℤ z) h

  -- a combination so far: its relation, and a right side that is a fraction
  pub record Kept (u : Sense) (c : Combination) : Type 0 where
    pub right_fraction : IsFraction c.right
    pub so_far : Rel u (line x n c.coefficient) (scaled c.right *ℤ D)

  module _ (u : Sense) where
    next-kept : (m : Multiplier) (c next : Combination) → RowFormed tree (row_at tree m.row) → HoldsAt tree x (row_at tree m.row) → Compares u (signed tree m) zero_q
        → Next m.factor (terms_of tree (row_at tree m.row)) (row_at tree m.row).right c next → Kept u c → Kept u next
    next-kept m c next f h g e k =
        let row = row_at tree m.row in
        let ts = terms_of tree row in
        let left = e.0 in
        let p = e.2.0 in
        let s = e.2.2.0 in
        let product = e.2.1 in
        let sum = e.2.2.1 in
        let v = fair m.factor product.0.0 in
        let w = (terms_compare x row.sense n ts row.right f.terms_formed (fair row.right f.right_fraction)).0 h in
        subst (Kept u) e.2.2.2
        (record {
          right_fraction = sum.1.0;
          so_far =
              next_law common (line x n left) (line x n c.coefficient) (scaled s) (scaled c.right) (scaled row.right) (scaled m.factor) (weight x ts) u common_positive
              (line_multiple x n m.factor ts c.coefficient left f.terms_formed e.1)
              (sum_law (scaled s) (scaled c.right) (scaled p) (scaled m.factor) (scaled row.right) (pos common) (sum_scaled c.right p s sum) (product-scaled m.factor row.right p product))
              k.so_far
              (factor_rel row.sense u (scaled m.factor) (weight x ts) (scaled row.right *ℤ D) (signed-scaled tree m u v g) w);
        })

    Step : Combination → Multiplier → Combination → Type 0
    Step so_far m next = Next m.factor (terms_of tree (row_at tree m.row)) (row_at tree m.row).right so_far next

    all-kept : (ms : List Multiplier) (c d : Combination) → All (λ m. RowFormed tree (row_at tree m.row) × HoldsAt tree x (row_at tree m.row)) ms → All (λ m. Compares u (signed tree m) zero_q) ms
        → Through Step c ms d → Kept u c → Kept u d
    unfolding Step
    all-kept [] c d h g e k = subst (Kept u) e k
    all-kept (m ∷ ms) c d h g e k = all-kept ms e.0 d h.1 g.1 e.2 (next-kept m c e.0 h.0.0 h.0.1 g.0 e.1 k)

  -- the constraint that a suitable combination denotes is true where its rows hold
  pub combination_true : (ms : List Multiplier) (c : Constraint) → All (λ m. RowFormed tree (row_at tree m.row) × HoldsAt tree x (row_at tree m.row)) ms → Denotes tree ms c → Fair c.right × True c
  unfolding Step
  combination_true ms c h d =
      let k = all-kept c.sense ms empty_combination (record { coefficient = c.coefficient; right = c.right }) h (goes tree ms c.sense d.sense) d.combines start in
      (fair c.right k.right_fraction, k.so_far)
    where
      start : Kept c.sense empty_combination
      start =
          record {
            right_fraction = zero_is;
            so_far = rel_eq c.sense _ _ (line-zero x n (λ v. zero_f) (λ v l. scaled-zero) ∙ sym (ap (λ (z : ℤ). z *ℤ D) scaled-zero ∙ zero-*ℤ D));
          }

  -- ---- left sides that are whole

  module _ (whole : All (λ v. (z : ℤ) × (coordinate x v ≈ whole_q z)) tree.integers.indices) where
    coordinate-whole : (v : ℕ) → IsInteger tree v → (z : ℤ) × (x.numerator v ≡ z *ℤ D)
    unfolding ◌≈◌
    coordinate-whole v i =
        let w = all_in (λ v. (z : ℤ) × (coordinate x v ≈ whole_q z)) v tree.integers.indices whole i in
        (w.0, sym (*ℤ-pos-one (x.numerator v)) ∙ w.1)

    term_law : (s a b l y k d : ℤ) (w : ℤ) → s ≡ a *ℤ k → y ≡ b *ℤ d → l ≡ (w *ℤ d) *ℤ k → l +ℤ s *ℤ y ≡ ((w +ℤ a *ℤ b) *ℤ d) *ℤ k
    term_law s a b l y k d w es ey el =
        let one : (w *ℤ d) *ℤ k +ℤ (a *ℤ k) *ℤ (b *ℤ d) ≡ ((w +ℤ a *ℤ b) *ℤ d) *ℤ k = simp ring in
        ap (λ (z : ℤ). l +ℤ z *ℤ y) es ∙ ap (λ (z : ℤ). l +ℤ (a *ℤ k) *ℤ z) ey ∙ ap (λ (z : ℤ). z +ℤ (a *ℤ k) *ℤ (b *ℤ d)) el ∙ one

    -- a left side that is integral is a whole number, here times the denominator and `common`
    whole-line : (m : ℕ) (f : ℕ → Fraction) → EveryBelow m (λ v. Whole (f v) × ((exact (f v) ≈ zero_q → ⊥) → IsInteger tree v)) → (z : ℤ) × (line x m f ≡ (z *ℤ D) *ℤ pos common)
    whole-line zero f h = (pos 0, sym (ap (λ (z : ℤ). z *ℤ pos common) (zero-*ℤ D) ∙ zero-*ℤ (pos common)))
    whole-line (suc m) f h = go (is_zero (exact (f m))) refl (whole-line m f (λ v k. h v (omega arith))) (h m (omega arith))
      where
        go : (t : Bool) → is_zero (exact (f m)) ≡ t → (z : ℤ) × (line x m f ≡ (z *ℤ D) *ℤ pos common) → Whole (f m) × ((exact (f m) ≈ zero_q → ⊥) → IsInteger tree m)
            → (z : ℤ) × (line x m f +ℤ scaled (f m) *ℤ x.numerator m ≡ (z *ℤ D) *ℤ pos common)
        go true e r w =
            (r.0, ap (λ (z : ℤ). line x m f +ℤ z *ℤ x.numerator m) (zero-scaled (f m) ((decides_zero (exact (f m))).0 e)) ∙ ap (λ (z : ℤ). line x m f +ℤ z) (zero-*ℤ (x.numerator m)) ∙ +ℤ_idr (line x m f) ∙ r.1)
        go false e r w =
            let y = coordinate-whole m (w.1 (failed (decides_zero (exact (f m))) e)) in
            (r.0 +ℤ w.0.0 *ℤ y.0, term_law (scaled (f m)) w.0.0 y.0 (line x m f) (x.numerator m) (pos common) D r.0 (ap scaled w.0.1 ∙ scaled-whole w.0.0) y.1 r.1)

    -- ---- rounding

    module _ (s : Sense) (z : ℤ) where
      strip : (b : ℤ) → Rel s ((z *ℤ D) *ℤ pos common) (b *ℤ D) → Rel s (z *ℤ pos common) b
      strip b h =
          let one : (z *ℤ D) *ℤ pos common ≡ (z *ℤ pos common) *ℤ D = simp ring in
          rel_cancel s x.denominator (z *ℤ pos common) b x.positive (rel_same s one refl h)

      build : (w : ℤ) → Rel s z w → Rel s ((z *ℤ D) *ℤ pos common) ((w *ℤ pos common) *ℤ D)
      build w h =
          let one : (w *ℤ D) *ℤ pos common ≡ (w *ℤ pos common) *ℤ D = simp ring in
          rel_same s refl one (rel_times s common (z *ℤ D) (w *ℤ D) (rel_times s x.denominator z w h))

    rounds : (s : Sense) (b : Fraction) (z w : ℤ) → RoundsTo s (exact b) w → Compares s (whole_q z) (exact b) → Rel s z w
    rounds equal b z w r h = absurd r
    rounds at_most b z w r h = r.greatest z h
    rounds at_least b z w r h = r.least z h

    pub rounded_true : (c d : Constraint) → Fair c.right → Integral tree c → Rounded c d → True c → True d
    rounded_true c d v i r t =
        let l = whole-line n c.coefficient i in
        let z = l.0 in
        let h : Rel c.sense (scaled (whole_f z)) (scaled c.right) = rel_same c.sense (sym (scaled-whole z)) refl (strip c.sense z (scaled c.right) (rel_same c.sense l.1 refl t)) in
        let k = rounds c.sense c.right z r.whole r.rounds ((fractions_compare c.sense (whole_f z) c.right (fair_whole z) v).1 h) in
        let e : (r.whole *ℤ pos common) *ℤ D ≡ scaled d.right *ℤ D = ap (λ (y : ℤ). y *ℤ D) (sym (scaled-whole r.whole) ∙ ap scaled r.right_is) in
        let made : Rel c.sense (line x n d.coefficient) (scaled d.right *ℤ D) =
        rel_same c.sense (sym l.1 ∙ ap (line x n) r.same_coefficients_lem) e (build c.sense z r.whole k) in
        subst (λ (s : Sense). Rel s (line x n d.coefficient) (scaled d.right *ℤ D)) r.same-sense made

    -- ---- splits

    adjacent_true : (c d : Constraint) (z : ℤ) → Adjacent c d → line x n c.coefficient ≡ (z *ℤ D) *ℤ pos common → line x n d.coefficient ≡ (z *ℤ D) *ℤ pos common → True c ⊎ True d
    adjacent_true c d z a p q = ⊎_elim (λ h. inl (low h)) (λ h. inr (high h)) (≤ℤ-total z a.bound)
      where
        at : (e : Constraint) (s : Sense) (w : ℤ) → e.sense ≡ s → e.right ≡ whole_f w → line x n e.coefficient ≡ (z *ℤ D) *ℤ pos common → Rel s z w → True e
        at e s w es er el h =
            subst (λ (t : Sense). Rel t (line x n e.coefficient) (scaled e.right *ℤ D)) (sym es)
            (rel_same s (sym el) (ap (λ (y : ℤ). y *ℤ D) (sym (ap scaled er ∙ scaled-whole w))) (build s z w h))

        low : z ≤ℤ a.bound → True c
        low h = at c at_most a.bound a.sense_is_at_most a.is_bound p h

        high : a.bound <ℤ z → True d
        high h = at d at_least (a.bound +ℤ pos 1) a.sense_is_at_least a.is_next q (<ℤ-suc a.bound z h)

    -- one of the two holds
    pub split_true : (c d : Constraint) → Split tree c d → True c ⊎ True d
    split_true c d s =
        let l = whole-line n c.coefficient s.integral in
        let e = sym (same_line c d s.same_coefficients_lem) ∙ l.1 in
        ⊎_elim (λ a. adjacent_true c d l.0 a l.1 e) (λ a. ⊎_elim inr inl (adjacent_true d c l.0 a e l.1)) s.adjacent
