-- The sets that `Assumptions` works out have exactly the assumptions that it says in words.
-- Assumes nothing.
use Rattle.std.specs.Prelude.{◌≡◌, Bool, true, false, cond, ◌↔◌, ◌⊎◌, ℕ, ◌+◌, ◌<◌, ◌≤◌, ltb, eqb, length, get_or}
use Rattle.std.proofs.Math.Path.{refl, sym}
use Rattle.std.proofs.Common.{◌∙◌, ap, subst, inl, inr, ⊎_elim, arith, ltb-true, ltb-false, eqb-true, length-append}
use mathlib.Core.List.{List, [], ◌∷◌, ◌++◌, map, append-nil}
use Rattle.std.proofs.lemmas.Bool.{eqb-false}
use Rattle.std.proofs.lemmas.List.{length-map}
use Rattle.std.proofs.Math.ListN.{get_or-append, get_or-eq_default, get_or-map}
use Rattle.std.proofs.Math.Seq.{get_or-append_seam, append_snoc}
use Rattle.grammar.specs.Certificate.{is_assumption}
use Rattle.grammar.specs.Tree.{Row, Multiplier, Reason, asm, lin, rnd, uns, sol, Derivation, Tree}
use Rattle.rules.specs.Tests.{Decides, In}
use Rattle.rules.proofs.Tests.{not-true, decides_as}
use Rattle.rules.specs.Rows.{Entry, given_row, derived_row, no_row, entries, entry_at}
use Rattle.rules.proofs.RowsLaws.{entry_given, entry_next, entry_beyond}
use Rattle.rules.specs.Assumptions.{IsAssumption, assumed, HasReason, Assumes, itself, by_lin, by_rnd, by_first, by_second, NoAssumptions, without, union_of, set_for, sets_from, sets_of, assumptions_of, is_empty}

-- ---- `asm` rows

decides_assumption : (why : Reason) → Decides (is_assumption why) (why ≡ asm)
decides_assumption asm = ((λ e. refl), λ e. refl)
decides_assumption (lin ms) = ((λ e. not-true e), λ e. absurd (let z : ◌≡◌ {A = ℕ} 0 1 = cc in omega arith))
decides_assumption (rnd ms) = ((λ e. not-true e), λ e. absurd (let z : ◌≡◌ {A = ℕ} 0 1 = cc in omega arith))
decides_assumption (uns u) = ((λ e. not-true e), λ e. absurd (let z : ◌≡◌ {A = ℕ} 0 1 = cc in omega arith))
decides_assumption sol = ((λ e. not-true e), λ e. absurd (let z : ◌≡◌ {A = ℕ} 0 1 = cc in omega arith))

pub decides_assumed : (e : Entry) → Decides (assumed e) (IsAssumption e)
decides_assumed (given_row row) = ((λ e. not-true e), λ h. absurd h)
decides_assumed (derived_row d) = decides_assumption d.reason

-- ---- membership

pub in_append : {A : Type 0} (a : A) (s t : List A) → In a (s ++ t) ↔ (In a s ⊎ In a t)
in_append a [] t = ((λ h. inr h), λ h. ⊎_elim (λ z. absurd z) (λ z. z) h)
in_append a (x ∷ s) t =
    let r = in_append a s t in (
      (λ h. ⊎_elim (λ e. inl (inl e)) (λ k. ⊎_elim (λ z. inl (inr z)) (λ z. inr z) (r.0 k)) h),
      λ h. ⊎_elim (λ k. ⊎_elim (λ e. inl e) (λ z. inr (r.1 (inl z))) k) (λ z. inr (r.1 (inr z))) h,
    )

pub in_without : (a l : ℕ) (s : List ℕ) → In a (without l s) ↔ (In a s × (l ≡ a → ⊥))
in_without a l [] = ((λ h. absurd h), λ h. absurd h.0)
in_without a l (i ∷ s) = go (eqb i l) refl (in_without a l s)
  where
    go : (t : Bool) → eqb i l ≡ t → In a (without l s) ↔ (In a s × (l ≡ a → ⊥)) → In a (cond t (without l s) (i ∷ without l s)) ↔ (((i ≡ a) ⊎ In a s) × (l ≡ a → ⊥))
    go true e r = (
      (λ h. let k = r.0 h in (inr k.0, k.1)),
      λ h. ⊎_elim (λ q. absurd (h.1 (sym (eqb-true i l e) ∙ q))) (λ k. r.1 (k, h.1)) h.0,
    )
    go false e r = (
      (λ h. ⊎_elim (λ q. (inl q, λ p. eqb-false i l e (q ∙ sym p))) (λ k. let z = r.0 k in (inr z.0, z.1)) h),
      λ h. ⊎_elim (λ q. inl q) (λ k. inr (r.1 (k, h.1))) h.0,
    )

-- without a row that is not in it, a set is what it was
without_stranger : (l : ℕ) (s : List ℕ) → (In l s → ⊥) → without l s ≡ s
without_stranger l [] none = refl
without_stranger l (i ∷ s) none = go (eqb i l) refl (without_stranger l s (λ h. none (inr h)))
  where
    go : (t : Bool) → eqb i l ≡ t → without l s ≡ s → cond t (without l s) (i ∷ without l s) ≡ i ∷ s
    go true e r = absurd (none (inl (eqb-true i l e)))
    go false e r = ap (λ (rest : List ℕ). i ∷ rest) r

pub in_union : (a : ℕ) (sets : List (List ℕ)) (ms : List Multiplier) → In a (union_of sets ms) ↔ ((m : Multiplier) × In m ms × In a (get_or sets m.row []))
in_union a sets [] = ((λ h. absurd h), λ h. absurd h.1)
in_union a sets (m ∷ ms) =
    let s = get_or sets m.row [] in
    let r = in_union a sets ms in
    let p = in_append a s (union_of sets ms) in (
      (λ h. ⊎_elim (λ k. (m, inl refl, k)) (λ k. let z = r.0 k in (z.0, inr z.1, z.2)) (p.0 h)),
      λ h. p.1 (⊎_elim (λ e. inl (subst (λ (n : Multiplier). In a (get_or sets n.row [])) (sym e) h.2)) (λ i. inr (r.1 (h.0, i, h.2))) h.1),
    )

pub decides_empty : (s : List ℕ) → Decides (is_empty s) ((a : ℕ) → In a s → ⊥)
decides_empty [] = ((λ e a h. h), λ f. refl)
decides_empty (i ∷ s) = ((λ e. not-true e), λ f. absurd (f i (inl refl)))

-- ---- the assumptions of a row by its reason

module _ (tree : Tree) (a : ℕ) where
  abbrev FromRow : ℕ → ℕ → Type 0
  FromRow i j = (j < i) × Assumes tree a j

  abbrev From : ℕ → Reason → Type 0
  From i asm = i ≡ a
  From i (lin ms) = (m : Multiplier) × In m ms.multipliers × FromRow i m.row
  From i (rnd ms) = (m : Multiplier) × In m ms.multipliers × FromRow i m.row
  From i (uns u) = (FromRow i u.i1 × (u.l1 ≡ a → ⊥)) ⊎ (FromRow i u.i2 × (u.l2 ≡ a → ⊥))
  From i sol = ⊥

  reason-one : (i : ℕ) (why other : Reason) → HasReason tree i why → HasReason tree i other → why ≡ other
  reason-one i why other p q =
      let e : derived_row p.0 ≡ derived_row q.0 = sym p.1 ∙ q.1 in
      let same : p.0 ≡ q.0 = cc in
      sym p.2 ∙ ap (λ (d : Derivation). d.reason) same ∙ q.2

  from_assumes : {i : ℕ} (why : Reason) → HasReason tree i why → Assumes tree a i → From i why
  from_assumes why h (itself {i = i} r e) = subst (From i) (reason-one i asm why r h) e
  from_assumes why h (by_lin {i = i} ms m r k l s) = subst (From i) (reason-one i (lin ms) why r h) (m, k, (l, s))
  from_assumes why h (by_rnd {i = i} ms m r k l s) = subst (From i) (reason-one i (rnd ms) why r h) (m, k, (l, s))
  from_assumes why h (by_first {i = i} u r l s n) = subst (From i) (reason-one i (uns u) why r h) (inl ((l, s), n))
  from_assumes why h (by_second {i = i} u r l s n) = subst (From i) (reason-one i (uns u) why r h) (inr ((l, s), n))

  to_assumes : (i : ℕ) (why : Reason) → HasReason tree i why → From i why → Assumes tree a i
  to_assumes i asm h f = itself h f
  to_assumes i (lin ms) h f = by_lin ms f.0 h f.1 f.2.0 f.2.1
  to_assumes i (rnd ms) h f = by_rnd ms f.0 h f.1 f.2.0 f.2.1
  to_assumes i (uns u) h f =
      ⊎_elim (λ k. by_first u h k.0.0 k.0.1 k.1) (λ k. by_second u h k.0.0 k.0.1 k.1) f
  to_assumes i sol h f = absurd f

  has_reason : {i : ℕ} → Assumes tree a i → (why : Reason) × HasReason tree i why
  has_reason (itself r e) = (asm, r)
  has_reason (by_lin ms m r k l s) = (lin ms, r)
  has_reason (by_rnd ms m r k l s) = (rnd ms, r)
  has_reason (by_first u r l s n) = (uns u, r)
  has_reason (by_second u r l s n) = (uns u, r)

  -- each is an `asm` row
  pub only_assumptions : {i : ℕ} → Assumes tree a i → IsAssumption (entry_at tree a)
  only_assumptions (itself r e) = subst (λ (j : ℕ). IsAssumption (entry_at tree j)) e (subst IsAssumption (sym r.1) r.2)
  only_assumptions (by_lin ms m r k l s) = only_assumptions s
  only_assumptions (by_rnd ms m r k l s) = only_assumptions s
  only_assumptions (by_first u r l s n) = only_assumptions s
  only_assumptions (by_second u r l s n) = only_assumptions s

  -- a given row has none
  none_given : (i : ℕ) (row : Row) → entry_at tree i ≡ given_row row → Assumes tree a i → ⊥
  none_given i row e s = let p = (has_reason s).1.1 in let z : ◌≡◌ {A = ℕ} 0 1 = cc in omega arith

-- ---- the sets

module _ (tree : Tree) where
  -- these sets are those of the first rows
  abbrev Right : List (List ℕ) → Type 0
  Right sets = (i : ℕ) → i < length sets → (a : ℕ) → In a (get_or sets i []) ↔ Assumes tree a i

  module _ (sets : List (List ℕ)) (right : Right sets) (a : ℕ) where
    -- the set of a row is looked up, where it is one of them
    looked_up : (j : ℕ) → In a (get_or sets j []) ↔ FromRow tree a (length sets) j
    looked_up j = go (ltb j (length sets)) refl
      where
        go : (t : Bool) → ltb j (length sets) ≡ t → In a (get_or sets j []) ↔ FromRow tree a (length sets) j
        go true e = let h = ltb-true j (length sets) e in ((λ k. (h, (right j h a).0 k)), λ k. (right j h a).1 k.1)
        go false e =
            let h = ltb-false j (length sets) e in
            ((λ k. absurd (subst (In a) (get_or-eq_default sets [] h) k)), λ k. absurd (omega arith))

    named_sets : (ms : List Multiplier) → In a (union_of sets ms) ↔ ((m : Multiplier) × In m ms × FromRow tree a (length sets) m.row)
    named_sets ms =
        let r = in_union a sets ms in
        ((λ h. let k = r.0 h in (k.0, k.1, (looked_up k.0.row).0 k.2)), λ h. r.1 (h.0, h.1, (looked_up h.0.row).1 h.2))

    set-without : (j l : ℕ) → In a (without l (get_or sets j [])) ↔ (FromRow tree a (length sets) j × (l ≡ a → ⊥))
    set-without j l =
        let r = in_without a l (get_or sets j []) in
        ((λ h. let k = r.0 h in ((looked_up j).0 k.0, k.1)), λ h. r.1 ((looked_up j).1 h.0, h.1))

    set_for_lem : (why : Reason) → In a (set_for sets (length sets) why) ↔ From tree a (length sets) why
    set_for_lem asm = ((λ h. ⊎_elim (λ e. e) (λ z. absurd z) h), λ e. inl e)
    set_for_lem (lin ms) = named_sets ms.multipliers
    set_for_lem (rnd ms) = named_sets ms.multipliers
    set_for_lem (uns u) =
        let r = in_append a (without u.l1 (get_or sets u.i1 [])) (without u.l2 (get_or sets u.i2 [])) in
        let p = set-without u.i1 u.l1 in
        let q = set-without u.i2 u.l2 in
        ((λ h. ⊎_elim (λ k. inl (p.0 k)) (λ k. inr (q.0 k)) (r.0 h)), λ h. r.1 (⊎_elim (λ k. inl (p.1 k)) (λ k. inr (q.1 k)) h))
    set_for_lem sol = ((λ h. h), λ h. h)

  -- one more set
  more_right : (sets : List (List ℕ)) (d : Derivation) → Right sets → entry_at tree (length sets) ≡ derived_row d → Right (sets ++ (set_for sets (length sets) d.reason ∷ []))
  more_right sets d right e i h a = go (ltb i (length sets)) refl
    where
      new : List ℕ
      new = set_for sets (length sets) d.reason

      last : i ≡ length sets → In a (get_or (sets ++ (new ∷ [])) i []) ↔ Assumes tree a i
      last q =
          let has : HasReason tree (length sets) d.reason = (d, e, refl) in
          let r = set_for_lem sets right a d.reason in
          subst (λ (j : ℕ). In a (get_or (sets ++ (new ∷ [])) j []) ↔ Assumes tree a j) (sym q)
          (rw (get_or-append_seam sets new [] [])
          ((λ k. to_assumes tree a (length sets) d.reason has (r.0 k)), λ s. r.1 (from_assumes tree a d.reason has s)))

      go : (t : Bool) → ltb i (length sets) ≡ t → In a (get_or (sets ++ (new ∷ [])) i []) ↔ Assumes tree a i
      go true p =
          let k = ltb-true i (length sets) p in
          rw (get_or-append sets (new ∷ []) [] i k) (right i k a)
      go false p = last (omega (arith, ltb-false i (length sets) p, simp length-append at h))

  all_right : (ds : List Derivation) (sets : List (List ℕ)) (front : List Entry) → entries tree ≡ front ++ map derived_row ds → length front ≡ length sets → Right sets
      → (i a : ℕ) → In a (get_or (sets_from sets ds) i []) ↔ Assumes tree a i
  all_right [] sets front p q right i a = go (ltb i (length sets)) refl
    where
      none : length sets ≤ i → entry_at tree i ≡ given_row no_row
      none h = entry_beyond tree i (rw (p, append-nil front, q) h)

      go : (t : Bool) → ltb i (length sets) ≡ t → In a (get_or sets i []) ↔ Assumes tree a i
      go true e = right i (ltb-true i (length sets) e) a
      go false e =
          let h = ltb-false i (length sets) e in
          ((λ k. absurd (subst (In a) (get_or-eq_default sets [] h) k)), λ s. absurd (none_given tree a i no_row (none h) s))
  all_right (d ∷ ds) sets front p q right i a =
      all_right ds (sets ++ (set_for sets (length sets) d.reason ∷ [])) (front ++ (derived_row d ∷ []))
      (p ∙ sym (append_snoc front (derived_row d) (map derived_row ds)))
      (length-append front (derived_row d ∷ []) ∙ ap (λ (n : ℕ). n + 1) q ∙ sym (length-append sets (set_for sets (length sets) d.reason ∷ [])))
      (more_right sets d right (entry_next tree front (derived_row d) (map derived_row ds) (length sets) p q)) i a

  -- the set of a row has exactly its assumptions
  pub assumptions_are : (i a : ℕ) → In a (assumptions_of tree i) ↔ Assumes tree a i
  unfolding assumptions_of sets_of entries
  assumptions_are i a =
      all_right tree.derivations.derivations start (map given_row rows) refl (length-map rows given_row ∙ sym (length-map rows (λ (row : Row). []))) begin i a
    where
      rows : List Row
      rows = tree.constraints.rows

      start : List (List ℕ)
      start = map (λ (row : Row). []) rows

      begin : Right start
      begin i h a = (
        (λ k. absurd (subst (In a) (get_or-map (λ (row : Row). []) rows i no_row) k)),
        λ s. absurd (none_given tree a i (get_or rows i no_row) (entry_given tree i (rw (length-map rows (λ (row : Row). [])) at h)) s),
      )

  -- removing a row that is no `asm` row from the set of a row removes nothing
  pub without_no_assumption : (i l : ℕ) → (IsAssumption (entry_at tree l) → ⊥) → without l (assumptions_of tree i) ≡ assumptions_of tree i
  without_no_assumption i l none = without_stranger l (assumptions_of tree i) (λ h. none (only_assumptions tree l ((assumptions_are i l).0 h)))

  pub decides_no_assumptions : (i : ℕ) → Decides (is_empty (assumptions_of tree i)) (NoAssumptions tree i)
  decides_no_assumptions i =
      decides_as (λ h a s. h a ((assumptions_are i a).1 s)) (λ h a k. h a ((assumptions_are i a).0 k)) (decides_empty (assumptions_of tree i))
