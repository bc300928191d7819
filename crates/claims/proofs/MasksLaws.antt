-- The mask of one derivation more: if the masks of the rows before it have exactly the bits of their assumptions, so has its own.
-- Assumes nothing.
use mathlib.Core.Path.{◌≡◌, refl, sym, ◌∙◌, ap, ap₂, subst}
use mathlib.Core.Bool.{Bool, true, false, cond, ◌&&◌}
use mathlib.Core.List.{List, [], ◌∷◌, map}
use mathlib.Core.Logic.{◌⊎◌, inl, inr, ⊎_elim}
use Prim.Native.Nat.{ℕ, ◌+◌, ◌-◌, ◌≤◌, ◌<◌, max, min}
use native.Mathlib.Omega.{arith}
use borrow.Author.Tests.{eqb-true, eqb-false, eq-eqb, lt-ltb, le-ltb, ltb-true, ltb-false}
use lib.Dec.{eqb, ltb}
use lib.IntN.{ℤ}
use lib.ListN.{length, get_or, set, take, replicate, length-set, length-replicate, length-append, length-map, get_or-replicate}
use lib.Seq.{get_or-set_same, get_or-set_other}
use Rattle.tables.specs.Limits.{most_rows, most_assumptions}
use Rattle.tables.specs.declared.Header.{Header}
use Rattle.grammar.specs.Tree.{Multiplier, Reason, asm, lin, rnd, uns, sol, Row, Derivation, Tree}
use Rattle.grammar.specs.Certificate.{assumptions}
use Rattle.rules.specs.Tests.{All, In, Decides}
use Rattle.rules.proofs.Tests.{fails, failed, decides_as}
use Rattle.rules.specs.Rows.{Entry, given_row, derived_row, entries, entry_at}
use Rattle.rules.proofs.RowsLaws.{entry_given, entry_beyond}
use Rattle.rules.specs.Assumptions.{IsAssumption, assumed, HasReason, Assumes, itself, by_lin, by_rnd, by_first, by_second, NoAssumptions, assumptions_of, is_empty}
use Rattle.rules.proofs.AssumptionsLaws.{decides_assumed, only_assumptions, decides_no_assumptions}
use Rattle.rules.specs.Derivations.{named}
use Rattle.sets.specs.Sets.{bit, one}
use Rattle.sets.specs.SetsLaws.{bit_lt, bit-zero}
use Rattle.encoding.specs.Encodes.{EncodesDerivation, Encodes}
use Rattle.encoding.proofs.EncodesLaws.{given_are, rows_are, DerivedRow, derived_row_lem}
use Rattle.claims.specs.Masks.{number, mask_at, Represents, union_bit, removed, without_bit, reason_bit}
use Rattle.claims.proofs.Numbering.{number-next, number_once, number_few}

-- ---- the assumptions of a row by its reason

module _ (tree : Tree) (a : ℕ) where
  abbrev Without : ℕ → ℕ → ℕ → Type 0
  Without own i l = (i < own) × Assumes tree a i × (l ≡ a → ⊥)

  abbrev ByReason : ℕ → Reason → Type 0
  ByReason own asm = own ≡ a
  ByReason own (lin ms) = (m : Multiplier) × In m ms.multipliers × (m.row < own) × Assumes tree a m.row
  ByReason own (rnd ms) = (m : Multiplier) × In m ms.multipliers × (m.row < own) × Assumes tree a m.row
  ByReason own (uns u) = Without own u.i1 u.l1 ⊎ Without own u.i2 u.l2
  ByReason own sol = ⊥

  abbrev ByEntry : ℕ → Entry → Type 0
  ByEntry own (given_row row) = ⊥
  ByEntry own (derived_row d) = ByReason own d.reason

  by_reason : (own : ℕ) (why : Reason) → HasReason tree own why → ByReason own why → ByEntry own (entry_at tree own)
  by_reason own why has h = subst (ByEntry own) (sym has.1) (subst (ByReason own) (sym has.2) h)

  by_entry : {own : ℕ} → Assumes tree a own → ByEntry own (entry_at tree own)
  by_entry (itself {i = own} has e) = by_reason own asm has e
  by_entry (by_lin {i = own} ms m has i l s) = by_reason own (lin ms) has (m, i, l, s)
  by_entry (by_rnd {i = own} ms m has i l s) = by_reason own (rnd ms) has (m, i, l, s)
  by_entry (by_first {i = own} u has l s n) = by_reason own (uns u) has (inl (l, s, n))
  by_entry (by_second {i = own} u has l s n) = by_reason own (uns u) has (inr (l, s, n))

  -- an asm row is its own only assumption
  alone : (l : ℕ) → HasReason tree l asm → Assumes tree a l → l ≡ a
  alone l has s = subst (ByReason l) has.2 (subst (ByEntry l) has.1 (by_entry s))

has_asm : (tree : Tree) (l : ℕ) → IsAssumption (entry_at tree l) → HasReason tree l asm
has_asm tree l = go (entry_at tree l) refl
  where
    go : (e : Entry) → entry_at tree l ≡ e → IsAssumption e → HasReason tree l asm
    go (given_row row) q h = absurd h
    go (derived_row d) q h = (d, q, h)

-- ---- bits

bit_either : (m j : ℕ) → (bit m j ≡ 1) ⊎ (bit m j ≡ 0)
bit_either m j = go (eqb (bit m j) 1) refl
  where
    go : (t : Bool) → eqb (bit m j) 1 ≡ t → (bit m j ≡ 1) ⊎ (bit m j ≡ 0)
    go true e = inl (eqb-true (bit m j) 1 e)
    go false e = inr (omega (arith, bit_lt m j, eqb-false (bit m j) 1 e))

either_of : (x y : ℕ) → max x y ≡ 1 → (x ≡ 1) ⊎ (y ≡ 1)
either_of x y h = go (eqb x 1) refl
  where
    go : (t : Bool) → eqb x 1 ≡ t → (x ≡ 1) ⊎ (y ≡ 1)
    go true e = inl (eqb-true x 1 e)
    go false e = inr (omega (arith, h, eqb-false x 1 e))

single_at : (n : ℕ) → n < most_assumptions → one (eqb n n && ltb n most_assumptions) ≡ 1
single_at n h = ap (λ (b : Bool). one (b && ltb n most_assumptions)) (eq-eqb n n refl) ∙ ap one (lt-ltb n most_assumptions h)

single_only : (j n : ℕ) → one (eqb j n && ltb n most_assumptions) ≡ 1 → j ≡ n
single_only j n = go (eqb j n) refl
  where
    go : (t : Bool) → eqb j n ≡ t → one (t && ltb n most_assumptions) ≡ 1 → j ≡ n
    go true e h = eqb-true j n e
    go false e h = absurd (omega arith)

-- "`lin`, `rnd` the union"
module _ (masks : List ℕ) where
  abbrev union_of : List Multiplier → ℕ → ℕ
  union_of ms = union_bit masks (map (λ (m : Multiplier). m.row) ms)

  union_small : (rows : List ℕ) (j : ℕ) → union_bit masks rows j < 2
  union_small [] j = omega arith
  union_small (i ∷ rows) j = omega (arith, bit_lt (mask_at masks i) j, union_small rows j)

  union_listed : (ms : List Multiplier) (m : Multiplier) (j : ℕ) → In m ms → bit (mask_at masks m.row) j ≡ 1 → union_of ms j ≡ 1
  union_listed [] m j h e = absurd h
  union_listed (x ∷ ms) m j h e =
      ⊎_elim (λ q. omega (arith, subst (λ (y : Multiplier). bit (mask_at masks y.row) j ≡ 1) (sym q) e, union_small (map (λ (m : Multiplier). m.row) ms) j))
      (λ i. omega (arith, bit_lt (mask_at masks x.row) j, union_listed ms m j i e)) h

  union_marked : (ms : List Multiplier) (j : ℕ) → union_of ms j ≡ 1 → (m : Multiplier) × In m ms × (bit (mask_at masks m.row) j ≡ 1)
  union_marked [] j h = absurd (omega arith)
  union_marked (x ∷ ms) j h =
      ⊎_elim (λ e. (x, inl refl, e)) (λ e. let z = union_marked ms j e in (z.0, inr z.1, z.2)) (either_of _ _ h)

-- ---- masks in the array

pub mask_in : (masks : List ℕ) (r : ℕ) → r < most_rows → mask_at masks r ≡ get_or masks r 0
unfolding mask_at
mask_in masks r lt = ap (λ (b : Bool). cond b (get_or masks r 0) 0) (lt-ltb r most_rows lt)

mask_same : (masks more : List ℕ) (r : ℕ) → get_or masks r 0 ≡ get_or more r 0 → mask_at masks r ≡ mask_at more r
unfolding mask_at
mask_same masks more r e = ap (λ (m : ℕ). cond (ltb r most_rows) m 0) e

pub mask_beyond : (masks : List ℕ) (r : ℕ) → most_rows ≤ r → mask_at masks r ≡ 0
unfolding mask_at
mask_beyond masks r le = ap (λ (b : Bool). cond b (get_or masks r 0) 0) (le-ltb r most_rows le)

-- ---- the next mask

named_in : (own : ℕ) (ms : List Multiplier) (m : Multiplier) → All (λ i. i < own) (map (λ (m : Multiplier). m.row) ms) → In m ms → m.row < own
named_in own [] m h i = absurd i
named_in own (x ∷ ms) m h i = ⊎_elim (λ e. subst (λ (y : Multiplier). y.row < own) e h.0) (λ k. named_in own ms m h.1 k) i

-- before row `own`: the number of asm rows so far, and the masks, which have exactly the bits of the assumptions of the rows so far,
-- and no bit from there on
pub record Stand (tree : Tree) (own n : ℕ) (masks : List ℕ) : Type 0 where
  pub counted : number tree own ≡ n
  pub whole : length masks ≡ most_rows
  pub shown : (i : ℕ) → i < own → Represents tree (mask_at masks i) i
  pub empty : (i : ℕ) → own ≤ i → mask_at masks i ≡ 0

module _ {tree : Tree} {own n : ℕ} {masks : List ℕ} (now : Stand tree own n masks) where
  -- "A(i1) without l1"
  without-listed : (i l a : ℕ) → l < own → Without tree a own i l → without_bit tree masks i l (number tree a) ≡ 1
  without-listed i l a below h = go (assumed (entry_at tree l)) (decides_assumed (entry_at tree l))
    where
      j : ℕ
      j = number tree a

      here : bit (mask_at masks i) j ≡ 1
      here = (now.shown i h.0).listed a h.1

      other : IsAssumption (entry_at tree l) → bit (mask_at masks l) j ≡ 1 → ⊥
      other is e =
          let z = (now.shown l below).marked j e in
          let same : l ≡ z.0 = alone tree z.0 l (has_asm tree l is) z.1 in
          h.2 (same ∙ number_once tree z.0 a (only_assumptions tree z.0 z.1) (only_assumptions tree a h.1) z.2)

      go : (t : Bool) → Decides t (IsAssumption (entry_at tree l)) → removed t (bit (mask_at masks i) j) (bit (mask_at masks l) j) ≡ 1
      go true d = ⊎_elim (λ e. absurd (other (d.0 refl) e)) (λ e. omega (arith, here, e)) (bit_either (mask_at masks l) j)
      go false d = here

  without-marked : (i l j : ℕ) → i < own → l < own → without_bit tree masks i l j ≡ 1 → (a : ℕ) × Without tree a own i l × (number tree a ≡ j)
  without-marked i l j p q = go (assumed (entry_at tree l)) (decides_assumed (entry_at tree l))
    where
      found : bit (mask_at masks i) j ≡ 1 → ((a : ℕ) → Assumes tree a i → number tree a ≡ j → l ≡ a → ⊥) → (a : ℕ) × Without tree a own i l × (number tree a ≡ j)
      found e ne = let z = (now.shown i p).marked j e in (z.0, (p, z.1, ne z.0 z.1 z.2), z.2)

      go : (t : Bool) → Decides t (IsAssumption (entry_at tree l)) → removed t (bit (mask_at masks i) j) (bit (mask_at masks l) j) ≡ 1
          → (a : ℕ) × Without tree a own i l × (number tree a ≡ j)
      go true d h =
          found (omega (arith, h, bit_lt (mask_at masks i) j))
          (λ a s e same.
          let its : bit (mask_at masks l) j ≡ 1 = ap (bit (mask_at masks l)) (sym (ap (number tree) same ∙ e)) ∙ (now.shown l q).listed l (itself (has_asm tree l (d.0 refl)) refl) in
          omega (arith, h, its, bit_lt (mask_at masks i) j))
      go false d h = found h (λ a s e same. failed d refl (subst (λ (b : ℕ). IsAssumption (entry_at tree b)) (sym same) (only_assumptions tree a s)))

  module _ (few : IsAssumption (entry_at tree own) → n < most_assumptions) where
    listed_by : (a : ℕ) (why : Reason) → HasReason tree own why → All (λ i. i < own) (named why) → ByReason tree a own why → reason_bit tree masks n why (number tree a) ≡ 1
    listed_by a asm has below e =
        let same : number tree a ≡ n = ap (number tree) (sym e) ∙ now.counted in
        ap (λ (k : ℕ). one (eqb k n && ltb n most_assumptions)) same ∙ single_at n (few (subst IsAssumption (sym has.1) has.2))
    listed_by a (lin ms) has below h = union_listed masks ms.multipliers h.0 (number tree a) h.1 ((now.shown h.0.row h.2).listed a h.3)
    listed_by a (rnd ms) has below h = union_listed masks ms.multipliers h.0 (number tree a) h.1 ((now.shown h.0.row h.2).listed a h.3)
    listed_by a (uns u) has below h =
        ⊎_elim (λ w. omega (arith, without-listed u.i1 u.l1 a below.1.0 w, without_small u.i2 u.l2))
        (λ w. omega (arith, without-listed u.i2 u.l2 a below.1.1.1.0 w, without_small u.i1 u.l1)) h
      where
        without_small : (i l : ℕ) → without_bit tree masks i l (number tree a) < 2
        without_small i l = go (assumed (entry_at tree l))
          where
            go : (t : Bool) → removed t (bit (mask_at masks i) (number tree a)) (bit (mask_at masks l) (number tree a)) < 2
            go true = omega (arith, bit_lt (mask_at masks i) (number tree a))
            go false = bit_lt (mask_at masks i) (number tree a)
    listed_by a sol has below h = absurd h

    abbrev Found : ℕ → Type 0
    Found j = (a : ℕ) × Assumes tree a own × (number tree a ≡ j)

    marked_by : (j : ℕ) (why : Reason) → HasReason tree own why → All (λ i. i < own) (named why) → reason_bit tree masks n why j ≡ 1 → Found j
    marked_by j asm has below h = (own, itself has refl, now.counted ∙ sym (single_only j n h))
    marked_by j (lin ms) has below h =
        let z = union_marked masks ms.multipliers j h in
        let l = named_in own ms.multipliers z.0 below z.1 in
        let w = (now.shown z.0.row l).marked j z.2 in
        (w.0, by_lin ms z.0 has z.1 l w.1, w.2)
    marked_by j (rnd ms) has below h =
        let z = union_marked masks ms.multipliers j h in
        let l = named_in own ms.multipliers z.0 below z.1 in
        let w = (now.shown z.0.row l).marked j z.2 in
        (w.0, by_rnd ms z.0 has z.1 l w.1, w.2)
    marked_by j (uns u) has below h =
        ⊎_elim (λ e. let z = without-marked u.i1 u.l1 j below.0 below.1.0 e in (z.0, by_first u has z.1.0 z.1.1 z.1.2, z.2))
        (λ e. let z = without-marked u.i2 u.l2 j below.1.1.0 below.1.1.1.0 e in (z.0, by_second u has z.1.0 z.1.1 z.1.2, z.2)) (either_of _ _ h)
    marked_by j sol has below h = absurd (omega arith)

    -- by its reason
    represents_next : (d : Derivation) → entry_at tree own ≡ derived_row d → All (λ i. i < own) (named d.reason) → (r : ℕ)
        → ((j : ℕ) → bit r j ≡ reason_bit tree masks n d.reason j) → Represents tree r own
    represents_next d is below r bits =
        record {
          listed = λ a s. bits (number tree a) ∙ listed_by a d.reason (d, is, refl) below (subst (ByEntry tree a own) is (by_entry tree a s));
          marked = λ j e. marked_by j d.reason (d, is, refl) below (sym (bits j) ∙ e);
        }

-- ---- before the first derivation, after one more, and at the end

entries_are : (tree : Tree) → length (entries tree) ≡ length tree.constraints.rows + length tree.derivations.derivations
unfolding entries
entries_are tree =
    length-append (map given_row tree.constraints.rows) (map derived_row tree.derivations.derivations)
    ∙ ap₂ ◌+◌ (length-map tree.constraints.rows given_row) (length-map tree.derivations.derivations derived_row)

-- a row of no derivation has no assumptions
none_represented : (tree : Tree) (r : ℕ) {row : Row} → entry_at tree r ≡ given_row row → {mask : ℕ} → mask ≡ 0 → Represents tree mask r
none_represented tree r is z =
    record {
      listed = λ a s. absurd (subst (ByEntry tree a r) is (by_entry tree a s));
      marked = λ j e. absurd (omega (arith, e, ap (λ (m : ℕ). bit m j) z, bit-zero j));
    }

-- "all empty at the start"
all-empty : (i : ℕ) → mask_at (replicate most_rows 0) i ≡ 0
all-empty i = go (ltb i most_rows) refl
  where
    go : (t : Bool) → ltb i most_rows ≡ t → mask_at (replicate most_rows 0) i ≡ 0
    go true e = let lt = ltb-true i most_rows e in mask_in (replicate most_rows 0) i lt ∙ get_or-replicate {A = ℕ} most_rows i 0 0 lt
    go false e = mask_beyond (replicate most_rows 0) i (ltb-false i most_rows e)

pub stand_start : (tree : Tree) → Stand tree (length tree.constraints.rows) 0 (replicate most_rows 0)
stand_start tree =
    let given = length tree.constraints.rows in
    let none : given - given ≡ 0 = omega arith in
    record {
      counted = ap (λ (k : ℕ). assumptions (take k tree.derivations.derivations)) none;
      whole = length-replicate {A = ℕ} most_rows 0;
      shown = λ i h. none_represented tree i (entry_given tree i h) (all-empty i);
      empty = λ i h. all-empty i;
    }

module _ {tree : Tree} {h : Header} {index : List ℕ} {values : List ℤ} {rows : List ℕ} (e : Encodes tree h index values rows) where
  pub sets_start : Stand tree h.given 0 (replicate most_rows 0)
  sets_start = subst (λ (k : ℕ). Stand tree k 0 (replicate most_rows 0)) (sym (given_are e)) (stand_start tree)

  rows_most : h.rows ≤ most_rows
  rows_most = omega (arith, ap (λ (x : Header). x.rows) e.header_is, e.in_range.derivations_most)

  -- its set r is stored, and it is counted if it is an assumption
  pub sets_on : {own n : ℕ} {masks : List ℕ} (r m : ℕ) → h.given ≤ own → own < h.rows → Stand tree own n masks
      → ((d : Derivation) → EncodesDerivation index values rows own d → (j : ℕ) → bit r j ≡ reason_bit tree masks n d.reason j)
      → m ≡ cond (assumed (entry_at tree own)) (n + 1) n → Stand tree (own + 1) m (set masks own r)
  sets_on {own} {n} {masks} r m le lt now bits count =
      record {
        counted = number-next tree own (omega (arith, given_are e)) ∙ ap (λ (k : ℕ). cond (assumed (entry_at tree own)) (k + 1) k) now.counted ∙ sym count;
        whole = length-set masks own r ∙ now.whole;
        shown = λ i l. go i l (eqb i own) refl;
        empty = λ i l. other i (λ q. omega (arith, q)) ∙ now.empty i (omega arith);
      }
    where
      row : DerivedRow tree index values rows own
      row = derived_row_lem e own le lt

      few : IsAssumption (entry_at tree own) → n < most_assumptions
      few is = subst (λ (k : ℕ). k < most_assumptions) now.counted (number_few tree e.in_range own is (omega (arith, rows_are e, given_are e)))

      new : Represents tree r own
      new = represents_next now few row.derivation row.entry_is row.encodes.named-below r (bits row.derivation row.encodes)

      other : (i : ℕ) → (i ≡ own → ⊥) → mask_at (set masks own r) i ≡ mask_at masks i
      other i ne = mask_same (set masks own r) masks i (get_or-set_other masks own i r 0 ne)

      go : (i : ℕ) → i < own + 1 → (t : Bool) → eqb i own ≡ t → Represents tree (mask_at (set masks own r) i) i
      go i l true q = rw (eqb-true i own q, mask_in (set masks own r) own (omega (arith, rows_most)), get_or-set_same masks own r 0 (omega (arith, rows_most, now.whole))) new
      go i l false q = let ne = eqb-false i own q in rw (other i ne) (now.shown i (omega (arith, ne)))

  -- of every row, and of none
  pub sets_end : {own n : ℕ} {masks : List ℕ} → Stand tree own n masks → min h.rows most_rows ≤ own → (r : ℕ) → Represents tree (mask_at masks r) r
  sets_end {own} {masks = masks} now le r = go (ltb r own) refl
    where
      go : (t : Bool) → ltb r own ≡ t → Represents tree (mask_at masks r) r
      go true q = now.shown r (ltb-true r own q)
      go false q =
          let past = ltb-false r own q in
          none_represented tree r (entry_beyond tree r (omega (arith, past, rows_most, rows_are e, given_are e, entries_are tree))) (now.empty r past)

-- "with no assumptions"
pub free_by : {tree : Tree} {mask : ℕ} (r : ℕ) → Represents tree mask r → {s : ℕ} → s ≡ mask → (b : Bool) → Decides b ((j : ℕ) → bit s j ≡ 0) → b ≡ is_empty (assumptions_of tree r)
free_by {tree} {mask} r p {s} e b d = go b (is_empty (assumptions_of tree r)) d (decides_as to from (decides_no_assumptions tree r))
  where
    to : NoAssumptions tree r → (j : ℕ) → bit s j ≡ 0
    to none j = ap (λ (m : ℕ). bit m j) e ∙ ⊎_elim (λ q. absurd (let z = p.marked j q in none z.0 z.1)) (λ q. q) (bit_either mask j)

    from : ((j : ℕ) → bit s j ≡ 0) → NoAssumptions tree r
    from z a h = omega (arith, z (number tree a), ap (λ (m : ℕ). bit m (number tree a)) e, p.listed a h)

    go : {P : Type 0} (a b : Bool) → Decides a P → Decides b P → a ≡ b
    go true b f g = sym (g.1 (f.0 refl))
    go false b f g = sym (fails b g (failed f refl))
