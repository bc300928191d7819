-- What is proved of the definitions in specs/Positions.antt.
-- Assumes nothing.
use Rattle.std.specs.Prelude.{◌≡◌, refl, ℕ, suc, ◌+◌, ◌≤◌, ◌<◌, length, get_or, take, drop}
use Rattle.std.proofs.Common.{sym, ◌∙◌, ap, ap₂, subst, subst₂, add-zero, add_assoc, arith, length-append, take_at, drop_at, length-take-le, get_or-append-add}
use mathlib.Core.List.Memᴰ
use mathlib.Core.List.{List, [], ◌∷◌, ◌++◌, append_assoc, append-nil, Memᴰ}
use Rattle.std.proofs.Math.ListN.{get_or-append}
use Rattle.std.proofs.Math.Seq.{slice, split_at}
use Rattle.text.specs.Bytes.{Bytes}
use Rattle.text.proofs.BytesLaws.{slice_take}
use Rattle.text.specs.Tokens.{Token}
use Rattle.arithmetic.specs.declared.Fraction.{Fraction}
use Rattle.grammar.specs.Format.{row_name, Format, symbol, then, items, view}
use Rattle.grammar.specs.Layout.{Mark, gather_items, gather, cells, values, marks_items, marks}
use Rattle.grammar.specs.Positions.{StandsAt, Within, Part, Begins}

module _ {A : Type 0} {all : List A} {position : ℕ} {xs : List A} (h : StandsAt all position xs) where
  -- element by element
  pub stands_get : (k : ℕ) (d : A) → k < length xs → get_or all (position + k) d ≡ get_or xs k d
  stands_get k d le =
      ap₂ (λ (l : List A) (n : ℕ). get_or l (n + k) d) h.cut (sym h.from)
      ∙ get_or-append-add h.before (xs ++ h.after) k d
      ∙ get_or-append xs h.after d k le

  -- as a slice
  pub stands_slice : slice position (position + length xs) all ≡ xs
  stands_slice =
      slice_take position (length xs) all
      ∙ ap (take (length xs)) (ap (drop position) h.cut ∙ drop_at h.before (xs ++ h.after) position h.from)
      ∙ take_at xs h.after (length xs) refl

  pub stands_inside : position + length xs ≤ length all
  stands_inside =
      let n = ap length h.cut ∙ length-append h.before (xs ++ h.after) in
      let m = length-append xs h.after in
      omega (arith, h.from)

  -- in a longer list
  pub stands_left : (ys : List A) → StandsAt (all ++ ys) position xs
  stands_left ys =
      record {
        before = h.before;
        after = h.after ++ ys;
        cut = ap (λ (l : List A). l ++ ys) h.cut ∙ append_assoc h.before (xs ++ h.after) ys ∙ ap (λ (l : List A). h.before ++ l) (append_assoc xs h.after ys);
        from = h.from;
      }

  pub stands_right : (ys : List A) → StandsAt (ys ++ all) (length ys + position) xs
  stands_right ys =
      record {
        before = ys ++ h.before;
        after = h.after;
        cut = ap (λ (l : List A). ys ++ l) h.cut ∙ sym (append_assoc ys h.before (xs ++ h.after));
        from = length-append ys h.before ∙ ap (λ (n : ℕ). length ys + n) h.from;
      }

-- the first of two parts, one after the other
pub stands_part : {A : Type 0} {all : List A} {position : ℕ} (xs ys : List A) → StandsAt all position (xs ++ ys) → StandsAt all position xs
stands_part {A} xs ys h =
    record { before = h.before; after = ys ++ h.after; cut = h.cut ∙ ap (λ (l : List A). h.before ++ l) (append_assoc xs ys h.after); from = h.from }

module _ {A : Type 0} where
  -- the second of two parts, one after the other
  pub stands_rest : {all : List A} {i : ℕ} (xs ys : List A) → StandsAt all i (xs ++ ys) → StandsAt all (i + length xs) ys
  stands_rest xs ys h =
      record {
        before = h.before ++ xs;
        after = h.after;
        cut = h.cut ∙ ap (λ (l : List A). h.before ++ l) (append_assoc xs ys h.after) ∙ sym (append_assoc h.before xs (ys ++ h.after));
        from = length-append h.before xs ∙ ap (λ (n : ℕ). n + length xs) h.from;
      }

  -- the first element of a part, and those after it
  pub stands_here : {all : List A} {i : ℕ} {x : A} {xs : List A} → StandsAt all i (x ∷ xs) → (d : A) → get_or all i d ≡ x
  stands_here {all} {i} h d = sym (ap (λ (n : ℕ). get_or all n d) (add-zero i)) ∙ stands_get h 0 d (omega arith)

  pub stands_next : {all : List A} {i : ℕ} {x : A} {xs : List A} → StandsAt all i (x ∷ xs) → StandsAt all (i + 1) xs
  stands_next {x = x} {xs = xs} h = stands_rest (x ∷ []) xs h

  -- an element of a list stands in it
  pub stands_one : (xs : List A) (k : ℕ) (d : A) → k < length xs → StandsAt xs k (get_or xs k d ∷ [])
  stands_one xs k d le =
      record { before = take k xs; after = drop (suc k) xs; cut = split_at xs k d le; from = length-take-le k xs (omega arith) }

pub stands_whole : {A : Type 0} (xs : List A) → StandsAt xs 0 xs
stands_whole xs = record { before = []; after = []; cut = sym (append-nil xs); from = refl }

module _ {B : Type 0} {h : Format B} {b : B} where
  within-left : {cs : List ℕ} {vs : List Fraction} {ms : ℕ → ℕ → List Mark} (ds : List ℕ) (ws : List Fraction) (ns : ℕ → ℕ → List Mark)
      → Within cs vs ms h b → Within (cs ++ ds) (vs ++ ws) (λ i v. ms i v ++ ns i v) h b
  within-left ds ws ns p =
      record {
        cell = p.cell;
        number = p.number;
        cells_stand = stands_left p.cells_stand ds;
        values_stand = stands_left p.values_stand ws;
        marks_among = λ i v m k. Memᴰ.append_left (ns i v) (p.marks_among i v m k);
      }

  within_right : (cs : List ℕ) (vs : List Fraction) (ms : ℕ → ℕ → List Mark) {ds : List ℕ} {ws : List Fraction} {ns : ℕ → ℕ → List Mark}
      → Within ds ws ns h b → Within (cs ++ ds) (vs ++ ws) (λ i v. ms i v ++ ns (i + length cs) (v + length vs)) h b
  within_right cs vs ms p =
      record {
        cell = length cs + p.cell;
        number = length vs + p.number;
        cells_stand = stands_right p.cells_stand cs;
        values_stand = stands_right p.values_stand vs;
        marks_among = λ i v m k.
            Memᴰ.append_right (ms i v)
            (p.marks_among (i + length cs) (v + length vs) m
            (subst₂ (λ (j w : ℕ). Memᴰ m (marks h b j w)) (sym (add_assoc i (length cs) p.cell)) (sym (add_assoc v (length vs) p.number)) k));
      }

pub part-whole : {A : Type 0} {f : Format A} {a : A} → Part f a f a
part-whole {f = f} {a = a} =
    record {
      within =
          record {
            cell = 0;
            number = 0;
            cells_stand = stands_whole (cells f a);
            values_stand = stands_whole (values f a);
            marks_among = λ i v m. subst₂ (λ (j w : ℕ). Memᴰ m (marks f a j w)) (add-zero i) (add-zero v);
          };
    }

module _ {A B : Type 0} {to : A → B} {from : B → A} {there : (a : A) → from (to a) ≡ a} {back : (b : B) → to (from b) ≡ b} {f : Format A} where
  pub part_view : {b : B} {D : Type 0} {h : Format D} {d : D} → Part f (from b) h d → Part (view to from there back f) b h d
  unfolding gather marks
  part_view p = record { within = p.within }

module _ {A : Type 0} {B : A → Type 0} {f : Format A} {g : (a : A) → Format (B a)} {ab : (a : A) × B a} {D : Type 0} {h : Format D} {d : D} where
  pub part-first : Part f ab.0 h d → Part (then f g) ab h d
  unfolding gather marks
  part-first p = record { within = within-left _ _ _ p.within }

  pub part_second : Part (g ab.0) ab.1 h d → Part (then f g) ab h d
  unfolding gather marks
  part_second p = record { within = within_right (cells f ab.0) (values f ab.0) (marks f ab.0) p.within }

-- the item x of a list, after those before it
module _ {A : Type 0} (g : List A → Format A) {D : Type 0} {h : Format D} {d : D} where
  items_within : (done before : List A) (x : A) (after : List A) → Part (g (done ++ before)) x h d
      → Within (gather_items (λ before x. cells (g before) x) done (before ++ (x ∷ after))) (gather_items (λ before x. values (g before) x) done (before ++ (x ∷ after)))
      (marks_items (λ before x. cells (g before) x) (λ before x. values (g before) x) (λ before x i v. marks (g before) x i v) done (before ++ (x ∷ after))) h d
  items_within done [] x after p = within-left _ _ _ (subst (λ (l : List A). Part (g l) x h d) (append-nil done) p).within
  items_within done (y ∷ before) x after p =
      within_right (cells (g done) y) (values (g done) y) (marks (g done) y)
      (items_within (done ++ (y ∷ [])) before x after (subst (λ (l : List A). Part (g l) x h d) (sym (append_assoc done (y ∷ []) before)) p))

  pub part_item : {n : ℕ} {xs : List A} (before : List A) (x : A) (after : List A) → xs ≡ before ++ (x ∷ after) → Part (g before) x h d → Part (items n g) xs h d
  unfolding gather marks
  part_item before x after e p = rw e (record { within = items_within [] before x after p })

pub begins_name : {row : ℕ} {used : List Bytes} {t : Token} → Begins (symbol (row_name row used)) t row t
unfolding marks
begins_name = record { marked = λ i v. Memᴰ.head refl }

module _ {row : ℕ} {name : Token} where
  pub begins_then : {A : Type 0} {B : A → Type 0} {f : Format A} {g : (a : A) → Format (B a)} {ab : (a : A) × B a} → Begins f ab.0 row name → Begins (then f g) ab row name
  unfolding marks
  begins_then h = record { marked = λ i v. Memᴰ.append_left _ (h.marked i v) }

  pub begins_view : {A B : Type 0} {to : A → B} {from : B → A} {there : (a : A) → from (to a) ≡ a} {back : (b : B) → to (from b) ≡ b} {f : Format A} {b : B}
      → Begins f (from b) row name → Begins (view to from there back f) b row name
  unfolding marks
  begins_view h = record { marked = h.marked }
