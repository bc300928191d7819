-- What is proved of the definitions in specs/Rows.antt.
-- Assumes nothing.
use Rattle.std.specs.Prelude.{◌≡◌, refl, ◌⊎◌, ◌≢◌, ℕ, zero, suc, ◌+◌, ◌*◌, ◌≤◌, ◌<◌, ℤ, length, get_or, take, drop, set, replicate}
use Rattle.std.proofs.Common.{sym, ◌∙◌, ap, subst, subst₂, inl, inr, add-zero, zero-add, arith, lit<, length-append, get_or-set_other, length-take-le}
use mathlib.Core.List.Memᴰ
use mathlib.Core.List.{List, [], ◌∷◌, ◌++◌, map, append_assoc, append-nil, Memᴰ}
use Rattle.std.proofs.lemmas.List.{length-replicate, length-map}
use Rattle.std.proofs.lemmas.List.Edits.{sets, sets-eq}
use Rattle.std.proofs.Math.Seq.{length-sets}
use Rattle.text.specs.Bytes.{Bytes}
use Rattle.text.specs.Tokens.{Token}
use Rattle.tables.specs.Limits.{row_cells, most_rows}
use Rattle.arithmetic.specs.declared.Fraction.{Fraction}
use Rattle.grammar.specs.Tree.{Row, Solution, Derivation, Tree}
use Rattle.grammar.specs.Format.{Format}
use Rattle.grammar.specs.Certificate.{row_names, constraints, solution_section, derivation_section, certificate}
use Rattle.grammar.specs.Layout.{Mark, cells, values, marks}
use Rattle.grammar.specs.Texts.{SpellsTree}
use Rattle.grammar.specs.Tables.{index_table, by_turns, value_table, row_of, laid, row_table}
use Rattle.grammar.proofs.Fits.{by_turns_length}
use Rattle.grammar.specs.Ranges.{rows_of, TreeInRange, Once}
use Rattle.grammar.proofs.Ranges.{cut_append, cut_map, tree_in_range, rows-below, rows_once}
use Rattle.grammar.specs.Contents.{reason_cells, reason_values, last_cell, tree_rows, mark_rows, integers_cells, objective_cells, constraints_cells, constraints_values, claim_cells, claim_values, solutions_cells, solutions_values, derivations_cells, derivations_values, tree_cells, tree_values, row_index_cells, row_values, derivation_cells, derivation_values, term_cells, term_values, Lays}
use Rattle.grammar.proofs.Contents.{tree_rows_lem, tree_cells_lem, tree_values_lem, row_lays, derivation_lays, solution_lays}
use Rattle.grammar.specs.Positions.{StandsAt, Part, Begins}
use Rattle.grammar.proofs.Positions.{stands_get, stands_left, stands_part, part-whole, part_view, part-first, part_second, part_item, begins_name, begins_then, begins_view}
use Rattle.grammar.specs.Rows.{Kept, SectionsStand, RowAt}

module _ {tree : Tree} {row : ℕ} {name : Token} {A : Type 0} {h : Format A} {a : A} where
  kept : {C : A → List ℕ} {U : A → List Fraction} {R : A → List ℕ} → Part certificate tree h a → Begins h a row name → Lays h C U R → Kept tree row name (C a) (U a)
  kept p b l =
      let w = p.within in
      record {
        cell = w.cell;
        number = w.number;
        marked =
            subst₂ (λ (i v : ℕ). Memᴰ (record { row = row; name = name; cells = i; values = v }) (marks certificate tree 0 0)) (zero-add w.cell) (zero-add w.number)
            (w.marks_among 0 0 _ (b.marked (0 + w.cell) (0 + w.number)));
        cells_stand = subst (StandsAt (cells certificate tree) w.cell) (l.cells_are a) w.cells_stand;
        values_stand = subst (StandsAt (values certificate tree) w.number) (l.values_are a) w.values_stand;
      }

module _ (tree : Tree) where
  -- a part of a section
  module _ {D : Type 0} {h : Format D} {d : D} where
    in_constraints : Part (constraints tree.variables.count) tree.constraints h d → Part certificate tree h d
    in_constraints p = part_view (part_second (part_second (part_second (part_second (part-first p)))))

    in_solutions : Part (solution_section tree.variables.count) tree.solutions h d → Part certificate tree h d
    in_solutions p = part_view (part_second (part_second (part_second (part_second (part_second (part_second (part-first p)))))))

    in_derivations : Part (derivation_section tree.variables.count tree.constraints) tree.derivations h d → Part certificate tree h d
    in_derivations p = part_view (part_second (part_second (part_second (part_second (part_second (part_second (part_second p)))))))

  -- given row r: "Row r (0 to 1,023, constraint r) holds: .."
  pub given-kept : (before : List Row) (r : Row) (after : List Row) → tree.constraints.rows ≡ before ++ (r ∷ after)
      → Kept tree (length before) r.name (row_index_cells r) (row_values r)
  given-kept before r after e =
      kept
      (in_constraints (part_view (part_second (part_view (part_second (part_second (part_item _ before r after e part-whole)))))))
      (begins_view (begins_then begins_name))
      (row_lays tree.variables.count (length before) (row_names before))

  -- derivation d: its row is row m + d of the row table; its reason and its last index follow its row's cells
  pub derived_kept : (before : List Derivation) (d : Derivation) (after : List Derivation) → tree.derivations.derivations ≡ before ++ (d ∷ after)
      → Kept tree (tree.constraints.count + length before) d.row.name (derivation_cells d) (derivation_values d)
  derived_kept before d after e =
      kept
      (in_derivations (part_view (part_second (part_second (part_item _ before d after e part-whole)))))
      (begins_view (begins_then (begins_view (begins_then begins_name))))
      (derivation_lays tree.variables.count tree.constraints.count (row_names tree.constraints.rows) tree.derivations.count before)

  -- "Row 1,024+j, solution j: name place, length, cell of its count, number of values read before it"
  pub solution-kept : (before : List Solution) (s : Solution) (after : List Solution) → tree.solutions.solutions ≡ before ++ (s ∷ after)
      → Kept tree (most_rows + length before) s.name (term_cells s.values) (term_values s.values)
  solution-kept before s after e =
      kept
      (in_solutions (part_view (part_second (part_view (part_second (part_item _ before s after e part-whole))))))
      (begins_view (begins_then begins_name))
      (solution_lays tree.variables.count before)

-- row r of the certificate, given or derived
pub row_kept : {tree : Tree} → TreeInRange tree → (before : List Row) (r : Row) (after : List Row) → rows_of tree ≡ before ++ (r ∷ after)
    → Kept tree (length before) r.name (row_index_cells r) (row_values r)
row_kept {tree} t before r after e = either (cut_append tree.constraints.rows (map (λ (d : Derivation). d.row) tree.derivations.derivations) before r after e)
  where
    either : ((rest : List Row) × (tree.constraints.rows ≡ before ++ (r ∷ rest)))
        ⊎ ((mid : List Row) × (before ≡ tree.constraints.rows ++ mid) × (map (λ (d : Derivation). d.row) tree.derivations.derivations ≡ mid ++ (r ∷ after)))
        → Kept tree (length before) r.name (row_index_cells r) (row_values r)
    either (inl c) = given-kept tree before r c.0 c.1
    either (inr c) =
        let q = cut_map (λ (d : Derivation). d.row) tree.derivations.derivations c.0 r after c.2 in
        let k = derived_kept tree q.0 q.1 q.2 q.3 in
        let size : tree.constraints.count + length q.0 ≡ length before =
        omega (arith, ap length c.1, length-append tree.constraints.rows c.0, t.rows_counted, length-map q.0 (λ (d : Derivation). d.row), ap length q.4) in
        subst₂ (λ (n : ℕ) (x : Row). Kept tree n x.name (row_index_cells x) (row_values x)) size q.5
        (record {
          cell = k.cell;
          number = k.number;
          marked = k.marked;
          cells_stand = stands_part (row_index_cells q.1.row) (reason_cells q.1.reason ++ (last_cell q.1.last ∷ [])) k.cells_stand;
          values_stand = stands_part (row_values q.1.row) (reason_values q.1.reason) k.values_stand;
        })

module _ (tree : Tree) where
  -- a section after these, with what follows it
  in_cells : (before xs after : List ℕ) {at : ℕ} → tree_cells tree ≡ before ++ (xs ++ after) → length before ≡ at → StandsAt (cells certificate tree) at xs
  in_cells before xs after e n = record { before = before; after = after; cut = tree_cells_lem tree ∙ e; from = n }

  in_values : (before xs after : List Fraction) {at : ℕ} → tree_values tree ≡ before ++ (xs ++ after) → length before ≡ at → StandsAt (values certificate tree) at xs
  in_values before xs after e n = record { before = before; after = after; cut = tree_values_lem tree ∙ e; from = n }

  pub sections_stand : SectionsStand tree
  sections_stand =
      let v = tree.variables.count ∷ [] in
      let i = integers_cells tree.integers in
      let o = objective_cells tree.objective in
      let c = constraints_cells tree.constraints in
      let r = claim_cells tree.relation.claim in
      let s = solutions_cells tree.solutions in
      let d = derivations_cells tree.derivations in
      let x = term_values tree.objective.terms in
      let y = constraints_values tree.constraints in
      let z = claim_values tree.relation.claim in
      let w = solutions_values tree.solutions ++ derivations_values tree.derivations in
      record {
        variables = in_cells [] v (i ++ (o ++ (c ++ (r ++ (s ++ d))))) refl refl;
        integers = in_cells v i (o ++ (c ++ (r ++ (s ++ d)))) refl refl;
        objective = in_cells (v ++ i) o (c ++ (r ++ (s ++ d))) (simp append_assoc) (simp length-append);
        objective-values = in_values [] x (y ++ (z ++ w)) refl refl;
        constraints = in_cells (v ++ (i ++ o)) c (r ++ (s ++ d)) (simp append_assoc) (simp length-append (omega arith));
        claim = in_cells (v ++ (i ++ (o ++ c))) r (s ++ d) (simp append_assoc) (simp length-append (omega arith));
        claim-values = in_values (x ++ y) z w (simp append_assoc) (length-append x y);
        solutions = in_cells (v ++ (i ++ (o ++ (c ++ r)))) s d (simp append_assoc) (simp length-append (omega arith));
        derivations =
            in_cells (v ++ (i ++ (o ++ (c ++ (r ++ s))))) d []
            (ap (λ (l : List ℕ). v ++ (i ++ (o ++ (c ++ (r ++ (s ++ l)))))) (sym (append-nil d)) ∙ simp append_assoc) (simp length-append (omega arith));
      }

-- ---- in the tables

-- cells and values of a tree stand in the index table and in the value table at the same positions; a value takes two cells
pub index_stands : (size : ℕ) (tree : Tree) {at : ℕ} {xs : List ℕ} → StandsAt (cells certificate tree) at xs → StandsAt (index_table size tree) at xs
unfolding index_table
index_stands size tree h = stands_left h _

by_turns_append : (xs ys : List Fraction) → by_turns (xs ++ ys) ≡ by_turns xs ++ by_turns ys
by_turns_append [] ys = refl
by_turns_append (x ∷ xs) ys = ap (λ (l : List ℤ). x.num ∷ x.den ∷ l) (by_turns_append xs ys)

pub values_stand : (size : ℕ) (tree : Tree) {at : ℕ} {xs : List Fraction} → StandsAt (values certificate tree) at xs → StandsAt (value_table size tree) (2 * at) (by_turns xs)
unfolding value_table
values_stand size tree {at} {xs} h =
    stands_left
    (record {
      before = by_turns h.before;
      after = by_turns h.after;
      cut = ap by_turns h.cut ∙ by_turns_append h.before (xs ++ h.after) ∙ ap (λ (l : List ℤ). by_turns h.before ++ l) (by_turns_append xs h.after);
      from = by_turns_length h.before ∙ ap (λ (n : ℕ). 2 * n) h.from;
    }) _

-- a run of stores leaves the other cells as they were
sets_other : (vs l : List ℕ) (i j : ℕ) → ((k : ℕ) → k < length vs → j ≢ i + k) → get_or (sets l i vs) j 0 ≡ get_or l j 0
sets_other [] l i j h = refl
sets_other (v ∷ vs) l i j h =
    sets_other vs (set l i v) (suc i) j (λ k le. let n = h (suc k) (omega arith) in omega arith)
    ∙ get_or-set_other l i j v 0 (let n = h 0 (omega arith) in omega arith)

sets_stand : (vs l : List ℕ) (i : ℕ) → i + length vs ≤ length l → StandsAt (sets l i vs) i vs
sets_stand vs l i le =
    record {
      before = take i l;
      after = drop (i + length vs) l;
      cut = sets-eq vs l i le ∙ append_assoc (take i l) vs (drop (i + length vs) l);
      from = length-take-le i l (omega arith);
    }

-- the rows of marks, laid into a table one after the other
laid_other : (ms : List Mark) (table : List ℕ) (r k : ℕ) → k < 4 → (Memᴰ r (mark_rows ms) → ⊥) → get_or (laid table ms) (4 * r + k) 0 ≡ get_or table (4 * r + k) 0
laid_other [] table r k le free = refl
laid_other (m ∷ ms) table r k le free =
    laid_other ms (sets table (4 * m.row) (row_of m)) r k le (λ x. free (Memᴰ.tail x))
    ∙ sets_other (row_of m) table (4 * m.row) (4 * r + k) (λ j lt. let n : r ≢ m.row = λ e. free (Memᴰ.head e) in omega arith)

laid-at : (ms : List Mark) (table : List ℕ) → Once (mark_rows ms) → ((n : ℕ) → Memᴰ n (mark_rows ms) → 4 * n + 4 ≤ length table)
    → (m : Mark) → Memᴰ m ms → (k : ℕ) → k < 4 → get_or (laid table ms) (4 * m.row + k) 0 ≡ get_or (row_of m) k 0
laid-at [] table o f m x k le = absurd (Memᴰ.not-nil x)
laid-at (y ∷ ms) table o f m x k le =
    either (laid-at ms (sets table (4 * y.row) (row_of y)) o.1 (λ n z. rw (length-sets table (4 * y.row) (row_of y)) (f n (Memᴰ.tail z))) m)
    (Memᴰ.cases_cons x)
  where
    here : get_or (laid (sets table (4 * y.row) (row_of y)) ms) (4 * y.row + k) 0 ≡ get_or (row_of y) k 0
    here =
        laid_other ms (sets table (4 * y.row) (row_of y)) y.row k le o.0
        ∙ stands_get (sets_stand (row_of y) table (4 * y.row) (f y.row (Memᴰ.head refl))) k 0 le

    either : (Memᴰ m ms → (j : ℕ) → j < 4 → get_or (laid (sets table (4 * y.row) (row_of y)) ms) (4 * m.row + j) 0 ≡ get_or (row_of m) j 0) → (m ≡ y) ⊎ Memᴰ m ms
        → get_or (laid (sets table (4 * y.row) (row_of y)) ms) (4 * m.row + k) 0 ≡ get_or (row_of m) k 0
    either ih (inl e) = subst (λ (z : Mark). get_or (laid (sets table (4 * y.row) (row_of y)) ms) (4 * z.row + k) 0 ≡ get_or (row_of z) k 0) (sym e) here
    either ih (inr z) = ih z k le

-- a table of zeros
abbrev empty : ℕ → List ℕ
empty n = replicate n 0

zeros : (n i : ℕ) → get_or (empty n) i 0 ≡ 0
zeros zero i = refl
zeros (suc n) zero = refl
zeros (suc n) (suc i) = zeros n i

-- each mark's row is found in the row table
pub row_found : {text : Bytes} {tree : Tree} → SpellsTree text tree → (size : ℕ) → row_cells ≤ size → (m : Mark) → Memᴰ m (marks certificate tree 0 0)
    → RowAt (row_table size tree) m
unfolding row_table
row_found {tree = tree} s size enough m x =
    let t = tree_in_range s in
    let rows = tree_rows_lem tree in
    let once = subst Once (sym rows) (rows_once t) in
    let inside : (n : ℕ) → Memᴰ n (mark_rows (marks certificate tree 0 0)) → 4 * n + 4 ≤ length (empty size) =
    λ n k. let b = rows-below t n (subst (Memᴰ n) rows k) in omega (arith, length-replicate {A = ℕ} size 0) in
    let at = laid-at (marks certificate tree 0 0) (empty size) once inside m x in
    record { place = rw (add-zero (4 * m.row)) at (at 0 (lit< tt)); size = at 1 (lit< tt); cell = at 2 (lit< tt); number = at 3 (lit< tt) }

-- "every cell not named here is 0": the cells of a row that is no constraint's and no solution's
pub row_free : (tree : Tree) (size r : ℕ) → (Memᴰ r (tree_rows tree) → ⊥) → (k : ℕ) → k < 4 → get_or (row_table size tree) (4 * r + k) 0 ≡ 0
unfolding row_table
row_free tree size r free k le =
    laid_other (marks certificate tree 0 0) (empty size) r k le (λ x. free (subst (Memᴰ r) (tree_rows_lem tree) x))
    ∙ zeros size (4 * r + k)
