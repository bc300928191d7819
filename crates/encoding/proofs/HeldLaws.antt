-- The tables of a certificate that was read encode it: its integers, objective, rows, reasons, solutions and claim stand where they
-- are looked for.
-- Assumes nothing.
use Rattle.std.specs.Prelude.{◌≡◌, refl, Bool, true, false, ℕ, zero, suc, ◌+◌, ◌-◌, ◌*◌, ◌<◌, ltb, ℤ, length, get_or}
use Rattle.std.proofs.Common.{sym, ap, subst, add-zero, not-suc-le-zero, le_of_suc-le-suc, arith, ltb-true, ltb-false}
use mathlib.Core.List.Memᴰ
use mathlib.Core.List.{List, [], ◌∷◌, ◌++◌, map, Memᴰ}
use Rattle.text.specs.Tokens.{Token}
use Rattle.arithmetic.specs.Fraction.{IsFraction}
use Rattle.arithmetic.specs.declared.Fraction.{Fraction}
use Rattle.tables.specs.Limits.{most_rows}
use Rattle.grammar.specs.Tree.{Row, End, infinite, finite, Claim, infeas, range, Solution, Derivation, Tree}
use Rattle.grammar.specs.Certificate.{direction_cell, certificate}
use Rattle.grammar.specs.Layout.{Mark, cells, values}
use Rattle.grammar.specs.Contents.{term_cells, term_values, row_index_cells, row_values, reason_cells, reason_values, last_cell, derivation_cells, derivation_values, end_cell, end_values, claim_cells, claim_values}
use Rattle.grammar.proofs.Fits.{values_are}
use Rattle.grammar.specs.Header.{header_of}
use Rattle.grammar.specs.Lists.{Each}
use Rattle.grammar.specs.Positions.{StandsAt}
use Rattle.grammar.proofs.Positions.{stands_get, stands_part, stands_rest, stands_here, stands_next, stands_one}
use Rattle.grammar.specs.Ranges.{SideInRange, DerivationInRange, TreeInRange}
use Rattle.grammar.proofs.Ranges.{tree_in_range}
use Rattle.grammar.specs.Rows.{Kept, RowAt, objective_at, claim_at, claim_values_at}
use Rattle.grammar.proofs.Rows.{given-kept, derived_kept, solution-kept, row_found, sections_stand}
use Rattle.grammar.proofs.Rows as grammar
use Rattle.grammar.specs.Tables.{by_turns}
use Rattle.rules.specs.Tests.{All}
use Rattle.rules.specs.Result.{AllFrom}
use Rattle.rules.specs.Rows.{variables, objective, row_of, no_row, row_at}
use Rattle.rules.specs.Sentence.Formed.{Formed, RowFormed, DerivationFormed, EndFormed, ClaimFormed, WellFormed}
use Rattle.rules.proofs.Sentence.Spelled.{spelled_formed}
use Rattle.encoding.specs.Places.{terms_at, place_of, cell_of, number_of, reason_of, multipliers_of, after_word}
use Rattle.encoding.specs.Encodes.{EncodesRow, EncodesDerivation, EncodesSolution, EncodesEnd, EncodesClaim, no_derivation, derivation_at, no_solution, solution_at, Encodes}
use Rattle.encoding.proofs.EncodesLaws.{entry_given, entry_derived, last_most}
use Rattle.encoding.specs.Held.{Held}
use Rattle.encoding.specs.HeldPairs.{term, Turns}
use Rattle.encoding.proofs.HeldPairs.{part_stands, fraction_is, pairs_are, pairs_from_lem, side_size, own-terms, side_stands}
use Rattle.encoding.proofs.HeldReasons.{word_is, after_word_lem, named_stand, reason_stands}

-- ---- elements by their positions

module _ {A : Type 0} where
  all_get : (P : A → Type 0) (xs : List A) (k : ℕ) (d : A) → k < length xs → All P xs → P (get_or xs k d)
  all_get P [] k d le h = absurd (not-suc-le-zero le)
  all_get P (x ∷ xs) zero d le h = h.0
  all_get P (x ∷ xs) (suc k) d le h = all_get P xs k d (le_of_suc-le-suc le) h.1

  all_from_get : (P : ℕ → A → Type 0) (n : ℕ) (xs : List A) (k : ℕ) (d : A) → k < length xs → AllFrom P n xs → P (n + k) (get_or xs k d)
  all_from_get P n [] k d le h = absurd (not-suc-le-zero le)
  all_from_get P n (x ∷ xs) zero d le h = subst (λ (i : ℕ). P i x) (sym (add-zero n)) h.0
  all_from_get P n (x ∷ xs) (suc k) d le h =
      subst (λ (i : ℕ). P i (get_or xs k d)) (omega arith) (all_from_get P (suc n) xs k d (le_of_suc-le-suc le) h.1)

-- an element that stands in a list is among its elements
stands_among : {A : Type 0} {all : List A} {i : ℕ} {x : A} → StandsAt all i (x ∷ []) → Memᴰ x all
stands_among {x = x} s = rw s.cut (Memᴰ.append_right s.before (Memᴰ.head refl))

-- ---- the claim

end_size : (e : End) → length (end_values e) ≡ end_cell e
end_size infinite = refl
end_size (finite f) = refl

module _ {all : List Fraction} {values : List ℤ} (turns : Turns all values) where
  end_stands : (e : End) (n : ℕ) → EndFormed e → StandsAt all n (end_values e) → EncodesEnd values n e
  end_stands infinite n f v = tt
  end_stands (finite b) n f v = (fraction_is turns v, f)

  claim_stands : (index : List ℕ) (cell n : ℕ) (c : Claim) → ClaimFormed c → StandsAt index cell (claim_cells c) → StandsAt all n (claim_values c) → EncodesClaim index values cell n c
  claim_stands index cell n infeas f c v = stands_here c 0
  claim_stands index cell n (range lower upper) f c v = (
    (stands_here c 0, stands_get c 1 0 (omega arith), stands_get c 2 0 (omega arith)),
    (
      end_stands lower n f.0 (stands_part (end_values lower) (end_values upper) v),
      subst (λ (k : ℕ). EncodesEnd values (n + k) upper) (end_size lower)
          (end_stands upper (n + length (end_values lower)) f.1 (stands_rest (end_values lower) (end_values upper) v)),
    ),
  )

-- ---- in the tables of a certificate that was read

-- what the tables have for a name of the row table
record Found (tree : Tree) (index rows : List ℕ) (row : ℕ) (name : Token) (cs : List ℕ) (vs : List Fraction) : Type 0 where
  place_is : place_of rows row ≡ name.place
  cells_stand : StandsAt index (cell_of rows row) cs
  values_stand : StandsAt (values certificate tree) (number_of rows row) vs

module _ {tree : Tree} {index : List ℕ} {table : List ℤ} {rows : List ℕ} (h : Held tree index table rows) where
  in_range : TreeInRange tree
  in_range = tree_in_range h.spelled

  formed : WellFormed tree
  formed = spelled_formed tree h.spelled.tokens h.spelled.spelled

  fractions : Each IsFraction (values certificate tree)
  fractions = values_are certificate tree h.spelled.tokens h.spelled.spelled

  index_stands : {i : ℕ} {xs : List ℕ} → StandsAt (cells certificate tree) i xs → StandsAt index i xs
  index_stands {i} {xs} s = subst (λ (l : List ℕ). StandsAt l i xs) (sym h.index_is) (grammar.index_stands (length index) tree s)

  turns : Turns (values certificate tree) table
  turns =
      record {
        stand = λ {n} {fs} s. subst (λ (l : List ℤ). StandsAt l (2 * n) (by_turns fs)) (sym h.values_is) (grammar.values_stand (length table) tree s);
      }

  found : {row : ℕ} {name : Token} {cs : List ℕ} {vs : List Fraction} → Kept tree row name cs vs → Found tree index rows row name cs vs
  found {row} {name} {cs} {vs} k =
      let m : Mark = record { row = row; name = name; cells = k.cell; values = k.number } in
      let at = subst (λ (l : List ℕ). RowAt l m) (sym h.rows_is) (row_found h.spelled (length rows) h.row-cells m k.marked) in
      record {
        place_is = at.place;
        cells_stand = subst (λ (i : ℕ). StandsAt index i cs) (sym at.cell) (index_stands k.cells_stand);
        values_stand = subst (λ (n : ℕ). StandsAt (values certificate tree) n vs) (sym at.number) k.values_stand;
      }

  -- the objective
  objective_stands : terms_at index table (header_of tree).objective ≡ objective tree
  objective_stands =
      let s = sections_stand tree in
      pairs_are turns term in_range.objective.counted (objective_at tree + 2) 0
      (index_stands (stands_rest (direction_cell tree.objective.direction ∷ tree.objective.terms.count ∷ []) (map term.key tree.objective.terms.terms) s.objective))
      s.objective-values

  -- a row
  row_stands : {r : ℕ} (row : Row) → SideInRange tree.variables.count row.side → RowFormed tree row → Found tree index rows r row.name (row_index_cells row) (row_values row)
      → EncodesRow tree index table rows (header_of tree).objective r row
  row_stands {r} row side fine f =
      record {
        place_is = f.place_is;
        sense_is_lem = stands_here f.cells_stand 0;
        right_is = fraction_is turns f.values_stand;
        terms_are = side_stands in_range.variables_most rows r tree (header_of tree).objective turns objective_stands row.side side f.cells_stand f.values_stand;
        formed = fine;
      }

  given_stands : (r : ℕ) → r < tree.constraints.count → EncodesRow tree index table rows (header_of tree).objective r (get_or tree.constraints.rows r no_row)
  given_stands r le =
      let row = get_or tree.constraints.rows r no_row in
      let inside : r < length tree.constraints.rows = omega (arith, in_range.rows_counted) in
      let s = stands_one tree.constraints.rows r no_row inside in
      row_stands row (in_range.sides.holds row (stands_among s)) (all_get (RowFormed tree) tree.constraints.rows r no_row inside formed.rows_formed)
      (found (subst (λ (n : ℕ). Kept tree n row.name (row_index_cells row) (row_values row)) s.from (given-kept tree s.before row s.after s.cut)))

  -- a derivation, after its row
  module _ (k : ℕ) (le : k < tree.derivations.count) where
    abbrev d : Derivation
    d = derivation_at tree k

    abbrev own : ℕ
    own = tree.constraints.count + k

    abbrev after-row : List ℕ
    after-row = reason_cells d.reason ++ (last_cell d.last ∷ [])

    inside : k < length tree.derivations.derivations
    inside = omega (arith, in_range.derivations_counted)

    here : StandsAt tree.derivations.derivations k (d ∷ [])
    here = stands_one tree.derivations.derivations k no_derivation inside

    ranged : DerivationInRange tree.variables.count own (tree.constraints.count + tree.derivations.count) d
    ranged =
        subst (λ (n : ℕ). DerivationInRange tree.variables.count (tree.constraints.count + n) (tree.constraints.count + tree.derivations.count) d) here.from
        (in_range.derivations here.before d here.after here.cut)

    fine : DerivationFormed tree own d
    fine =
        subst (λ (n : ℕ). DerivationFormed tree (n + k) d) in_range.rows_counted
        (all_from_get (DerivationFormed tree) (length tree.constraints.rows) tree.derivations.derivations k no_derivation inside formed.derivations_formed)

    whole : Found tree index rows own d.row.name (derivation_cells d) (derivation_values d)
    whole =
        found
        (subst (λ (n : ℕ). Kept tree (tree.constraints.count + n) d.row.name (derivation_cells d) (derivation_values d)) here.from
        (derived_kept tree here.before d here.after here.cut))

    derived_stands : EncodesRow tree index table rows (header_of tree).objective own d.row
    derived_stands =
        row_stands d.row ranged.side fine.row_formed
        (record {
          place_is = whole.place_is;
          cells_stand = stands_part (row_index_cells d.row) after-row whole.cells_stand;
          values_stand = stands_part (row_values d.row) (reason_values d.reason) whole.values_stand;
        })

    derivation_stands : EncodesDerivation index table rows own d
    derivation_stands =
        let size = side_size d.row.side in
        let terms = own-terms in_range.variables_most rows own d.row.side ranged.side (stands_part (row_index_cells d.row) after-row whole.cells_stand) in
        let cell_is : cell_of rows own + length (row_index_cells d.row) ≡ reason_of index rows own = omega arith in
        let number_is : number_of rows own + length (row_values d.row) ≡ (multipliers_of index rows own).number = omega arith in
        let c = subst (λ (i : ℕ). StandsAt index i after-row) cell_is (stands_rest (row_index_cells d.row) after-row whole.cells_stand) in
        let v = subst (λ (n : ℕ). StandsAt (values certificate tree) n (reason_values d.reason)) number_is (stands_rest (row_values d.row) (reason_values d.reason) whole.values_stand) in
        let last = last_cell d.last in
        let after = after_word_lem index rows own last own d.reason ranged.reason c in
        let end_is : reason_of index rows own + length (reason_cells d.reason)
        ≡ reason_of index rows own + 1 + after_word (get_or index (reason_of index rows own) 0) (get_or index (reason_of index rows own + 1) 0) = omega arith in
        record {
          word_is = word_is index rows own last own d.reason c;
          named_are = named_stand index rows own last own d.reason ranged.reason c;
          named-below = fine.named-below;
          reason = reason_stands index rows own last own turns fractions d.reason ranged.reason c v;
          last_is = stands_here (subst (λ (i : ℕ). StandsAt index i (last ∷ [])) end_is (stands_rest (reason_cells d.reason) (last ∷ []) c)) 0;
          last-below = last_most d.last in_range.derivations_most ranged.last;
        }

  -- row r, given or derived
  row-at : (r : ℕ) → r < tree.constraints.count + tree.derivations.count → EncodesRow tree index table rows (header_of tree).objective r (row_at tree r)
  row-at r le = go (ltb r tree.constraints.count) refl
    where
      go : (t : Bool) → ltb r tree.constraints.count ≡ t → EncodesRow tree index table rows (header_of tree).objective r (row_at tree r)
      go true e =
          let lt = ltb-true r tree.constraints.count e in
          subst (EncodesRow tree index table rows (header_of tree).objective r) (sym (ap row_of (entry_given in_range r lt))) (given_stands r lt)
      go false e =
          let ge = ltb-false r tree.constraints.count e in
          let k = r - tree.constraints.count in
          let lt : k < tree.derivations.count = omega arith in
          let at : tree.constraints.count + k ≡ r = omega arith in
          subst (λ (n : ℕ). EncodesRow tree index table rows (header_of tree).objective n (row_at tree n)) at
          (subst (EncodesRow tree index table rows (header_of tree).objective (tree.constraints.count + k)) (sym (ap row_of (entry_derived in_range k lt))) (derived_stands k lt))

  -- a solution
  solution_stands : (j : ℕ) → j < tree.solutions.count → EncodesSolution (variables tree) index table rows j (solution_at tree j)
  solution_stands j le =
      let x = solution_at tree j in
      let inside : j < length tree.solutions.solutions = omega (arith, in_range.solutions_counted) in
      let s = stands_one tree.solutions.solutions j no_solution inside in
      let f = found (subst (λ (n : ℕ). Kept tree (most_rows + n) x.name (term_cells x.values) (term_values x.values)) s.from (solution-kept tree s.before x s.after s.cut)) in
      let range = in_range.solutions.holds x (stands_among s) in
      record {
        place_is = f.place_is;
        terms_are = pairs_from_lem turns term range.counted (cell_of rows (most_rows + j)) (number_of rows (most_rows + j)) f.cells_stand f.values_stand;
        formed = all_get (λ (x : Solution). Formed (variables tree) x.values.terms) tree.solutions.solutions j no_solution inside formed.solutions_formed;
      }

  -- THE THEOREM: what reading leaves encodes the certificate
  pub held_encodes : Encodes tree (header_of tree) index table rows
  held_encodes =
      let s = sections_stand tree in
      record {
        in_range = in_range;
        formed = formed;
        header_is = refl;
        integers_are = part_stands tree.integers.count in_range.integers.counted (stands_next (index_stands s.integers));
        objective_is = objective_stands;
        row = row-at;
        derivation = λ k le. derivation_stands k (omega arith);
        solution = solution_stands;
        claim = claim_stands turns index (claim_at tree) (claim_values_at tree) tree.relation.claim formed.claim_formed (index_stands s.claim) s.claim-values;
      }
