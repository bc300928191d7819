-- What is proved of the definitions in specs/Contents.antt.
-- Assumes nothing.
use Rattle.std.specs.Prelude.{◌≡◌, refl, ℕ, ◌+◌, length}
use Rattle.std.proofs.Common.{◌∙◌, ap, add-zero, arith, length-append}
use Rattle.std.proofs.Math.Path.{ap₂}
use mathlib.Core.List.{List, [], ◌∷◌, ◌++◌, map, map-append, append-nil}
use Rattle.text.specs.Bytes.{Bytes}
use Rattle.arithmetic.specs.declared.Fraction.{Fraction}
use Rattle.tables.specs.Limits.{most_rows}
use Rattle.tables.specs.Words as cell
use Rattle.grammar.specs.Tree.{Integers, Term, TermList, Objective, Side, obj, listed, Row, Constraints, End, infinite, finite, Claim, infeas, range, Solution, Solutions, Multiplier, MultiplierList, Reason, asm, lin, rnd, uns, sol, Last, never, index, Derivation, Derivations, Tree}
use Rattle.grammar.proofs.ByCases.{by_side, by_reason, by_last, by_end}
use Rattle.grammar.specs.Format.{Or, instead, given, Symbol, word, placed, choice, number, name, row_name, value, or, Format, symbol, then, items, nothing, view}
use Rattle.grammar.specs.Certificate.{Pair, pair, pair_list, of_term, of_multiplier, term_list, sense, sense_cell, Listed, listed_terms, side, row, row_names, multiplier_list, ReasonWord, assumptions, asm_word, lin_word, rnd_word, uns_word, sol_word, detail, Detail, reason, last, derivation, solution, end_or, ClaimWord, infeas_word, range_word, claim_cell, of_claim, Ends, ends, claim, direction_cell, section, variables, integers, objective_section, constraints, relation, solution_section, derivation_section, certificate}
use Rattle.grammar.specs.Layout.{Mark, symbol_cells, symbol_values, symbol_marks, gather_items, gather, cells, values, marks_items, marks}
use Rattle.grammar.specs.Contents.{of_all, term_cells, term_values, side_cells, side_values, row_index_cells, row_values, multiplier_cells, multiplier_values, reason_cells, reason_values, last_cell, derivation_cells, derivation_values, end_cell, end_values, claim_cells, claim_values, integers_cells, objective_cells, constraints_cells, constraints_values, solutions_cells, solutions_values, derivations_cells, derivations_values, tree_cells, tree_values, up_from, tree_rows, symbol_rows, row_numbers, Lays, mark_rows}

symbol_lays : {A : Type 0} (y : Symbol A) → Lays (symbol y) (symbol_cells y) (symbol_values y) (symbol_rows y)
unfolding gather
symbol_lays y = record { cells_are = λ a. refl; values_are = λ a. refl; rows_are = λ a. refl }

nothing_lays : Lays nothing (λ u. []) (λ u. []) (λ u. [])
unfolding gather
nothing_lays = record { cells_are = λ a. refl; values_are = λ a. refl; rows_are = λ a. refl }

module _ {A : Type 0} {B : A → Type 0} {f : Format A} {g : (a : A) → Format (B a)} where
  then_lays : {C : A → List ℕ} {U : A → List Fraction} {R : A → List ℕ} {D : (a : A) → B a → List ℕ} {W : (a : A) → B a → List Fraction} {S : (a : A) → B a → List ℕ}
      → Lays f C U R → ((a : A) → Lays (g a) (D a) (W a) (S a))
      → Lays (then f g) (λ ab. C ab.0 ++ D ab.0 ab.1) (λ ab. U ab.0 ++ W ab.0 ab.1) (λ ab. R ab.0 ++ S ab.0 ab.1)
  unfolding gather
  then_lays h k =
      record {
        cells_are = λ ab. ap₂ ◌++◌ (h.cells_are ab.0) ((k ab.0).cells_are ab.1);
        values_are = λ ab. ap₂ ◌++◌ (h.values_are ab.0) ((k ab.0).values_are ab.1);
        rows_are = λ ab. ap₂ ◌++◌ (h.rows_are ab.0) ((k ab.0).rows_are ab.1);
      }

module _ {A B : Type 0} {to : A → B} {from : B → A} {there : (a : A) → from (to a) ≡ a} {back : (b : B) → to (from b) ≡ b} {f : Format A} where
  view_lays : {C : A → List ℕ} {U : A → List Fraction} {R : A → List ℕ} → Lays f C U R → Lays (view to from there back f) (λ b. C (from b)) (λ b. U (from b)) (λ b. R (from b))
  unfolding gather
  view_lays h = record { cells_are = λ b. h.cells_are (from b); values_are = λ b. h.values_are (from b); rows_are = λ b. h.rows_are (from b) }

-- the same, written otherwise
lays_as : {A : Type 0} {f : Format A} {C D : A → List ℕ} {U W : A → List Fraction} {R S : A → List ℕ}
    → ((a : A) → C a ≡ D a) → ((a : A) → U a ≡ W a) → ((a : A) → R a ≡ S a) → Lays f C U R → Lays f D W S
lays_as p q r h =
    record { cells_are = λ a. h.cells_are a ∙ p a; values_are = λ a. h.values_are a ∙ q a; rows_are = λ a. h.rows_are a ∙ r a }

-- items that take the same whatever stands before them
gather-all : {A X : Type 0} {F : List A → A → List X} {G : A → List X} → ((before : List A) (x : A) → F before x ≡ G x) → (before xs : List A)
    → gather_items F before xs ≡ of_all G xs
gather-all h before [] = refl
gather-all h before (x ∷ xs) = ap₂ ◌++◌ (h before x) (gather-all h (before ++ (x ∷ [])) xs)

of_none : {A X : Type 0} (xs : List A) → of_all {X = X} (λ x. []) xs ≡ []
of_none [] = refl
of_none (x ∷ xs) = of_none xs

-- each of them with the row of its own, and one row after the other
module _ {A : Type 0} (own : List A → ℕ) (next : (before : List A) (x : A) → own (before ++ (x ∷ [])) ≡ own before + 1) where
  gather-rows : {F : List A → A → List ℕ} → ((before : List A) (x : A) → F before x ≡ own before ∷ []) → (before xs : List A)
      → gather_items F before xs ≡ up_from (own before) xs
  gather-rows h before [] = refl
  gather-rows h before (x ∷ xs) =
      ap₂ ◌++◌ (h before x) (gather-rows h (before ++ (x ∷ [])) xs) ∙ ap (λ (n : ℕ). own before ∷ up_from n xs) (next before x)

module _ {A : Type 0} {n : ℕ} {g : List A → Format A} {C : A → List ℕ} {U : A → List Fraction} where
  items_lay : ((before : List A) → Lays (g before) C U (λ x. [])) → Lays (items n g) (of_all C) (of_all U) (λ xs. [])
  unfolding gather
  items_lay h =
      record {
        cells_are = λ xs. gather-all (λ before x. (h before).cells_are x) [] xs;
        values_are = λ xs. gather-all (λ before x. (h before).values_are x) [] xs;
        rows_are = λ xs. gather-all (λ before x. (h before).rows_are x) [] xs ∙ of_none xs;
      }

  rows_lay : (own : List A → ℕ) → ((before : List A) (x : A) → own (before ++ (x ∷ [])) ≡ own before + 1) → ((before : List A) → Lays (g before) C U (λ x. own before ∷ []))
      → Lays (items n g) (of_all C) (of_all U) (λ xs. up_from (own []) xs)
  unfolding gather
  rows_lay own next h =
      record {
        cells_are = λ xs. gather-all (λ before x. (h before).cells_are x) [] xs;
        values_are = λ xs. gather-all (λ before x. (h before).values_are x) [] xs;
        rows_are = λ xs. gather-rows own next (λ before x. (h before).rows_are x) [] xs;
      }

-- ---- part by part

-- what each pair has one of, over a list of pairs under other names
all_map : {A B X : Type 0} (from : B → A) (F : A → X) (xs : List B) → of_all (λ (a : A). F a ∷ []) (map from xs) ≡ map (λ (b : B). F (from b)) xs
all_map from F [] = refl
all_map from F (x ∷ xs) = ap (λ (l : List _). F (from x) ∷ l) (all_map from F xs)

pairs_lay : (bound k : ℕ) → Lays (items k (pair bound)) (of_all (λ p. p.index ∷ [])) (of_all (λ p. p.value ∷ [])) (λ ps. [])
pairs_lay bound k = items_lay (λ before. view_lays (then_lays (symbol_lays (number _ _)) (λ i. symbol_lays (value _))))

counted_lay : (bound : ℕ) → Lays (pair_list bound) (λ p. p.0 ∷ of_all (λ x. x.index ∷ []) p.1) (λ p. of_all (λ x. x.value ∷ []) p.1) (λ p. [])
counted_lay bound = then_lays (symbol_lays (number _ _)) (λ k. pairs_lay bound k)

terms_lay : (n : ℕ) → Lays (term_list n) term_cells term_values (λ t. [])
terms_lay n =
    lays_as (λ t. ap (λ (l : List ℕ). t.count ∷ l) (all_map of_term (λ p. p.index) t.terms)) (λ t. all_map of_term (λ p. p.value) t.terms) (λ t. refl)
    (view_lays (counted_lay n))

multipliers_lay : (own : ℕ) → Lays (multiplier_list own) multiplier_cells multiplier_values (λ m. [])
multipliers_lay own =
    lays_as (λ m. ap (λ (l : List ℕ). m.count ∷ l) (all_map of_multiplier (λ p. p.index) m.multipliers)) (λ m. all_map of_multiplier (λ p. p.value) m.multipliers) (λ m. refl)
    (view_lays (counted_lay own))

-- what follows a row's count, or `OBJ`
abbrev listed_cells : (k : Or ℕ) → Listed k → List ℕ
listed_cells instead u = []
listed_cells (given k) ps = of_all (λ (p : Pair). p.index ∷ []) ps

abbrev listed_values : (k : Or ℕ) → Listed k → List Fraction
listed_values instead u = []
listed_values (given k) ps = of_all (λ (p : Pair). p.value ∷ []) ps

listed_lay : (n : ℕ) (k : Or ℕ) → Lays (listed_terms n k) (listed_cells k) (listed_values k) (λ u. [])
listed_lay n instead = nothing_lays
listed_lay n (given k) = pairs_lay n k

side_lays : (n : ℕ) → Lays (side n) side_cells side_values (λ s. [])
side_lays n =
    lays_as
    (by_side _ refl (λ t. ap (λ (l : List ℕ). t.count ∷ l) (all_map of_term (λ p. p.index) t.terms)))
    (by_side _ refl (λ t. all_map of_term (λ p. p.value) t.terms))
    (by_side _ refl (λ t. refl))
    (view_lays (then_lays (symbol_lays (or _ _ (number _ _))) (λ k. listed_lay n k)))

pub row_lays : (n own : ℕ) (used : List Bytes) → Lays (row n own used) row_index_cells row_values (λ r. own ∷ [])
row_lays n own used =
    view_lays (then_lays (symbol_lays (row_name _ _)) (λ t. then_lays (symbol_lays (choice _ _ _)) (λ s. then_lays (symbol_lays (value _)) (λ b. side_lays n))))

-- what follows a reason's word
abbrev detail_cells : (w : ReasonWord) → Detail w → List ℕ
detail_cells asm_word u = []
detail_cells lin_word m = multiplier_cells m
detail_cells rnd_word m = multiplier_cells m
detail_cells uns_word u = u.i1 ∷ u.l1 ∷ u.i2 ∷ u.l2 ∷ []
detail_cells sol_word u = []

abbrev detail_values : (w : ReasonWord) → Detail w → List Fraction
detail_values asm_word u = []
detail_values lin_word m = multiplier_values m
detail_values rnd_word m = multiplier_values m
detail_values uns_word u = []
detail_values sol_word u = []

detail_lays : (own : ℕ) (w : ReasonWord) → Lays (detail own w) (detail_cells w) (detail_values w) (λ u. [])
detail_lays own asm_word = nothing_lays
detail_lays own lin_word = multipliers_lay own
detail_lays own rnd_word = multipliers_lay own
detail_lays own uns_word =
    let i = symbol_lays (number _ _) in
    view_lays (then_lays i (λ a. then_lays i (λ b. then_lays i (λ c. i))))
detail_lays own sol_word = nothing_lays

reason_lays : (own assumed : ℕ) → Lays (reason own assumed) reason_cells reason_values (λ r. [])
reason_lays own assumed =
    lays_as
    (by_reason _ refl (λ m. refl) (λ m. refl) (λ u. refl) refl)
    (by_reason _ refl (λ m. refl) (λ m. refl) (λ u. refl) refl)
    (λ r. refl)
    (view_lays (then_lays (symbol_lays (choice _ _ _)) (λ w. detail_lays own w)))

last_lays : (rows : ℕ) → Lays (last rows) (λ l. last_cell l ∷ []) (λ l. []) (λ l. [])
last_lays rows =
    lays_as (by_last _ refl (λ i. refl)) (by_last _ refl (λ i. refl)) (by_last _ refl (λ i. refl))
    (view_lays (symbol_lays (or _ _ (number _ _))))

pub derivation_lays : (n m : ℕ) (used : List Bytes) (d : ℕ) (before : List Derivation)
    → Lays (derivation n m used d before) derivation_cells derivation_values (λ x. (m + length before) ∷ [])
derivation_lays n m used d before =
    lays_as (λ x. refl) (λ x. ap (λ (l : List Fraction). row_values x.row ++ l) (append-nil (reason_values x.reason))) (λ x. refl)
    (view_lays (then_lays (row_lays n (m + length before) _)
    (λ r. then_lays (symbol_lays (word _))
    (λ o. then_lays (reason_lays (m + length before) (assumptions before))
    (λ q. then_lays (symbol_lays (word _)) (λ c. last_lays (m + d)))))))

pub solution_lays : (n : ℕ) (before : List Solution)
    → Lays (solution n before) (λ s. term_cells s.values) (λ s. term_values s.values) (λ s. (most_rows + length before) ∷ [])
solution_lays n before = view_lays (then_lays (symbol_lays (row_name _ _)) (λ t. terms_lay n))

end_lays : (w : Bytes) → Lays (end_or w) (λ e. end_cell e ∷ []) end_values (λ e. [])
end_lays w =
    lays_as (by_end _ refl (λ f. refl)) (by_end _ refl (λ f. refl)) (by_end _ refl (λ f. refl))
    (view_lays (symbol_lays (or _ _ (value _))))

-- what follows the claim's word
abbrev ends_cells : (w : ClaimWord) → Ends w → List ℕ
ends_cells infeas_word u = []
ends_cells range_word e = end_cell e.0 ∷ end_cell e.1 ∷ []

abbrev ends_values : (w : ClaimWord) → Ends w → List Fraction
ends_values infeas_word u = []
ends_values range_word e = end_values e.0 ++ end_values e.1

ends_lay : (w : ClaimWord) → Lays (ends w) (ends_cells w) (ends_values w) (λ u. [])
ends_lay infeas_word = nothing_lays
ends_lay range_word = then_lays (end_lays _) (λ lower. end_lays _)

pub relation_lay : Lays relation (λ r. claim_cells r.claim) (λ r. claim_values r.claim) (λ r. [])
relation_lay =
    lays_as (λ r. claim-cells r.claim) (λ r. claim-values r.claim) (λ r. refl)
    (view_lays (then_lays (symbol_lays (placed _)) (λ p. view_lays (then_lays (symbol_lays (choice _ _ _)) (λ w. ends_lay w)))))
  where
    claim-cells : (c : Claim) → claim_cell (of_claim c).0 ∷ ends_cells (of_claim c).0 (of_claim c).1 ≡ claim_cells c
    claim-cells infeas = refl
    claim-cells (range lower upper) = refl

    claim-values : (c : Claim) → ends_values (of_claim c).0 (of_claim c).1 ≡ claim_values c
    claim-values infeas = refl
    claim-values (range lower upper) = refl

-- a section's word takes nothing
section_lays : {A : Type 0} (w : Bytes) {f : Format A} {C : A → List ℕ} {U : A → List Fraction} {R : A → List ℕ} → Lays f C U R → Lays (section w f) C U R
section_lays w h = view_lays (then_lays (symbol_lays (word _)) (λ u. h))

all_one : {X : Type 0} (xs : List X) → of_all (λ x. x ∷ []) xs ≡ xs
all_one [] = refl
all_one (x ∷ xs) = ap (λ (l : List _). x ∷ l) (all_one xs)

pub variables_lay : Lays variables (λ v. v.count ∷ []) (λ v. []) (λ v. [])
variables_lay =
    section_lays _
    (lays_as (λ v. ap (λ (l : List ℕ). v.count ∷ l) (of_none v.names)) (λ v. of_none v.names) (λ v. refl)
    (view_lays (then_lays (symbol_lays (number _ _)) (λ n. items_lay (λ before. symbol_lays name)))))

pub integers_lay : (n : ℕ) → Lays (integers n) integers_cells (λ i. []) (λ i. [])
integers_lay n =
    section_lays _
    (lays_as (λ i. ap (λ (l : List ℕ). i.count ∷ l) (all_one i.indices)) (λ i. of_none i.indices) (λ i. refl)
    (view_lays (then_lays (symbol_lays (number _ _)) (λ k. items_lay (λ before. symbol_lays (number _ _))))))

pub objective_lay : (n : ℕ) → Lays (objective_section n) objective_cells (λ o. term_values o.terms) (λ o. [])
objective_lay n = section_lays _ (view_lays (then_lays (symbol_lays (choice _ _ _)) (λ c. terms_lay n)))

pub constraints_lay : (n : ℕ) → Lays (constraints n) constraints_cells constraints_values (λ c. up_from 0 c.rows)
constraints_lay n =
    section_lays _
    (view_lays (then_lays (symbol_lays (number _ _))
    (λ m. then_lays (symbol_lays (number _ _))
    (λ b. rows_lay length (λ before x. length-append before (x ∷ [])) (λ before. row_lays n (length before) _)))))

pub solutions_lay : (n : ℕ) → Lays (solution_section n) solutions_cells solutions_values (λ s. up_from most_rows s.solutions)
solutions_lay n =
    section_lays _
    (view_lays (then_lays (symbol_lays (number _ _))
    (λ s. rows_lay (λ before. most_rows + length before) (λ before x. omega (arith, length-append before (x ∷ []))) (λ before. solution_lays n before))))

derivations_lay : (n : ℕ) (c : Constraints) → Lays (derivation_section n c) derivations_cells derivations_values (λ d. up_from c.count d.derivations)
derivations_lay n c =
    lays_as (λ d. refl) (λ d. refl) (λ d. ap (λ (k : ℕ). up_from k d.derivations) (add-zero c.count))
    (view_lays (then_lays (symbol_lays (placed _))
    (λ p. then_lays (symbol_lays (number _ _))
    (λ d. rows_lay (λ before. c.count + length before) (λ before x. omega (arith, length-append before (x ∷ [])))
    (λ before. derivation_lays n c.count (row_names c.rows) d before)))))

certificate_lays : Lays certificate tree_cells tree_values tree_rows
certificate_lays =
    view_lays (then_lays (section_lays _ (symbol_lays (word _)))
    (λ u. then_lays variables_lay
    (λ v. then_lays (integers_lay v.count)
    (λ i. then_lays (objective_lay v.count)
    (λ o. then_lays (constraints_lay v.count)
    (λ c. then_lays relation_lay (λ r. then_lays (solutions_lay v.count) (λ s. derivations_lay v.count c))))))))

symbol_mark_rows : {A : Type 0} (s : Symbol A) (a : A) (i v : ℕ) → mark_rows (symbol_marks s a i v) ≡ symbol_rows s a
symbol_mark_rows (word w) a i v = refl
symbol_mark_rows (placed w) a i v = refl
symbol_mark_rows (choice cell words out) a i v = refl
symbol_mark_rows (number bound used) a i v = refl
symbol_mark_rows name a i v = refl
symbol_mark_rows (row_name row used) a i v = refl
symbol_mark_rows (value cells) a i v = refl
symbol_mark_rows (or w cell s) instead i v = refl
symbol_mark_rows (or w cell s) (given a) i v = symbol_mark_rows s a i v

items_mark_rows : {A : Type 0} (C : List A → A → List ℕ) (U : List A → A → List Fraction) (M : List A → A → ℕ → ℕ → List Mark) (R : List A → A → List ℕ)
    → ((before : List A) (x : A) (i v : ℕ) → mark_rows (M before x i v) ≡ R before x) → (before xs : List A) (i v : ℕ)
    → mark_rows (marks_items C U M before xs i v) ≡ gather_items R before xs
items_mark_rows C U M R h before [] i v = refl
items_mark_rows C U M R h before (x ∷ xs) i v =
    rw map-append (ap₂ ◌++◌ (h before x i v) (items_mark_rows C U M R h (before ++ (x ∷ [])) xs (i + length (C before x)) (v + length (U before x))))

mark_rows_lem : {A : Type 0} (f : Format A) (a : A) (i v : ℕ) → mark_rows (marks f a i v) ≡ row_numbers f a
unfolding gather marks
mark_rows_lem (symbol s) a i v = symbol_mark_rows s a i v
mark_rows_lem (then f g) ab i v =
    rw map-append
    (ap₂ ◌++◌ (mark_rows_lem f ab.0 i v) (mark_rows_lem (g ab.0) ab.1 (i + length (cells f ab.0)) (v + length (values f ab.0))))
mark_rows_lem (items n g) xs i v =
    items_mark_rows (λ before x. cells (g before) x) (λ before x. values (g before) x) (λ before x j w. marks (g before) x j w) (λ before x. row_numbers (g before) x)
    (λ before x j w. mark_rows_lem (g before) x j w) [] xs i v
mark_rows_lem nothing a i v = refl
mark_rows_lem (view to from p q f) b i v = mark_rows_lem f (from b) i v

-- for every tree
pub tree_cells_lem : (tree : Tree) → cells certificate tree ≡ tree_cells tree
tree_cells_lem tree = certificate_lays.cells_are tree

pub tree_values_lem : (tree : Tree) → values certificate tree ≡ tree_values tree
tree_values_lem tree = certificate_lays.values_are tree

pub tree_rows_lem : (tree : Tree) → mark_rows (marks certificate tree 0 0) ≡ tree_rows tree
tree_rows_lem tree = mark_rows_lem certificate tree 0 0 ∙ certificate_lays.rows_are tree
