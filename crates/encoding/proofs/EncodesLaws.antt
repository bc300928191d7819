-- What follows for a certificate in tables: its counts, and its rows by their index.
-- Assumes nothing.
use Rattle.std.specs.Prelude.{◌≡◌, refl, Bool, true, false, ◌&&◌, ◌||◌, Option, Some, None, List, [], ◌∷◌, map, ℕ, zero, suc, ◌+◌, ◌-◌, ◌≤◌, ◌<◌, eqb, ltb, ℤ, length, get_or}
use Rattle.std.proofs.Common.{sym, ◌∙◌, ap, subst, not-suc-le-zero, le_of_suc-le-suc, arith, eqb-true, lt-ltb}
use Rattle.tables.specs.Limits.{most_variables, most_rows, largest}
use Rattle.tables.specs.declared.Header.{Header}
use Rattle.grammar.specs.Tree.{Reason, Last, never, index, Derivation, Tree}
use Rattle.grammar.specs.Certificate.{ReasonWord, Detail, as_reason, of_reason, reason_back}
use Rattle.grammar.specs.Contents.{last_cell}
use Rattle.grammar.specs.Ranges.{LastInRange, TreeInRange}
use Rattle.grammar.specs.Header.{is_maximize}
use Rattle.rules.specs.Tests.{All, some_of}
use Rattle.rules.specs.Rows.{variables, given_row, derived_row, entry_at, no_row}
use Rattle.rules.proofs.RowsLaws as rules
use Rattle.encoding.specs.Places.{last_of}
use Rattle.encoding.specs.Rows.{LastIs, last_says}
use Rattle.encoding.specs.Encodes.{EncodesDerivation, no_derivation, derivation_at, Encodes}

-- an element under another name
get_map : {A B : Type 0} (f : A → B) (xs : List A) (k : ℕ) (d : A) (e : B) → k < length xs → get_or (map f xs) k e ≡ f (get_or xs k d)
get_map f [] k d e le = absurd (not-suc-le-zero le)
get_map f (x ∷ xs) zero d e le = refl
get_map f (x ∷ xs) (suc k) d e le = get_map f xs k d e (le_of_suc-le-suc le)

-- ---- rows by their index: the given ones first

module _ {tree : Tree} (t : TreeInRange tree) where
  pub entry_given : (r : ℕ) → r < tree.constraints.count → entry_at tree r ≡ given_row (get_or tree.constraints.rows r no_row)
  entry_given r le = rules.entry_given tree r (omega (arith, t.rows_counted))

  pub entry_derived : (k : ℕ) → k < tree.derivations.count → entry_at tree (tree.constraints.count + k) ≡ derived_row (derivation_at tree k)
  entry_derived k le =
      ap (λ (n : ℕ). entry_at tree (n + k)) (sym t.rows_counted)
      ∙ rules.entry_derived tree k
      ∙ get_map derived_row tree.derivations.derivations k no_derivation (given_row no_row) (omega (arith, t.derivations_counted))

-- a last index below a number is below any larger one
pub last_most : {n m : ℕ} (l : Last) → n ≤ m → LastInRange n l → LastInRange m l
last_most never le h = tt
last_most (index i) le h = omega arith

-- the last index is that of a derivation whose cell it is
pub last_known : {cells rows : List ℕ} {r : ℕ} {o : Option ℕ} {l : Last} → LastIs cells rows r o → last_of cells rows r ≡ last_cell l → LastInRange most_rows l → last_says o ≡ l
last_known {o} {l} h e f = go o l (h.is ∙ e) h.small f
  where
    go : (o : Option ℕ) (l : Last) → last_cell (last_says o) ≡ last_cell l → LastInRange largest (last_says o) → LastInRange most_rows l → last_says o ≡ l
    go None never e s f = refl
    go None (index i) e s f = absurd (omega (arith, e, f))
    go (Some i) never e s f = absurd (omega (arith, e, s))
    go (Some i) (index j) e s f = ap index e

-- ---- reasons by their words

pub by_word : (q : Reason) (w : ReasonWord) → (of_reason q).0 ≡ w → (x : Detail w) × (q ≡ as_reason (w, x))
by_word q w e = subst (λ (v : ReasonWord). (x : Detail v) × (q ≡ as_reason (v, x))) e ((of_reason q).1, sym (reason_back q))

-- ---- integer variables by their marks

-- a list of variables below 256 has each variable that an array marks, and no other
pub marks-listed : (marks : List Bool) (listed : List ℕ) → All (λ v. v < most_variables) listed
    → ((v : ℕ) → get_or marks v false ≡ ltb v most_variables && some_of (λ i. eqb i v) listed) → (v : ℕ) → get_or marks v false ≡ some_of (λ i. eqb i v) listed
marks-listed marks listed below m v = m v ∙ go listed below
  where
    one : (i : ℕ) → i < most_variables → (t b : Bool) → eqb i v ≡ t → ltb v most_variables && b ≡ b → ltb v most_variables && (t || b) ≡ (t || b)
    one i l true b e f = rw (lt-ltb v most_variables (subst (λ (n : ℕ). n < most_variables) (eqb-true i v e) l))
    one i l false b e f = f

    go : (listed : List ℕ) → All (λ i. i < most_variables) listed → ltb v most_variables && some_of (λ i. eqb i v) listed ≡ some_of (λ i. eqb i v) listed
    go [] h = none (ltb v most_variables)
      where
        none : (b : Bool) → b && false ≡ false
        none true = refl
        none false = refl
    go (i ∷ listed) h = one i h.0 (eqb i v) (some_of (λ i. eqb i v) listed) refl (go listed h.1)

-- ---- the header

-- a row that is derived
pub record DerivedRow (tree : Tree) (index : List ℕ) (values : List ℤ) (rows : List ℕ) (r : ℕ) : Type 0 where
  pub derivation : Derivation
  pub entry_is : entry_at tree r ≡ derived_row derivation
  pub encodes : EncodesDerivation index values rows r derivation

module _ {tree : Tree} {h : Header} {index : List ℕ} {values : List ℤ} {rows : List ℕ} (e : Encodes tree h index values rows) where
  pub variables_are : h.variables ≡ variables tree
  variables_are = ap (λ (x : Header). x.variables) e.header_is

  pub maximize_is : h.maximize ≡ is_maximize tree.objective.direction
  maximize_is = ap (λ (x : Header). x.maximize) e.header_is

  pub given_are : h.given ≡ length tree.constraints.rows
  given_are = ap (λ (x : Header). x.given) e.header_is ∙ sym e.in_range.rows_counted

  pub rows_are : h.rows ≡ h.given + length tree.derivations.derivations
  rows_are =
      omega (arith, ap (λ (x : Header). x.given) e.header_is, ap (λ (x : Header). x.rows) e.header_is, e.in_range.derivations_counted)

  pub solutions_are : h.solutions ≡ length tree.solutions.solutions
  solutions_are = ap (λ (x : Header). x.solutions) e.header_is ∙ sym e.in_range.solutions_counted

  -- "variables n 0 to 256", "A variable's index is below n"
  pub integers-below : All (λ v. v < most_variables) tree.integers.indices
  integers-below = go tree.integers.indices e.formed.integers-below
    where
      go : (vs : List ℕ) → All (λ v. v < variables tree) vs → All (λ v. v < most_variables) vs
      go [] h = tt
      go (v ∷ vs) h = (omega (arith, h.0, e.in_range.variables_most), go vs h.1)

  -- a given row, a derived row
  pub given-at : (r : ℕ) → r < h.given → entry_at tree r ≡ given_row (get_or tree.constraints.rows r no_row)
  given-at r le = entry_given e.in_range r (omega (arith, ap (λ (x : Header). x.given) e.header_is))

  pub derived_at : (k : ℕ) → h.given + k < h.rows → entry_at tree (h.given + k) ≡ derived_row (derivation_at tree k)
  derived_at k le =
      let g = ap (λ (x : Header). x.given) e.header_is in
      let r = ap (λ (x : Header). x.rows) e.header_is in
      ap (λ (n : ℕ). entry_at tree (n + k)) g ∙ entry_derived e.in_range k (omega arith)

  -- row r by its index
  pub derived_row_lem : (r : ℕ) → h.given ≤ r → r < h.rows → DerivedRow tree index values rows r
  derived_row_lem r le lt =
      let k = r - h.given in
      let at : h.given + k ≡ r = omega arith in
      record {
        derivation = derivation_at tree k;
        entry_is = ap (entry_at tree) (sym at) ∙ derived_at k (omega arith);
        encodes = subst (λ (n : ℕ). EncodesDerivation index values rows n (derivation_at tree k)) at (e.derivation k (omega arith));
      }
