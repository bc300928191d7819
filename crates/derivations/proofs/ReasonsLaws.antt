-- What comes of multipliers, and of a derived row by its index.
-- Assumes nothing.
use mathlib.Core.Path.{◌≡◌, refl, sym, ◌∙◌, ap, ap₂, subst}
use mathlib.Core.Bool.{Bool, false, ◌&&◌}
use mathlib.Core.List.{List, [], ◌∷◌, map}
use Rattle.std.specs.Prelude.{Option, Some, None, IfSome}
use Prim.Native.Nat.{ℕ, suc, ◌+◌, ◌-◌, ◌≤◌, ◌<◌}
use native.Mathlib.Omega.{arith}
use borrow.Author.Tests.{lt-ltb}
use lib.Dec.{eqb, ltb}
use lib.IntN.{ℤ}
use lib.ListN.{length, get_or, drop}
use lib.Seq.{drop-cons}
use Rattle.arithmetic.specs.Fraction.{IsFraction}
use Rattle.arithmetic.specs.declared.Fraction.{Fraction}
use Rattle.tables.specs.Limits.{most_variables}
use Rattle.tables.specs.declared.Header.{Header}
use Rattle.grammar.specs.Tree.{Sense, Row, Multiplier, Reason, Derivation, Tree}
use Rattle.grammar.specs.Certificate.{ReasonWord, reason_cell, Detail, as_reason}
use Rattle.rules.specs.Tests.{All, all_of, some_of}
use Rattle.rules.specs.Result.{Result, Verdict, done, refused, bind, ◌and_then◌, require, each_from}
use Rattle.rules.specs.Rows.{Constraint, row_of, row_at}
use Rattle.rules.specs.Combinations as rules
use Rattle.rules.specs.Combinations.{is_suitable, sense_of, combine, suitable_combination}
use Rattle.rules.specs.Derivations.{named, check_derivation}
use Rattle.senses.specs.Senses.{sense_is, constraint_by}
use Rattle.senses.specs.declared.Bound.{Bound}
use Rattle.senses.specs.declared.Sense as code
use Rattle.linear.specs.Coefficients.{coefficients_of, marked, VariablesAre}
use Rattle.linear.specs.Combinations.{combination_with, combination_says}
use Rattle.linear.specs.declared.combinations.Combination.{Combination}
use Rattle.encoding.specs.Places.{indices_at, values_at, integers_at, word_of, multipliers_of, named_by}
use Rattle.encoding.specs.Encodes.{EncodesReason, EncodesDerivation, no_derivation, derivation_at, Holds, HoldsRow}
use Rattle.encoding.proofs.EncodesLaws.{variables_are, rows_are, integers-below, by_word, marks-listed, derived_at}
use Rattle.encoding.specs.Rows.{RowIs, word_says}
use Rattle.encoding.specs.declared.Certificate.{Certificate}
use Rattle.encoding.specs.declared.rows.ListedRow.{ListedRow}
use Rattle.encoding.specs.declared.reasons.Word.{Word}
use Rattle.derivations.specs.Checks.{Lists, HasMultipliers}
use Rattle.derivations.specs.Combining.{multipliers_in, MultipliersBelow}
use Rattle.derivations.specs.Constraints.{bound_with}
use Rattle.derivations.proofs.RowsLaws.{lists_row}

-- ---- suitable combinations: the sign rule, then the combination

-- the constraint that a combination with this sense is
abbrev pub denoted : Sense → rules.Combination → Result Constraint
denoted s c = done (record { sense = s; coefficient = c.coefficient; right = c.right })

-- what the sign rule answered, and the combination after it
pub suitable_by : (tree : Tree) (place : ℕ) {b : Bool} {ns ms : List Multiplier} {v : Verdict} → b ≡ is_suitable tree ns → ns ≡ ms → v ≡ require b 13 place
    → v and_then bind (combine tree place ns) (denoted (sense_of tree ns)) ≡ suitable_combination tree place ms
unfolding suitable_combination
suitable_by tree place {ns = ns} e q r =
    ap (λ (v : Verdict). v and_then bind (combine tree place ns) (denoted (sense_of tree ns))) r
    ∙ ap (λ (b : Bool). require b 13 place and_then bind (combine tree place ns) (denoted (sense_of tree ns))) e
    ∙ ap (suitable_combination tree place) q

-- the same, where the sense came with the answer
pub suitable_sense_by : (tree : Tree) (place : ℕ) {ns ms : List Multiplier} → ns ≡ ms → {r : Result Sense} → r ≡ require (is_suitable tree ns) 13 place and_then done (sense_of tree ns)
    → bind r (λ (s : Sense). bind (combine tree place ns) (denoted s)) ≡ suitable_combination tree place ms
suitable_sense_by tree place {ns = ns} q e =
    ap (λ (r : Result Sense). bind r (λ (s : Sense). bind (combine tree place ns) (denoted s))) e
    ∙ go (require (is_suitable tree ns) 13 place)
    ∙ suitable_by tree place refl q refl
  where
    go : (v : Verdict) → bind (v and_then done (sense_of tree ns)) (λ (s : Sense). bind (combine tree place ns) (denoted s)) ≡ v and_then bind (combine tree place ns) (denoted (sense_of tree ns))
    go (done u) = refl
    go (refused reason at) = refl

-- the combination by its bound
pub bound_denotes : (coefficient : ℕ → Fraction) (place : ℕ) (s : code.Sense) (right : Option Fraction)
    → bind (bound_with place s right) (λ (b : Bound). done (constraint_by coefficient b)) ≡ bind (combination_with coefficient place right) (denoted (sense_is s))
bound_denotes coefficient place s (Some right) = refl
bound_denotes coefficient place s None = refl

-- a suitable sense, the combination and what was answered of its bound
pub suitable_made : (tree : Tree) (place : ℕ) {ns ms : List Multiplier} → ns ≡ ms → (s : code.Sense) → done (sense_is s) ≡ require (is_suitable tree ns) 13 place and_then done (sense_of tree ns)
    → (c : Combination) → combination_says place c ≡ combine tree place ns → {b : Result Bound} → b ≡ bound_with place s c.right
    → bind b (λ (b : Bound). done (constraint_by (coefficients_of c.coefficients) b)) ≡ suitable_combination tree place ms
suitable_made tree place q s e c made f =
    ap (λ (b : Result Bound). bind b (λ (b : Bound). done (constraint_by (coefficients_of c.coefficients) b))) f
    ∙ bound_denotes (coefficients_of c.coefficients) place s c.right
    ∙ ap (λ (r : Result rules.Combination). bind r (denoted (sense_is s))) made
    ∙ suitable_sense_by tree place q e

-- the right side of a bound that was answered is a fraction
pub bound_fraction : (place : ℕ) (s : code.Sense) (right : Option Fraction) {b : Bound} → done b ≡ bound_with place s right → IfSome right IsFraction → IsFraction b.right
bound_fraction place s (Some right) e h = subst (λ (r : Result Bound). right_of r) (sym e) h
  where
    right_of : Result Bound → Type 0
    right_of (done b) = IsFraction b.right
    right_of (refused reason at) = Unit {0}
bound_fraction place s None e h = absurd (none e)
  where
    is_done : Result Bound → Type 0
    is_done (done b) = Unit {0}
    is_done (refused reason at) = ⊥

    none : {b : Bound} → done b ≡ refused 12 place → ⊥
    none e = subst is_done e tt

-- multipliers that were fetched from where a reason's stand
pub record Fetched (n : ℕ) (ns ms : List Multiplier) : Type 0 where
  pub same : ns ≡ ms
  pub below : MultipliersBelow n ns

pub fetched_are : {c : Certificate} {own : ℕ} {is : List ℕ} {fs : List ℤ} {ms : List Multiplier}
    → is ≡ indices_at c.index.now (multipliers_of c.index.now c.rows.now own) → fs ≡ values_at c.values.now (multipliers_of c.index.now c.rows.now own)
    → HasMultipliers c own ms → Fetched c.header.rows (multipliers_in is fs) ms
fetched_are {c} {ms = ms} e f m =
    let same = ap₂ multipliers_in e f ∙ m.encodes.0 in
    record { same = same; below = subst (MultipliersBelow c.header.rows) (sym same) (both ms m.below m.encodes.1) }
  where
    both : (ms : List Multiplier) → All (λ i. i < c.header.rows) (map (λ (m : Multiplier). m.row) ms) → All (λ (m : Multiplier). IsFraction m.factor) ms → MultipliersBelow c.header.rows ms
    both [] h k = tt
    both (m ∷ ms) h k = ((h.0, k.0), both ms h.1 k.1)

-- ---- rows

-- a reason in the tables: by its word, the rows that it names, its multipliers
module _ {index : List ℕ} {values : List ℤ} {rows : List ℕ} {own : ℕ} {d : Derivation} (k : EncodesDerivation index values rows own d) where
  pub reason_is : {w x : Word} → ((v : ReasonWord) → word_of index rows own ≡ reason_cell v → word_says w ≡ v) → w ≡ x → (v : Detail (word_says x)) × (d.reason ≡ as_reason (word_says x, v))
  reason_is {w} {x} f e = by_word d.reason (word_says x) (sym (f _ k.word_is) ∙ ap word_says e)

  pub named-below : {n : ℕ} → own < n → {q : Reason} → d.reason ≡ q → All (λ i. i < n) (named q)
  named-below {n} lt e = subst (λ (q : Reason). All (λ i. i < n) (named q)) e (more (named d.reason) k.named-below)
    where
      more : (is : List ℕ) → All (λ i. i < own) is → All (λ i. i < n) is
      more [] h = tt
      more (i ∷ is) h = (omega (arith, h.0), more is h.1)

  pub multipliers_are : {q : Reason} → d.reason ≡ q → EncodesReason index values (multipliers_of index rows own) q
  multipliers_are e = subst (EncodesReason index values (multipliers_of index rows own)) e k.reason

  -- a test of each named row, that was made of the rows that were fetched
  pub none_named : (test : ℕ → Bool) {n : ℕ} {b : Bool} → own < n → (All (λ i. i < n) (named_by index rows own) → b ≡ all_of test (named_by index rows own)) → b ≡ all_of test (named d.reason)
  none_named test {n} lt f = f (subst (All (λ i. i < n)) (sym k.named_are) (named-below lt refl)) ∙ ap (all_of test) k.named_are

module _ {tree : Tree} (c : Certificate) (e : Holds tree c) where
  -- the array of marks
  pub integers_marked : {marks : List Bool} {listed : List ℕ} → listed ≡ integers_at c.index.now c.header.integers
      → ((v : ℕ) → get_or marks v false ≡ ltb v most_variables && some_of (λ i. eqb i v) listed) → VariablesAre tree c.header.variables marks
  unfolding marked
  integers_marked {marks} {listed} q m = record { number = sym (variables_are e); integer = at }
    where
      at : (v : ℕ) → v < c.header.variables → marked marks v ≡ some_of (λ i. eqb i v) tree.integers.indices
      at v lt =
          ap (λ (b : Bool). b && get_or marks v false) (lt-ltb v 256 (omega (arith, variables_are e, e.in_range.variables_most)))
          ∙ marks-listed marks tree.integers.indices (integers-below e) (λ u. m u ∙ ap (λ (l : List ℕ). ltb u most_variables && some_of (λ i. eqb i u) l) (q ∙ e.integers_are)) v

  -- a derived row by its index
  module _ {own : ℕ} (k : ℕ) (q : own ≡ c.header.given + k) (lt : own < c.header.rows) where
    pub derivation_is : EncodesDerivation c.index.now c.values.now c.rows.now own (derivation_at tree k)
    derivation_is = subst (λ (i : ℕ). EncodesDerivation c.index.now c.values.now c.rows.now i (derivation_at tree k)) (sym q) (e.derivation k (omega arith))

    pub lists_derived : {x : ListedRow} → (HoldsRow tree c own (row_at tree own) → RowIs tree c.index.now c.values.now (row_at tree own) x) → Lists tree c (derivation_at tree k).row x
    lists_derived {x} f = subst (λ (r : Row). Lists tree c r x) (ap (row_at tree) q ∙ ap row_of (derived_at e k (omega arith))) (lists_row c e own lt (f (e.row own lt)))

-- ---- each derived row

-- what is left to check from the row `own` on gives the same as all
abbrev pub Left : Tree → List Fraction → Header → ℕ → Type 0
Left tree os h own =
    each_from (check_derivation tree os) own (drop (own - h.given) tree.derivations.derivations)
    ≡ each_from (check_derivation tree os) (length tree.constraints.rows) tree.derivations.derivations

-- the next one, and then the others
pub left-next : {tree : Tree} (c : Certificate) (e : Holds tree c) (os : List Fraction) {own : ℕ} → c.header.given ≤ own → Left tree os c.header own → own < c.header.rows
    → check_derivation tree os own (derivation_at tree (own - c.header.given)) and_then each_from (check_derivation tree os) (own + 1) (drop (own + 1 - c.header.given) tree.derivations.derivations)
    ≡ each_from (check_derivation tree os) (length tree.constraints.rows) tree.derivations.derivations
left-next {tree} c e os {own} le g lt =
    let k = own - c.header.given in
    let a : own + 1 ≡ suc own = omega arith in
    let b : own + 1 - c.header.given ≡ suc k = omega arith in
    let i : k < length tree.derivations.derivations = omega (arith, rows_are e) in
    (λ j. check_derivation tree os own (derivation_at tree k) and_then each_from (check_derivation tree os) (a j) (drop (b j) tree.derivations.derivations))
    ∙ sym (ap (each_from (check_derivation tree os) own) (drop-cons tree.derivations.derivations k no_derivation i))
    ∙ g
