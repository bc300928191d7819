-- What document 01's paragraph "Ranges" asks of a tree, and that every tree that is spelled keeps it. Certificate.antt says it
-- of the tokens, one by one as they stand in the text; here it is said of the tree.
-- Assumes nothing.
use Rattle.std.specs.Prelude.{◌≡◌, refl, Bool, true, false, cond, ◌⊎◌, ℕ, suc, ◌+◌, ◌≤◌, ◌<◌, eqb, length}
use Rattle.std.proofs.Common.{sym, ◌∙◌, ap, subst, subst₂, inl, inr, arith, leb-false, eq-eqb}
use mathlib.Core.List.Memᴰ
use mathlib.Core.List.{List, [], ◌∷◌, ◌++◌, map, map-id, map-map, map-append, append_assoc, append-nil, Memᴰ}
use Rattle.std.proofs.lemmas.List.{length-map}
use Rattle.text.specs.Bytes.{Bytes, same}
use Rattle.text.proofs.BytesLaws.{clash, same_refl}
use Rattle.text.specs.Tokens.{Token}
use Rattle.tables.specs.Limits.{most_variables, most_rows, most_solutions, most_assumptions, most_entries}
use Rattle.grammar.specs.Tree.{Integers, Term, TermList, Side, obj, listed, Row, Solution, Multiplier, Reason, asm, lin, rnd, uns, sol, Last, never, index, Derivation, Tree}
use Rattle.grammar.specs.Format.{items}
use Rattle.grammar.specs.Spelling.{ItemsSpelled, Spells}
use Rattle.grammar.specs.Certificate.{new_index_below, Pair, pair, pair_list, of_term, term_list, of_multiplier, side, row, row_names, reason, last, is_assumption, assumptions, derivation, solution, integers}
use Rattle.grammar.specs.Texts.{SpellsTree}
use Rattle.grammar.specs.Contents.{up_from, tree_rows}
use Rattle.grammar.specs.Lists.{Each, NoneOf}

-- ---- what is said

-- no element has the key of one before it
pub record Distinct {A B : Type 0} (key : A → B) (xs : List A) : Type 0 where
  pub once : (before : List A) (x : A) (after : List A) → xs ≡ before ++ (x ∷ after) → Memᴰ (key x) (map key before) → ⊥

-- a list is as long as its count says, at most as long as the bound, and has distinct indices below the bound
pub record InRange {A : Type 0} (bound count : ℕ) (index : A → ℕ) (xs : List A) : Type 0 where
  pub counted : length xs ≡ count
  pub most : count ≤ bound
  pub below : Each (λ (x : A). index x < bound) xs
  pub distinct : Distinct index xs

-- "terms 0 to n in a row, objective or solution", "A variable's index is below n"
abbrev pub TermsInRange : ℕ → TermList → Type 0
TermsInRange n t = InRange n t.count (λ (x : Term). x.variable) t.terms

abbrev pub SideInRange : ℕ → Side → Type 0
SideInRange n obj = Unit {0}
SideInRange n (listed t) = TermsInRange n t

-- "multipliers 0 to the row's own index; a named row below its own index"
abbrev pub ReasonInRange : ℕ → Reason → Type 0
ReasonInRange own asm = Unit {0}
ReasonInRange own (lin m) = InRange own m.count (λ (x : Multiplier). x.row) m.multipliers
ReasonInRange own (rnd m) = InRange own m.count (λ (x : Multiplier). x.row) m.multipliers
ReasonInRange own (uns u) = (u.i1 < own) × (u.l1 < own) × (u.i2 < own) × (u.l2 < own)
ReasonInRange own sol = Unit {0}

-- "last index below m + d"
abbrev pub LastInRange : ℕ → Last → Type 0
LastInRange rows never = Unit {0}
LastInRange rows (index i) = i < rows

-- the derivation of the row with the index own, of so many rows
pub record DerivationInRange (n own rows : ℕ) (d : Derivation) : Type 0 where
  pub side : SideInRange n d.row.side
  pub reason : ReasonInRange own d.reason
  pub last : LastInRange rows d.last

-- the rows of a certificate, the given ones first
abbrev pub rows_of : Tree → List Row
rows_of t = t.constraints.rows ++ map (λ (d : Derivation). d.row) t.derivations.derivations

-- the paragraph "Ranges"
pub record TreeInRange (t : Tree) : Type 0 where
  pub variables_most : t.variables.count ≤ most_variables
  pub variables_counted : length t.variables.names ≡ t.variables.count
  pub integers : InRange t.variables.count t.integers.count (λ (i : ℕ). i) t.integers.indices
  pub objective : TermsInRange t.variables.count t.objective.terms
  pub rows_most : t.constraints.count ≤ most_rows
  pub bounds_most : t.constraints.bounds ≤ t.constraints.count
  pub rows_counted : length t.constraints.rows ≡ t.constraints.count
  pub sides : Each (λ (r : Row). SideInRange t.variables.count r.side) t.constraints.rows
  pub solutions_most : t.solutions.count ≤ most_solutions
  pub solutions_counted : length t.solutions.solutions ≡ t.solutions.count
  pub solutions : Each (λ (s : Solution). TermsInRange t.variables.count s.values) t.solutions.solutions
  pub derivations_most : t.constraints.count + t.derivations.count ≤ most_rows
  pub derivations_counted : length t.derivations.derivations ≡ t.derivations.count
  pub derivations : (before : List Derivation) (d : Derivation) (after : List Derivation) → t.derivations.derivations ≡ before ++ (d ∷ after)
      → DerivationInRange t.variables.count (t.constraints.count + length before) (t.constraints.count + t.derivations.count) d
  pub assumptions_most : assumptions t.derivations.derivations ≤ most_assumptions
  pub names_distinct : Distinct (λ (r : Row). r.name.bytes) (rows_of t)

-- ---- the rows of the row table

-- no number stands twice in a list
abbrev pub Once : List ℕ → Type 0
Once [] = Unit {0}
Once (n ∷ ns) = (Memᴰ n ns → ⊥) × Once ns
