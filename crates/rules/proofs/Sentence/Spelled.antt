-- A certificate that a text spells is well formed: by the ranges, the distinctness and the number limits of the grammar.
-- Assumes nothing.
use Rattle.std.specs.Prelude.{◌≡◌, refl, List, [], ◌∷◌, ◌++◌, map, ℕ, ◌+◌, ◌<◌, length}
use Rattle.std.proofs.Common.{sym, ◌∙◌, subst, arith, length-append}
use mathlib.Core.List.Memᴰ
use Rattle.text.specs.Bytes.{Bytes}
use Rattle.text.specs.Tokens.{Token}
use Rattle.arithmetic.specs.Fraction.{IsFraction}
use Rattle.arithmetic.specs.declared.Fraction.{Fraction}
use Rattle.numerals.specs.Spelling.{SpellsValue}
use Rattle.numerals.proofs.Agreement.{value_read}
use Rattle.grammar.specs.Tree.{Integers, Objective, Constraints, Solutions, Derivations, Term, Side, obj, listed, Row, End, infinite, finite, Claim, infeas, range, Solution, Multiplier, MultiplierList, Reason, asm, lin, rnd, uns, sol, Derivation, Tree}
use Rattle.grammar.specs.Lists.{NoneOf}
use Rattle.grammar.specs.Spelling.{ItemsSpelled, Spells}
use Rattle.grammar.specs.Certificate.{Pair, new_index_below, pair, of_term, of_multiplier, multiplier_list, side, row, row_names, reason, assumptions, derivation, solution, end_or, claim, integers, objective_section, constraints, solution_section, derivation_section, certificate}
use Rattle.rules.specs.Tests.{All}
use Rattle.rules.specs.Result.{AllFrom}
use Rattle.rules.specs.Rows.{variables, objective, side_terms}
use Rattle.rules.specs.Derivations.{named}
use Rattle.rules.specs.Sentence.Formed.{Formed, RowFormed, DerivationFormed, EndFormed, ClaimFormed, WellFormed}

-- a value that is spelled is a fraction
fraction_spelled : (f : Fraction) (token : Bytes) → SpellsValue f token → IsFraction f
fraction_spelled f token s = ((value_read token).spells_exactly f s).0

-- ---- lists of items

all_items : {A : Type 0} (P : List A → A → List Token → Type 0) (Q : A → Type 0) → ((before : List A) (x : A) (ts : List Token) → P before x ts → Q x)
    → (before xs : List A) (ts : List Token) → ItemsSpelled P before xs ts → All Q xs
all_items P Q f before [] ts s = tt
all_items P Q f before (x ∷ xs) ts s = (f before x s.front s.first, all_items P Q f (before ++ (x ∷ [])) xs s.back s.second)

-- with the number of each, where so many stand before the list
all_items_from : {A : Type 0} (P : List A → A → List Token → Type 0) (Q : ℕ → A → Type 0) (k : ℕ) → ((before : List A) (x : A) (ts : List Token) → P before x ts → Q (k + length before) x)
    → (before xs : List A) (ts : List Token) → ItemsSpelled P before xs ts → AllFrom Q (k + length before) xs
all_items_from P Q k f before [] ts s = tt
all_items_from P Q k f before (x ∷ xs) ts s = (
  f before x s.front s.first,
  subst (λ (n : ℕ). AllFrom Q n xs) (omega (arith, length-append before (x ∷ []))) (all_items_from P Q k f (before ++ (x ∷ [])) xs s.back s.second),
)

all_append : {A : Type 0} (P : A → Type 0) (xs ys : List A) → All P (xs ++ ys) → All P xs × All P ys
all_append P [] ys h = (tt, h)
all_append P (x ∷ xs) ys h = let r = all_append P xs ys h.1 in ((h.0, r.0), r.1)

all_map : {A B : Type 0} (f : A → B) (P : B → Type 0) (xs : List A) → All (λ a. P (f a)) xs → All P (map f xs)
all_map f P [] h = tt
all_map f P (x ∷ xs) h = (h.0, all_map f P xs h.1)

all_mapped : {A B : Type 0} (f : A → B) (P : B → Type 0) (xs : List A) → All P (map f xs) → All (λ a. P (f a)) xs
all_mapped f P [] h = tt
all_mapped f P (x ∷ xs) h = (h.0, all_mapped f P xs h.1)

-- an index that is none of those used
distinct : (v : ℕ) (ps : List Pair) → NoneOf v (map (λ (p : Pair). p.index) ps) → All (λ (p : Pair). p.index ≡ v → ⊥) ps
distinct v [] h = tt
distinct v (p ∷ ps) h = ((λ e. h (Memᴰ.head (sym e))), distinct v ps (λ m. h (Memᴰ.tail m)))

-- ---- terms, rows, reasons

-- terms after these pairs
terms_spelled : (n : ℕ) (before : List Pair) (ts : List Term) (tokens : List Token) → ItemsSpelled (λ before x vs. Spells (pair n before) x vs) before (map of_term ts) tokens
    → Formed n ts × All (λ (u : Term). All (λ (p : Pair). p.index ≡ u.variable → ⊥) before) ts
terms_spelled n before [] tokens s = (tt, tt)
terms_spelled n before (t ∷ ts) tokens s =
    let index = s.first.first.spelled in
    let value = s.first.second in
    let r = terms_spelled n (before ++ (of_term t ∷ [])) ts s.back s.second in
    let later = split ts r.1 in
    (((fraction_spelled t.coefficient value.token.bytes value.spelled, index.in_range), (later.1, r.0)), (distinct t.variable before index.distinct, later.0))
  where
    split : (us : List Term) → All (λ (u : Term). All (λ (p : Pair). p.index ≡ u.variable → ⊥) (before ++ (of_term t ∷ []))) us
        → All (λ (u : Term). All (λ (p : Pair). p.index ≡ u.variable → ⊥) before) us × All (λ (u : Term). t.variable ≡ u.variable → ⊥) us
    split [] h = (tt, tt)
    split (u ∷ us) h =
        let a = all_append (λ (p : Pair). p.index ≡ u.variable → ⊥) before (of_term t ∷ []) h.0 in
        let r = split us h.1 in
        ((a.0, r.0), (a.1.0, r.1))

-- a list of multipliers names rows below its own row
multipliers_spelled : (own : ℕ) (ms : MultiplierList) (tokens : List Token) → Spells (multiplier_list own) ms tokens
    → All (λ i. i < own) (map (λ (m : Multiplier). m.row) ms.multipliers)
multipliers_spelled own ms tokens s =
    all_map (λ (m : Multiplier). m.row) (λ i. i < own) ms.multipliers
    (all_mapped of_multiplier (λ (p : Pair). p.index < own) ms.multipliers
    (all_items (λ before p ts. Spells (pair own before) p ts) (λ (p : Pair). p.index < own) (λ before p ts h. h.first.spelled.in_range) [] (map of_multiplier ms.multipliers) s.back s.second.each))

module _ (tree : Tree) (formed-objective : Formed (variables tree) (objective tree)) where
  side_spelled : (s : Side) (tokens : List Token) → Spells (side (variables tree)) s tokens → Formed (variables tree) (side_terms tree s)
  side_spelled obj tokens s = formed-objective
  side_spelled (listed ts) tokens s = (terms_spelled (variables tree) [] ts.terms s.back s.second.each).0

  row_spelled : (own : ℕ) (used : List Bytes) (r : Row) (tokens : List Token) → Spells (row (variables tree) own used) r tokens → RowFormed tree r
  row_spelled own used r tokens s =
      let rest = s.second.second in
      record { right_fraction = fraction_spelled r.right rest.first.token.bytes rest.first.spelled; terms_formed = side_spelled r.side rest.back rest.second }

  reason_spelled : (own assumed : ℕ) (why : Reason) (tokens : List Token) → Spells (reason own assumed) why tokens → All (λ i. i < own) (named why)
  reason_spelled own assumed asm tokens s = tt
  reason_spelled own assumed (lin ms) tokens s = multipliers_spelled own ms s.back s.second
  reason_spelled own assumed (rnd ms) tokens s = multipliers_spelled own ms s.back s.second
  reason_spelled own assumed (uns u) tokens s =
      let w = s.second in
      let x = w.second in
      let y = x.second in
      (w.first.spelled.in_range, (x.first.spelled.in_range, (y.first.spelled.in_range, (y.second.spelled.in_range, tt))))
  reason_spelled own assumed sol tokens s = tt

-- ---- the claim

end_spelled : (w : Bytes) (e : End) (tokens : List Token) → Spells (end_or w) e tokens → EndFormed e
end_spelled w infinite tokens s = tt
end_spelled w (finite b) tokens s = fraction_spelled b s.token.bytes s.spelled

claim_spelled : (c : Claim) (tokens : List Token) → Spells claim c tokens → ClaimFormed c
claim_spelled infeas tokens s = tt
claim_spelled (range lower upper) tokens s = let e = s.second in (end_spelled _ lower e.front e.first, end_spelled _ upper e.back e.second)

-- ---- the sections

integers_spelled : (n : ℕ) (i : Integers) (tokens : List Token) → Spells (integers n) i tokens → All (λ v. v < n) i.indices
integers_spelled n i tokens s =
    all_items (λ before v ts. Spells (new_index_below n before) v ts) (λ v. v < n) (λ before v ts p. p.spelled.in_range) [] i.indices s.second.back s.second.second.each

objective_spelled : (n : ℕ) (o : Objective) (tokens : List Token) → Spells (objective_section n) o tokens → Formed n o.terms.terms
objective_spelled n o tokens s = (terms_spelled n [] o.terms.terms s.second.second.back s.second.second.second.each).0

solutions_spelled : (n : ℕ) (t : Solutions) (tokens : List Token) → Spells (solution_section n) t tokens → All (λ (s : Solution). Formed n s.values.terms) t.solutions
solutions_spelled n t tokens s =
    all_items (λ before x ts. Spells (solution n before) x ts) (λ (x : Solution). Formed n x.values.terms)
    (λ before x ts p. (terms_spelled n [] x.values.terms p.second.back p.second.second.each).0) [] t.solutions s.second.back s.second.second.each

module _ (tree : Tree) (formed-objective : Formed (variables tree) (objective tree)) where
  constraints_spelled : (c : Constraints) (tokens : List Token) → Spells (constraints (variables tree)) c tokens → (length c.rows ≡ c.count) × All (RowFormed tree) c.rows
  constraints_spelled c tokens s =
      let rows = s.second.second.second in (
        rows.counted,
        all_items (λ before r ts. Spells (row (variables tree) (length before) (row_names before)) r ts) (RowFormed tree)
            (λ before r ts p. row_spelled tree formed-objective (length before) (row_names before) r ts p) [] c.rows s.second.second.back rows.each,
      )

  derivations_spelled : (c : Constraints) (d : Derivations) (tokens : List Token) → length c.rows ≡ c.count → Spells (derivation_section (variables tree) c) d tokens
      → AllFrom (DerivationFormed tree) (length c.rows) d.derivations
  derivations_spelled c d tokens e s =
      subst (λ (k : ℕ). AllFrom (DerivationFormed tree) k d.derivations) (omega arith)
      (all_items_from (λ before x ts. Spells (derivation (variables tree) c.count (row_names c.rows) d.count before) x ts) (DerivationFormed tree) c.count one [] d.derivations s.second.back s.second.second.each)
    where
      one : (before : List Derivation) (x : Derivation) (ts : List Token) → Spells (derivation (variables tree) c.count (row_names c.rows) d.count before) x ts → DerivationFormed tree (c.count + length before) x
      one before x ts p =
          record {
            row_formed = row_spelled tree formed-objective (c.count + length before) (row_names c.rows ++ map (λ (x : Derivation). x.row.name.bytes) before) x.row p.front p.first;
            named-below = reason_spelled tree formed-objective (c.count + length before) (assumptions before) x.reason p.second.second.front p.second.second.first;
          }

-- ---- the whole

pub spelled_formed : (tree : Tree) (tokens : List Token) → Spells certificate tree tokens → WellFormed tree
spelled_formed tree tokens s =
    let n = variables tree in
    let i = s.second.second in
    let j = i.second in
    let o = objective_spelled n tree.objective j.front j.first in
    let k = j.second in
    let c = constraints_spelled tree o tree.constraints k.front k.first in
    let r = k.second.first in
    let l = k.second.second in
    record {
      integers-below = integers_spelled n tree.integers i.front i.first;
      objective_formed = o;
      rows_formed = c.1;
      claim_formed = claim_spelled tree.relation.claim r.back r.second;
      solutions_formed = solutions_spelled n tree.solutions l.front l.first;
      derivations_formed = derivations_spelled tree o tree.constraints tree.derivations l.back c.0 l.second;
    }
