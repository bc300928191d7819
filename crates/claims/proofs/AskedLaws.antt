-- The ends of the claim, what it asks, and the last derived row.
-- Assumes nothing.
use mathlib.Core.Path.{◌≡◌, refl, sym, ◌∙◌, ap, ap₂, subst}
use mathlib.Core.Bool.{Bool, true, false, ◌&&◌}
use mathlib.Core.List.{List, [], ◌∷◌}
use mathlib.Core.Option.{none, some}
use Prim.Native.Nat.{ℕ, suc, ◌+◌, ◌-◌, ◌≤◌}
use native.Mathlib.Nat.{add-zero}
use native.Mathlib.Omega.{arith}
use lib.IntN.{ℤ}
use lib.ListN.{length, get_or}
use Rattle.tables.specs.declared.Header.{Header}
use Rattle.grammar.specs.Tree.{Direction, minimize, maximize, End, infinite, finite, Claim, infeas, range, Derivation, Tree}
use Rattle.grammar.specs.Certificate.{claim_cell, of_claim}
use Rattle.grammar.specs.Header.{is_maximize}
use Rattle.rules.proofs.Tests.{not-true}
use Rattle.rules.specs.Rows.{Constraint, constraint_of, objective_with, row_of, row_at}
use Rattle.rules.specs.Assumptions.{assumptions_of, is_empty}
use Rattle.rules.specs.Claims.{Asked, nothing, absurdity, domination, asked_by, asked, last_from, last_row, last_passes, answers, is_proved, last_place}
use Rattle.rules.specs.Sentence.Formed.{EndFormed}
use Rattle.encoding.specs.Encodes.{EncodesClaim, no_derivation, derivation_at, Encodes}
use Rattle.encoding.proofs.EncodesLaws.{maximize_is, given_are, rows_are, derived_at}
use Rattle.encoding.specs.Claims.{is_infeas, end_in}
use Rattle.encoding.proofs.ClaimsLaws.{end_formed, claim_word}
use Rattle.claims.specs.Asked.{against, asked_says, meets}
use Rattle.claims.specs.declared.proving.Asked as code
use Rattle.claims.specs.declared.proving.Asked.TheVariants as ask

-- ---- what is asked

module _ (tree : Tree) where
  asked_absurdity : is_infeas tree.relation.claim ≡ true → absurdity ≡ asked tree
  asked_absurdity e = go tree.relation.claim e
    where
      go : (c : Claim) → is_infeas c ≡ true → absurdity ≡ asked_by tree tree.objective.direction c
      go infeas e = refl
      go (range lower upper) e = not-true e

  -- by the end that is asked
  abbrev pub asked_at : Direction → End → Asked
  asked_at d infinite = nothing
  asked_at d (finite f) = domination (objective_with tree (against d) f)

  -- the lower one for min, the upper one for max
  asked_end : is_infeas tree.relation.claim ≡ false → {m : Bool} → m ≡ is_maximize tree.objective.direction
      → asked_at tree.objective.direction (end_in m tree.relation.claim) ≡ asked tree
  asked_end e q = ap (λ (m : Bool). asked_at tree.objective.direction (end_in m tree.relation.claim)) q ∙ go tree.objective.direction tree.relation.claim e
    where
      go : (d : Direction) (c : Claim) → is_infeas c ≡ false → asked_at d (end_in (is_maximize d) c) ≡ asked_by tree d c
      go d infeas e = not-true (sym e)
      go minimize (range infinite upper) e = refl
      go minimize (range (finite f) upper) e = refl
      go maximize (range lower infinite) e = refl
      go maximize (range lower (finite f)) e = refl

  -- ---- what is asked is answered

  pub nothing_asked : nothing ≡ asked tree → true ≡ is_proved tree
  unfolding is_proved
  nothing_asked e = ap (answers tree) e

  pub last-asked : (a : code.Asked) → (a ≡ ask.Nothing → ⊥) → asked_says tree a ≡ asked tree → last_passes tree (meets tree (asked_says tree a)) (last_row tree) ≡ is_proved tree
  unfolding is_proved
  last-asked ask.Nothing k e = absurd (k refl)
  last-asked ask.Absurdity k e = ap (answers tree) e
  last-asked (ask.Domination bound) k e = ap (answers tree) e

-- ---- the claim in tables

module _ {tree : Tree} {h : Header} {index : List ℕ} {values : List ℤ} {rows : List ℕ} (e : Encodes tree h index values rows) where
  abbrev claim : Claim
  claim = tree.relation.claim

  -- its word, which a call told
  module _ {r : Bool} (infeas-is : (c : Claim) → get_or index h.claim 0 ≡ claim_cell (of_claim c).0 → r ≡ is_infeas c) where
    told : r ≡ is_infeas claim
    told = infeas-is claim (claim_word index values h.claim h.ends claim e.claim)

    pub infeas-asked : r ≡ true → absurdity ≡ asked tree
    infeas-asked q = asked_absurdity tree (sym told ∙ q)

    -- and the end that is asked
    pub end_asked : r ≡ false → (x : End) → ((c : Claim) → EncodesClaim index values h.claim h.ends c → x ≡ end_in h.maximize c)
        → (asked_at tree tree.objective.direction x ≡ asked tree) × EndFormed x
    end_asked q x f = (
      ap (asked_at tree tree.objective.direction) (f claim e.claim) ∙ asked_end tree (sym told ∙ q) (maximize_is e),
      subst EndFormed (sym (f claim e.claim)) (end_formed h.maximize claim e.formed.claim_formed),
    )

-- ---- the last derived row

none_of : (k : ℕ) (ds : List Derivation) → length ds ≡ 0 → last_from k ds ≡ none
none_of k [] e = refl
none_of k (d ∷ ds) e = absurd (omega arith)

last_of : (k : ℕ) (d : Derivation) (ds : List Derivation) → last_from k (d ∷ ds) ≡ some (k + length ds, get_or (d ∷ ds) (length ds) no_derivation)
last_of k d [] = ap (λ (n : ℕ). some (n, d)) (sym (add-zero k))
last_of k d (e ∷ ds) =
    let q : k + 1 + length ds ≡ k + suc (length ds) = omega arith in
    last_of (k + 1) e ds ∙ ap (λ (n : ℕ). some (n, get_or (e ∷ ds) (length ds) no_derivation)) q

module _ {tree : Tree} {h : Header} {index : List ℕ} {values : List ℤ} {rows : List ℕ} (e : Encodes tree h index values rows) where
  module _ {last : ℕ} (ge : h.given ≤ last) (at_end : last + 1 ≡ h.rows) where
    -- its index and its derivation
    the_last : last_row tree ≡ some (last, derivation_at tree (last - h.given))
    the_last = go tree.derivations.derivations (rows_are e)
      where
        go : (ds : List Derivation) → h.rows ≡ h.given + length ds → last_from (length tree.constraints.rows) ds ≡ some (last, get_or ds (last - h.given) no_derivation)
        go [] q = absurd (omega (arith, ge, at_end, q))
        go (d ∷ ds) q =
            let at : length tree.constraints.rows + length ds ≡ last = omega (arith, at_end, q, given_are e) in
            let k : length ds ≡ last - h.given = omega (arith, at_end, q) in
            last_of _ d ds ∙ ap₂ (λ (i j : ℕ). some (i, get_or (d ∷ ds) j no_derivation)) at k

    last_row_lem : (derivation_at tree (last - h.given)).row ≡ row_at tree last
    last_row_lem =
        let k : h.given + (last - h.given) ≡ last = omega (arith, ge) in
        sym (ap (row_at tree) (sym k) ∙ ap row_of (derived_at e (last - h.given) (omega (arith, ge, at_end))))

    pub place_of_last : (word : ℕ) → (row_at tree last).name.place ≡ last_place word (last_row tree)
    place_of_last word = sym (ap (last_place word) the_last ∙ ap (λ r. r.name.place) last_row_lem)

    pub last-passes : (test : Constraint → Bool)
        → test (constraint_of tree (row_at tree last)) && is_empty (assumptions_of tree last) ≡ last_passes tree test (last_row tree)
    last-passes test =
        sym (ap (last_passes tree test) the_last ∙ ap (λ r. test (constraint_of tree r) && is_empty (assumptions_of tree last)) last_row_lem)

-- ---- two tests in order

pub both_pass : {s t x y : Bool} → s ≡ x → s ≡ true → t ≡ y → t ≡ x && y
both_pass {s} {t} {x} {y} e f g = g ∙ ap (λ (z : Bool). z && y) (sym f ∙ e)

pub first_fails : {s x : Bool} (y : Bool) → s ≡ x → s ≡ false → s ≡ x && y
first_fails y e f = f ∙ ap (λ (z : Bool). z && y) (sym f ∙ e)
