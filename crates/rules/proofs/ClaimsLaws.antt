-- The test of `Claims` decides its words.
-- Assumes nothing.
use Rattle.std.specs.Prelude.{◌≡◌, refl, Bool, true, ◌&&◌, List, [], ◌∷◌, ◌++◌, ℕ, ◌+◌, length}
use Rattle.std.proofs.Common.{sym, ◌∙◌, ap, arith}
use Rattle.std.proofs.Math.Option.{some}
use Rattle.grammar.specs.Tree.{Derivation, Tree}
use Rattle.rules.specs.Tests.{Decides}
use Rattle.rules.proofs.Tests.{not-true, decides_and}
use Rattle.rules.specs.Rows.{variables, Constraint, constraint_of}
use Rattle.rules.specs.Domination.{Absurd, is_absurd, Dominates, dominates}
use Rattle.rules.proofs.DominationLaws.{decides_absurd, decides_dominates}
use Rattle.rules.specs.Assumptions.{NoAssumptions, assumptions_of, is_empty}
use Rattle.rules.proofs.AssumptionsLaws.{decides_no_assumptions}
use Rattle.rules.specs.Claims.{Asked, nothing, absurdity, domination, asked, LastProves, Answers, Proved, last_from, last_row, last_passes, answers, is_proved}

-- ---- the last derived row

last_is : (k : ℕ) (before : List Derivation) (last : Derivation) → last_from k (before ++ (last ∷ [])) ≡ some (k + length before, last)
last_is k [] last = ap (λ (n : ℕ). some (n, last)) (omega arith)
last_is k (d ∷ []) last = refl
last_is k (d ∷ e ∷ before) last = last_is (k + 1) (e ∷ before) last ∙ ap (λ (n : ℕ). some (n, last)) (omega arith)

has_last : (d : Derivation) (ds : List Derivation) → (before : List Derivation) × (last : Derivation) × (d ∷ ds ≡ before ++ (last ∷ []))
has_last d [] = ([], d, refl)
has_last d (e ∷ ds) = let r = has_last e ds in (d ∷ r.0, r.1, ap (λ (l : List Derivation). d ∷ l) r.2)

module _ (tree : Tree) (test : Constraint → Bool) (P : Constraint → Type 0) (d : (c : Constraint) → Decides (test c) (P c)) where
  decides_last : Decides (last_passes tree test (last_row tree)) (LastProves tree P)
  decides_last = (holds tree.derivations.derivations refl, enough)
    where
      given : ℕ
      given = length tree.constraints.rows

      both : (i : ℕ) (last : Derivation) → Decides (test (constraint_of tree last.row) && is_empty (assumptions_of tree i)) (P (constraint_of tree last.row) × NoAssumptions tree i)
      both i last = decides_and _ _ (d (constraint_of tree last.row)) (decides_no_assumptions tree i)

      holds : (ds : List Derivation) → tree.derivations.derivations ≡ ds → last_passes tree test (last_from given ds) ≡ true → LastProves tree P
      holds [] p e = not-true e
      holds (x ∷ xs) p e =
          let r = has_last x xs in
          let i = given + length r.0 in
          let f : last_passes tree test (some (i, r.1)) ≡ true = ap (last_passes tree test) (sym (ap (last_from given) r.2 ∙ last_is given r.0 r.1)) ∙ e in
          let h = (both i r.1).0 f in
          record { before = r.0; last = r.1; is_last = p ∙ r.2; proves = h.0; no_assumptions = h.1 }

      enough : LastProves tree P → last_passes tree test (last_row tree) ≡ true
      enough h =
          ap (λ (ds : List Derivation). last_passes tree test (last_from given ds)) h.is_last
          ∙ ap (last_passes tree test) (last_is given h.before h.last)
          ∙ (both (given + length h.before) h.last).1 (h.proves, h.no_assumptions)

pub decides_proved : (tree : Tree) → Decides (is_proved tree) (Proved tree)
unfolding is_proved
decides_proved tree = go (asked tree)
  where
    go : (a : Asked) → Decides (answers tree a) (Answers tree a)
    go nothing = ((λ e. tt), λ u. refl)
    go absurdity = decides_last tree (is_absurd (variables tree)) (Absurd (variables tree)) (decides_absurd (variables tree))
    go (domination c) = decides_last tree (λ d. dominates (variables tree) d c) (λ d. Dominates (variables tree) d c) (λ d. decides_dominates (variables tree) d c)
