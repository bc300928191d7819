-- Checking finds nothing to refuse exactly if the certificate meets the rules.
-- Assumes nothing.
use Rattle.std.specs.Prelude.{◌≡◌, refl, List, ◌↔◌, ℕ, length}
use Rattle.std.proofs.Common.{sym, subst, arith, ltb-true, lt-ltb}
use Rattle.std.proofs.Math.Option.{Option, none, some}
use Rattle.arithmetic.specs.Fraction.{IsFraction}
use Rattle.arithmetic.proofs.Meaning.{exact_positive}
use Rattle.arithmetic.specs.declared.Fraction.{Fraction}
use Rattle.grammar.specs.Tree.{Row, Multiplier, Unsplit, Reason, asm, lin, rnd, uns, sol, Last, never, index, Derivation, Tree}
use Rattle.rules.specs.Tests.{Decides, All}
use Rattle.rules.proofs.Tests.{not-true, decides_not}
use Rattle.rules.specs.Result.{Says}
use Rattle.rules.proofs.Result.{no_value, says-fine, says_as, says-require, says_then, says-bind, says-each, says-each_from}
use Rattle.rules.specs.Rows.{variables, Constraint, constraint_of, objective_with, Entry, given_row, derived_row, entry_at, row_at}
use Rattle.rules.specs.Solutions.{check_solution, Feasible, objectives_of, towards, end_to_reach, best_of}
use Rattle.rules.proofs.SolutionsLaws.{says-solution, gives_objectives, objectives_fractions, decides_reached, best_is}
use Rattle.rules.proofs.DominationLaws.{decides_dominates}
use Rattle.rules.specs.Combinations.{Denotes, suitable_combination}
use Rattle.rules.proofs.CombinationsLaws.{combines_fraction, gives_suitable}
use Rattle.rules.specs.Rounding.{CanBeRounded, can_be_rounded, Rounded, rounded}
use Rattle.rules.proofs.RoundingLaws.{decides_can_be_rounded, rounded_is}
use Rattle.rules.proofs.SplitsLaws.{decides_proper_split}
use Rattle.rules.specs.Derivations.{Past, Spent, is_past, is_spent, named, DominatesRow, ByCombination, ByRounding, ByUnsplit, BySolution, ByReason, Derived, check_dominates, check_lin, check_rnd, check_uns, check_sol, check_reason, check_derivation}
use Rattle.rules.specs.Claims.{last_row, is_proved, last_place}
use Rattle.rules.proofs.ClaimsLaws.{decides_proved}
use Rattle.rules.specs.Check.{check_of}
use Rattle.rules.specs.Meets.{Meets}

-- ---- spent rows

decides_past : (own : ℕ) (last : Last) → Decides (is_past own last) (Past own last)
decides_past own never = ((λ e. not-true e), λ h. absurd h)
decides_past own (index last) = (ltb-true last own, lt-ltb last own)

pub decides_spent : (own : ℕ) (e : Entry) → Decides (is_spent own e) (Spent own e)
decides_spent own (given_row row) = ((λ e. not-true e), λ h. absurd h)
decides_spent own (derived_row d) = decides_past own d.last

-- ---- the reasons

module _ (tree : Tree) (row : Row) where
  pub says-dominates : (c : Constraint) → Says (check_dominates tree c row) (DominatesRow tree c row)
  says-dominates c = says-require _ 15 row.name.place (decides_dominates (variables tree) c (constraint_of tree row))

  pub says-lin : (ms : List Multiplier) → Says (check_lin tree row ms) (ByCombination tree row ms)
  unfolding check_lin
  says-lin ms =
      says_as (λ h. record { combination = h.0; denoted = h.1; dominating = h.2 }) (λ h. (h.combination, h.denoted, h.dominating))
      (says-bind (suitable_combination tree row.name.place ms) _ (gives_suitable tree row.name.place ms) (λ c h. says-dominates c))

  pub says-rnd : (ms : List Multiplier) → Says (check_rnd tree row ms) (ByRounding tree row ms)
  unfolding check_rnd
  says-rnd ms =
      says_as to from
      (says-bind (suitable_combination tree row.name.place ms) _ (gives_suitable tree row.name.place ms)
      (λ c h. says_then _ _ (says-require (can_be_rounded tree c) 14 row.name.place (decides_can_be_rounded tree c)) (says-dominates (rounded c))))
    where
      is_rounded : (c : Constraint) → Denotes tree ms c → CanBeRounded tree c → (d : Constraint) → (rounded c ≡ d) ↔ Rounded c d
      is_rounded c h k = rounded_is c (exact_positive c.right (combines_fraction tree ms (record { coefficient = c.coefficient; right = c.right }) h.combines)) k.not_equality

      to : (c : Constraint) × Denotes tree ms c × (CanBeRounded tree c × DominatesRow tree (rounded c) row) → ByRounding tree row ms
      to h =
          let c = h.0 in
          record {
            combination = c;
            denoted = h.1;
            can_be_rounded_lem = h.2.0;
            rounded_to = rounded c;
            obtained = (is_rounded c h.1 h.2.0 (rounded c)).0 refl;
            dominating = h.2.1;
          }

      from : ByRounding tree row ms → (c : Constraint) × Denotes tree ms c × (CanBeRounded tree c × DominatesRow tree (rounded c) row)
      from h =
          let c = h.combination in
          let e : rounded c ≡ h.rounded_to = (is_rounded c h.denoted h.can_be_rounded_lem h.rounded_to).1 h.obtained in
          (c, h.denoted, (h.can_be_rounded_lem, subst (λ (d : Constraint). DominatesRow tree d row) (sym e) h.dominating))

  pub says-uns : (u : Unsplit) → Says (check_uns tree row u) (ByUnsplit tree row u)
  unfolding check_uns
  says-uns u =
      says_as (λ h. record { proper = h.0; first-dominates = h.1.0; second_dominates = h.1.1 }) (λ h. (h.proper, (h.first-dominates, h.second_dominates)))
      (says_then _ _ (says-require _ 16 row.name.place (decides_proper_split tree u.l1 u.l2))
      (says_then _ _ (says-dominates (constraint_of tree (row_at tree u.i1))) (says-dominates (constraint_of tree (row_at tree u.i2)))))

  module _ (os : List Fraction) (fractions : All IsFraction os) where
    abbrev by_best : Fraction → Constraint
    by_best best = objective_with tree (towards tree.objective.direction) best

    pub says-sol : Says (check_sol tree (best_of tree.objective.direction os) row) (BySolution tree os row)
    says-sol = go (best_of tree.objective.direction os) refl
      where
        go : (b : Option Fraction) → best_of tree.objective.direction os ≡ b → Says (check_sol tree b row) (BySolution tree os row)
        go none e = ((λ f. no_value f), λ h. absurd (let p = (best_is tree.objective.direction os fractions h.best).1 h.is_best in let z : ◌≡◌ {A = ℕ} 0 1 = cc in omega arith))
        go (some b) e =
            says_as (λ h. record { best = b; is_best = (best_is tree.objective.direction os fractions b).0 e; dominating = h })
            (λ h. let p = (best_is tree.objective.direction os fractions h.best).1 h.is_best in let q : h.best ≡ b = cc in subst (λ (x : Fraction). DominatesRow tree (by_best x) row) q h.dominating)
            (says-dominates (by_best b))

    pub says-reason : (why : Reason) → Says (check_reason tree os row why) (ByReason tree os row why)
    says-reason asm = says-fine
    says-reason (lin ms) = says-lin ms.multipliers
    says-reason (rnd ms) = says-rnd ms.multipliers
    says-reason (uns u) = says-uns u
    says-reason sol = says-sol

pub says-derivation : (tree : Tree) (os : List Fraction) → All IsFraction os → (own : ℕ) (d : Derivation) → Says (check_derivation tree os own d) (Derived tree os own d)
unfolding check_derivation
says-derivation tree os fractions own d =
    says_as (λ h. record { none_spent = h.0; by_reason = h.1 }) (λ h. (h.none_spent, h.by_reason))
    (says_then _ _
    (says-each _ (λ i. Spent own (entry_at tree i) → ⊥) (λ i. says-require _ 11 d.row.name.place (decides_not _ (decides_spent own (entry_at tree i)))) (named d.reason))
    (says-reason tree d.row os fractions d.reason))

-- ---- the whole

pub check_says : (tree : Tree) → Says (check_of tree) (Meets tree)
unfolding check_of
check_says tree =
    says_as
    (λ h. record { solutions_feasible = h.0; objectives = h.1.0; objectives_are = h.1.1; claim-reached = h.1.2.0; rows_derived = h.1.2.1.0; claim_proved = h.1.2.1.1 })
    (λ h. (h.solutions_feasible, (h.objectives, h.objectives_are, (h.claim-reached, (h.rows_derived, h.claim_proved)))))
    (says_then _ _ (says-each (check_solution tree) (Feasible tree) (says-solution tree) tree.solutions.solutions)
    (says-bind (objectives_of tree) _ (gives_objectives tree)
    (λ os h. says_then _ _ (says-require _ 10 tree.relation.place (decides_reached tree.objective.direction (end_to_reach tree.objective.direction tree.relation.claim) os))
    (says_then _ _
    (says-each_from (check_derivation tree os) (Derived tree os) (says-derivation tree os (objectives_fractions tree os h)) (length tree.constraints.rows) tree.derivations.derivations)
    (says-require (is_proved tree) 17 (last_place tree.derivations.place (last_row tree)) (decides_proved tree))))))
