-- How the refusals of the parts of checking make the refusal of the whole, in document 01's order.
-- Assumes nothing.
use Rattle.std.proofs.Common.{◌≡◌, sym, ◌∙◌, ap, subst, Bool, true, false, List, ℕ, Option, Some, None, Result, Ok, Err}
use Rattle.std.specs.Prelude.{⊤, IfSome}
use Rattle.std.specs.Result.{IsErrAnd}
use Rattle.arithmetic.specs.Fraction.{IsFraction}
use Rattle.arithmetic.specs.declared.Fraction.{Fraction}
use Rattle.grammar.specs.Tree.{End, Tree}
use Rattle.grammar.specs.declared.Stop.{Stop}
use Rattle.rules.specs.Result as rules
use Rattle.rules.specs.Result.{Verdict, refused, bind, ◌and_then◌, require, each}
use Rattle.rules.specs.Solutions.{check_solution, objectives_of, end_to_reach, reached}
use Rattle.rules.specs.Check.{check_of}
use Rattle.rules.specs.Sentence.Formed.{EndFormed}
use Rattle.encoding.specs.Claims.{end_says}
use Rattle.verdicts.specs.Verdicts.{verdict_says}
use Rattle.solutions.specs.Objectives.{Worked, ObjectivesSay}
use Rattle.solutions.specs.declared.objectives.Best.{Best}
use Rattle.checker.specs.Order.{proof_of, reaching_of}

-- ---- the first refusal

-- what `?` hands on
pub handed_on : {A E : Type 0} (z : Result A E) {e : E} → IsErrAnd z (λ (y : E). y ≡ e) → z ≡ Err e
handed_on (Ok a) h = absurd h
handed_on (Err x) h = ap Err h

-- a refusal of the first of two that is handed on is the refusal of both
pub stops : {v z : Result ⊤ Stop} {stop : Stop} {x : Verdict} (y : Verdict) → v ≡ Err stop → z ≡ Err stop → verdict_says v ≡ x → verdict_says z ≡ x and_then y
stops y was up says = ap verdict_says up ∙ ap (λ (r : Verdict). r and_then y) (sym (ap verdict_says was) ∙ says)

-- where the first is fine, the second is what both come to
pub goes_on : {v : Result ⊤ Stop} {u : ⊤} {x : Verdict} (y : Verdict) → v ≡ Ok u → verdict_says v ≡ x → x and_then y ≡ y
goes_on y was says = ap (λ (r : Verdict). r and_then y) (sym says ∙ ap verdict_says was)

-- ---- the ends that are asked

-- a finite end is a fraction
pub finite-fraction : (o : Option Fraction) → EndFormed (end_says o) → IfSome o IsFraction
finite-fraction None h = tt
finite-fraction (Some f) h = h

module _ (tree : Tree) where
  abbrev solutions_part : Verdict
  solutions_part = each (check_solution tree) tree.solutions.solutions

  abbrev pub from_objectives : Verdict
  from_objectives = bind (objectives_of tree) (reaching_of tree)

  pub solutions_refused : {v z : Result ⊤ Stop} {stop : Stop} → v ≡ Err stop → z ≡ Err stop → verdict_says v ≡ solutions_part → verdict_says z ≡ check_of tree
  unfolding check_of
  solutions_refused was up says = stops from_objectives was up says

  pub after_solutions : {v : Result ⊤ Stop} {u : ⊤} → v ≡ Ok u → verdict_says v ≡ solutions_part → check_of tree ≡ from_objectives
  unfolding check_of
  after_solutions was says = goes_on from_objectives was says

  -- ---- the objectives

  pub too_wide : (end : End) {r : Result Best Stop} {z : Result ⊤ Stop} {stop : Stop} → r ≡ Err stop → z ≡ Err stop → ObjectivesSay tree end r → verdict_says z ≡ from_objectives
  too_wide end was up says = ap verdict_says up ∙ ap (λ (x : rules.Result (List Fraction)). bind x (reaching_of tree)) (sym (subst (ObjectivesSay tree end) was says).0)

  pub found : (end : End) {r : Result Best Stop} {best : Best} → r ≡ Ok best → ObjectivesSay tree end r → Worked tree end best
  found end was says = subst (ObjectivesSay tree end) was says

  -- ---- "some objective is at most ub .. some is at least lb; else 10"

  module _ {end : End} {best : Best} (end_is : end ≡ end_to_reach tree.objective.direction tree.relation.claim) (w : Worked tree end best) where
    tested : (r : Bool) → best.reached ≡ r → from_objectives ≡ require r 10 tree.relation.place and_then proof_of tree w.values
    tested r e =
        ap (λ (x : rules.Result (List Fraction)). bind x (reaching_of tree)) w.are
        ∙ ap (λ (t : Bool). require t 10 tree.relation.place and_then proof_of tree w.values)
        (ap (λ (e : End). reached tree.objective.direction e w.values) (sym end_is) ∙ sym w.best.reached_is ∙ e)

    pub not-reached : best.reached ≡ false → {place : ℕ} → place ≡ tree.relation.place → refused 10 place ≡ from_objectives
    not-reached e p = ap (λ (n : ℕ). refused 10 n) p ∙ sym (tested false e)

    pub is_reached : best.reached ≡ true → from_objectives ≡ proof_of tree w.values
    is_reached e = tested true e
