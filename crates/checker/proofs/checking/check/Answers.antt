-- `checker::checking::check` meets its contract: its parts are those of `check_of`, in its order.
use Rattle.std.proofs.Common.{◌≡◌, sym, ◌∙◌, ap, rules}
use Rattle.tables.specs.declared.Header.{Header}
use Rattle.grammar.specs.Tree.{Tree}
use Rattle.rules.specs.Result.{require}
use Rattle.rules.specs.Claims.{last_row, is_proved, last_place}
use Rattle.rules.specs.Check.{check_of}
use Rattle.encoding.specs.Encodes.{Holds}
use Rattle.encoding.specs.Claims.{end_says}
use Rattle.verdicts.specs.Verdicts.{verdict_says}
use Rattle.solutions.specs.Objectives.{ObjectivesSay, Worked}
use Rattle.checker.specs.Order.{derivations_of, claim_of, proof_of}
use Rattle.checker.proofs.InOrder.{handed_on, stops, goes_on, finite-fraction, from_objectives, solutions_refused, after_solutions, too_wide, found, not-reached, is_reached}
use Rattle.checker.proofs.checking.check.Goals as goal
use Rattle.checker.proofs.checking.check.Goals.{After-objectives_of, In_ok-best, After-check_derivations}

-- the solutions have nothing to refuse, and what comes of their objectives is known
solved : (c : After-objectives_of) (tree : Tree) → Holds tree c.args.certificate → check_of tree ≡ from_objectives tree
solved c tree h = after_solutions tree c.in_ok-check_solutions.was (c.check_solutions.ensures tree h)

told : (c : After-objectives_of) (tree : Tree) → Holds tree c.args.certificate → ObjectivesSay tree (end_says c.end_to_reach-to_reach.result) c.objectives_of.result
told c tree h = c.objectives_of.ensures tree h (finite-fraction _ (c.end_to_reach-to_reach.ensures.formed tree _ h))

worked : (c : In_ok-best) (tree : Tree) → Holds tree c.args.certificate → Worked tree (end_says c.end_to_reach-to_reach.result) c.in_ok-best.best
worked c tree h = found tree _ c.in_ok-best.was (told (goal.at.In_ok-best c).After-objectives_of tree h)

-- an objective reaches what is asked, and the proof is left
proved_next : (c : After-check_derivations) (tree : Tree) (h : Holds tree c.args.certificate)
    → check_of tree ≡ proof_of tree (worked (goal.at.After-check_derivations c).In_ok-best tree h).values
proved_next c tree h =
    solved (goal.at.After-check_derivations c).After-objectives_of tree h
    ∙ is_reached tree (c.end_to_reach-to_reach.ensures.says tree _ h) (worked (goal.at.After-check_derivations c).In_ok-best tree h) (search rules)

derived : (c : After-check_derivations) (tree : Tree) (h : Holds tree c.args.certificate)
    → verdict_says c.check_derivations.result ≡ derivations_of tree (worked (goal.at.After-check_derivations c).In_ok-best tree h).values
derived c tree h =
    let w = worked (goal.at.After-check_derivations c).In_ok-best tree h in
    c.check_derivations.ensures tree w.values h w.best.best_is w.best.fraction

pub returns-in_err-check_solutions : goal.returns-in_err-check_solutions
returns-in_err-check_solutions c = λ tree h. solutions_refused tree c.in_err-check_solutions.was (handed_on _ c.from_residual.ensures.1) (c.check_solutions.ensures tree h)

pub returns-in_err-best : goal.returns-in_err-best
returns-in_err-best c =
    let at = (goal.at.returns-in_err-best c).After-objectives_of in
    λ tree h. too_wide tree _ c.in_err-best.was (handed_on _ c.from_residual-in_err-best.ensures.1) (told at tree h) ∙ sym (solved at tree h)

pub returns-then-not-best : goal.returns-then-not-best
returns-then-not-best c =
    λ tree h.
    not-reached tree (c.end_to_reach-to_reach.ensures.says tree _ h) (worked (goal.at.returns-then-not-best c).In_ok-best tree h) (search rules) (ap (λ (x : Header). x.relation) h.header_is)
    ∙ sym (solved (goal.at.returns-then-not-best c).After-objectives_of tree h)

pub returns-in_err-check_derivations : goal.returns-in_err-check_derivations
returns-in_err-check_derivations c =
    let at = (goal.at.returns-in_err-check_derivations c).After-check_derivations in
    λ tree h.
    stops (claim_of tree) c.in_err-check_derivations.was (handed_on _ c.from_residual-in_err-check_derivations.ensures.1) (derived at tree h)
    ∙ sym (proved_next at tree h)

pub returns : goal.returns
returns c =
    let at = (goal.at.returns c).After-check_derivations in
    λ tree h.
    c.check_claim.ensures tree h ∙ ap (λ (x : Header). require (is_proved tree) 17 (last_place x.derivation (last_row tree))) h.header_is
    ∙ sym (proved_next at tree h ∙ goes_on (claim_of tree) c.in_ok-check_derivations.was (derived at tree h))
