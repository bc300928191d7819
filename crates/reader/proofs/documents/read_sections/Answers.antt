-- `reader::documents::read_sections` meets its contract: the sections one after another.
use mathlib.Core.Path.{refl, ap}
use native.Mathlib.Omega.{arith}
use Rattle.symbol_reader.proofs.FollowsLaws.{then_stops, follows_stop, follows_own, view_follows}
use Rattle.section_reader.proofs.SectionLaws.{step_up, step_follows, then_known}
use Rattle.section_reader.specs.Sections.{step_of, SaysObjective}
use Rattle.reader.specs.Documents.{SaysProof}
use Rattle.reader.proofs.DocumentLaws.{from_start, after_variables, names_known, headed}
use Rattle.reader.proofs.documents.read_sections.Goals as goal

pub returns-in_err-version : goal.returns-in_err-version
returns-in_err-version c = from_start c.start.ensures (view_follows (λ y i t. t) (then_stops (c.read_version.ensures _ _ _) c.in_err-version.was (step_up _ _ _ c.from_residual.ensures.1)))

pub returns-in_err-variables : goal.returns-in_err-variables
returns-in_err-variables c =
    from_start c.start.ensures
    (view_follows (λ y i t. t)
    (then_known (c.read_version.ensures _ _ _) c.in_ok-version.was (λ u k₁. then_stops (c.read_variables.ensures _ _) c.in_err-variables.was (step_up _ _ _ c.from_residual-in_err-variables.ensures.1))))

pub returns-in_err-integers : goal.returns-in_err-integers
returns-in_err-integers c =
    after_variables c.start.ensures (c.read_version.ensures _ _ _) c.in_ok-version.was (c.read_variables.ensures _ _) c.in_ok-variables.was
    (λ u v k₁ k₂ few. then_stops (c.read_integers.ensures _ _ few) c.in_err-integers.was (step_up _ _ _ c.from_residual-in_err-integers.ensures.1))

pub returns-in_err-objective : goal.returns-in_err-objective
returns-in_err-objective c =
    after_variables c.start.ensures (c.read_version.ensures _ _ _) c.in_ok-version.was (c.read_variables.ensures _ _) c.in_ok-variables.was
    (λ u v k₁ k₂ few. then_known (c.read_integers.ensures _ _ few) c.in_ok-integers.was
    (λ i k₃. then_stops (c.read_objective.ensures _ few) (ap (step_of (λ r. r.cursor)) c.in_err-objective.was) (step_up _ _ _ c.from_residual-in_err-objective.ensures.1)))

pub returns-in_err-given : goal.returns-in_err-given
returns-in_err-given c =
    after_variables c.start.ensures (c.read_version.ensures _ _ _) c.in_ok-version.was (c.read_variables.ensures _ _) c.in_ok-variables.was
    (λ u v k₁ k₂ few. then_known (c.read_integers.ensures _ _ few) c.in_ok-integers.was
    (λ i k₃. then_known (step_follows (λ r. r.cursor) c.in_ok-objective.was (SaysObjective c.in_ok-integers.integers.cursor) (c.read_objective.ensures _ few)) refl
    (λ b k₄. then_stops (c.read_constraints.ensures few refl) c.in_err-given.was (step_up _ _ _ c.from_residual-in_err-given.ensures.1))))

pub returns-in_err-proof : goal.returns-in_err-proof
returns-in_err-proof c =
    after_variables c.start.ensures (c.read_version.ensures _ _ _) c.in_ok-version.was (c.read_variables.ensures _ _) c.in_ok-variables.was
    (λ u v k₁ k₂ few. then_known (c.read_integers.ensures _ _ few) c.in_ok-integers.was
    (λ i k₃. then_known (step_follows (λ r. r.cursor) c.in_ok-objective.was (SaysObjective c.in_ok-integers.integers.cursor) (c.read_objective.ensures _ few)) refl
    (λ b k₄. then_known (c.read_constraints.ensures few refl) c.in_ok-given.was
    (λ k k₅. follows_stop (c.read_proof.ensures k few (omega (arith, k₅.says.0.1)) k₅.says.0.0 (names_known c.start.ensures k₁ k₂ k₃ k₄ k₅) k₅.says.1) (ap (step_of (λ r. r.cursor)) c.in_err-proof.was) (step_up _ _ _ c.from_residual-in_err-proof.ensures.1)))))

pub returns : goal.returns
returns c =
    after_variables c.start.ensures (c.read_version.ensures _ _ _) c.in_ok-version.was (c.read_variables.ensures _ _) c.in_ok-variables.was
    (λ u v k₁ k₂ few. then_known (c.read_integers.ensures _ _ few) c.in_ok-integers.was
    (λ i k₃. then_known (step_follows (λ r. r.cursor) c.in_ok-objective.was (SaysObjective c.in_ok-integers.integers.cursor) (c.read_objective.ensures _ few)) refl
    (λ b k₄. then_known (c.read_constraints.ensures few refl) c.in_ok-given.was
    (λ k k₅. follows_own (step_follows (λ r. r.cursor) c.in_ok-proof.was (SaysProof k) (c.read_proof.ensures k few (omega (arith, k₅.says.0.1)) k₅.says.0.0 (names_known c.start.ensures k₁ k₂ k₃ k₄ k₅) k₅.says.1))
    (λ a t. headed c.start.ensures k₁ k₂ k₃ k₄ k₅ t)))))
