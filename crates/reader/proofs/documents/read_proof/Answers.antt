-- `reader::documents::read_proof` meets its contract: three sections one after another.
use mathlib.Core.Path.{sym, ap}
use native.Mathlib.Omega.{arith}
use Rattle.symbol_reader.proofs.FollowsLaws.{then_stops, follows_stop, follows_own}
use Rattle.section_reader.proofs.SectionLaws.{step_up, step_follows, then_known}
use Rattle.section_reader.specs.Sections.{step_of, SaysDerivations}
use Rattle.reader.proofs.ProofLaws.{derived_follows}
use Rattle.reader.proofs.documents.read_proof.Goals as goal

pub returns-in_err-relation : goal.returns-in_err-relation
returns-in_err-relation c = λ k few fits same names marks. then_stops (c.read_relation.ensures _) c.in_err-relation.was (step_up _ _ _ c.from_residual.ensures.1)

pub returns-in_err-solutions : goal.returns-in_err-solutions
returns-in_err-solutions c =
    λ k few fits same names marks.
    then_known (c.read_relation.ensures _) c.in_ok-relation.was (λ l a. then_stops (c.read_solutions.ensures few) c.in_err-solutions.was (step_up _ _ _ c.from_residual-in_err-solutions.ensures.1))

pub returns-in_err-derivations : goal.returns-in_err-derivations
returns-in_err-derivations c =
    λ k few fits same names marks.
    then_known (c.read_relation.ensures _) c.in_ok-relation.was
    (λ l a. then_known (c.read_solutions.ensures few) c.in_ok-solutions.was
    (λ z b. follows_stop (derived_follows k same fits b.went names marks (c.read_derivations.ensures few fits)) (ap (step_of (λ r. r.cursor)) c.in_err-derivations.was) (step_up _ _ _ c.from_residual-in_err-derivations.ensures.1)))

pub returns : goal.returns
returns c =
    λ k few fits same names marks.
    then_known (c.read_relation.ensures _) c.in_ok-relation.was
    (λ l a. then_known (c.read_solutions.ensures few) c.in_ok-solutions.was
    (λ z b. follows_own (step_follows (λ r. r.cursor) c.in_ok-derivations.was (SaysDerivations c.args.m) (derived_follows k same fits b.went names marks (c.read_derivations.ensures few fits)))
    (λ d t. record { relation = sym a.says; solutions = sym b.says.0; derivation = t.place; rows = omega (arith, c.saturating_add.ensures, same, t.count, t.within, fits) })))
