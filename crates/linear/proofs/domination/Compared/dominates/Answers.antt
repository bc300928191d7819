-- `linear::domination::Compared::dominates` meets its contract: an absurdity, or equal coefficients and then the right sides.
use mathlib.Core.Path.{◌≡◌, ◌∙◌}
use Rattle.rules.specs.Domination.{is_absurd, same_coefficients, dominates}
use Rattle.senses.specs.Senses.{constraint_by}
use Rattle.senses.proofs.Truth.{and_yes, and_no, or_yes, or_no}
use Rattle.linear.proofs.domination.Compared.dominates.Goals as goal
use Rattle.linear.proofs.domination.Compared.dominates.Goals.{then-self, else-self}

pub returns-then-fails_at_zero : goal.returns-then-fails_at_zero
unfolding dominates is_absurd
returns-then-fails_at_zero c =
    λ n coefficient row h v w.
    let a = c.args in
    let absurd_is : c.if-self.value ≡ is_absurd n (constraint_by coefficient a.bound) = elim c.if-self.branch [
      | then-self w ↦ w.value-is ∙ w.fails_at_zero.ensures ∙ and_yes _ h.zero w.if-self.true
      | else-self w ↦ w.value-is ∙ w.if-self.false ∙ and_no _ h.zero w.if-self.false
    ] in
    c.if-fails_at_zero.true ∙ or_yes _ absurd_is c.if-fails_at_zero.true

pub returns-then-self-2 : goal.returns-then-self-2
unfolding dominates is_absurd same_coefficients
returns-then-self-2 c =
    λ n coefficient row h v w.
    let a = c.args in
    let absurd_is : c.if-self.value ≡ is_absurd n (constraint_by coefficient a.bound) = elim c.if-self.branch [
      | then-self w ↦ w.value-is ∙ w.fails_at_zero.ensures ∙ and_yes _ h.zero w.if-self.true
      | else-self w ↦ w.value-is ∙ w.if-self.false ∙ and_no _ h.zero w.if-self.false
    ] in
    c.is_tighter.ensures v w ∙ and_yes _ h.same c.if-self-2.true ∙ or_no _ absurd_is c.if-fails_at_zero.false

pub returns-else-self-2 : goal.returns-else-self-2
unfolding dominates is_absurd same_coefficients
returns-else-self-2 c =
    λ n coefficient row h v w.
    let a = c.args in
    let absurd_is : c.if-self.value ≡ is_absurd n (constraint_by coefficient a.bound) = elim c.if-self.branch [
      | then-self w ↦ w.value-is ∙ w.fails_at_zero.ensures ∙ and_yes _ h.zero w.if-self.true
      | else-self w ↦ w.value-is ∙ w.if-self.false ∙ and_no _ h.zero w.if-self.false
    ] in
    c.if-self-2.false ∙ and_no _ h.same c.if-self-2.false ∙ or_no _ absurd_is c.if-fails_at_zero.false
