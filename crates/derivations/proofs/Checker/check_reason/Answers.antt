-- `derivations::Checker::check_reason` meets its contract: the word tells the reason.
use Rattle.std.proofs.Common.{sym, ◌∙◌, ap}
use Rattle.rules.specs.Derivations.{check_reason}
use Rattle.derivations.proofs.ReasonsLaws.{reason_is, named-below, multipliers_are}
use Rattle.derivations.proofs.Checker.check_reason.Goals as goal

pub returns-in-Lin : goal.returns-in-Lin
returns-in-Lin c =
    λ tree os r d h b l lt k.
    let e = reason_is k c.word.ensures.says c.in-Lin.is in
    c.check_lin.ensures tree r e.0.multipliers h.encodes l (record { encodes = multipliers_are k e.1; below = named-below k lt e.1 }) ∙ sym (ap (check_reason tree os r) e.1)

pub returns-in-Rnd : goal.returns-in-Rnd
returns-in-Rnd c =
    λ tree os r d h b l lt k.
    let e = reason_is k c.word.ensures.says c.in-Rnd.is in
    c.check_rnd.ensures tree r e.0.multipliers h l (record { encodes = multipliers_are k e.1; below = named-below k lt e.1 }) ∙ sym (ap (check_reason tree os r) e.1)
