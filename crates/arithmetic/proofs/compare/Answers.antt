-- `arithmetic::compare` meets its contract: the cross products of two fractions are ordered as they are.
use mathlib.Core.Path.{sym, ◌∙◌, ap, ap₂}
use lib.IntN.{ℤ}
use mir.Syntax.{w64}
use Rattle.integers.proofs.Casts.{back_at}
use Rattle.arithmetic.specs.Outcome.{gives}
use Rattle.arithmetic.specs.Fraction.{order}
use Rattle.arithmetic.proofs.Meaning.{are_both}
use Rattle.arithmetic.proofs.Ways.{on_fractions_lem}
use Rattle.arithmetic.proofs.compare.Goals as goal

pub returns : goal.returns
unfolding order
returns c = λ v w.
    let x = c.cross in
    let y = c.cross-2 in
    ap gives c.cmp.ensures
    ∙ ap₂ (λ (p q : ℤ). gives (order p q)) (back_at w64 x.result x.type_inv ∙ x.ensures.0) (back_at w64 y.result y.type_inv ∙ y.ensures.0)
    ∙ sym (on_fractions_lem _ _ (are_both c.args.a c.args.b (v, w)))
