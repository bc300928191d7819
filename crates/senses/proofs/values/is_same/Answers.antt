-- `senses::values::is_same` meets its contract: fractions in lowest terms are equal where their parts are.
use mathlib.Core.Path.{◌≡◌, ◌∙◌}
use mathlib.Core.Bool.{◌&&◌}
use borrow.Author.Rules.{rules}
use Rattle.rules.specs.Values.{same_z}
use Rattle.senses.proofs.ValuesLaws.{parts_same}
use Rattle.senses.proofs.values.is_same.Goals as goal

pub returns-clause-same : goal.returns-clause-same
returns-clause-same c =
    λ v w.
    let a = c.args.a in
    let b = c.args.b in
    let parts : c.eq.result ≡ (same_z a.num b.num && same_z a.den b.den) = search rules in
    parts ∙ parts_same a b v w
