-- `arithmetic::floor` meets its contract: a fraction is shaped.
use Rattle.std.proofs.Common.{rules}
use mathlib.Core.Path.{◌∙◌}
use Rattle.integers.proofs.Casts.{back_of}
use Rattle.arithmetic.specs.Quotient.{floor_z}
use Rattle.arithmetic.proofs.Meaning.{is_fraction_lem}
use Rattle.arithmetic.proofs.Ways.{Told, rounded}
use Rattle.arithmetic.proofs.floor.Goals as goal

pub returns-then-is_shaped : goal.returns-then-is_shaped
returns-then-is_shaped c =
    let told : Told c.args.a = search rules in
    λ v.
    let k = c.floor_of in
    rounded floor_z c.args.a _ told (back_of k.result k.type_inv ∙ k.ensures) (is_fraction_lem c.args.a v)
