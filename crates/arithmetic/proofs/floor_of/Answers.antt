-- `arithmetic::floor_of` meets its contract, by the two ways of `Rounded`: with a negative remainder, and without.
use mathlib.Core.Path.{◌≡◌}
use mathlib.Core.Bool.{true}
use mir.Facts.{to_z-of_z}
use lib.IntN.{pos, nat_abs}
use lib.Signed.{lt_z, rem_z}
use Rattle.integers.proofs.Casts.{back}
use Rattle.arithmetic.proofs.Rounded.{quot_fits, rem_fits, floor_down, floor_stay, floor_fits}
use Rattle.arithmetic.proofs.floor_of.Goals as goal

pub returns-then-n-d-lt0 : goal.returns-then-n-d-lt0
returns-then-n-d-lt0 c =
    let went_down : lt_z (rem_z c.args.n c.args.d) (pos 0) ≡ true = let f = c.ranges in
    rw (back f.n, back f.d, to_z-of_z (rem_fits c.args.n c.args.d f.n)) at c.if-n-d-lt0.true in
    let f = c.ranges in
    let h = c.requires in
    rw (back f.n, back f.d, to_z-of_z (quot_fits _ _ h f.n), floor_down _ _ h went_down, to_z-of_z (floor_fits c.args.n (nat_abs c.args.d) f.n))

pub returns-else-n-d-lt0 : goal.returns-else-n-d-lt0
returns-else-n-d-lt0 c =
    let f = c.ranges in
    let h = c.requires in
    let t = rw (back f.n, back f.d, to_z-of_z (rem_fits c.args.n c.args.d f.n)) at c.if-n-d-lt0.false in
    rw (back f.n, back f.d, to_z-of_z (quot_fits _ _ h f.n)) (floor_stay _ _ h t)
