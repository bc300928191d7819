-- `value::times_power` meets its contract: up, zeros are put after the digits; down, a power of ten stands below them.
-- Assumes nothing.
use mathlib.Core.Path.{◌∙◌, sym, ap, subst}
use native.Mathlib.Omega.{arith}
use Rattle.std.proofs.Common.{Some}
use Rattle.exponents.specs.declared.Power.{Power}
use Rattle.exponents.proofs.ExponentLaws.{PowerIs, power_is}
use Rattle.value.specs.Runs.{scaled_outcome}
use Rattle.powers.proofs.PowersLaws.{ten_positive}
use Rattle.value.proofs.Scaled.{times-up, down_positive, times_down}
use Rattle.value.proofs.times_power.Goals as goal

pub appended-requires : goal.appended-requires
appended-requires c =
    let h = c.requires in
    let k = (subst (λ (p : Power). PowerIs h.2.0 (Some p)) c.in-Up.is (power_is h.2.0 (Some c.args.x) h.2.1)).0 in
    (omega (arith, h.0, k), h.1, ten_positive _)

pub returns-in-Up : goal.returns-in-Up
returns-in-Up c =
    let a = c.args in (
      c.whole_ratio.ensures.0,
      λ great z h s.
          let p = subst (λ (p : Power). PowerIs z (Some p)) c.in-Up.is (power_is z (Some a.x) h) in
          c.whole_ratio.ensures.1 s ∙ times-up s a.digits great _ p.0 _ c.appended.ensures ∙ ap (scaled_outcome s a.digits.number) (sym p.1),
    )

pub returns-in-Down : goal.returns-in-Down
returns-in-Down c =
    let a = c.args in
    let h = c.requires in
    let k = (subst (λ (p : Power). PowerIs h.2.0 (Some p)) c.in-Down.is (power_is h.2.0 (Some a.x) h.2.1)).0 in (
      down_positive _ k _ c.power_of_ten.ensures,
      λ great z h s.
          let p = subst (λ (p : Power). PowerIs z (Some p)) c.in-Down.is (power_is z (Some a.x) h) in
          times_down _ p.0 _ c.power_of_ten.ensures s a.digits.number ∙ ap (scaled_outcome s a.digits.number) (sym p.1),
    )
