-- `fraction::Operation::lowest_by` meets its contract: both operands are tested by g, which then divides the parts of the result.
use mathlib.Core.Path.{sym, ◌∙◌, subst}
use Prim.Native.Nat.{ℕ, ◌∣◌}
use lib.IntN.{nat_abs}
use Rattle.integers.specs.Gcd.{gcd}
use Rattle.arithmetic.proofs.Ways.{on_fractions_lem, not_fractions}
use Rattle.arithmetic.proofs.Lowest.{divisor_positive}
use Rattle.fraction.specs.Results.{in_lowest_terms}
use Rattle.fraction.proofs.Tested.{true_first, first_false, second_false}
use Rattle.fraction.proofs.Divided.{first_divides, second_divides}
use Rattle.fraction.proofs.Operation.lowest_by.Goals.{else-is_lowest_by-via-then-is_lowest_by+else-is_lowest_by-2, else-is_lowest_by-via-else-is_lowest_by}
use Rattle.fraction.proofs.Operation.lowest_by.Goals as goal

pub is_lowest_by-requires : goal.is_lowest_by-requires
is_lowest_by-requires c = (
  divisor_positive c.args.self.ratio.top c.args.self.ratio.bottom c.args.g c.requires.0.positive c.requires.1,
  subst (λ (n : ℕ). gcd (nat_abs c.args.self.a.num) (nat_abs c.args.self.a.den) ∣ n) (sym c.requires.1) (first_divides c.requires.0),
)

pub is_lowest_by-requires-then-is_lowest_by : goal.is_lowest_by-requires-then-is_lowest_by
is_lowest_by-requires-then-is_lowest_by c = (
  divisor_positive c.args.self.ratio.top c.args.self.ratio.bottom c.args.g c.requires.0.positive c.requires.1,
  subst (λ (n : ℕ). gcd (nat_abs c.args.self.b.num) (nat_abs c.args.self.b.den) ∣ n) (sym c.requires.1) (second_divides c.requires.0),
)

pub returns-then-is_lowest_by-2 : goal.returns-then-is_lowest_by-2
returns-then-is_lowest_by-2 c =
    let a = sym c.is_lowest_by.ensures ∙ c.if-is_lowest_by.true in
    let b = sym c.is_lowest_by-then-is_lowest_by.ensures ∙ c.if-is_lowest_by-2.true in
    c.by_divisor.ensures ∙ sym (on_fractions_lem _ _ (true_first (in_lowest_terms c.args.self.a) (in_lowest_terms c.args.self.b) a ∙ b))

pub returns-else-is_lowest_by : goal.returns-else-is_lowest_by
returns-else-is_lowest_by c =
    let a = in_lowest_terms c.args.self.a in
    let b = in_lowest_terms c.args.self.b in
    elim c.else-is_lowest_by.branch [
      | else-is_lowest_by-via-then-is_lowest_by+else-is_lowest_by-2 w ↦ sym (not_fractions _ _ (second_false a b (sym w.is_lowest_by-then-is_lowest_by.ensures ∙ w.if-is_lowest_by-2.false)))
      | else-is_lowest_by-via-else-is_lowest_by w ↦ sym (not_fractions _ _ (first_false a b (sym c.is_lowest_by.ensures ∙ w.if-is_lowest_by.false)))
    ]
