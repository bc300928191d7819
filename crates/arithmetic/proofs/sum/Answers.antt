-- `arithmetic::sum` meets its contract: the exact sum, which is in lowest terms where a denominator is 1.
use Rattle.std.proofs.Common.{rules}
use mathlib.Core.Path.{◌≡◌, sym, ◌∙◌, ap}
use Rattle.std.proofs.Math.Logic.{⊎_elim}
use lib.IntN.{nat_abs}
use native.Mathlib.Nat.{mul-pos}
use Rattle.integers.specs.Coprime.{Coprime, coprime_one, coprime_sym}
use Rattle.arithmetic.specs.Quotient.{◌+Q◌, lowest}
use Rattle.arithmetic.specs.Fraction.{IsFraction, exact, within, sum_of}
use Rattle.arithmetic.proofs.Meaning.{are_both, exact_positive, parts_coprime}
use Rattle.arithmetic.specs.declared.Fraction.{Fraction}
use Rattle.arithmetic.proofs.Ways.{Told, on_fractions_lem, reduced_exact, one-read}
use Rattle.arithmetic.proofs.Lowest.{sum_lowest}
use Rattle.arithmetic.proofs.sum.Goals as goal

module _ (a b : Fraction) (v : IsFraction a) (w : IsFraction b) where
  known : within (lowest (exact a +Q exact b)) ≡ sum_of a b
  known = sym (on_fractions_lem _ _ (are_both a b (v, w)))

  -- no common divisor is to be divided out
  apart : Coprime (nat_abs a.den) (nat_abs b.den) → within (exact a +Q exact b) ≡ sum_of a b
  apart h = ap within (sum_lowest (exact a) (exact b) (exact_positive a v) (exact_positive b w) (parts_coprime a v) (parts_coprime b w) h) ∙ known

pub returns-then-b-eq1 : goal.returns-then-b-eq1
returns-then-b-eq1 c = λ v w.
    let a = c.args.a in
    let b = c.args.b in
    let told_a : Told a = search rules in
    let told_b : Told b = search rules in
    let coprime : Coprime (nat_abs a.den) (nat_abs b.den) = ⊎_elim
    (λ e. rw (ap nat_abs (one-read a.den told_a.1 e)) (coprime_sym (nat_abs b.den) 1 (coprime_one (nat_abs b.den))))
    (λ e. rw (ap nat_abs (one-read b.den told_b.1 e.1)) (coprime_one (nat_abs a.den)))
    c.if-b-eq1.either in
    c.within.ensures ∙ ap within c.added-q.ensures ∙ apart a b v w coprime

pub returns-else-b-eq1 : goal.returns-else-b-eq1
returns-else-b-eq1 c = λ v w.
    c.reduced.ensures ∙ reduced_exact c.added-q.result _ c.added-q.ensures (mul-pos (exact_positive c.args.a v) (exact_positive c.args.b w))
    ∙ known c.args.a c.args.b v w
