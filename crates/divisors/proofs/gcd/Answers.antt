-- `divisors::gcd` meets its contract: what is odd of a and b goes to `gcd_odd`, and the lesser power of two comes back.
use Rattle.std.proofs.Common.{ℕ, sym, ap, ◌∙◌, arith}
use Rattle.integers.specs.Gcd.{gcd, gcd-zero}
use Rattle.integers.specs.Binary.{twos, gcd-zero-left}
use Rattle.divisors.proofs.gcd.Goals as goal

pub returns-then-a-eq0 : goal.returns-then-a-eq0
returns-then-a-eq0 c = sym (ap (λ (n : ℕ). gcd n c.args.b) c.if-a-eq0.true ∙ gcd-zero-left _)

pub returns-then-b-eq0 : goal.returns-then-b-eq0
returns-then-b-eq0 c = sym (ap (gcd c.args.a) c.if-b-eq0.true ∙ gcd-zero _)

pub gcd_odd-requires : goal.gcd_odd-requires
gcd_odd-requires c =
    let e = c.odd-o.ensures in
    (rw e.0 (twos 64 c.args.a (omega arith) (omega arith)).rest_odd, rw e.1 (twos 64 c.args.b (omega arith) (omega arith)).rest_odd)
