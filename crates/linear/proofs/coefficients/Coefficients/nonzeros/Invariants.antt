-- `linear::coefficients::Coefficients::nonzeros` meets its contract: those counted, with those that are left, are all.
use Rattle.std.specs.Prelude.{◌≡◌, ◌+◌, ◌≤◌, drop, count_by}
use Rattle.linear.specs.Comparing.{is_nonzero}
use Rattle.linear.proofs.coefficients.Coefficients.nonzeros.Given as goal

abbrev pub invariant-loop-f : goal.invariant-loop-f
invariant-loop-f l = (l.count ≤ l.f-index) × (l.count + count_by is_nonzero (drop l.f-index l.f-items) ≡ count_by is_nonzero l.f-items)
