-- `row_reader::lists::read_pair_list` meets its contract: a count, then that many pairs.
use mathlib.Core.Path.{sym, subst}
use Prim.Native.Nat.{ℕ}
use native.Mathlib.Omega.{arith}
use Rattle.grammar.specs.Format.{items}
use Rattle.grammar.specs.Certificate.{pair}
use Rattle.symbol_reader.specs.Steps.{any}
use Rattle.symbol_reader.specs.Follows.{Always, Follows}
use Rattle.symbol_reader.proofs.FollowsLaws.{then_stops, then_follows, leads_always, follows_told}
use Rattle.row_reader.proofs.lists.read_pair_list.Goals as goal

pub returns-in_err-count : goal.returns-in_err-count
returns-in_err-count c =
    let s = c.args in
    λ rs small. then_stops (c.read_count.ensures.follows _ rs (omega (arith, small))) c.in_err-count.was c.from_residual.ensures.1

pub returns : goal.returns
returns c =
    let s = c.args in
    λ rs small.
    follows_told
    (then_follows (c.read_count.ensures.follows _ rs (omega (arith, small))) c.in_ok-count.was leads_always (λ a t. subst (λ (k : ℕ). Follows Always (items k (pair s.bound)) any s.text.now c.in_ok-count.count.cursor c.read_count.new.index s.values.now rs c.read_pairs.new.index c.read_pairs.new.values rs c.read_pairs.result) (sym t.0) (c.read_pairs.ensures rs small)))
    (λ a x e t. tt)
