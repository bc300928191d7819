-- `symbol_reader::numbers::read_count` meets its contract: an index below one more than the most.
-- Assumes nothing.
use mathlib.Core.Path.{◌≡◌, ◌∙◌, subst}
use mathlib.Core.List.{[]}
use Prim.Native.Nat.{ℕ, suc}
use native.Mathlib.Omega.{arith}
use Rattle.grammar.specs.Format.{symbol, number}
use Rattle.symbol_reader.specs.Follows.{Always, Follows, below}
use Rattle.symbol_reader.proofs.Decoding.{bound_within}
use Rattle.symbol_reader.proofs.numbers.read_count.Goals as goal

pub returns-clause-follows : goal.returns-clause-follows
returns-clause-follows c =
    λ vs rs small.
    let e : c.bound_of.result ≡ suc c.args.most = c.bound_of.ensures ∙ bound_within _ (omega (arith, small)) in
    subst (λ (b : ℕ). Follows Always (symbol (number b [])) (below b) c.args.text.now c.args.cursor c.args.index.now vs rs c.read_index.new.index vs rs c.read_index.result) e (c.read_index.ensures.follows vs rs (omega (arith, e, small)))
