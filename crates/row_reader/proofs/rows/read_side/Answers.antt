-- `row_reader::rows::read_side` meets its contract: `OBJ`, or a count and so many terms.
use mathlib.Core.Path.{◌≡◌, sym, ◌∙◌, subst}
use mathlib.Core.List.{List, []}
use Prim.Native.Nat.{ℕ, suc, ◌≤◌}
use native.Mathlib.Omega.{arith}
use lib.IntN.{ℤ}
use Rattle.std.specs.Prelude.{Ok}
use Rattle.text.specs.Bytes.{Bytes}
use Rattle.text.specs.Words as W
use Rattle.grammar.specs.Format.{Or, instead, given, items, symbol, number, or}
use Rattle.grammar.specs.Certificate.{pair, listed_terms}
use Rattle.symbol_reader.specs.Steps.{Answer, any}
use Rattle.symbol_reader.specs.Follows.{Always, Follows, cell_or}
use Rattle.symbol_reader.specs.declared.Cursor.{Cursor}
use Rattle.symbol_reader.proofs.Decoding.{bound_within}
use Rattle.symbol_reader.proofs.FollowsLaws.{then_stops, then_follows, leads_always, view_follows, follows_nothing}
use Rattle.row_reader.proofs.rows.read_side.Goals as goal

-- the word or the count, which is below n + 1
listed : (n : ℕ) → {bound : ℕ} → bound ≡ suc n → {text : Bytes} {c : Cursor} {ix : List ℕ} {vs : List ℤ} {rs : List ℕ} {ix' : List ℕ} {r : Answer}
    → Follows Always (symbol (or W.OBJ 65535 (number bound []))) (cell_or 65535 bound) text c ix vs rs ix' vs rs r → Follows Always (symbol (or W.OBJ 65535 (number (suc n) []))) (cell_or 65535 (suc n)) text c ix vs rs ix' vs rs r
listed n e {text} {c} {ix} {vs} {rs} {ix'} {r} h = subst (λ (x : ℕ). Follows Always (symbol (or W.OBJ 65535 (number x []))) (cell_or 65535 x) text c ix vs rs ix' vs rs r) e h

module _ (n : ℕ) (small : n ≤ 256) {i : ℕ} {text : Bytes} {c : Cursor} {ix : List ℕ} {vs : List ℤ} {rs : List ℕ} where
  -- the word was read
  none : i ≡ 65535 → {x : ℕ} → (k : Or ℕ) → cell_or 65535 (suc n) k i → Follows Always (listed_terms n k) any text c ix vs rs ix vs rs (Ok (record { number = x; cursor = c }))
  none h instead t = follows_nothing
  none h (given a) t = absurd (omega (arith, small, h, t.0, t.1))

  -- a count was read
  some : {ix' : List ℕ} {vs' : List ℤ} {rs' : List ℕ} {r : Answer} → (i ≡ 65535 → ⊥) → Follows Always (items i (pair n)) any text c ix vs rs ix' vs' rs' r → (k : Or ℕ) → cell_or 65535 (suc n) k i → Follows Always (listed_terms n k) any text c ix vs rs ix' vs' rs' r
  some h f instead t = absurd (h (sym t))
  some {ix'} {vs'} {rs'} {r} h f (given a) t = subst (λ (k : ℕ). Follows Always (items k (pair n)) any text c ix vs rs ix' vs' rs' r) (sym t.0) f

pub returns-in_err-listed : goal.returns-in_err-listed
returns-in_err-listed c =
    let s = c.args in
    λ rs small.
    let e : c.bound_of.result ≡ suc s.n = c.bound_of.ensures ∙ bound_within _ (omega (arith, small)) in
    view_follows (λ a n t. t) (then_stops (listed s.n e (c.read_index_or.ensures.follows _ rs (omega (arith, e, small)))) c.in_err-listed.was c.from_residual.ensures.1)

pub returns-then-listed-eq-OBJ : goal.returns-then-listed-eq-OBJ
returns-then-listed-eq-OBJ c =
    let s = c.args in
    λ rs small.
    let e : c.bound_of.result ≡ suc s.n = c.bound_of.ensures ∙ bound_within _ (omega (arith, small)) in
    view_follows (λ a n t. tt)
    (then_follows (listed s.n e (c.read_index_or.ensures.follows _ rs (omega (arith, e, small)))) c.in_ok-listed.was leads_always (λ k t. none s.n small c.if-listed-eq-OBJ.true k t))

pub returns : goal.returns
returns c =
    let s = c.args in
    λ rs small.
    let e : c.bound_of.result ≡ suc s.n = c.bound_of.ensures ∙ bound_within _ (omega (arith, small)) in
    view_follows (λ a n t. tt)
    (then_follows (listed s.n e (c.read_index_or.ensures.follows _ rs (omega (arith, e, small)))) c.in_ok-listed.was leads_always
    (λ k t. some s.n small c.if-listed-eq-OBJ.false (c.read_pairs.ensures rs (omega (arith, small))) k t))
