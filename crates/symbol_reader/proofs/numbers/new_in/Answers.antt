-- `symbol_reader::numbers::new_in` meets its contract: a number that is not marked is none of those used.
-- Assumes nothing.
use mathlib.Core.Path.{◌≡◌, sym, ap, ◌∙◌, subst}
use mathlib.Core.List.{List}
use Prim.Native.Nat.{ℕ, ◌*◌, ◌≤◌, ◌<◌}
use native.Mathlib.Omega.{arith}
use lib.Dec.{eqb}
use lib.ListN.{length}
use Rattle.grammar.specs.Format.{number}
use Rattle.grammar.specs.Reading.{is_among}
use Rattle.symbol_reader.specs.Leaves.{token_of, Means}
use Rattle.symbol_reader.specs.Marks.{marked, Marks}
use Rattle.symbol_reader.proofs.Decoding.{new_refused, new_used, new_taken, number-below}
use Rattle.symbol_reader.proofs.FollowsLaws.{handed_on}
use Rattle.symbol_reader.proofs.numbers.new_in.Goals as goal
use Rattle.symbol_reader.proofs.numbers.new_in.Goals.{After-is_marked}

-- whether the number is marked is whether it is used
among : (c : After-is_marked) (place : ℕ) (used : List ℕ) → 0 < length c.args.token.now → c.args.bound ≤ 65535 → c.args.bound ≤ 64 * length c.args.seen.now → Marks used c.args.seen.now
    → c.is_marked.result ≡ is_among eqb c.in_ok-number.number used
among c place used filled small fits marks =
    let below = number-below c.args.bound used (token_of place c.args.token.now) (c.in_ok-number.ensures place filled small) in
    c.is_marked.ensures ∙ ap (marked c.args.seen.now) c.from.ensures ∙ marks.are c.in_ok-number.number (omega (arith, below, fits))

pub returns-in_err-number : goal.returns-in_err-number
returns-in_err-number c =
    λ place used filled small fits marks.
    subst (Means (number c.args.bound used) (λ n. n) (token_of place c.args.token.now)) (sym (handed_on c.from_residual.result c.in_err-number.field-0.0 c.from_residual.ensures.1))
    (new_refused c.args.bound used (token_of place c.args.token.now) (c.in_err-number.ensures place filled small))

pub returns-then-is_marked : goal.returns-then-is_marked
returns-then-is_marked c =
    λ place used filled small fits marks.
    new_used c.args.bound used (token_of place c.args.token.now) (c.in_ok-number.ensures place filled small)
    (sym (among (goal.at.returns-then-is_marked c).After-is_marked place used filled small fits marks) ∙ c.if-is_marked.true)

pub returns : goal.returns
returns c =
    λ place used filled small fits marks.
    new_taken c.args.bound used (token_of place c.args.token.now) (c.in_ok-number.ensures place filled small)
    (sym (among (goal.at.returns c).After-is_marked place used filled small fits marks) ∙ c.if-is_marked.false)
