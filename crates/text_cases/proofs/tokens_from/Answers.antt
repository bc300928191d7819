-- `text_cases::tokens_from` meets its contract, which says nothing: the measure falls, since the token found lies ahead and within
-- the text.
-- Assumes nothing.
use mathlib.Core.Path.{sym, ◌∙◌}
use native.Mathlib.Omega.{arith}
use Rattle.text.proofs.ScansLaws.{found}
use Rattle.text_cases.proofs.tokens_from.Goals as goal

pub loop-found-smaller : goal.loop-found-smaller
loop-found-smaller g c =
    let t = c.in-Some.found in
    let f = found c.args.text.now c.loop-found.next {from = t.from} {to = t.to} (sym c.next_token.ensures.by_definition ∙ c.in-Some.is) in
    omega (arith, f.ahead, f.not-empty, f.inside)
