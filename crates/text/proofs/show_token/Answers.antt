-- `text::show_token` meets its contract: the part from the place to the token's end, or none at the text's end.
-- Assumes nothing.
use Prim.Native.Nat.{◌+◌, ◌≤◌}
use mathlib.Core.Path.{refl, sym, ◌∙◌}
use native.Mathlib.Omega.{arith}
use lib.ListN.{length}
use Rattle.text.specs.Tokens.{is_token_byte}
use Rattle.text.proofs.BytesLaws.{led_to, led_le}
use Rattle.text.proofs.ShownLaws.{from_begun, to_begun, begun_inside, from_none, to_none}
use Rattle.text.proofs.Parts.{part_at}
use Rattle.text.proofs.Promised.{token_shown}
use Rattle.text.proofs.show_token.Goals as goal

pub slice_bounds-result-end : goal.slice_bounds-result-end
slice_bounds-result-end c =
    let inside = begun_inside c.args.text.now c.args.place (sym c.begins_token.ensures ∙ c.if-begins_token.true) in
    omega (arith, inside, led_le is_token_byte c.args.place c.args.text.now c.token_len.ensures c.tail.ensures)

pub returns-then-begins_token : goal.returns-then-begins_token
returns-then-begins_token c =
    let a = c.args in
    let b = sym c.begins_token.ensures ∙ c.if-begins_token.true in
    let inside : a.place + c.token_len.result ≤ length a.text.now =
    omega (arith, begun_inside a.text.now a.place b, led_le is_token_byte a.place a.text.now c.token_len.ensures c.tail.ensures)
    in
    let to = to_begun a.text.now a.place b ∙ sym (led_to is_token_byte a.place a.text.now c.token_len.ensures c.tail.ensures) in
    token_shown a.place
    (part_at a.place _ (from_begun a.text.now a.place b) (to ∙ omega (arith, inside)) (omega (arith, inside)) (omega (arith, inside)) refl (omega arith) refl)

pub returns-else-begins_token : goal.returns-else-begins_token
returns-else-begins_token c =
    let a = c.args in
    let n = length a.text.now in
    let b = sym c.begins_token.ensures ∙ c.if-begins_token.false in
    token_shown a.place
    (part_at n n (from_none a.text.now a.place b) (to_none a.text.now a.place b) (omega arith) (omega arith) refl (omega arith) refl)
