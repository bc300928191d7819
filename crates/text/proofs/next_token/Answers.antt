-- `text::next_token` meets its contract: past the separators a token begins, or the text ends.
-- Assumes nothing.
use Prim.Native.Nat.{◌+◌}
use native.Mathlib.Omega.{arith}
use Rattle.text.specs.Bytes.{is_separator}
use Rattle.text.specs.Tokens.{is_token_byte}
use Rattle.text.proofs.BytesLaws.{led_to, led_le, tail_taken}
use Rattle.text.proofs.Scanning.{scans_token, scans_none}
use Rattle.text.proofs.Promised.{token_scanned}
use Rattle.text.proofs.next_token.Goals as goal

pub overflow_add-from : goal.overflow_add-from
overflow_add-from c = omega (arith, led_le is_separator c.args.at c.args.text.now c.gap.ensures c.tail.ensures)

pub overflow_add-to : goal.overflow_add-to
overflow_add-to c =
    let text = c.args.text.now in
    let from = c.args.at + c.gap.result in
    omega (arith, led_le is_token_byte from text c.token_len.ensures (tail_taken from text))

pub returns-then-from-text : goal.returns-then-from-text
returns-then-from-text c =
    let text = c.args.text.now in
    let at = c.args.at in
    let from = at + c.gap.result in
    token_scanned text at
    (scans_token text at (led_to is_separator at text c.gap.ensures c.tail.ensures) c.if-from-text.true
    (omega (arith, led_to is_token_byte from text c.token_len.ensures (tail_taken from text))))

pub returns-else-from-text : goal.returns-else-from-text
returns-else-from-text c =
    let text = c.args.text.now in
    let at = c.args.at in
    token_scanned text at (scans_none text at (led_to is_separator at text c.gap.ensures c.tail.ensures) c.if-from-text.false)
