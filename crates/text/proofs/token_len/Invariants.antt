-- `text::token_len` meets its contract: all bytes so far lead the part.
use Rattle.std.specs.Prelude.{◌≡◌, ◌+◌, length, drop, take_while}
use Rattle.text.specs.Tokens.{is_token_byte}
use Rattle.text.proofs.token_len.Given as goal

abbrev pub invariant-loop-b : goal.invariant-loop-b
invariant-loop-b l = (l.len ≡ l.b-index) × (l.len + length (take_while is_token_byte (drop l.b-index l.part)) ≡ length (take_while is_token_byte l.part))
