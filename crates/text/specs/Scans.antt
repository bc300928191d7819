-- What `next_token` answers, and what its caller knows of the token found.
-- Assumes nothing.
use Rattle.std.specs.Prelude.{◌≡◌, ℕ, ◌+◌, ◌≤◌, ◌<◌, Option, Some, None, length}
use Rattle.std.proofs.Math.Seq.{slice}
use Rattle.text.specs.Bytes.{Bytes}
use Rattle.text.specs.Tokens.{Stream, end, token, rest}
use Rattle.text.specs.declared.Token.{Token}

-- a stream's first token, by the places of its first byte and after its last; none at the end
abbrev pub scan_of : Stream → Option Token
scan_of (end size) = None
scan_of (token place bytes s) = Some (record { from = place; to = place + length bytes })

-- the first token from `at` on goes `from` .. `to`, and what follows it are the tokens from `to` on, or from the next place
pub record Found (text : Bytes) (at from to : ℕ) : Type 0 where
  pub first : rest text at ≡ token from (slice from to text) (rest text to)
  pub onward : rest text to ≡ rest text (to + 1)
  pub ahead : at ≤ from
  pub not-empty : from < to
  pub inside : to ≤ length text
