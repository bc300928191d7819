-- The tokens of a text (document 01, "Spelling"): after the comments "tokens, separated by space, tab, CR, LF; line breaks
-- carry no meaning". First in words, by concatenation: what it means that a text has these tokens. Then worked out: the
-- tokens from a place on, as a stream that ends in the text's length. TokensLaws.antt proves that both say the same.
-- Assumes nothing.
use Rattle.std.specs.Prelude.{◌≡◌, Bool, true, false, cond, not, List, [], ◌∷◌, ◌++◌, ℕ, ◌+◌, ◌<◌, length, drop}
use Rattle.text.specs.Bytes.{Bytes, is_separator, every, leading}
use Rattle.text.specs.Comments.{CommentsEndAt, comments_end}

-- the place of its first byte in the text, and its bytes
pub record Token : Type 0 where
  pub place : ℕ
  pub bytes : Bytes

-- a byte of a token: any that is no separator
abbrev pub is_token_byte : ℕ → Bool
is_token_byte b = not (is_separator b)

-- a token ends before this part: nothing is left, or a separator comes first
abbrev pub is_ended : Bytes → Bool
is_ended [] = true
is_ended (b ∷ part) = is_separator b

-- ---- in words

-- `part`, whose first byte stands at place `at` of the text, is separators, then the token t, one byte or more and no
-- separator among them, and then `after`
pub record FirstToken (at : ℕ) (part : Bytes) (t : Token) (after : Bytes) : Type 0 where
  pub gap : Bytes
  pub cut : part ≡ gap ++ (t.bytes ++ after)
  pub separators : every is_separator gap ≡ true
  pub place : t.place ≡ at + length gap
  pub not-empty : 0 < length t.bytes
  pub unbroken : every is_token_byte t.bytes ≡ true
  pub ended : is_ended after ≡ true

-- `part`, whose first byte stands at place `at` of the text, has these tokens and no other: one after the other, and at last
-- separators only
abbrev pub HasTokens : ℕ → Bytes → List Token → Type 0
HasTokens at part [] = every is_separator part ≡ true
HasTokens at part (t ∷ ts) = (after : Bytes) × FirstToken at part t after × HasTokens (t.place + length t.bytes) after ts

-- the first token of the text from place `at` on goes `from` .. `to`
pub record FirstGoes (text : Bytes) (at from to : ℕ) : Type 0 where
  pub bytes : Bytes
  pub after : Bytes
  pub first : FirstToken at (drop at text) (record { place = from; bytes = bytes }) after
  pub ends : to ≡ from + length bytes

-- the text has these tokens after its comments
pub record TextHasTokens (text : Bytes) (ts : List Token) : Type 0 where
  pub start : ℕ
  pub comments : CommentsEndAt text start
  pub tokens : HasTokens start (drop start text) ts

-- ---- worked out

-- the tokens from a place on: the end, with the text's length, or a token's place and bytes, and what follows it
pub data Stream : Type 0 where
  end : ℕ → Stream
  token : ℕ → Bytes → Stream → Stream

-- these tokens, and then the stream
abbrev pub join : List Token → Stream → Stream
join [] s = s
join (t ∷ ts) s = token t.place t.bytes (join ts s)

-- the tokens of a stream
abbrev pub listed : Stream → List Token
listed (end size) = []
listed (token place bytes s) = record { place = place; bytes = bytes } ∷ listed s

-- a token's byte b at a place, and then the stream: b is a token by itself, if a token ends there (true), else the first byte
-- of the token that the stream begins with
abbrev pub with_byte : ℕ → ℕ → Bool → Stream → Stream
with_byte place b true s = token place (b ∷ []) s
with_byte place b false (end size) = token place (b ∷ []) (end size)
with_byte place b false (token next bytes s) = token place (b ∷ bytes) s

-- the tokens of a part whose first byte stands at `place` of a text of `size` bytes
unfoldable pub stream_at : ℕ → ℕ → Bytes → Stream
stream_at size place [] = end size
stream_at size place (b ∷ part) =
    let after = stream_at size (place + 1) part in
    cond (is_separator b) after (with_byte place b (is_ended part) after)

-- the tokens from the byte place `at` of a text on; none from a place past its end
unfoldable pub rest : Bytes → ℕ → Stream
rest text at = stream_at (length text) at (drop at text)

-- where the token at a place ends: before the next separator, or at the text's end
abbrev pub token_end : Bytes → ℕ → ℕ
token_end text place = place + leading is_token_byte (drop place text)

-- the tokens of a text, after its comments
unfoldable pub tokens_of : Bytes → List Token
tokens_of text = listed (rest text (comments_end text))
