-- `HasTokens`, the words of document 01, and the tokens worked out say the same: from each place on a text has one list of
-- tokens, and `rest` is that list with the end after it; and so for the whole text and `tokens_of`.
-- Assumes nothing.
use Rattle.std.specs.Prelude.{◌≡◌, refl, Bool, true, false, cond, List, [], ◌∷◌, ◌++◌, ◌↔◌, ℕ, suc, ◌+◌, ◌<◌, length, drop}
use Rattle.std.proofs.Common.{sym, ap, ◌∙◌, subst, append-nil, add-zero, not-suc-le-zero, zero-lt-suc, arith}
use Rattle.std.proofs.lemmas.Bool.{not-true}
use Rattle.text.specs.Bytes.{Bytes, is_separator, every}
use Rattle.text.proofs.BytesLaws.{clash, both}
use Rattle.text.specs.Comments.{comments_end}
use Rattle.text.proofs.CommentsLaws.{comments_only, comments_end_lem}
use Rattle.text.specs.Tokens.{Token, is_token_byte, is_ended, FirstToken, HasTokens, TextHasTokens, Stream, end, token, join, listed, with_byte, stream_at, rest, tokens_of}

-- ---- lists and streams

pub listed-join : (ts : List Token) (size : ℕ) → listed (join ts (end size)) ≡ ts
listed-join [] size = refl
listed-join (t ∷ ts) size = ap (λ (us : List Token). t ∷ us) (listed-join ts size)

-- ---- a stream, by concatenation

-- separators are passed over
pub stream_gap : (size at : ℕ) (gap part : Bytes) → every is_separator gap ≡ true → stream_at size at (gap ++ part) ≡ stream_at size (at + length gap) part
unfolding stream_at
stream_gap size at [] part e = rw add-zero
stream_gap size at (b ∷ gap) part e =
    let h = both (is_separator b) (every is_separator gap) e in
    rw h.0 (stream_gap size (at + 1) gap part h.1 ∙ ap (λ (n : ℕ). stream_at size n part) (omega arith))

-- a token's first byte is no separator
pub first_byte : (b : ℕ) (w : Bytes) → every is_token_byte (b ∷ w) ≡ true → is_separator b ≡ false
first_byte b w e = not-true (is_separator b) (both (is_token_byte b) (every is_token_byte w) e).0

-- bytes that are no separators, up to a separator or the end, are a token
pub stream_token : (size at : ℕ) (w after : Bytes) → 0 < length w → every is_token_byte w ≡ true → is_ended after ≡ true
    → stream_at size at (w ++ after) ≡ token at w (stream_at size (at + length w) after)
unfolding stream_at
stream_token size at [] after p e d = absurd (not-suc-le-zero p)
stream_token size at (b ∷ []) after p e d = rw (first_byte b [] e, d)
stream_token size at (b ∷ c ∷ w) after p e d =
    let more : every is_token_byte (c ∷ w) ≡ true = (both (is_token_byte b) (every is_token_byte (c ∷ w)) e).1 in
    let q : is_separator c ≡ false = first_byte c w more in
    simp (first_byte b (c ∷ w) e, q)
    (ap (with_byte at b false) (simp q at (stream_token size (at + 1) (c ∷ w) after (zero-lt-suc (length w)) more d))
    ∙ ap (λ (n : ℕ). token at (b ∷ c ∷ w) (stream_at size n after)) (omega arith))

-- separators alone have no token
stream_end : (size at : ℕ) (gap : Bytes) → every is_separator gap ≡ true → stream_at size at gap ≡ end size
unfolding stream_at
stream_end size at gap e = ap (stream_at size at) (sym (append-nil gap)) ∙ stream_gap size at gap [] e

-- ---- from the words to the stream

pub first_stream : (size : ℕ) {at : ℕ} {part : Bytes} {t : Token} {after : Bytes} → FirstToken at part t after
    → stream_at size at part ≡ token t.place t.bytes (stream_at size (t.place + length t.bytes) after)
first_stream size {at} {part} {t} {after} f =
    ap (stream_at size at) f.cut
    ∙ stream_gap size at f.gap (t.bytes ++ after) f.separators
    ∙ ap (λ (n : ℕ). stream_at size n (t.bytes ++ after)) (sym f.place)
    ∙ stream_token size t.place t.bytes after f.not-empty f.unbroken f.ended

has_stream : (size at : ℕ) (part : Bytes) (ts : List Token) → HasTokens at part ts → stream_at size at part ≡ join ts (end size)
has_stream size at part [] h = stream_end size at part h
has_stream size at part (t ∷ ts) h =
    first_stream size h.1
    ∙ ap (token t.place t.bytes) (has_stream size (t.place + length t.bytes) h.0 ts h.2)

-- ---- from the stream to the words

-- a separator in front
gap_before : (at : ℕ) (b : ℕ) (part : Bytes) (ts : List Token) → is_separator b ≡ true → HasTokens (at + 1) part ts → HasTokens at (b ∷ part) ts
gap_before at b part [] e h = rw e h
gap_before at b part (t ∷ ts) e h =
    let f = h.1 in (
      h.0,
      record {
        gap = b ∷ f.gap;
        cut = ap (λ (u : Bytes). b ∷ u) f.cut;
        separators = rw e f.separators;
        place = omega (arith, f.place);
        not-empty = f.not-empty;
        unbroken = f.unbroken;
        ended = f.ended;
      },
      h.2,
    )

-- a token's byte in front of a part that goes on with the token
byte_before : (at : ℕ) (b : ℕ) (part : Bytes) (s : Stream) → is_separator b ≡ false → is_ended part ≡ false
    → HasTokens (at + 1) part (listed s) → HasTokens at (b ∷ part) (listed (with_byte at b false s))
byte_before at b [] s e d h = clash d refl
byte_before at b (c ∷ part) (end size) e d h = clash d (both (is_separator c) _ h).0
byte_before at b (c ∷ part) (token p w s) e d h = go f.gap f.cut f.separators f.place
  where
    f : FirstToken (at + 1) (c ∷ part) (record { place = p; bytes = w }) h.0
    f = h.1

    go : (gap : Bytes) → c ∷ part ≡ gap ++ (w ++ h.0) → every is_separator gap ≡ true → p ≡ at + 1 + length gap
        → HasTokens at (b ∷ c ∷ part) (record { place = at; bytes = b ∷ w } ∷ listed s)
    go [] cut gaps place = (
      h.0,
      record {
        gap = [];
        cut = ap (λ (u : Bytes). b ∷ u) cut;
        separators = refl;
        place = omega arith;
        not-empty = zero-lt-suc _;
        unbroken = rw e f.unbroken;
        ended = f.ended;
      },
      let n : p + length w ≡ at + suc (length w) = omega (arith, place) in subst (λ (m : ℕ). HasTokens m h.0 (listed s)) n h.2,
    )
    go (x ∷ gap) cut gaps place = clash (sym (ap is_ended cut) ∙ d) (both (is_separator x) _ gaps).0

-- the tokens worked out are those that the part has
pub stream_has : (size at : ℕ) (part : Bytes) → HasTokens at part (listed (stream_at size at part))
unfolding stream_at
stream_has size at [] = refl
stream_has size at (b ∷ part) = go (is_separator b) refl (is_ended part) refl (stream_has size (at + 1) part)
  where
    s : Stream
    s = stream_at size (at + 1) part

    go : (x : Bool) → is_separator b ≡ x → (y : Bool) → is_ended part ≡ y → HasTokens (at + 1) part (listed s)
        → HasTokens at (b ∷ part) (listed (cond x s (with_byte at b y s)))
    go true e y d h = gap_before at b part (listed s) e h
    go false e false d h = byte_before at b part s e d h
    go false e true d h = (
      part,
      record {
        gap = [];
        cut = refl;
        separators = refl;
        place = omega arith;
        not-empty = zero-lt-suc _;
        unbroken = rw e;
        ended = d;
      },
      h,
    )

-- ---- the tokens of a text from a place on

-- the text from a place on has these tokens exactly if they are what is left there, with the end after them
pub has_tokens : (text : Bytes) (at : ℕ) (ts : List Token) → HasTokens at (drop at text) ts ↔ (rest text at ≡ join ts (end (length text)))
unfolding rest
has_tokens text at ts = (
  has_stream (length text) at (drop at text) ts,
  λ e. subst (HasTokens at (drop at text)) (ap listed e ∙ listed-join ts (length text)) (stream_has (length text) at (drop at text)),
)

-- what is left at a place is tokens, and the end
pub rest_is : (text : Bytes) (at : ℕ) → rest text at ≡ join (listed (rest text at)) (end (length text))
unfolding rest
rest_is text at = has_stream (length text) at (drop at text) (listed (rest text at)) (stream_has (length text) at (drop at text))

-- no part has two lists of tokens
pub tokens_once : (at : ℕ) (part : Bytes) (ts us : List Token) → HasTokens at part ts → HasTokens at part us → ts ≡ us
tokens_once at part ts us h k =
    sym (listed-join ts 0) ∙ ap listed (sym (has_stream 0 at part ts h) ∙ has_stream 0 at part us k) ∙ listed-join us 0

-- ---- the tokens of a text

pub text_tokens : (text : Bytes) → TextHasTokens text (tokens_of text)
unfolding tokens_of rest
text_tokens text =
    record {
      start = comments_end text;
      comments = comments_end_lem text;
      tokens = stream_has (length text) (comments_end text) (drop (comments_end text) text);
    }

-- a text has one list of tokens, which is `tokens_of`
pub text_tokens_only : {text : Bytes} {ts : List Token} → TextHasTokens text ts → ts ≡ tokens_of text
text_tokens_only {text} {ts} h =
    tokens_once (comments_end text) (drop (comments_end text) text) ts (tokens_of text)
    (subst (λ (n : ℕ). HasTokens n (drop n text) ts) (comments_only h.comments) h.tokens)
    (subst (λ (n : ℕ). HasTokens n (drop n text) (tokens_of text)) (comments_only (text_tokens text).comments) (text_tokens text).tokens)

-- a text has these tokens exactly if they are `tokens_of`
pub text_has_tokens : (text : Bytes) (ts : List Token) → TextHasTokens text ts ↔ (ts ≡ tokens_of text)
text_has_tokens text ts = (text_tokens_only, λ e. subst (TextHasTokens text) (sym e) (text_tokens text))

-- they are what is left after the comments
pub rest-tokens : (text : Bytes) → rest text (comments_end text) ≡ join (tokens_of text) (end (length text))
unfolding tokens_of
rest-tokens text = rest_is text (comments_end text)

-- ---- a text cut in two between its tokens

-- a part after which a token may begin: it is empty, or its last byte is a separator
abbrev pub is_separated : Bytes → Bool
is_separated [] = true
is_separated (b ∷ []) = is_separator b
is_separated (b ∷ c ∷ part) = is_separated (c ∷ part)

pub separated_last : (part : Bytes) (b : ℕ) → is_separator b ≡ true → is_separated (part ++ (b ∷ [])) ≡ true
separated_last [] b e = e
separated_last (a ∷ []) b e = e
separated_last (a ∷ c ∷ part) b e = separated_last (c ∷ part) b e

stream_none : (size at : ℕ) → stream_at size at [] ≡ end size
unfolding stream_at
stream_none size at = refl

stream_byte : (size at b : ℕ) (part : Bytes)
    → stream_at size at (b ∷ part) ≡ cond (is_separator b) (stream_at size (at + 1) part) (with_byte at b (is_ended part) (stream_at size (at + 1) part))
unfolding stream_at
stream_byte size at b part = refl

-- a stream that begins with a token
abbrev is_token : Stream → Bool
is_token (end size) = false
is_token (token place bytes s) = true

byte-token : (at b : ℕ) (x : Bool) (s : Stream) → is_token (with_byte at b x s) ≡ true
byte-token at b true s = refl
byte-token at b false (end size) = refl
byte-token at b false (token place bytes s) = refl

stream_starts : (size at b : ℕ) (part : Bytes) → is_separator b ≡ false → is_token (stream_at size at (b ∷ part)) ≡ true
stream_starts size at b part e = rw (stream_byte size at b part, e) (byte-token at b (is_ended part) (stream_at size (at + 1) part))

byte-join : (at b : ℕ) (x y : Bool) (s t : Stream) → (y ≡ false → is_token s ≡ true)
    → cond x (join (listed s) t) (with_byte at b y (join (listed s) t)) ≡ join (listed (cond x s (with_byte at b y s))) t
byte-join at b true y s t h = refl
byte-join at b false true s t h = refl
byte-join at b false false (end size) t h = clash refl (h refl)
byte-join at b false false (token place bytes s) t h = refl

-- the tokens of such a part, and then those of what follows it
pub stream_cut : (size at : ℕ) (part after : Bytes) → is_separated part ≡ true
    → stream_at size at (part ++ after) ≡ join (listed (stream_at size at part)) (stream_at size (at + length part) after)
stream_cut size at [] after e = rw (add-zero, stream_none size at)
stream_cut size at (b ∷ []) after e = rw (stream_byte size at b after, stream_byte size at b [], e, stream_none size (at + 1))
stream_cut size at (b ∷ c ∷ part) after e =
    let s = stream_at size (at + 1) (c ∷ part) in
    let t = stream_at size (at + 1 + length (c ∷ part)) after in
    let n : at + 1 + length (c ∷ part) ≡ at + length (b ∷ c ∷ part) = omega arith in
    stream_byte size at b (c ∷ (part ++ after))
    ∙ ap (λ (u : Stream). cond (is_separator b) u (with_byte at b (is_separator c) u)) (stream_cut size (at + 1) (c ∷ part) after e)
    ∙ byte-join at b (is_separator b) (is_separator c) s t (stream_starts size (at + 1) c part)
    ∙ (λ i. join (listed (sym (stream_byte size at b (c ∷ part)) i)) (stream_at size (n i) after))
