-- What is left of a text at a place: past separators, at a token, past a token; and so what `scan_of` says of the first token.
-- Assumes nothing.
use Rattle.std.specs.Prelude.{◌≡◌, refl, Bool, true, false, not, List, [], ◌∷◌, ◌++◌, ℕ, ◌+◌, ◌≤◌, ◌<◌, Some, None, ltb, get_or}
use Rattle.std.proofs.Math.Path.{sym, ap}
use Rattle.std.proofs.Common.{◌∙◌, subst, zero-lt-suc, arith, length-drop, take-append-drop, drop_of_length-le, length-take-le, drop-drop, ltb-true, ltb-false}
use Rattle.std.proofs.Math.ListN.{length, take, drop}
use Rattle.std.proofs.Math.Seq.{slice, length-slice}
use Rattle.std.proofs.lemmas.Bool.{not-false}
use Rattle.text.specs.Bytes.{Bytes, is_separator, leading}
use Rattle.text.proofs.BytesLaws.{leading_le, leading-every, leading_stop, uncons, slice_take}
use Rattle.text.specs.Tokens.{Token, is_token_byte, is_ended, end, token, join, listed, stream_at, rest, token_end}
use Rattle.text.proofs.TokensLaws.{stream_gap, stream_token, rest_is}
use Rattle.text.specs.Scans.{scan_of, Found}
use Rattle.text.specs.declared.Token.{Token as Answer}

-- the bytes that lead a part, and what is left of it
cut_leading : (test : ℕ → Bool) (part : Bytes) → take (leading test part) part ++ drop (leading test part) part ≡ part
cut_leading test part = take-append-drop (leading test part) part

length-leading : (test : ℕ → Bool) (part : Bytes) → length (take (leading test part) part) ≡ leading test part
length-leading test part = length-take-le (leading test part) part (leading_le test part)

-- after the bytes of a token it has ended
pub token-ended : (part : Bytes) → is_ended (drop (leading is_token_byte part) part) ≡ true
token-ended part = go (drop (leading is_token_byte part) part) refl
  where
    go : (after : Bytes) → drop (leading is_token_byte part) part ≡ after → is_ended after ≡ true
    go [] e = refl
    go (b ∷ after) e = not-false (is_separator b) (leading_stop is_token_byte part b after e)

stream_onward : (size at : ℕ) (part : Bytes) → is_ended part ≡ true → stream_at size at part ≡ stream_at size (at + 1) (drop 1 part)
unfolding stream_at
stream_onward size at [] e = refl
stream_onward size at (b ∷ part) e = rw e

module _ (text : Bytes) where
  -- past the end nothing is left
  pub rest-past : (at : ℕ) → length text ≤ at → rest text at ≡ end (length text)
  unfolding rest stream_at
  rest-past at h = rw (drop_of_length-le text h)

  -- separators are passed over
  pub rest_gap : (at : ℕ) → rest text at ≡ rest text (at + leading is_separator (drop at text))
  unfolding rest
  rest_gap at =
      let part = drop at text in
      let n = leading is_separator part in
      ap (stream_at (length text) at) (sym (cut_leading is_separator part))
      ∙ stream_gap (length text) at (take n part) (drop n part) (leading-every is_separator part)
      ∙ (λ i. stream_at (length text) (at + length-leading is_separator part i) (drop-drop n at text i))

  -- where a token may end, one place further makes no difference
  pub rest-onward : (at : ℕ) → is_ended (drop at text) ≡ true → rest text at ≡ rest text (at + 1)
  unfolding rest
  rest-onward at e = stream_onward (length text) at (drop at text) e ∙ ap (stream_at (length text) (at + 1)) (drop-drop 1 at text)

  -- at a byte that is no separator a token begins
  module _ (at : ℕ) (h : at < length text) (e : is_token_byte (get_or text at 0) ≡ true) where
    pub token_some : 0 < leading is_token_byte (drop at text)
    token_some = rw (uncons text at h, e) (zero-lt-suc (leading is_token_byte (drop (at + 1) text)))

    pub rest-token : rest text at ≡ token at (slice at (token_end text at) text) (rest text (token_end text at))
    unfolding rest
    rest-token =
        let n = leading is_token_byte (drop at text) in
        let w : take n (drop at text) ≡ slice at (at + n) text = sym (slice_take at n text) in
        let l : length (take n (drop at text)) ≡ n = length-leading is_token_byte (drop at text) in
        ap (stream_at (length text) at) (sym (cut_leading is_token_byte (drop at text)))
        ∙ stream_token (length text) at (take n (drop at text)) (drop n (drop at text))
        (omega (arith, l, token_some)) (leading-every is_token_byte (drop at text)) (token-ended (drop at text))
        ∙ (λ i. token at (w i) (stream_at (length text) (at + l i) (drop-drop n at text i)))

  -- the first token from a place on: it begins after the separators there
  module _ (at : ℕ) (h : at + leading is_separator (drop at text) < length text) where
    pub first-at : is_token_byte (get_or text (at + leading is_separator (drop at text)) 0) ≡ true
    first-at =
        let n = leading is_separator (drop at text) in
        let e = drop-drop n at text ∙ uncons text (at + n) h in
        ap not (leading_stop is_separator (drop at text) (get_or text (at + n) 0) (drop (at + n + 1) text) e)

    pub found_first : Found text at (at + leading is_separator (drop at text)) (token_end text (at + leading is_separator (drop at text)))
    found_first =
        let from = at + leading is_separator (drop at text) in
        let n = leading is_token_byte (drop from text) in
        record {
          first = rest_gap at ∙ rest-token from h first-at;
          onward = rest-onward (from + n) (subst (λ (part : Bytes). is_ended part ≡ true) (drop-drop n from text) (token-ended (drop from text)));
          ahead = omega arith;
          not-empty = omega (arith, token_some from h first-at);
          inside = omega (arith, leading_le is_token_byte (drop from text), length-drop from text);
        }

  -- without one, only separators are left
  pub none_left : (at : ℕ) → length text ≤ at + leading is_separator (drop at text) → rest text at ≡ end (length text)
  none_left at h = rest_gap at ∙ rest-past (at + leading is_separator (drop at text)) h

-- ---- what `scan_of` says

pub scan_found : {text : Bytes} {at from to : ℕ} → Found text at from to → scan_of (rest text at) ≡ Some (record { from = from; to = to })
scan_found {text} {at} {from} {to} f =
    let e : from + length (slice from to text) ≡ to = omega (arith, length-slice from to text f.inside, f.not-empty) in
    ap scan_of f.first ∙ ap (λ n. Some (record { from = from; to = n })) e

module _ (text : Bytes) (at : ℕ) where
  pub found : {from to : ℕ} → scan_of (rest text at) ≡ Some (record { from = from; to = to }) → Found text at from to
  found {from} {to} e = go (ltb start (length text)) refl
    where
      start : ℕ
      start = at + leading is_separator (drop at text)

      go : (x : Bool) → ltb start (length text) ≡ x → Found text at from to
      go true h =
          let f = found_first text at (ltb-true start (length text) h) in
          let k = scan_found f in
          let same : ◌≡◌ {A = Answer} (record { from = from; to = to }) (record { from = start; to = token_end text start }) = cc in
          let p : start ≡ from = sym (ap (λ (t : Answer). t.from) same) in
          let q : token_end text start ≡ to = sym (ap (λ (t : Answer). t.to) same) in
          subst (λ (n : ℕ). Found text at n to) p (subst (Found text at start) q f)
      go false h =
          let k : scan_of (rest text at) ≡ None = ap scan_of (none_left text at (ltb-false start (length text) h)) in
          absurd (let z : ◌≡◌ {A = ℕ} 0 1 = cc in omega arith)

  pub ended : scan_of (rest text at) ≡ None → rest text at ≡ end (length text)
  ended e = go (listed (rest text at)) (rest_is text at)
    where
      go : (ts : List Token) → rest text at ≡ join ts (end (length text)) → rest text at ≡ end (length text)
      go [] p = p
      go (t ∷ ts) p = let k = ap scan_of p in absurd (let z : ◌≡◌ {A = ℕ} 0 1 = cc in omega arith)
