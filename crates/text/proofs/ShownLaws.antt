-- Show a token shows the tokens of the text, and nothing else.
-- Assumes nothing.
use Rattle.std.specs.Prelude.{◌≡◌, refl, Bool, true, false, List, [], ◌∷◌, ◌++◌, ◌⊎◌, ℕ, zero, suc, ◌+◌, ◌-◌, ◌≤◌, ◌<◌, eqb, ltb, length, take, drop, get_or}
use Rattle.std.proofs.Common.{sym, ap, ◌∙◌, subst, inl, inr, ⊎_elim, add-zero, arith, take-append-drop, get_or-drop, drop-drop, take-suc, length-take-le, get_or-append-add}
use Rattle.std.proofs.Math.Bool.{or-true}
use Rattle.std.proofs.Math.Seq.{slice, slice_empty, drop-length, drop-append-add}
use borrow.Author.Tests.{ltb-true, lt-ltb, ltb-false, ne_eqb}
use Rattle.text.specs.Bytes.{Bytes, is_separator, leading}
use Rattle.text.proofs.BytesLaws.{both, uncons, leading_at}
use Rattle.text.specs.Comments.{CommentsEndAt, none, line, last}
use Rattle.text.specs.Tokens.{Token, is_token_byte, is_ended, TextHasTokens, Stream, end, token, join, listed, stream_at, rest, token_end}
use Rattle.text.proofs.TokensLaws.{has_tokens, is_separated, separated_last, stream_cut}
use Rattle.text.proofs.ScansLaws.{rest-token, first-at, found_first, none_left, token-ended}
use Rattle.text.specs.Shown.{follows_separator, begins_token, shown_from, shown_to, shown_at}

-- ---- the part that is shown

module _ (text : Bytes) (place : ℕ) where
  module _ (e : begins_token text place ≡ true) where
    pub from_begun : shown_from text place ≡ place
    unfolding shown_from
    from_begun = rw e

    pub to_begun : shown_to text place ≡ token_end text place
    unfolding shown_to
    to_begun = rw e

    -- a token begins within the text, with a byte that is no separator, at the start or after a separator
    pub begun_inside : place < length text
    unfolding begins_token
    begun_inside = ltb-true place (length text) (both (ltb place (length text)) _ e).0

    pub begun_byte : is_token_byte (get_or text place 0) ≡ true
    unfolding begins_token
    begun_byte = (both (is_token_byte (get_or text place 0)) _ (both (ltb place (length text)) _ e).1).0

    pub begun_after : follows_separator text place ≡ true
    unfolding begins_token
    begun_after = (both (is_token_byte (get_or text place 0)) _ (both (ltb place (length text)) _ e).1).1

    -- the tokens from there on begin with the one that is shown
    pub begun_rest : rest text place ≡ token place (shown_at text place) (rest text (shown_to text place))
    begun_rest =
        rest-token text place begun_inside begun_byte
        ∙ (λ i. token place (slice (sym from_begun i) (sym to_begun i) text) (rest text (sym to_begun i)))

  pub begins : place < length text → is_token_byte (get_or text place 0) ≡ true → follows_separator text place ≡ true → begins_token text place ≡ true
  unfolding begins_token
  begins h e f = rw (lt-ltb place (length text) h, e, f)

  module _ (e : begins_token text place ≡ false) where
    pub from_none : shown_from text place ≡ length text
    unfolding shown_from
    from_none = rw e

    pub to_none : shown_to text place ≡ length text
    unfolding shown_to
    to_none = rw e

    -- nothing is shown
    pub shown_none : shown_at text place ≡ []
    shown_none = (λ i. slice (from_none i) (to_none i) text) ∙ slice_empty (length text) text

-- ---- each token is shown

-- a place between tokens: the start of the text, after a separator, or where a token has ended
abbrev Between : Bytes → ℕ → Type 0
Between text at = (follows_separator text at ≡ true) ⊎ (is_ended (drop at text) ≡ true)

-- the first token from there on follows a separator
first_follows : (text : Bytes) (at : ℕ) → Between text at → at + leading is_separator (drop at text) < length text
    → follows_separator text (at + leading is_separator (drop at text)) ≡ true
first_follows text at u h = go (leading is_separator (drop at text)) refl
  where
    go : (n : ℕ) → leading is_separator (drop at text) ≡ n → follows_separator text (at + n) ≡ true
    go zero e = rw add-zero (⊎_elim (λ f. f) ends u)
      where
        ends : is_ended (drop at text) ≡ true → follows_separator text at ≡ true
        ends d =
            let inside : at < length text = omega (arith, h) in
            let s : is_separator (get_or text at 0) ≡ true = rw (uncons text at inside) at d in
            let z : suc (leading is_separator (drop (at + 1) text)) ≡ 0 = rw (uncons text at inside, s) at e in
            absurd (omega (arith, z))
    go (suc n) e =
        let q : at + suc n - 1 ≡ at + n = omega arith in
        let s : is_separator (get_or text (at + n) 0) ≡ true = rw get_or-drop at (leading_at is_separator (drop at text) n (omega (arith, e))) in
        rw (q, s) (or-true (eqb (at + suc n) 0))

-- and so a token begins there
first_begins : (text : Bytes) (at : ℕ) → Between text at → at + leading is_separator (drop at text) < length text
    → begins_token text (at + leading is_separator (drop at text)) ≡ true
first_begins text at u h = begins text (at + leading is_separator (drop at text)) h (first-at text at h) (first_follows text at u h)

-- the first token from there on begins where it stands and is shown there, and the place after it is between tokens again
record FirstShown (text : Bytes) (t : Token) (s : Stream) : Type 0 where
  pub begun : begins_token text t.place ≡ true
  pub shown : shown_at text t.place ≡ t.bytes
  pub after : ℕ
  pub again : Between text after
  pub left : s ≡ rest text after

first_shown : (text : Bytes) (at : ℕ) (t : Token) (s : Stream) → Between text at → rest text at ≡ token t.place t.bytes s → FirstShown text t s
first_shown text at t s u e = go (ltb from (length text)) refl
  where
    from : ℕ
    from = at + leading is_separator (drop at text)

    go : (x : Bool) → ltb from (length text) ≡ x → FirstShown text t s
    go true h =
        let inside = ltb-true from (length text) h in
        let f = (found_first text at inside).first in
        let b = first_begins text at u inside in
        let n = leading is_token_byte (drop from text) in
        let p : from ≡ t.place = cc in
        let w : slice from (token_end text from) text ≡ t.bytes = cc in
        record {
          begun = subst (λ (n : ℕ). begins_token text n ≡ true) p b;
          shown = subst (λ (n : ℕ). shown_at text n ≡ t.bytes) p ((λ i. slice (from_begun text from b i) (to_begun text from b i) text) ∙ w);
          after = token_end text from;
          again = inr (subst (λ (part : Bytes). is_ended part ≡ true) (drop-drop n from text) (token-ended (drop from text)));
          left = cc;
        }
    go false h = let k = none_left text at (ltb-false from (length text) h) in absurd (let z : ◌≡◌ {A = ℕ} 0 1 = cc in omega arith)

each_shown : (text : Bytes) (before : List Token) (t : Token) (s : Stream) (at : ℕ) → Between text at
    → rest text at ≡ join (before ++ (t ∷ [])) s → FirstShown text t s
each_shown text [] t s at u e = first_shown text at t s u e
each_shown text (b ∷ before) t s at u e =
    let f = first_shown text at b (join (before ++ (t ∷ [])) s) u e in
    each_shown text before t s f.after f.again (sym f.left)

-- each token from a place on that is the start of the text or follows a separator begins where it stands, and is shown there
pub token_shown : (text : Bytes) (at : ℕ) (before : List Token) (t : Token) (s : Stream) → follows_separator text at ≡ true
    → rest text at ≡ join (before ++ (t ∷ [])) s → (begins_token text t.place ≡ true) × (shown_at text t.place ≡ t.bytes)
token_shown text at before t s f e = let h = each_shown text before t s at (inl f) e in (h.begun, h.shown)

-- ---- each token of the text, after its comments, is shown

feed_separates : is_separator 10 ≡ true
unfolding is_separator
feed_separates = refl

-- after LF, a place is between tokens where it is so in what follows
after_feed : (front after : Bytes) (place : ℕ) → Between after place → Between (front ++ (10 ∷ after)) (length front + suc place)
after_feed front after place u = ⊎_elim (λ f. inl (follows place f)) (λ d. inr (rw (drop-append-add front (10 ∷ after) (suc place)) d)) u
  where
    before_it : (n : ℕ) → get_or (front ++ (10 ∷ after)) (length front + suc n - 1) 0 ≡ get_or (10 ∷ after) n 0
    before_it n = let q : length front + suc n - 1 ≡ length front + n = omega arith in rw (q, get_or-append-add front (10 ∷ after) n 0)

    separator : (n : ℕ) → follows_separator after n ≡ true → is_separator (get_or (10 ∷ after) n 0) ≡ true
    separator zero f = feed_separates
    separator (suc n) f = let q : suc n - 1 ≡ n = omega arith in rw (q, ne_eqb (suc n) 0 (λ z. omega (arith, z))) at f

    follows : (n : ℕ) → follows_separator after n ≡ true → follows_separator (front ++ (10 ∷ after)) (length front + suc n) ≡ true
    follows n f = rw (before_it n, separator n f) (or-true (eqb (length front + suc n) 0))

-- the place after the comments is between tokens
comments_between : {text : Bytes} {place : ℕ} → CommentsEndAt text place → Between text place
comments_between (none e) = inl refl
comments_between (line {place = place} inside after is e k) =
    let n : length (37 ∷ inside) + suc place ≡ length inside + 2 + place = omega arith in
    subst (λ (u : Bytes). Between u (length inside + 2 + place)) (sym is)
    (subst (Between (37 ∷ (inside ++ (10 ∷ after)))) n (after_feed (37 ∷ inside) after place (comments_between k)))
comments_between (last {text} inside is e) = inr (rw (drop-length text))

join_cut : (before : List Token) (t : Token) (after : List Token) (s : Stream) → join (before ++ (t ∷ after)) s ≡ join (before ++ (t ∷ [])) (join after s)
join_cut [] t after s = refl
join_cut (b ∷ before) t after s = ap (token b.place b.bytes) (join_cut before t after s)

-- each token of a text, after its comments, begins where it stands, and is shown there
pub text_token_shown : {text : Bytes} (before : List Token) (t : Token) (after : List Token) → TextHasTokens text (before ++ (t ∷ after))
    → (begins_token text t.place ≡ true) × (shown_at text t.place ≡ t.bytes)
text_token_shown {text} before t after h =
    let e = (has_tokens text h.start (before ++ (t ∷ after))).0 h.tokens ∙ join_cut before t after (end (length text)) in
    let f = each_shown text before t (join after (end (length text))) h.start (comments_between h.comments) e in
    (f.begun, f.shown)

-- ---- what is shown is a token

-- the part up to a place that follows a separator
separated_before : (text : Bytes) (place : ℕ) → place ≤ length text → follows_separator text place ≡ true → is_separated (take place text) ≡ true
separated_before text zero h e = refl
separated_before text (suc n) h e =
    let q : suc n - 1 ≡ n = omega arith in
    let s : is_separator (get_or text n 0) ≡ true = rw (q, ne_eqb (suc n) 0 (λ z. omega (arith, z))) at e in
    rw (take-suc text n 0) (separated_last (take n text) (get_or text n 0) s)

-- from the start, some tokens, and then those from that place on
rest_cut : (text : Bytes) (place : ℕ) → place ≤ length text → follows_separator text place ≡ true
    → (before : List Token) × (rest text 0 ≡ join before (rest text place))
unfolding rest
rest_cut text place h e =
    let front = take place text in
    let l : 0 + length front ≡ place = omega (arith, length-take-le place text h) in (
      listed (stream_at (length text) 0 front),
      ap (stream_at (length text) 0) (sym (take-append-drop place text))
          ∙ stream_cut (length text) 0 front (drop place text) (separated_before text place h e)
          ∙ ap (λ (n : ℕ). join (listed (stream_at (length text) 0 front)) (stream_at (length text) n (drop place text))) l,
    )

-- where a token begins, what is shown is one of the tokens of the text, comments not regarded
pub shown_token : (text : Bytes) (place : ℕ) → begins_token text place ≡ true
    → (before : List Token) × (rest text 0 ≡ join before (token place (shown_at text place) (rest text (shown_to text place))))
shown_token text place e =
    let inside : place ≤ length text = omega (arith, begun_inside text place e) in
    let c = rest_cut text place inside (begun_after text place e) in
    (c.0, c.1 ∙ ap (join c.0) (begun_rest text place e))
