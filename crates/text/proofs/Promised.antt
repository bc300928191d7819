-- What the answers of the functions say in words, by what they are by definition.
-- Assumes nothing.
use mathlib.Core.Path.{◌≡◌, sym, ap, ◌∙◌, subst}
use mathlib.Core.Bool.{Bool, true, false}
use mathlib.Core.List.{[]}
use Prim.Native.Nat.{ℕ}
use native.Mathlib.Omega.{arith}
use lib.ListN.{length, drop}
use lib.Pointwise.{pointwise}
use lib.Dec.{eqb}
use lib.Seq.{slice, length-slice}
use denote.Ref.{Bor}
use Rattle.text.specs.Bytes.{Bytes, same}
use Rattle.text.proofs.BytesLaws.{same_bytes, same_refl, same_true}
use Rattle.text.specs.Comments.{comments_end}
use Rattle.text.proofs.CommentsLaws.{comments_end_at}
use Rattle.text.specs.Tokens.{FirstToken, HasTokens, FirstGoes, Stream, listed, rest}
use Rattle.text.proofs.TokensLaws.{first_stream, has_tokens, rest_is}
use Rattle.text.specs.Scans.{scan_of}
use Rattle.text.proofs.ScansLaws.{found, ended}
use Rattle.text.specs.Shown.{begins_token, shown_from, shown_to, shown_at, IsPart, part_from, part_to}
use Rattle.text.proofs.ShownLaws.{begun_rest, from_none, to_none, text_token_shown}
use Rattle.text.specs.Promises.{CommentsPassed, TokenScanned, PartTaken, WordCompared, TokenShown}
use Rattle.text.proofs.Parts.{slice_least}
use Rattle.text.specs.declared.Token.{Token as Answer}
use Rattle.std.proofs.Common.{Option, Some}

pub comments_passed : (text : Bytes) {r : ℕ} → r ≡ comments_end text → CommentsPassed text r
comments_passed text e =
    record {
      by_definition = e;
      ends_exactly = λ place. let h = comments_end_at text place in (λ c. h.0 c ∙ sym e, λ q. h.1 (q ∙ e));
    }

module _ (text : Bytes) (at : ℕ) {r : Option Answer} (e : r ≡ scan_of (rest text at)) where
  -- a token that is found is the first
  is_first : (from to : ℕ) → r ≡ Some (record { from = from; to = to }) → FirstGoes text at from to
  is_first from to h =
      let f = found text at (sym e ∙ h) in
      let all = (has_tokens text at (listed (rest text at))).1 (rest_is text at) in
      let has = subst (λ (s : Stream). HasTokens at (drop at text) (listed s)) f.first all in
      record {
        bytes = slice from to text;
        after = has.0;
        first = has.1;
        ends = omega (arith, length-slice from to text f.inside, f.not-empty);
      }

  -- and the first is found
  first_is : (from to : ℕ) → FirstGoes text at from to → r ≡ Some (record { from = from; to = to })
  unfolding rest
  first_is from to g = e ∙ ap scan_of (first_stream (length text) g.first) ∙ ap (λ n. Some (record { from = from; to = n })) (sym g.ends)

  pub token_scanned : TokenScanned text at r
  token_scanned =
      record {
        by_definition = e;
        token_exactly = λ from to. (is_first from to, first_is from to);
        end_exactly = (λ h. (has_tokens text at []).1 (ended text at (sym e ∙ h)), λ h. e ∙ ap scan_of ((has_tokens text at []).0 h));
      }

pub part_taken : {text answer : Bor Bytes} (from to : ℕ) → IsPart text (part_from text.now from to) (part_to text.now to) answer
    → PartTaken text from to answer
part_taken {text} from to p = record { itself = p; bytes = p.bytes ∙ slice_least from to text.now }

word_compared : (part word : Bytes) {r : Bool} → r ≡ same part word → WordCompared part word r
word_compared part word e =
    record {
      by_definition = e;
      equal_exactly = (λ t. same_true part word (sym e ∙ t), λ q. e ∙ subst (λ (w : Bytes). same part w ≡ true) q (same_refl part));
    }

-- the part of a text is compared with the word as a slice
pub slice_compared : {word part asked : Bytes} {r : Bool} → r ≡ pointwise eqb part word → part ≡ asked → WordCompared asked word r
slice_compared {word} {part} r p = word_compared _ word (r ∙ same_bytes part word ∙ ap (λ (w : Bytes). same w word) p)

module _ {text answer : Bor Bytes} (place : ℕ) (p : IsPart text (shown_from text.now place) (shown_to text.now place) answer) where
  is_begun : begins_token text.now place ≡ true
      → (after : Bytes) × FirstToken place (drop place text.now) (record { place = place; bytes = answer.now }) after
  is_begun b =
      let all = (has_tokens text.now place (listed (rest text.now place))).1 (rest_is text.now place) in
      let has = subst (λ (s : Stream). HasTokens place (drop place text.now) (listed s)) (begun_rest text.now place b) all in
      (has.0, subst (λ (w : Bytes). FirstToken place (drop place text.now) (record { place = place; bytes = w }) has.0) (sym p.bytes) has.1)

  at-the_end : begins_token text.now place ≡ false → IsPart text (length text.now) (length text.now) answer
  at-the_end b =
      subst (λ (n : ℕ). IsPart text n (length text.now) answer) (from_none text.now place b)
      (subst (λ (n : ℕ). IsPart text (shown_from text.now place) n answer) (to_none text.now place b) p)

  pub token_shown : TokenShown text place answer
  token_shown =
      record {
        by_definition = p;
        begun = is_begun;
        not_begun = at-the_end;
        each-token = λ before t after h e.
            p.bytes ∙ ap (shown_at text.now) (sym e) ∙ (text_token_shown before t after h).1;
      }
