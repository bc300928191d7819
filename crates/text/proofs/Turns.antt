-- What one turn of each loop does to the definition that the loop works out.
-- Assumes nothing.
use mathlib.Core.Path.{◌≡◌, refl, sym, ap, ◌∙◌}
use mathlib.Core.Bool.{Bool, true, false, cond}
use Prim.Native.Nat.{ℕ, suc, ◌+◌, ◌≤◌, ◌<◌, min}
use native.Mathlib.Nat.{zero-add}
use native.Mathlib.Omega.{arith}
use lib.ListN.{length, take, drop, get_or, drop_of_length-le, length-drop, take-append-drop}
use Rattle.std.proofs.Common.{count_by}
use Rattle.std.proofs.lemmas.List.Sums.{count_by-le-length}
use Rattle.std.proofs.Math.Seq.{slice}
use Rattle.std.proofs.lemmas.List.Recursion.{is_count_by}
use lib.Seq.{drop-drop, length-take-le}
use lib.Dec.{ltb}
use borrow.Author.Tests.{ne_eqb, ltb-true, ltb-false}
use Rattle.text.specs.Bytes.{Bytes, leading}
use Rattle.text.proofs.BytesLaws.{uncons, leading_le, leading-every, leading_stop}
use Rattle.text.specs.Comments.{is_line_feed, is_line_byte, comment_bytes, comments_end}
use Rattle.text.proofs.CommentsLaws.{within-line}
use Rattle.text.specs.Lines.{line_feeds, line_of}

-- ---- the bytes that lead a part

module _ (test : ℕ → Bool) (text : Bytes) (i : ℕ) where
  pub leading_more : i < length text → test (get_or text i 0) ≡ true → leading test (drop i text) ≡ suc (leading test (drop (i + 1) text))
  leading_more h e = rw (uncons text i h, e)

  pub leading_none : i < length text → test (get_or text i 0) ≡ false → leading test (drop i text) ≡ 0
  leading_none h e = rw (uncons text i h, e)

  pub leading-past : length text ≤ i → leading test (drop i text) ≡ 0
  leading-past h = rw (drop_of_length-le text h)

  -- where they end is within the text
  pub run_inside : {end : ℕ} → end ≡ i + leading test (drop i text) → i ≤ length text → end ≤ length text
  run_inside e h = omega (arith, e, leading_le test (drop i text), length-drop i text)

-- ---- LF bytes before a place

-- how many a chain counts
pub feeds_counted : (w : Bytes) → count_by is_line_feed w ≡ line_feeds w
feeds_counted w = sym (is_count_by line_feeds is_line_feed refl (λ b part. go (is_line_feed b) (line_feeds part)) w)
  where
    go : (x : Bool) (n : ℕ) → cond x (suc n) n ≡ cond x (1 + n) n
    go true n = omega arith
    go false n = omega arith

-- and so there are no more than bytes
pub feeds_le : (w : Bytes) → line_feeds w ≤ length w
feeds_le w = omega (arith, feeds_counted w, count_by-le-length is_line_feed w)

-- the line of a place, by the part before it
pub line_done : (text : Bytes) (place : ℕ) {part : Bytes} → part ≡ slice 0 place text → 1 + line_feeds part ≡ line_of text place
unfolding line_of
line_done text place e = ap (λ (w : Bytes). 1 + line_feeds w) e

-- ---- comments, from a place on where a line begins

pub comment_first : (text : Bytes) → 0 + comment_bytes false text ≡ comments_end text
unfolding comments_end
comment_first text = zero-add (comment_bytes false text)

module _ (text : Bytes) (at : ℕ) where
  pub comment_past : length text ≤ at → comment_bytes false (drop at text) ≡ 0
  comment_past h = rw (drop_of_length-le text h)

  pub comment_none : at < length text → (get_or text at 0 ≡ 37 → ⊥) → comment_bytes false (drop at text) ≡ 0
  comment_none h e = rw (uncons text at h, ne_eqb (get_or text at 0) 37 e)

-- the line that begins at `at` begins with `%`, and its bytes go to `end`
pub record CommentLine (text : Bytes) (at end : ℕ) : Type 0 where
  pub inside : at < length text
  pub percent : get_or text at 0 ≡ 37
  pub goes_to : end ≡ at + leading is_line_byte (drop at text)

module _ {text : Bytes} {at end : ℕ} (l : CommentLine text at end) where
  rest_of_line : drop (leading is_line_byte (drop at text)) (drop at text) ≡ drop end text
  rest_of_line = drop-drop (leading is_line_byte (drop at text)) at text ∙ ap (λ (n : ℕ). drop n text) (sym l.goes_to)

  -- all of it is comment: `%` is a byte of the line too
  whole-line : at + comment_bytes false (drop at text) ≡ end + comment_bytes true (drop end text)
  whole-line =
      let part = drop at text in
      let n = leading is_line_byte part in
      let same : comment_bytes false part ≡ comment_bytes true part = rw (uncons text at l.inside, l.percent) in
      let cut : comment_bytes true part ≡ length (take n part) + comment_bytes true (drop n part) =
      ap (comment_bytes true) (sym (take-append-drop n part)) ∙ within-line (take n part) (drop n part) (leading-every is_line_byte part)
      in
      let size : length (take n part) ≡ n = length-take-le n part (leading_le is_line_byte part) in
      omega (arith, l.goes_to, same, cut, size, ap (comment_bytes true) rest_of_line)

  pub line_ahead : at ≤ end
  line_ahead = omega (arith, l.goes_to)

  pub line_inside : end ≤ length text
  line_inside = run_inside is_line_byte text at l.goes_to (omega (arith, l.inside))

  -- the comments go on at the next line, or where the text ends
  pub comment_more : {next : ℕ} → next ≡ min (end + 1) (length text) → at + comment_bytes false (drop at text) ≡ next + comment_bytes false (drop next text)
  comment_more {next} e = go (ltb end (length text)) refl
    where
      go : (x : Bool) → ltb end (length text) ≡ x → at + comment_bytes false (drop at text) ≡ next + comment_bytes false (drop next text)
      go true t =
          let h : end < length text = ltb-true end (length text) t in
          let n : next ≡ end + 1 = omega (arith, e) in
          let feed = leading_stop is_line_byte (drop at text) (get_or text end 0) (drop (end + 1) text) (rest_of_line ∙ uncons text end h) in
          let step : comment_bytes true (drop end text) ≡ suc (comment_bytes false (drop (end + 1) text)) = rw (uncons text end h, feed) in
          rw n (omega (arith, whole-line, step))
      go false t =
          let past : length text ≤ end = ltb-false end (length text) t in
          let over : length text ≤ next = omega (arith, e) in
          let none : comment_bytes true (drop end text) ≡ 0 = rw (drop_of_length-le text past) in
          omega (arith, whole-line, none, line_inside, comment_past text next over)
