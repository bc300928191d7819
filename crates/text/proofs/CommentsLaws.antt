-- `CommentsEndAt`, the words of document 01, and `comments_end`, the place worked out, say the same: the comments of each text
-- end at one place, and `comments_end` is that place.
-- Assumes nothing.
use Rattle.std.specs.Prelude.{◌≡◌, refl, Bool, true, false, cond, not, [], ◌∷◌, ◌++◌, ◌↔◌, ℕ, suc, ◌+◌, ◌≤◌, length}
use Rattle.std.proofs.Common.{sym, ap, ◌∙◌, subst, append-nil, zero-add, add-zero, suc-add, arith, eqb-true}
use Rattle.text.specs.Bytes.{Bytes, every}
use Rattle.text.proofs.BytesLaws.{both}
use Rattle.text.specs.Comments.{is_line_feed, is_line_byte, is_percent, is_comment, CommentsEndAt, none, line, last, comment_bytes, comments_end}

-- bytes within a line, in a comment
pub within-line : (inside after : Bytes) → every is_line_byte inside ≡ true → comment_bytes true (inside ++ after) ≡ length inside + comment_bytes true after
within-line [] after e = rw zero-add
within-line (b ∷ inside) after e =
    let h = both (is_line_byte b) (every is_line_byte inside) e in
    rw (h.0, suc-add) (ap suc (within-line inside after h.1))

within-last : (inside : Bytes) → every is_line_byte inside ≡ true → comment_bytes true inside ≡ length inside
within-last inside e = simp (append-nil, add-zero) at (within-line inside [] e)

-- the relation determines the place
pub comments_only : {text : Bytes} {place : ℕ} → CommentsEndAt text place → place ≡ comments_end text
unfolding comments_end
comments_only (none {text} e) = starts text e
  where
    starts : (text : Bytes) → is_comment text ≡ false → 0 ≡ comment_bytes false text
    starts [] e = refl
    starts (b ∷ part) e = rw e
comments_only (line {text} {place} inside after is e k) =
    let h = within-line inside (10 ∷ after) e in
    let m = comments_only k in
    rw is (omega (arith, h, m))
comments_only (last {text} inside is e) = rw is (ap suc (sym (within-last inside e)))

-- a part that begins within a comment: LF ends the comment, or the text does
data Within : Bytes → ℕ → Type 0 where
  by_feed : {part : Bytes} {place : ℕ} (inside after : Bytes) → part ≡ inside ++ (10 ∷ after) → every is_line_byte inside ≡ true
      → CommentsEndAt after place → Within part (length inside + 1 + place)
  by_end : {part : Bytes} → every is_line_byte part ≡ true → Within part (length part)

opened : {part : Bytes} {b n : ℕ} → b ≡ 37 → Within part n → CommentsEndAt (b ∷ part) (suc n)
opened {part} {b} p (by_feed {place = place} inside after e l k) =
    let n : length inside + 2 + place ≡ suc (length inside + 1 + place) = omega arith in
    subst (CommentsEndAt (b ∷ part)) n (line inside after (λ i. p i ∷ e i) l k)
opened {part} p (by_end l) = last part (λ i. p i ∷ part) l

further : {part : Bytes} {b n : ℕ} → is_line_byte b ≡ true → Within part n → Within (b ∷ part) (suc n)
further {part} {b} p (by_feed {place = place} inside after e l k) =
    let n : length (b ∷ inside) + 1 + place ≡ suc (length inside + 1 + place) = omega arith in
    subst (Within (b ∷ part)) n (by_feed (b ∷ inside) after (λ i. b ∷ e i) (rw p l) k)
further {b = b} p (by_end {part} l) = by_end {part = b ∷ part} (rw p l)

fed : {part : Bytes} {b n : ℕ} → b ≡ 10 → CommentsEndAt part n → Within (b ∷ part) (suc n)
fed {part} {b} {n} p k =
    let m : length {A = ℕ} [] + 1 + n ≡ suc n = omega arith in
    subst (Within (b ∷ part)) m (by_feed [] part (λ i. p i ∷ part) refl k)

both_ways : (part : Bytes) → CommentsEndAt part (comment_bytes false part) × Within part (comment_bytes true part)
both_ways [] = (none refl, by_end refl)
both_ways (b ∷ part) = (outside (is_percent b) refl (both_ways part).1, inside (is_line_feed b) refl (both_ways part))
  where
    outside : (x : Bool) → is_percent b ≡ x → Within part (comment_bytes true part) → CommentsEndAt (b ∷ part) (cond x (suc (comment_bytes true part)) 0)
    outside true e w = opened (eqb-true b 37 e) w
    outside false e w = none e

    inside : (x : Bool) → is_line_feed b ≡ x → CommentsEndAt part (comment_bytes false part) × Within part (comment_bytes true part)
        → Within (b ∷ part) (suc (comment_bytes (not x) part))
    inside true e h = fed (eqb-true b 10 e) h.0
    inside false e h = further (rw e) h.1

-- and holds of the place worked out
pub comments_end_lem : (text : Bytes) → CommentsEndAt text (comments_end text)
unfolding comments_end
comments_end_lem text = (both_ways text).0

-- the comments of a text end at a place exactly if that is `comments_end`
pub comments_end_at : (text : Bytes) (place : ℕ) → CommentsEndAt text place ↔ (place ≡ comments_end text)
comments_end_at text place = (comments_only, λ e. subst (CommentsEndAt text) (sym e) (comments_end_lem text))

-- so they end at one place
pub comments_once : {text : Bytes} {m n : ℕ} → CommentsEndAt text m → CommentsEndAt text n → m ≡ n
comments_once p q = comments_only p ∙ sym (comments_only q)

-- which is within it or its end
pub comments_inside : (text : Bytes) → comments_end text ≤ length text
unfolding comments_end
comments_inside text = go false text
  where
    go : (within : Bool) (part : Bytes) → comment_bytes within part ≤ length part
    go within [] = omega arith
    go true (b ∷ part) = omega (arith, go (is_line_byte b) part)
    go false (b ∷ part) = at (is_percent b) (go true part)
      where
        at : (x : Bool) → comment_bytes true part ≤ length part → cond x (suc (comment_bytes true part)) 0 ≤ suc (length part)
        at true h = omega arith
        at false h = omega arith
