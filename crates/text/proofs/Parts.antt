-- A part of a text, as far as the text goes.
-- Assumes nothing.
use mathlib.Core.Path.{◌≡◌, sym, ap, ◌∙◌, subst}
use mathlib.Core.List.{[], ◌∷◌}
use Prim.Native.Nat.{ℕ, zero, suc, ◌+◌, ◌-◌, ◌≤◌, min}
use native.Mathlib.Nat.{zero-min, suc-min-suc}
use native.Mathlib.Omega.{arith}
use lib.ListN.{length, take, drop, length-take}
use lib.Seq.{slice, take-nil, drop-nil}
use denote.Ref.{Bor}
use Rattle.text.specs.Bytes.{Bytes}
use Rattle.text.proofs.BytesLaws.{slice_take}
use Rattle.text.specs.Shown.{IsPart, part_from, part_to}

-- so many bytes from the start, as far as the text goes
pub take_least : (n : ℕ) (text : Bytes) → take (min n (length text)) text ≡ take n text
take_least zero text = rw zero-min
take_least (suc n) [] = take-nil (min (suc n) 0)
take_least (suc n) (b ∷ text) = rw suc-min-suc (ap (λ (u : Bytes). b ∷ u) (take_least n text))

-- and what is left after so many, where there are so many
pub drop_least : (n : ℕ) (text : Bytes) → drop (min n (length text)) text ≡ drop n text
drop_least zero text = rw zero-min
drop_least (suc n) [] = drop-nil (min (suc n) 0)
drop_least (suc n) (b ∷ text) = rw suc-min-suc (drop_least n text)

-- the part that a text has of `from` .. `to` has these bytes
pub slice_least : (from to : ℕ) (text : Bytes) → slice (part_from text from to) (part_to text to) text ≡ slice from to text
slice_least from to text =
    ap (drop (part_from text from to)) (take_least to text)
    ∙ ap (λ (n : ℕ). drop (min from n) (take to text)) (sym (length-take to text))
    ∙ drop_least from (take to text)

-- ---- a reference to a part

-- a reference into the text's block, `from` bytes further, to as many bytes as lead to `to`
pub part_at : {text part : Bor Bytes} {f t : ℕ} (from to : ℕ) → f ≡ from → t ≡ to → from ≤ to → to ≤ length text.now
    → part.ref_ptr.0 ≡ text.ref_ptr.0 → part.ref_ptr.1 ≡ text.ref_ptr.1 + from → part.now ≡ take (to - from) (drop from text.now) → IsPart text f t part
part_at {text} {part} {f} {t} from to p q ordered inside block offset bytes =
    let e : from + (to - from) ≡ to = omega arith in
    subst (λ (n : ℕ). IsPart text n t part) (sym p)
    (subst (λ (n : ℕ). IsPart text from n part) (sym q)
    (record {
      ordered = ordered;
      inside = inside;
      block = block;
      offset = offset;
      bytes = bytes ∙ sym (slice_take from (to - from) text.now) ∙ ap (λ (n : ℕ). slice from n text.now) e;
    }))
