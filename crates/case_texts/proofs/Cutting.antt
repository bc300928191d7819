-- How a text is cut at its first mark, step by step from its front.
use Rattle.std.proofs.Common.{◌≡◌, ◌∙◌, sym, ap, refl, ℕ, ◌+◌, ◌-◌, ◌<◌, Bool, true, false, cond, nat_eq, List, [], ◌∷◌, ◌++◌, length, take, drop, get_or}
use Rattle.std.specs.List.{starts_with}
use Rattle.std.proofs.lemmas.List.{take_more, drop_more, take_rest, append-nil}
use Rattle.std.proofs.Math.Seq.{append_snoc}
use Rattle.case_texts.specs.Cases.{before_mark, from_mark}

-- No mark stands at the front.
before_passed : (mark : List ℕ) (b : ℕ) (bs : List ℕ) → starts_with nat_eq (b ∷ bs) mark ≡ false
    → before_mark mark (b ∷ bs) ≡ b ∷ before_mark mark bs
before_passed mark b bs none = ap (λ (v : Bool). cond v [] (b ∷ before_mark mark bs)) none

from_passed : (mark : List ℕ) (b : ℕ) (bs : List ℕ) → starts_with nat_eq (b ∷ bs) mark ≡ false
    → from_mark mark (b ∷ bs) ≡ from_mark mark bs
from_passed mark b bs none = ap (λ (v : Bool). cond v (b ∷ bs) (from_mark mark bs)) none

-- One stands there.
before_reached : (mark xs : List ℕ) → starts_with nat_eq xs mark ≡ true → before_mark mark xs ≡ []
before_reached mark [] here = refl
before_reached mark (b ∷ bs) here = ap (λ (v : Bool). cond v [] (b ∷ before_mark mark bs)) here

-- In the next three `take (length xs - at) (drop at xs)` is what `&xs[at..]` holds.
-- Where no mark stands at a place, the text before the mark goes on with the byte at that place.
pub before_more : (mark xs : List ℕ) (at : ℕ) → at < length xs → starts_with nat_eq (take (length xs - at) (drop at xs)) mark ≡ false
    → before_mark mark xs ≡ take at xs ++ before_mark mark (drop at xs)
    → before_mark mark xs ≡ take (at + 1) xs ++ before_mark mark (drop (at + 1) xs)
before_more mark xs at below none so_far =
    let split : drop at xs ≡ get_or xs at 0 ∷ drop (at + 1) xs = drop_more xs at 0 below in
    let test : starts_with nat_eq (get_or xs at 0 ∷ drop (at + 1) xs) mark ≡ false
    = sym (ap (λ (ys : List ℕ). starts_with nat_eq ys mark) (take_rest xs at ∙ split)) ∙ none in
    so_far
    ∙ ap (λ (ys : List ℕ). take at xs ++ before_mark mark ys) split
    ∙ ap (λ (ys : List ℕ). take at xs ++ ys) (before_passed mark (get_or xs at 0) (drop (at + 1) xs) test)
    ∙ sym (append_snoc (take at xs) (get_or xs at 0) (before_mark mark (drop (at + 1) xs)))
    ∙ ap (λ (ys : List ℕ). ys ++ before_mark mark (drop (at + 1) xs)) (sym (take_more xs at 0 below))

pub from_more : (mark xs : List ℕ) (at : ℕ) → at < length xs → starts_with nat_eq (take (length xs - at) (drop at xs)) mark ≡ false
    → from_mark mark xs ≡ from_mark mark (drop at xs) → from_mark mark xs ≡ from_mark mark (drop (at + 1) xs)
from_more mark xs at below none so_far =
    let split : drop at xs ≡ get_or xs at 0 ∷ drop (at + 1) xs = drop_more xs at 0 below in
    let test : starts_with nat_eq (get_or xs at 0 ∷ drop (at + 1) xs) mark ≡ false
    = sym (ap (λ (ys : List ℕ). starts_with nat_eq ys mark) (take_rest xs at ∙ split)) ∙ none in
    so_far ∙ ap (from_mark mark) split ∙ from_passed mark (get_or xs at 0) (drop (at + 1) xs) test

-- Where one stands there, the text before it ends.
pub before_here : (mark xs : List ℕ) (at : ℕ) → starts_with nat_eq (take (length xs - at) (drop at xs)) mark ≡ true
    → before_mark mark xs ≡ take at xs ++ before_mark mark (drop at xs) → take at xs ≡ before_mark mark xs
before_here mark xs at here so_far =
    let test : starts_with nat_eq (drop at xs) mark ≡ true
    = sym (ap (λ (ys : List ℕ). starts_with nat_eq ys mark) (take_rest xs at)) ∙ here in
    sym (so_far ∙ ap (λ (ys : List ℕ). take at xs ++ ys) (before_reached mark (drop at xs) test) ∙ append-nil (take at xs))
