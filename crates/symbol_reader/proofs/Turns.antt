-- What one turn of each loop does to the definition that the loop works out.
-- Assumes nothing.
use mathlib.Core.Path.{◌≡◌, refl, sym, ap, ◌∙◌}
use mathlib.Core.Bool.{Bool, true, false, cond, ◌&&◌}
use mathlib.Core.List.{List, [], ◌∷◌}
use Rattle.std.specs.Prelude.{Option, Some, None}
use Prim.Native.Nat.{ℕ, ◌+◌, ◌-◌, ◌*◌, ◌≤◌, ◌<◌, min}
use native.Mathlib.Numerals.{add-one}
use native.Mathlib.Omega.{arith}
use lib.Dec.{leb}
use lib.ListN.{length, get_or}
use lib.Seq.{slice, slice-cons}
use borrow.Author.Tests.{leb-true, leb-false}
use Rattle.std.specs.Char.{is_ascii_digit, is_ascii_graphic}
use Rattle.std.specs.List.{list_all}
use Rattle.text.specs.Bytes.{Bytes, every, is_digit, is_printable, number_after}
use Rattle.tables.specs.Limits.{largest}

-- ---- a loop through a part of a list

-- the answer is what F says of the elements from i on
pub record Left {B : Type 0} (F : List ℕ → B) (l : List ℕ) (i to : ℕ) (answer : B) : Type 0 where
  pub is : F (slice i to l) ≡ answer

module _ {B : Type 0} {F : List ℕ → B} {l : List ℕ} {i to : ℕ} {answer : B} (left : Left F l i to answer) where
  module _ (h : i < to) (k : to ≤ length l) where
    -- the element at i is taken in
    pub one_on : Left (λ xs. F (get_or l i 0 ∷ xs)) l (i + 1) to answer
    one_on = record { is = ap F (sym (rw add-one (slice-cons i to l 0 h k))) ∙ left.is }

    -- after the element at i the answer is what G says of the rest
    pub goes_on : {G : List ℕ → B} → ((xs : List ℕ) → F (get_or l i 0 ∷ xs) ≡ G xs) → Left G l (i + 1) to answer
    goes_on e = record { is = sym (e (slice (i + 1) to l)) ∙ one_on.is }

    -- after the element at i the answer is a, whatever the rest
    pub settled : {a : B} → ((xs : List ℕ) → F (get_or l i 0 ∷ xs) ≡ a) → a ≡ answer
    settled e = sym (e (slice (i + 1) to l)) ∙ one_on.is

-- ---- tests, as a chain and the methods of bytes give them

-- every element passes
pub all_every : (test : ℕ → Bool) (w : Bytes) → list_all test w ≡ every test w
all_every test [] = refl
all_every test (b ∷ w) = ap (λ (t : Bool). test b && t) (all_every test w)

pub printable : (b : ℕ) → is_ascii_graphic b ≡ is_printable b
unfolding is_printable
printable b = refl

pub digit : (b : ℕ) → is_ascii_digit b ≡ is_digit b
unfolding is_digit
digit b = refl

-- ---- the number that digits spell

-- `numeral_of` after digits that spell n
abbrev pub numeral_after : ℕ → Bytes → Option ℕ
numeral_after n w = cond (every is_digit w) (Some (min (number_after n w) largest)) None

number_grows : (n : ℕ) (w : Bytes) → n ≤ number_after n w
number_grows n [] = omega arith
number_grows n (b ∷ w) = omega (arith, number_grows (n * 10 + (b - 48)) w)

-- a number over the largest that a cell holds may be taken for that
number_capped : (n : ℕ) (w : Bytes) → min (number_after n w) largest ≡ min (number_after (min n largest) w) largest
number_capped n w = go (leb n largest) refl
  where
    go : (x : Bool) → leb n largest ≡ x → min (number_after n w) largest ≡ min (number_after (min n largest) w) largest
    go true e = let h : min n largest ≡ n = omega (arith, leb-true n largest e) in rw h
    go false e =
        let h : min n largest ≡ largest = omega (arith, leb-false n largest e) in
        rw h (omega (arith, leb-false n largest e, number_grows largest w, number_grows n w))

pub numeral_digit : (n b : ℕ) (w : Bytes) → is_digit b ≡ true → numeral_after n (b ∷ w) ≡ numeral_after (min (n * 10 + (b - 48)) largest) w
numeral_digit n b w e = rw e (ap (λ (k : ℕ). cond (every is_digit w) (Some k) None) (number_capped (n * 10 + (b - 48)) w))
