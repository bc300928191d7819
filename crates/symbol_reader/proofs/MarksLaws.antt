-- Marks: no number beyond the words is marked, and what one mark more changes.
-- Assumes nothing.
use mathlib.Core.Path.{◌≡◌, refl, sym, ap, ◌∙◌}
use mathlib.Core.Bool.{Bool, true, false, cond, ◌||◌}
use mathlib.Core.List.{List, [], ◌∷◌, ◌++◌}
use Prim.Native.Nat.{ℕ, zero, suc, ◌*◌, ◌/◌, ◌%◌, ◌<◌}
use native.Mathlib.Omega.{arith}
use lib.Dec.{eqb}
use lib.ListN.{length, get_or, replicate}
use Rattle.sets.specs.Sets.{bit}
use Rattle.sets.specs.SetsLaws.{bit-zero}
use Rattle.grammar.specs.Reading.{is_among}
use Rattle.symbol_reader.specs.Marks.{marked, Marks}

-- ---- the numbers that are marked

zero-at : (n i : ℕ) → ◌≡◌ {A = ℕ} (get_or (replicate n 0) i 0) 0
zero-at zero i = refl
zero-at (suc n) zero = refl
zero-at (suc n) (suc i) = zero-at n i

pub marks_none : (n : ℕ) → Marks [] (replicate n 0)
marks_none n = record { are = λ k h. ap (λ (w : ℕ). eqb (bit w (k % 64)) 1) (zero-at n (k / 64)) ∙ ap (λ (b : ℕ). eqb b 1) (bit-zero (k % 64)) }

pub among_more : {A : Type 0} (eq : A → A → Bool) (x y : A) (xs : List A) → is_among eq x (xs ++ (y ∷ [])) ≡ eq x y || is_among eq x xs
among_more eq x y [] = go (eq x y)
  where
    go : (t : Bool) → cond t true false ≡ t || false
    go true = refl
    go false = refl
among_more eq x y (z ∷ xs) = ap (cond (eq x z) true) (among_more eq x y xs) ∙ go (eq x z) (eq x y)
  where
    go : (t u : Bool) → cond t true (u || is_among eq x xs) ≡ u || cond t true (is_among eq x xs)
    go true true = refl
    go true false = refl
    go false u = refl

pub marks_more : {numbers words words' : List ℕ} (n : ℕ) → Marks numbers words → length words' ≡ length words → ((k : ℕ) → k < 64 * length words → marked words' k ≡ eqb k n || marked words k) → Marks (numbers ++ (n ∷ [])) words'
marks_more {numbers} {words} {words'} n m e h =
    record { are = λ k l. let l' : k < 64 * length words = omega (arith, e) in h k l' ∙ ap (λ (t : Bool). eqb k n || t) (m.are k l') ∙ sym (among_more eqb k n numbers) }
