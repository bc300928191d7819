-- Laws of byte strings: `same` decides equality; `every` and `leading` along a string.
-- Assumes nothing.
use Rattle.std.specs.Prelude.{◌≡◌, refl, Bool, true, false, cond, ◌&&◌, List, [], ◌∷◌, ◌++◌, ℕ, zero, suc, ◌+◌, ◌-◌, ◌≤◌, ◌<◌, eqb, length, take, drop, get_or}
use Rattle.std.specs.List.{prefix_len, take_while}
use Rattle.std.proofs.lemmas.List.{take_all}
use Rattle.std.proofs.lemmas.List.Folds.{length-prefix_len}
use Rattle.std.proofs.Common.{◌∙◌, sym, ap, subst, zero-add, suc-add, le_of_suc-le-suc, not-suc-le-zero, add-one, arith, drop-cons, length-drop, eq-eqb, eqb-true}
use Rattle.std.proofs.Math.Seq.{slice, take-nil}
use lib.Pointwise.{pointwise}
use Rattle.text.specs.Bytes.{Bytes, every, leading, same}

-- no test is both
pub clash : {A : Type 0} {x : Bool} → x ≡ false → x ≡ true → A
clash p q = absurd (let z : ◌≡◌ {A = ℕ} 0 1 = cc in omega arith)

pub both : (x y : Bool) → x && y ≡ true → (x ≡ true) × (y ≡ true)
both true y e = (refl, e)
both false y e = clash refl e

-- ---- same

pub same_refl : (w : Bytes) → same w w ≡ true
same_refl [] = refl
same_refl (b ∷ w) = rw (eq-eqb b b refl, same_refl w)

pub same_true : (u v : Bytes) → same u v ≡ true → u ≡ v
same_true [] [] e = refl
same_true [] (b ∷ v) e = clash refl e
same_true (a ∷ u) [] e = clash refl e
same_true (a ∷ u) (b ∷ v) e =
    let h = both (eqb a b) (same u v) e in
    let p : a ≡ b = eqb-true a b h.0 in
    let q : u ≡ v = same_true u v h.1 in
    cc

pub same_false : (u v : Bytes) → same u v ≡ false → u ≡ v → ⊥
same_false u v e p = clash e (subst (λ (w : Bytes). same u w ≡ true) p (same_refl u))

-- and it is the equality of slices
pub same_bytes : (u v : Bytes) → pointwise eqb u v ≡ same u v
same_bytes [] [] = refl
same_bytes [] (b ∷ v) = refl
same_bytes (a ∷ u) [] = refl
same_bytes (a ∷ u) (b ∷ v) = rw (same_bytes u v)

-- ---- every, leading

module _ (test : ℕ → Bool) where
  pub every_append : (u v : Bytes) → every test u ≡ true → every test v ≡ true → every test (u ++ v) ≡ true
  every_append [] v p q = q
  every_append (b ∷ u) v p q =
      let h = both (test b) (every test u) p in
      rw h.0 (every_append u v h.1 q)

  pub leading_le : (w : Bytes) → leading test w ≤ length w
  leading_le [] = omega arith
  leading_le (b ∷ w) = go (test b) (leading_le w)
    where
      go : (x : Bool) → leading test w ≤ length w → cond x (suc (leading test w)) 0 ≤ suc (length w)
      go true ih = omega arith
      go false ih = omega arith

  -- the leading bytes pass the test
  pub leading-every : (w : Bytes) → every test (take (leading test w) w) ≡ true
  leading-every [] = refl
  leading-every (b ∷ w) = go (test b) refl (leading-every w)
    where
      go : (x : Bool) → test b ≡ x → every test (take (leading test w) w) ≡ true → every test (take (leading test (b ∷ w)) (b ∷ w)) ≡ true
      go true e ih = simp e ih
      go false e ih = rw e

  pub leading_at : (w : Bytes) (i : ℕ) → i < leading test w → test (get_or w i 0) ≡ true
  leading_at [] i h = absurd (not-suc-le-zero h)
  leading_at (b ∷ w) i h = go (test b) refl i h (leading_at w)
    where
      go : (x : Bool) → test b ≡ x → (k : ℕ) → k < cond x (suc (leading test w)) 0
          → ((j : ℕ) → j < leading test w → test (get_or w j 0) ≡ true) → test (get_or (b ∷ w) k 0) ≡ true
      go true e zero h ih = e
      go true e (suc k) h ih = ih k (le_of_suc-le-suc h)
      go false e k h ih = absurd (not-suc-le-zero h)

  -- and the next byte does not
  pub leading_stop : (w : Bytes) (b : ℕ) (after : Bytes) → drop (leading test w) w ≡ b ∷ after → test b ≡ false
  leading_stop [] b after e = absurd (let z : ◌≡◌ {A = ℕ} 0 1 = cc in omega arith)
  leading_stop (a ∷ w) b after e = go (test a) refl (leading_stop w b after)
    where
      go : (x : Bool) → test a ≡ x → (drop (leading test w) w ≡ b ∷ after → test b ≡ false) → test b ≡ false
      go true q ih = ih (rw q at e)
      go false q ih = let h : a ∷ w ≡ b ∷ after = rw q at e in let k : a ≡ b = cc in rw (← k) q

  pub leading-append : (u v : Bytes) → every test u ≡ true → leading test (u ++ v) ≡ length u + leading test v
  leading-append [] v p = rw zero-add
  leading-append (b ∷ u) v p =
      let h = both (test b) (every test u) p in
      rw (h.0, suc-add) (ap suc (leading-append u v h.1))

-- how many bytes a chain takes while they pass
pub leading_taken : (test : ℕ → Bool) (w : Bytes) → length (take_while test w) ≡ leading test w
leading_taken test w = length-prefix_len test w ∙ go w
  where
    go : (u : Bytes) → prefix_len test u ≡ leading test u
    go [] = refl
    go (b ∷ u) = at (test b) (go u)
      where
        at : (x : Bool) → prefix_len test u ≡ leading test u → cond x (1 + prefix_len test u) 0 ≡ cond x (suc (leading test u)) 0
        at true ih = omega (arith, ih)
        at false ih = refl

-- so many bytes after a place, where they lead what is left there
module _ (test : ℕ → Bool) (at : ℕ) (text : Bytes) {part : Bytes} {n : ℕ} (count : n ≡ length (take_while test part)) (is : part ≡ drop at text) where
  led_by : n ≡ leading test (drop at text)
  led_by = count ∙ leading_taken test part ∙ ap (leading test) is

  pub led_to : at + n ≡ at + leading test (drop at text)
  led_to = ap (λ (m : ℕ). at + m) led_by

  pub led_le : n ≤ length text - at
  led_le = omega (arith, led_by, leading_le test (drop at text), length-drop at text)

-- what stands from a place on, as a slice
pub tail_taken : (at : ℕ) (text : Bytes) → take (length text - at) (drop at text) ≡ drop at text
tail_taken at text = take_all (length text - at) (drop at text) (omega (arith, length-drop at text))

-- ---- parts

-- the byte at a place, and what follows it
pub uncons : (w : Bytes) (i : ℕ) → i < length w → drop i w ≡ get_or w i 0 ∷ drop (i + 1) w
uncons w i h = rw (add-one, drop-cons w i 0)

-- the elements from `from` on, so many of them
pub slice_take : {A : Type 0} (from n : ℕ) (l : List A) → slice from (from + n) l ≡ take n (drop from l)
slice_take zero n l = rw zero-add
slice_take (suc from) n [] = rw suc-add (sym (take-nil n))
slice_take (suc from) n (x ∷ l) = rw suc-add (slice_take from n l)
