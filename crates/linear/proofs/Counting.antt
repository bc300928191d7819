-- Counting the numbers below n that pass a test.
-- Assumes nothing.
use mathlib.Core.Path.{◌≡◌, refl, sym, ◌∙◌, ap, ap₂}
use mathlib.Core.Bool.{Bool, true, false, not, cond, ◌&&◌, and-true, and-false}
use Prim.Native.Nat.{ℕ, zero, suc, ◌+◌, ◌≤◌, ◌<◌}
use native.Mathlib.Nat.{not-suc-le-zero}
use native.Mathlib.Numerals.{add-one}
use native.Mathlib.Omega.{arith}
use borrow.Author.Tests.{eqb-true, eqb-false, ne_eqb}
use lib.Dec.{eqb}
use Rattle.std.specs.Prelude.{count_by}
use Rattle.std.specs.List.{range_with_len}
use Rattle.std.proofs.lemmas.List.Sums.{sum_by-cons}
use Rattle.rules.specs.Tests.{every_below}
use Rattle.rules.proofs.Tests.{not-true}
use Rattle.linear.specs.Comparing.{count_below}

-- tests that say the same of each number below n
pub count_same : (f g : ℕ → Bool) (n : ℕ) → ((v : ℕ) → v < n → f v ≡ g v) → count_below n f ≡ count_below n g
count_same f g zero h = refl
count_same f g (suc n) h = ap₂ (λ (b : Bool) (c : ℕ). cond b (suc c) c) (h n (omega arith)) (count_same f g n (λ v l. h v (omega arith)))

pub every-same : (f g : ℕ → Bool) (n : ℕ) → ((v : ℕ) → v < n → f v ≡ g v) → every_below n f ≡ every_below n g
every-same f g zero h = refl
every-same f g (suc n) h = ap₂ ◌&&◌ (every-same f g n (λ v l. h v (omega arith))) (h n (omega arith))

-- a test that is changed at one number, which did not pass
pub count_changed : (f g : ℕ → Bool) (w n : ℕ) → w < n → f w ≡ false → ((v : ℕ) → (w ≡ v → ⊥) → g v ≡ f v)
    → count_below n g ≡ cond (g w) (suc (count_below n f)) (count_below n f)
count_changed f g w zero l z same = absurd (not-suc-le-zero l)
count_changed f g w (suc n) l z same = go (eqb w n) refl (λ (k : w < n). count_changed f g w n k z same)
  where
    turn : (a b : Bool) (c : ℕ) → (let d = cond b (suc c) c in cond a (suc d) d) ≡ (let d = cond a (suc c) c in cond b (suc d) d)
    turn true true c = refl
    turn true false c = refl
    turn false true c = refl
    turn false false c = refl

    go : (t : Bool) → eqb w n ≡ t → (w < n → count_below n g ≡ cond (g w) (suc (count_below n f)) (count_below n f))
        → count_below (suc n) g ≡ cond (g w) (suc (count_below (suc n) f)) (count_below (suc n) f)
    go true e more =
        let q : n ≡ w = sym (eqb-true w n e) in
        ap₂ (λ (b : Bool) (c : ℕ). cond b (suc c) c) (ap g q) (count_same g f n (λ v k. same v (λ r. omega arith)))
        ∙ ap (λ (c : ℕ). cond (g w) (suc c) c) (sym (ap (λ (b : Bool). cond b (suc (count_below n f)) (count_below n f)) (ap f q ∙ z)))
    go false e more =
        let q = eqb-false w n e in
        ap₂ (λ (b : Bool) (c : ℕ). cond b (suc c) c) (same n q) (more (omega (arith, q)))
        ∙ turn (f n) (g w) (count_below n f)

-- a test that passes wherever another does
module _ (f g : ℕ → Bool) (h : (v : ℕ) → g v ≡ true → f v ≡ true) where
  count_most : (n : ℕ) → count_below n g ≤ count_below n f
  count_most zero = omega arith
  count_most (suc n) = go (g n) refl (f n) refl (count_most n)
    where
      go : (a : Bool) → g n ≡ a → (b : Bool) → f n ≡ b → count_below n g ≤ count_below n f
          → cond a (suc (count_below n g)) (count_below n g) ≤ cond b (suc (count_below n f)) (count_below n f)
      go true d true e l = omega arith
      go true d false e l = not-true (sym e ∙ h n d)
      go false d true e l = omega arith
      go false d false e l = omega arith

  -- where as many pass, the same do
  pub count-all : (n : ℕ) → count_below n f ≡ count_below n g → (v : ℕ) → v < n → f v ≡ true → g v ≡ true
  count-all zero e v l p = absurd (not-suc-le-zero l)
  count-all (suc n) e v l p = go (g n) refl (f n) refl e (λ (q : count_below n f ≡ count_below n g) (k : v < n). count-all n q v k p)
    where
      Below : Type 0
      Below = count_below n f ≡ count_below n g → v < n → g v ≡ true

      -- at n, or below it
      at : (t : Bool) → eqb v n ≡ t → count_below n f ≡ count_below n g → (f n ≡ true → g n ≡ true) → Below → g v ≡ true
      at true d q last below = let k : v ≡ n = eqb-true v n d in ap g k ∙ last (ap f (sym k) ∙ p)
      at false d q last below = below q (omega (arith, eqb-false v n d))

      go : (a : Bool) → g n ≡ a → (b : Bool) → f n ≡ b → cond b (suc (count_below n f)) (count_below n f) ≡ cond a (suc (count_below n g)) (count_below n g)
          → Below → g v ≡ true
      go true d true q s below = at (eqb v n) refl (omega arith) (λ r. d) below
      go true d false q s below = not-true (sym q ∙ h n d)
      go false d true q s below = absurd (omega (arith, count_most n))
      go false d false q s below = at (eqb v n) refl s (λ r. not-true (sym q ∙ r)) below

-- none is counted exactly if each passes the other test
pub none_counted : (test : ℕ → Bool) (n : ℕ) → eqb (count_below n (λ v. not (test v))) 0 ≡ every_below n test
none_counted test zero = refl
none_counted test (suc n) = go (test n) ∙ ap (λ (b : Bool). b && test n) (none_counted test n)
  where
    go : (t : Bool) → eqb (cond (not t) (suc (count_below n (λ v. not (test v)))) (count_below n (λ v. not (test v)))) 0 ≡ eqb (count_below n (λ v. not (test v))) 0 && t
    go true = sym (and-true (eqb (count_below n (λ v. not (test v))) 0))
    go false = ne_eqb (suc (count_below n (λ v. not (test v)))) 0 (λ e. omega arith) ∙ sym (and-false (eqb (count_below n (λ v. not (test v))) 0))

-- ---- a loop over the variables that have their place in the arrays

module _ (test : ℕ → Bool) where
  pub count_on : (v : ℕ) → count_below (v + 1) test ≡ cond (test v) (suc (count_below v test)) (count_below v test)
  count_on v = rw (add-one v)

  -- none beyond them passes
  pub count_end : (n v : ℕ) → v ≤ n → ((u : ℕ) → v ≤ u → u < n → test u ≡ false) → count_below v test ≡ count_below n test
  count_end zero v l h = ap (λ (k : ℕ). count_below k test) (let q : v ≡ 0 = omega arith in q)
  count_end (suc n) v l h = go (eqb v (suc n)) refl (λ (k : v ≤ n). count_end n v k (λ u i m. h u i (omega arith)))
    where
      go : (t : Bool) → eqb v (suc n) ≡ t → (v ≤ n → count_below v test ≡ count_below n test)
          → count_below v test ≡ cond (test n) (suc (count_below n test)) (count_below n test)
      go true e more = ap (λ (k : ℕ). count_below k test) (eqb-true v (suc n) e)
      go false e more =
          let q = eqb-false v (suc n) e in
          more (omega (arith, q))
          ∙ sym (ap (λ (b : Bool). cond b (suc (count_below n test)) (count_below n test)) (h n (omega (arith, q)) (omega arith)))

-- ---- a count over a range

module _ (test : ℕ → Bool) where
  count_from : (a n : ℕ) → count_by test (range_with_len a n) + count_below a test ≡ count_below (a + n) test
  count_from a zero =
      let none : 0 + count_below a test ≡ count_below a test = omega arith in
      none ∙ (let e : a ≡ a + 0 = omega arith in ap (λ (k : ℕ). count_below k test) e)
  count_from a (suc n) =
      ap (λ (c : ℕ). c + count_below a test) (sum_by-cons (λ (v : ℕ). cond (test v) 1 0) a (range_with_len (a + 1) n))
      ∙ one (test a) (count_by test (range_with_len (a + 1) n)) (count_below a test)
      ∙ ap (λ (c : ℕ). count_by test (range_with_len (a + 1) n) + c) (sym (count_on test a))
      ∙ count_from (a + 1) n
      ∙ (let e : a + 1 + n ≡ a + suc n = omega arith in ap (λ (k : ℕ). count_below k test) e)
    where
      one : (t : Bool) (later before : ℕ) → cond t 1 0 + later + before ≡ later + cond t (suc before) before
      one true later before = omega arith
      one false later before = omega arith

  pub count_range : (n : ℕ) → count_by test (range_with_len 0 n) ≡ count_below n test
  count_range n =
      let none : count_by test (range_with_len 0 n) ≡ count_by test (range_with_len 0 n) + 0 = omega arith in
      none ∙ count_from 0 n ∙ (let e : 0 + n ≡ n = omega arith in ap (λ (k : ℕ). count_below k test) e)
