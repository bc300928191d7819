-- The greatest common divisor by the binary rule: factors of two that only one of two numbers has do not matter, and the lesser
-- may be taken off the greater. What `trailing_zeros` counts, at every width.
-- Assumes nothing.
use Rattle.std.specs.Prelude.{◌≡◌, refl, Bool, true, false, ◌⊎◌, ℕ, zero, suc, ◌+◌, ◌*◌, ◌-◌, ◌/◌, ◌%◌, ◌^◌, ◌≤◌, ◌<◌, ltb}
use Rattle.std.proofs.Common.{sym, ◌∙◌, ap, ap₂, subst, inl, inr, zero-lt-suc, sub-add_cancel, mul-one, mul_assoc, mul_comm, div-one, pow-suc, mod-eq_of_lt, arith, ltb-true, ltb-false, pow_pos, pow-add}
use Rattle.std.specs.Int.{◌∣◌}
use Rattle.std.proofs.Math.Nat.{dvd-add, dvd-sub, dvd_antisymm, dvd_refl, dvd_trans, dvd-mul_left, dvd-mul_right, le_of_dvd, mul-sub, zero-div, div-div-eq-div-mul, mod-eq-sub-mod}
use Rattle.std.proofs.lemmas.Nat.{shl-shr, shr_le, or_comm, and_le_r}
use Rattle.std.proofs.Math.Pow.{shr_mono}
use Rattle.std.specs.Int.Bits.{bit_or, or_add_and}
use Rattle.std.specs.Int.Count.{count_trailing_zeros, under}
use Rattle.integers.specs.Gcd.{gcd, euclid, gcd-zero, gcd-step, gcd-left, gcd_right, gcd_greatest, gcd-mul}
use Rattle.integers.specs.Coprime.{Coprime, coprime_one, coprime_sym, coprime_mul, gcd_coprime_factor}

abbrev pub Odd : ℕ → Type 0
Odd n = n % 2 ≡ 1

-- ---- what the trailing zeros are

-- n is the product of an odd number and of a power of two below the width
pub record Twos (k n t : ℕ) : Type 0 where
  pub below : t < k
  pub product : n / 2 ^ t * 2 ^ t ≡ n
  pub rest_odd : Odd (n / 2 ^ t)

twos_none : (k n : ℕ) → Odd n → Twos (suc k) n 0
twos_none k n o = record { below = omega arith; product = rw (div-one n, mul-one n); rest_odd = rw (div-one n) o }

twos_more : (k n t : ℕ) → n % 2 ≡ 0 → Twos k (n / 2) t → Twos (suc k) n (suc t)
twos_more k n t e h =
    let half : n / 2 ^ suc t ≡ n / 2 / 2 ^ t = ap (λ (m : ℕ). n / m) (pow-suc 2 t ∙ mul_comm (2 ^ t) 2) ∙ sym (div-div-eq-div-mul n 2 (2 ^ t)) in
    record {
      below = omega (arith, h.below);
      product = rw (half, pow-suc 2 t, ← mul_assoc (n / 2 / 2 ^ t) (2 ^ t) 2, h.product) (omega arith);
      rest_odd = rw half h.rest_odd;
    }

pub twos : (k n : ℕ) → 0 < n → n < 2 ^ k → Twos k n (count_trailing_zeros k n)
unfolding count_trailing_zeros
twos zero n p h = absurd (omega arith)
twos (suc k) n p h = go (n % 2) refl (λ i. twos k (n / 2) i (omega (arith, pow-suc 2 k)))
  where
    go : (d : ℕ) → n % 2 ≡ d → (0 < n / 2 → Twos k (n / 2) (count_trailing_zeros k (n / 2))) → Twos (suc k) n (under d (count_trailing_zeros k (n / 2)))
    go zero e half = twos_more k n _ e (half (omega arith))
    go (suc d) e half = twos_none k n (omega arith)

-- a difference that wraps has as many as the difference the other way round
power_split : (k t : ℕ) → t < k → 2 ^ k ≡ 2 ^ (k - suc t) * 2 * 2 ^ t
power_split k t h =
    let e : k ≡ suc (k - suc t) + t = omega arith in
    ap (λ (n : ℕ). 2 ^ n) e ∙ pow-add 2 (suc (k - suc t)) t ∙ ap (λ (n : ℕ). n * 2 ^ t) (pow-suc 2 (k - suc t))

sub-mul : (a b c : ℕ) → (a - b) * c ≡ a * c - b * c
sub-mul a b c = mul_comm (a - b) c ∙ mul-sub c a b ∙ ap₂ (λ (x y : ℕ). x - y) (mul_comm c a) (mul_comm c b)

module _ (k j d t : ℕ) (l : t < j) (w : Twos k d t) where
  abbrev top : ℕ
  top = 2 ^ (j - suc t) * 2

  quotient : 2 ^ j / 2 ^ t ≡ top
  quotient = ap (λ (n : ℕ). n / 2 ^ t) (power_split j t l) ∙ shl-shr top t

  twos_turned : d ≤ 2 ^ j → Twos k (2 ^ j - d) t
  twos_turned h =
      let m = d / 2 ^ t in
      let below : m ≤ top = subst (λ (n : ℕ). m ≤ n) quotient (shr_mono t h) in
      let whole : 2 ^ j - d ≡ (top - m) * 2 ^ t = ap₂ (λ (a b : ℕ). a - b) (power_split j t l) (sym w.product) ∙ sym (sub-mul top m (2 ^ t)) in
      let rest : (2 ^ j - d) / 2 ^ t ≡ top - m = ap (λ (n : ℕ). n / 2 ^ t) whole ∙ shl-shr (top - m) t in
      record { below = w.below; product = rw rest (sym whole); rest_odd = rw rest (omega (arith, w.rest_odd)) }

  twos_lowered : 2 ^ j ≤ d → Twos k (d - 2 ^ j) t
  twos_lowered h =
      let m = d / 2 ^ t in
      let below : top ≤ m = subst (λ (n : ℕ). n ≤ m) quotient (shr_mono t h) in
      let whole : d - 2 ^ j ≡ (m - top) * 2 ^ t = ap₂ (λ (a b : ℕ). a - b) (sym w.product) (power_split j t l) ∙ sym (sub-mul m top (2 ^ t)) in
      let rest : (d - 2 ^ j) / 2 ^ t ≡ m - top = ap (λ (n : ℕ). n / 2 ^ t) whole ∙ shl-shr (m - top) t in
      record { below = w.below; product = rw rest (sym whole); rest_odd = rw rest (omega (arith, w.rest_odd)) }

-- d is x - y, wrapped at 2 ^ k
module _ (k x y d : ℕ) (hx : x < 2 ^ k) (hy : y < 2 ^ k) (hd : d < 2 ^ k) (e : (d + y) % 2 ^ k ≡ x) where
  wrapped : (d + y ≡ x) ⊎ (d + y ≡ x + 2 ^ k)
  wrapped = go (ltb (d + y) (2 ^ k)) refl
    where
      go : (t : Bool) → ltb (d + y) (2 ^ k) ≡ t → (d + y ≡ x) ⊎ (d + y ≡ x + 2 ^ k)
      go true l = inl (sym (mod-eq_of_lt (ltb-true (d + y) (2 ^ k) l)) ∙ e)
      go false l =
          let h : 2 ^ k ≤ d + y = ltb-false (d + y) (2 ^ k) l in
          let i : d + y - 2 ^ k < 2 ^ k = omega arith in
          let j : d + y - 2 ^ k ≡ x = sym (mod-eq_of_lt i) ∙ sym (mod-eq-sub-mod h) ∙ e in
          inr (omega arith)

  pub twos_greater : y < x → Twos k (x - y) (count_trailing_zeros k d)
  twos_greater h = go wrapped
    where
      go : (d + y ≡ x) ⊎ (d + y ≡ x + 2 ^ k) → Twos k (x - y) (count_trailing_zeros k d)
      go (inl w) = let same : x - y ≡ d = omega arith in rw same (twos k d (omega arith) hd)
      go (inr w) = absurd (omega arith)

  pub twos_less : x < y → Twos k (y - x) (count_trailing_zeros k d)
  twos_less h = go wrapped
    where
      go : (d + y ≡ x) ⊎ (d + y ≡ x + 2 ^ k) → Twos k (y - x) (count_trailing_zeros k d)
      go (inl w) = absurd (omega arith)
      go (inr w) = let same : y - x ≡ 2 ^ k - d = omega arith in let w' = twos k d (omega arith) hd in rw same (twos_turned k k d _ w'.below w' (omega arith))

-- d is x - y more than 2 ^ j, and x and y are below 2 ^ j
power_divides : (j t : ℕ) → j ≤ t → 2 ^ j ∣ 2 ^ t
power_divides j t h =
    let e : j + (t - j) ≡ t = omega arith in
    subst (λ (n : ℕ). 2 ^ j ∣ n) (sym (pow-add 2 j (t - j)) ∙ ap (λ (n : ℕ). 2 ^ n) e) (dvd-mul_right (2 ^ j) (2 ^ (t - j)))

fewer : (k j n d t : ℕ) → 0 < n → n < 2 ^ j → Twos k d t → (2 ^ j ∣ d → 2 ^ j ∣ n) → t < j
fewer k j n d t p h w f = go (ltb t j) refl
  where
    go : (b : Bool) → ltb t j ≡ b → t < j
    go true e = ltb-true t j e
    go false e =
        let all : 2 ^ j ∣ d = dvd_trans (2 ^ j) (power_divides j t (ltb-false t j e)) (subst (λ (m : ℕ). 2 ^ t ∣ m) w.product (dvd-mul_left (2 ^ t) (d / 2 ^ t))) in
        absurd (omega (arith, le_of_dvd p (f all)))

module _ (k j x y d : ℕ) (hx : x < 2 ^ j) (hy : y < 2 ^ j) (e : d ≡ x + 2 ^ j - y) (hd : d < 2 ^ k) where
  zeros : Twos k d (count_trailing_zeros k d)
  zeros = twos k d (omega arith) hd

  pub zeros_below : count_trailing_zeros k d < k
  zeros_below = zeros.below

  pub zeros_greater : y < x → Twos k (x - y) (count_trailing_zeros k d)
  zeros_greater h =
      let same : x - y ≡ d - 2 ^ j = omega arith in
      let l = fewer k j (x - y) d _ (omega arith) (omega arith) zeros (λ a. subst (λ (n : ℕ). 2 ^ j ∣ n) (sym same) (dvd-sub _ a (dvd_refl (2 ^ j)))) in
      rw same (twos_lowered k j d _ l zeros (omega arith))

  pub zeros_less : x < y → Twos k (y - x) (count_trailing_zeros k d)
  zeros_less h =
      let same : y - x ≡ 2 ^ j - d = omega arith in
      let l = fewer k j (y - x) d _ (omega arith) (omega arith) zeros (λ a. subst (λ (n : ℕ). 2 ^ j ∣ n) (sym same) (dvd-sub _ (dvd_refl (2 ^ j)) a)) in
      rw same (twos_turned k j d _ l zeros (omega arith))

-- ---- the rules

pub gcd_comm : (a b : ℕ) → gcd a b ≡ gcd b a
gcd_comm a b = dvd_antisymm (gcd_greatest b a (gcd a b) (gcd_right a b) (gcd-left a b)) (gcd_greatest a b (gcd b a) (gcd_right b a) (gcd-left b a))

-- the lesser is taken off the greater
pub gcd_less : (a b : ℕ) → a ≤ b → gcd a (b - a) ≡ gcd a b
gcd_less a b h =
    dvd_antisymm
    (gcd_greatest a b _ (gcd-left a (b - a)) (subst (λ (n : ℕ). gcd a (b - a) ∣ n) (sub-add_cancel h) (dvd-add _ (gcd_right a (b - a)) (gcd-left a (b - a)))))
    (gcd_greatest a (b - a) _ (gcd-left a b) (dvd-sub _ (gcd_right a b) (gcd-left a b)))

odd_coprime : (a t : ℕ) → Odd a → Coprime a (2 ^ t)
unfolding gcd euclid
odd_coprime a zero o = coprime_one a
odd_coprime a (suc t) o =
    rw (pow-suc 2 t)
    (coprime_sym (2 ^ t * 2) a
    (coprime_mul (2 ^ t) 2 a (coprime_sym a (2 ^ t) (odd_coprime a t o)) (coprime_sym a 2 (gcd-step a 2 (omega arith) ∙ ap (gcd 2) o))))

-- factors of two go out beside an odd number
pub gcd_odd : (a b t : ℕ) → Odd a → gcd a (b * 2 ^ t) ≡ gcd a b
gcd_odd a b t o = gcd_coprime_factor a b (2 ^ t) (odd_coprime a t o)

-- and those that both numbers have come back
pub gcd_twos : (a b i r : ℕ) → Odd a → gcd (a * 2 ^ i) (b * 2 ^ (i + r)) ≡ gcd a b * 2 ^ i
gcd_twos a b i r o =
    ap₂ gcd (mul_comm a (2 ^ i)) (ap (λ (n : ℕ). b * n) (pow-add 2 i r) ∙ shuffle b (2 ^ i) (2 ^ r))
    ∙ gcd-mul (2 ^ i) a (b * 2 ^ r) (pow_pos i)
    ∙ ap (λ (n : ℕ). 2 ^ i * n) (gcd_odd a b r o)
    ∙ mul_comm (2 ^ i) (gcd a b)
  where
    shuffle : (x y z : ℕ) → x * (y * z) ≡ y * (x * z)
    shuffle x y z = sym (mul_assoc x y z) ∙ ap (λ (n : ℕ). n * z) (mul_comm x y) ∙ mul_assoc y x z

pub gcd-same : (a : ℕ) → gcd a a ≡ a
gcd-same a = dvd_antisymm (gcd-left a a) (gcd_greatest a a a (dvd_refl a) (dvd_refl a))

-- ---- a step: the lesser of two odd numbers stays, and what is left of the greater is made odd

-- odd numbers below n with the greatest common divisor of a and b
pub record OddPair (n a b x y : ℕ) : Type 0 where
  pub odd_x : Odd x
  pub odd_y : Odd y
  pub below_x : x < n
  pub below_y : y < n
  pub same : gcd x y ≡ gcd a b

pub turned : (n a b x y : ℕ) → OddPair n a b x y → OddPair n a b y x
turned n a b x y h = record { odd_x = h.odd_y; odd_y = h.odd_x; below_x = h.below_y; below_y = h.below_x; same = gcd_comm y x ∙ h.same }

module _ (k a b x y t : ℕ) (h : OddPair (2 ^ k) a b x y) (l : x < y) (w : Twos k (y - x) t) where
  pub step_falls : x + (y - x) / 2 ^ t < x + y
  step_falls = omega (arith, h.odd_x, shr_le (y - x) t)

  pub step : OddPair (2 ^ k) a b x ((y - x) / 2 ^ t)
  step =
      let halved : gcd x ((y - x) / 2 ^ t) ≡ gcd x (y - x) = sym (gcd_odd x ((y - x) / 2 ^ t) t h.odd_x) ∙ ap (gcd x) w.product in
      let less : x ≤ y = omega arith in
      record {
        odd_x = h.odd_x;
        odd_y = w.rest_odd;
        below_x = h.below_x;
        below_y = omega (arith, h.below_y, shr_le (y - x) t);
        same = halved ∙ gcd_less x y less ∙ h.same;
      }

-- ---- the whole of it: zero, and the powers of two

pub gcd-zero-left : (b : ℕ) → gcd 0 b ≡ b
gcd-zero-left b = gcd_comm 0 b ∙ gcd-zero b

pub gcd-below : (a b n : ℕ) → a < n → b < n → gcd a b < n
gcd-below a zero n h i = rw (gcd-zero a) h
gcd-below a (suc b) n h i = omega (arith, le_of_dvd (zero-lt-suc b) (gcd_right a (suc b)))

pub gcd_shifted : (k a b i j : ℕ) → a < 2 ^ k → b < 2 ^ k → Twos k a i → Twos k b j → i ≤ j → (gcd (a / 2 ^ i) (b / 2 ^ j) * 2 ^ i) % 2 ^ k ≡ gcd a b
gcd_shifted k a b i j ha hb v w l =
    let more : i + (j - i) ≡ j = omega arith in
    let back : gcd (a / 2 ^ i) (b / 2 ^ j) * 2 ^ i ≡ gcd a b =
    sym (gcd_twos (a / 2 ^ i) (b / 2 ^ j) i (j - i) v.rest_odd) ∙ ap₂ gcd v.product (ap (λ (n : ℕ). b / 2 ^ j * 2 ^ n) more ∙ w.product) in
    ap (λ (n : ℕ). n % 2 ^ k) back ∙ mod-eq_of_lt (gcd-below a b (2 ^ k) ha hb)

-- ---- in numbers of 64 bits

-- without its factors of two
abbrev pub odd_of : ℕ → ℕ
odd_of n = n / 2 ^ count_trailing_zeros 64 n

-- positive numbers of 63 bits
pub record Narrow (x y : ℕ) : Type 0 where
  pub positive_x : 0 < x
  pub positive_y : 0 < y
  pub narrow_x : x < 9223372036854775808
  pub narrow_y : y < 9223372036854775808

-- ---- a step where several pairs go on together: a pair that is done, (g, 0), stays as it is

abbrev OddOrZero : ℕ → Type 0
OddOrZero n = Odd n ⊎ (n ≡ 0)

-- numbers below n, of which one is odd, and the other odd or 0
pub record Paired (n x y : ℕ) : Type 0 where
  pub first : OddOrZero x
  pub second : OddOrZero y
  pub some : 0 < x + y
  pub below-first : x < n
  pub below_second : y < n

pub record Stepped (n x y x' y' : ℕ) : Type 0 where
  pub pair : Paired n x' y'
  pub same : gcd x' y' ≡ gcd x y
  pub falls : x' + 2 * y' + y ≤ x + 2 * y

no_twos : (q t b : ℕ) → q * 2 ^ t ≡ b → Odd b → q ≡ b
no_twos q zero b e o = sym (mul-one q) ∙ e
no_twos q (suc t) b e o = absurd (omega (arith, mul_assoc q (2 ^ t) 2, pow-suc 2 t, ap (λ (n : ℕ). q * n) (pow-suc 2 t)))

-- m is the lesser, b the greater
module _ (k m b t : ℕ) (some : 0 < m + b) (l : m ≤ b) (w : m < b → Twos k (b - m) t) where
  abbrev left : ℕ
  left = (b - m) / 2 ^ t

  lesser : OddOrZero m → OddOrZero b → (OddOrZero left × (0 < left + m)) × (gcd left m ≡ gcd m b)
  lesser (inl o) (inl p) = go (ltb m b) refl
    where
      go : (c : Bool) → ltb m b ≡ c → (OddOrZero left × (0 < left + m)) × (gcd left m ≡ gcd m b)
      go true e =
          let v = w (ltb-true m b e) in
          ((inl v.rest_odd, omega arith), gcd_comm left m ∙ sym (gcd_odd m left t o) ∙ ap (gcd m) v.product ∙ gcd_less m b l)
      go false e =
          let h : b ≡ m = omega (arith, ltb-false m b e) in
          let none : left ≡ 0 = ap (λ (n : ℕ). n / 2 ^ t) (omega arith) ∙ zero-div (2 ^ t) in
          ((inr none, omega arith), ap (λ (n : ℕ). gcd n m) none ∙ gcd-zero-left m ∙ sym (gcd-same m) ∙ ap (gcd m) (sym h))
  lesser (inr z) (inl p) =
      let v = w (omega arith) in
      let same : b - m ≡ b = omega arith in
      let q : left ≡ b = no_twos left t b (v.product ∙ same) p in
      ((inl v.rest_odd, omega arith), ap₂ gcd q z ∙ gcd_comm b 0 ∙ ap (λ (n : ℕ). gcd n b) (sym z))
  lesser (inl o) (inr z) = absurd (omega arith)
  lesser (inr y) (inr z) = absurd (omega arith)

module _ (k n x y t : ℕ) (h : Paired n x y) where
  pub stepped_less : x < y → Twos k (y - x) t → Stepped n x y ((y - x) / 2 ^ t) x
  stepped_less l w =
      let v = lesser k x y t h.some (omega arith) (λ i. w) h.first h.second in
      let s = shr_le (y - x) t in
      record {
        pair = record { first = v.0.0; second = h.first; some = v.0.1; below-first = omega (arith, h.below_second); below_second = h.below-first };
        same = v.1;
        falls = omega arith;
      }

  pub stepped_greater : y ≤ x → (y < x → Twos k (x - y) t) → Stepped n x y ((x - y) / 2 ^ t) y
  stepped_greater l w =
      let v = lesser k y x t (omega (arith, h.some)) l w h.second h.first in
      let s = shr_le (x - y) t in
      record {
        pair = record { first = v.0.0; second = h.second; some = v.0.1; below-first = omega (arith, h.below-first); below_second = h.below_second };
        same = v.1 ∙ gcd_comm y x;
        falls = omega arith;
      }

-- the steps lead from x and y, without their factors of two, to p and q
pub record Going (x y p q : ℕ) : Type 0 where
  pub pair : Paired 9223372036854775808 p q
  pub same : gcd p q ≡ gcd (odd_of x) (odd_of y)

module _ (x y : ℕ) where
  pub going_start : (p q : ℕ) → Narrow x y → p ≡ odd_of x → q ≡ odd_of y → Going x y p q
  going_start p q h e f =
      let v = twos 64 x h.positive_x (omega (arith, h.narrow_x)) in
      let w = twos 64 y h.positive_y (omega (arith, h.narrow_y)) in
      rw (e, f)
      (record {
        pair = record {
          first = inl v.rest_odd;
          second = inl w.rest_odd;
          some = omega (arith, v.rest_odd);
          below-first = omega (arith, h.narrow_x, shr_le x (count_trailing_zeros 64 x));
          below_second = omega (arith, h.narrow_y, shr_le y (count_trailing_zeros 64 y));
        };
        same = refl;
      })

  pub going_on : (p q p' q' : ℕ) → Going x y p q → Stepped 9223372036854775808 p q p' q' → Going x y p' q'
  going_on p q p' q' g s = record { pair = s.pair; same = s.same ∙ g.same }

  pub going_zero : (p q : ℕ) → Going x y p q → q ≡ 0 → p ≡ gcd (odd_of x) (odd_of y)
  going_zero p q g e = sym (gcd-zero p) ∙ ap (gcd p) (sym e) ∙ g.same

  pub going_one : (p q : ℕ) → Going x y p q → q ≡ 1 → 1 ≡ gcd (odd_of x) (odd_of y)
  going_one p q g e = sym (coprime_one p) ∙ ap (gcd p) (sym e) ∙ g.same

-- ---- the loop's test

or-below : (x y : ℕ) → (x ≤ bit_or x y) × (bit_or x y ≤ x + y)
or-below x y = (omega (arith, or_add_and x y, and_le_r x y), omega (arith, or_add_and x y))

module _ (a b c : ℕ) where
  pub or_some : 1 < bit_or (bit_or a b) c → 1 < a + b + c
  or_some h = omega (arith, (or-below (bit_or a b) c).1, (or-below a b).1)

  pub or-all : bit_or (bit_or a b) c ≤ 1 → (a ≤ 1) × (b ≤ 1) × (c ≤ 1)
  or-all h = (
    omega (arith, (or-below (bit_or a b) c).0, (or-below a b).0),
    omega (arith, (or-below (bit_or a b) c).0, (or-below b a).0, or_comm a b),
    omega (arith, (or-below c (bit_or a b)).0, or_comm c (bit_or a b)),
  )
