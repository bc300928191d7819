-- Numbers with no common divisor but 1, and what follows for quotients: lowest terms are unique, and a sum of quotients in lowest
-- terms whose denominators are coprime is in lowest terms.
-- Assumes nothing.
use Rattle.std.specs.Prelude.{◌≡◌, refl, Bool, true, false, cond, ℕ, zero, suc, ◌+◌, ◌*◌, ◌-◌, ◌/◌, ◌≤◌, ◌<◌, ltb, ℤ, pos, negsuc, neg_ℤ, nat_abs, ◌+ℤ◌, ◌*ℤ◌}
use Rattle.std.proofs.Common.{sym, ◌∙◌, ap, subst, mul-one, mul_assoc, mul_comm, arith, ltb-true, ltb-false}
use Rattle.std.specs.Int.{◌∣◌}
use Rattle.std.proofs.Math.Nat.{dvd_refl, dvd-zero, dvd-mul_left, dvd-mul_left_of_dvd, dvd-mul_right_of_dvd, dvd_trans, dvd_antisymm, dvd-add, dvd-sub, eq-one_of_dvd-one, mul-div_cancel', div-mul_cancel, eq_of_mul-eq-mul_left, eq_of_mul-eq-mul_right}
use Rattle.std.proofs.Math.IntN.{sub_ℕ, +ℤ_assoc, +ℤ_invr, +ℤ_idr, +ℤ_comm}
use Rattle.integers.specs.Signs.{nat_abs-neg, nat_abs_mul}
use Rattle.integers.specs.Gcd.{gcd, gcd-left, gcd_right, gcd_greatest, gcd_positive, gcd-mul}

abbrev pub Coprime : ℕ → ℕ → Type 0
Coprime a b = gcd a b ≡ 1

-- ---- by their common divisors

pub coprime_of : (a b : ℕ) → ((k : ℕ) → k ∣ a → k ∣ b → k ≡ 1) → Coprime a b
coprime_of a b f = f (gcd a b) (gcd-left a b) (gcd_right a b)

pub coprime_one : (a : ℕ) → Coprime a 1
coprime_one a = coprime_of a 1 (λ k p q. eq-one_of_dvd-one q)

pub coprime_common : (a b k : ℕ) → Coprime a b → k ∣ a → k ∣ b → k ≡ 1
coprime_common a b k e p q = eq-one_of_dvd-one (subst (λ (n : ℕ). k ∣ n) e (gcd_greatest a b k p q))

pub coprime_sym : (a b : ℕ) → Coprime a b → Coprime b a
coprime_sym a b e = coprime_of b a (λ k p q. coprime_common a b k e q p)

pub coprime_parts : (a b c d : ℕ) → Coprime a b → c ∣ a → d ∣ b → Coprime c d
coprime_parts a b c d e p q = coprime_of c d (λ k r s. coprime_common a b k e (dvd_trans k r p) (dvd_trans k s q))

-- quotients by the gcd are coprime
pub coprime_quotients : (a b : ℕ) → 0 < b → Coprime (a / gcd a b) (b / gcd a b)
coprime_quotients a b h =
    let g = gcd a b in
    let p : 0 < g = gcd_positive a b h in
    eq_of_mul-eq-mul_left g p (gcd (a / g) (b / g)) 1
    (sym (gcd-mul g (a / g) (b / g) p) ∙ (rw (mul-div_cancel' g (gcd-left a b), mul-div_cancel' g (gcd_right a b), mul-one)))

-- Euclid's lemma
pub coprime_divides : (p q r : ℕ) → Coprime p q → q ∣ p * r → q ∣ r
coprime_divides p q zero e d = dvd-zero q
coprime_divides p q (suc r) e d =
    subst (λ (n : ℕ). q ∣ n) (gcd-mul (suc r) p q (omega arith) ∙ ap (λ (n : ℕ). suc r * n) e ∙ mul-one (suc r))
    (gcd_greatest (suc r * p) (suc r * q) q (subst (λ (n : ℕ). q ∣ n) (mul_comm p (suc r)) d) (dvd-mul_left q (suc r)))

pub coprime_mul : (a b c : ℕ) → Coprime a c → Coprime b c → Coprime (a * b) c
coprime_mul a b c e f =
    coprime_of (a * b) c
    (λ k p q. coprime_common b c k f (coprime_divides a k b (coprime_parts a c a k e (dvd_refl a) q) p) q)

-- a factor that is coprime to a adds nothing to the common divisor with a
pub gcd_coprime_factor : (a g w : ℕ) → Coprime a w → gcd a (g * w) ≡ gcd a g
gcd_coprime_factor a g w e =
    let k = gcd a (g * w) in
    let wk : Coprime w k = coprime_sym k w (coprime_parts a w k w e (gcd-left a (g * w)) (dvd_refl w)) in
    dvd_antisymm
    (gcd_greatest a g k (gcd-left a (g * w)) (coprime_divides w k g wk (subst (λ (n : ℕ). k ∣ n) (mul_comm g w) (gcd_right a (g * w)))))
    (gcd_greatest a (g * w) (gcd a g) (gcd-left a g) (dvd-mul_right_of_dvd (gcd a g) (gcd_right a g) w))

-- two quotients in lowest terms that are equal as quotients are the same
same_denominator : (p q p' q' : ℕ) → Coprime p q → p * q' ≡ p' * q → q ∣ q'
same_denominator p q p' q' e x = coprime_divides p q q' e (subst (λ (n : ℕ). q ∣ n) (sym x) (dvd-mul_left q p'))

pub lowest_unique : (p q p' q' : ℕ) → Coprime p q → Coprime p' q' → 0 < q → p * q' ≡ p' * q → (p ≡ p') × (q ≡ q')
lowest_unique p q p' q' e e' h x =
    let d : q ≡ q' = dvd_antisymm (same_denominator p q p' q' e x) (same_denominator p' q' p q e' (sym x)) in
    (eq_of_mul-eq-mul_right q h p p' (ap (λ (n : ℕ). p * n) d ∙ x), d)

-- ---- divisors of a sum of integers

dvd_difference : (k a b : ℕ) → k ∣ a → k ∣ b → k ∣ nat_abs (sub_ℕ a b)
dvd_difference k a b p q = go (ltb a b) refl
  where
    go : (t : Bool) → ltb a b ≡ t → k ∣ nat_abs (cond t (negsuc (b - suc a)) (pos (a - b)))
    go true e = subst (λ (n : ℕ). k ∣ n) (omega (arith, ltb-true a b e)) (dvd-sub k q p)
    go false e = dvd-sub k p q

pub dvd-add_ℤ : (k : ℕ) (x y : ℤ) → k ∣ nat_abs x → k ∣ nat_abs y → k ∣ nat_abs (x +ℤ y)
dvd-add_ℤ k (pos a) (pos b) p q = dvd-add k p q
dvd-add_ℤ k (pos a) (negsuc b) p q = dvd_difference k a (suc b) p q
dvd-add_ℤ k (negsuc a) (pos b) p q = dvd_difference k b (suc a) q p
dvd-add_ℤ k (negsuc a) (negsuc b) p q = subst (λ (n : ℕ). k ∣ n) (omega arith) (dvd-add k p q)

pub dvd-left_ℤ : (k : ℕ) (x y : ℤ) → k ∣ nat_abs (x +ℤ y) → k ∣ nat_abs y → k ∣ nat_abs x
dvd-left_ℤ k x y p q =
    subst (λ (z : ℤ). k ∣ nat_abs z) (+ℤ_assoc x y (neg_ℤ y) ∙ ap (λ (z : ℤ). x +ℤ z) (+ℤ_invr y) ∙ +ℤ_idr x)
    (dvd-add_ℤ k (x +ℤ y) (neg_ℤ y) p (subst (λ (n : ℕ). k ∣ n) (sym (nat_abs-neg y)) q))

-- n·e + m·d is coprime to d, where n and e are
sum_coprime_left : (n m : ℤ) (d e : ℕ) → Coprime (nat_abs n) d → Coprime e d → Coprime (nat_abs (n *ℤ pos e +ℤ m *ℤ pos d)) d
sum_coprime_left n m d e c f =
    coprime_of (nat_abs (n *ℤ pos e +ℤ m *ℤ pos d)) d
    (λ k p q.
    let second : k ∣ nat_abs (m *ℤ pos d) = subst (λ (z : ℕ). k ∣ z) (sym (nat_abs_mul m (pos d))) (dvd-mul_left_of_dvd k q (nat_abs m)) in
    let first : k ∣ nat_abs n * e = subst (λ (z : ℕ). k ∣ z) (nat_abs_mul n (pos e)) (dvd-left_ℤ k (n *ℤ pos e) (m *ℤ pos d) p second) in
    coprime_common (nat_abs n * e) d k (coprime_mul (nat_abs n) e d c f) first q)

-- ... and so to d·e, where d and e are coprime too
pub sum_coprime : (n m : ℤ) (d e : ℕ) → Coprime (nat_abs n) d → Coprime (nat_abs m) e → Coprime d e → Coprime (nat_abs (n *ℤ pos e +ℤ m *ℤ pos d)) (d * e)
sum_coprime n m d e c f g =
    let t = nat_abs (n *ℤ pos e +ℤ m *ℤ pos d) in
    let left : Coprime t d = sum_coprime_left n m d e c (coprime_sym d e g) in
    let right : Coprime t e = subst (λ (z : ℤ). Coprime (nat_abs z) e) (+ℤ_comm (m *ℤ pos d) (n *ℤ pos e)) (sum_coprime_left m n e d f g) in
    coprime_sym (d * e) t (coprime_mul d e t (coprime_sym t d left) (coprime_sym t e right))

-- a / g * b = a * (b / g), for a common divisor g
pub exchange : (a b g : ℕ) → g ∣ a → g ∣ b → a / g * b ≡ a * (b / g)
exchange a b g p q =
    ap (λ (x : ℕ). a / g * x) (sym (mul-div_cancel' g q)) ∙ sym (mul_assoc (a / g) g (b / g)) ∙ ap (λ (x : ℕ). x * (b / g)) (div-mul_cancel g p)
