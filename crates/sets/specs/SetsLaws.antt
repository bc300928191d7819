-- A mask is its members: masks of so many bits that have the same members are the same.
-- Assumes nothing.
use Rattle.std.specs.Prelude.{◌≡◌, ℕ, zero, suc, ◌+◌, ◌*◌, ◌%◌, ◌^◌, ◌<◌}
use Rattle.std.proofs.Common.{sym, ap, ◌∙◌, mod-eq_of_lt, arith, pow_pos}
use Rattle.std.proofs.Math.Nat.{mod-one, div-eq_of_lt}
use Rattle.std.proofs.lemmas.Nat.{mod-pow-add}
use Rattle.sets.specs.Sets.{bit}

pub bit_lt : (m k : ℕ) → bit m k < 2
bit_lt m k = omega arith

-- the empty set
pub bit-zero : (k : ℕ) → bit 0 k ≡ 0
bit-zero k = ap (λ (x : ℕ). x % 2) (div-eq_of_lt (pow_pos k))

low_same : (m n : ℕ) → ((k : ℕ) → bit m k ≡ bit n k) → (k : ℕ) → m % 2 ^ k ≡ n % 2 ^ k
low_same m n same zero = mod-one m ∙ sym (mod-one n)
low_same m n same (suc k) =
    let e : suc k ≡ 1 + k = omega arith in
    ap (λ (x : ℕ). m % 2 ^ x) e ∙ mod-pow-add m 1 k ∙ ap (λ (x : ℕ). x * 2 ^ k + m % 2 ^ k) (same k)
    ∙ ap (λ (x : ℕ). bit n k * 2 ^ k + x) (low_same m n same k)
    ∙ sym (ap (λ (x : ℕ). n % 2 ^ x) e ∙ mod-pow-add n 1 k)

pub same_bits : (w : ℕ) {m n : ℕ} → m < 2 ^ w → n < 2 ^ w → ((k : ℕ) → bit m k ≡ bit n k) → m ≡ n
same_bits w {m} {n} p q same = sym (mod-eq_of_lt p) ∙ low_same m n same w ∙ mod-eq_of_lt q
