-- What is proved of the definitions in specs/Tests.antt.
-- Assumes nothing.
use Rattle.std.specs.Prelude.{◌≡◌, refl, Bool, true, false, not, ◌&&◌, ◌||◌, List, [], ◌∷◌, ◌↔◌, ◌⊎◌, ℕ, zero, suc, ◌<◌, T, eqb}
use Rattle.std.proofs.Common.{sym, ◌∙◌, subst, inl, inr, ⊎_elim, not-suc-le-zero, arith, eqb-true, eq-eqb}
use Rattle.std.proofs.lemmas.Bool.{eqb-false}
use Rattle.rules.specs.Tests.{Decides, All, all_of, Some, some_of, EveryBelow, every_below}

-- ---- laws: what a test made of tests decides

pub not-true : {A : Type 0} → false ≡ true → A
not-true e = absurd (subst (λ (x : Bool). T (not x)) e tt)

-- a test that does not pass is false
pub fails : {P : Type 0} (test : Bool) → Decides test P → (P → ⊥) → test ≡ false
fails true d f = absurd (f (d.0 refl))
fails false d f = refl

pub failed : {P : Type 0} {test : Bool} → Decides test P → test ≡ false → P → ⊥
failed d e p = not-true (sym e ∙ d.1 p)

-- the same in other words
pub decides_as : {P Q : Type 0} {test : Bool} → (P → Q) → (Q → P) → Decides test P → Decides test Q
decides_as f g d = ((λ e. f (d.0 e)), λ q. d.1 (g q))

pub decides_and : {P Q : Type 0} (a b : Bool) → Decides a P → Decides b Q → Decides (a && b) (P × Q)
decides_and true b d e = ((λ h. (d.0 refl, e.0 h)), λ p. e.1 p.1)
decides_and false b d e = ((λ h. not-true h), λ p. d.1 p.0)

pub decides_or : {P Q : Type 0} (a b : Bool) → Decides a P → Decides b Q → Decides (a || b) (P ⊎ Q)
decides_or true b d e = ((λ h. inl (d.0 refl)), λ p. refl)
decides_or false b d e = ((λ h. inr (e.0 h)), λ p. ⊎_elim (λ q. not-true (d.1 q)) (λ q. e.1 q) p)

pub decides_not : {P : Type 0} (a : Bool) → Decides a P → Decides (not a) (P → ⊥)
decides_not true d = ((λ h. not-true h), λ f. absurd (f (d.0 refl)))
decides_not false d = ((λ h p. not-true (d.1 p)), λ f. refl)

-- Q wherever not P
pub decides_unless : {P Q : Type 0} (a b : Bool) → Decides a P → Decides b Q → Decides (a || b) ((P → ⊥) → Q)
decides_unless true b d e = ((λ h f. absurd (f (d.0 refl))), λ p. refl)
decides_unless false b d e = ((λ h f. e.0 h), λ p. e.1 (p (λ q. not-true (d.1 q))))

pub decides_equal : (a b : ℕ) → Decides (eqb a b) (a ≡ b)
decides_equal a b = (eqb-true a b, eq-eqb a b)

module _ {A : Type 0} (test : A → Bool) (P : A → Type 0) (d : (x : A) → Decides (test x) (P x)) where
  pub decides_all : (xs : List A) → Decides (all_of test xs) (All P xs)
  decides_all [] = ((λ h. tt), λ p. refl)
  decides_all (x ∷ xs) = decides_and (test x) (all_of test xs) (d x) (decides_all xs)

  pub decides_some : (xs : List A) → Decides (some_of test xs) (Some P xs)
  decides_some [] = ((λ h. not-true h), λ p. absurd p)
  decides_some (x ∷ xs) = decides_or (test x) (some_of test xs) (d x) (decides_some xs)

  -- not each passes exactly if some does not
  pub not-all : (xs : List A) → (all_of test xs ≡ false) ↔ Some (λ x. P x → ⊥) xs
  not-all [] = ((λ h. not-true (sym h)), λ p. absurd p)
  not-all (x ∷ xs) = go (test x) (d x) (not-all xs)
    where
      go : (t : Bool) → Decides t (P x) → (all_of test xs ≡ false) ↔ Some (λ x. P x → ⊥) xs → (t && all_of test xs ≡ false) ↔ ((P x → ⊥) ⊎ Some (λ x. P x → ⊥) xs)
      go true d r = ((λ h. inr (r.0 h)), λ p. ⊎_elim (λ f. absurd (f (d.0 refl))) r.1 p)
      go false d r = ((λ h. inl (λ p. not-true (d.1 p))), λ p. refl)

module _ (test : ℕ → Bool) (P : ℕ → Type 0) (d : (v : ℕ) → Decides (test v) (P v)) where
  pub decides_below : (n : ℕ) → Decides (every_below n test) (EveryBelow n P)
  decides_below zero = ((λ h v k. absurd (not-suc-le-zero k)), λ p. refl)
  decides_below (suc n) =
      decides_as (λ p v k. last n v p.0 p.1 k) (λ p. ((λ v k. p v (omega arith)), p n (omega arith)))
      (decides_and (every_below n test) (test n) (decides_below n) (d n))
    where
      last : (n v : ℕ) → EveryBelow n P → P n → v < suc n → P v
      last n v below at k = go (eqb v n) refl
        where
          go : (t : Bool) → eqb v n ≡ t → P v
          go true e = subst P (sym (eqb-true v n e)) at
          go false e = below v (omega (arith, eqb-false v n e))
