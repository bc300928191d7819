-- First refusals: a computation gives a value, or the number that document 01 gives the reason of the first refusal, and a
-- place in the text. And what it means that one gives a value, one law for each way to put computations together.
-- Assumes nothing.
use Rattle.std.specs.Prelude.{◌≡◌, refl, Bool, true, false, List, [], ◌∷◌, ◌↔◌, ℕ, suc}
use Rattle.std.proofs.Common.{◌∙◌, ap, subst, arith}
use Rattle.rules.specs.Tests.{Decides, All}

pub data Result (A : Type 0) : Type 0 where
  done : A → Result A
  refused : ℕ → ℕ → Result A

-- nothing to refuse, or the first refusal
abbrev pub Verdict : Type 0
Verdict = Result (Unit {0})

abbrev pub fine : Verdict
fine = done tt

-- ---- putting computations together

-- go on with the value
abbrev pub bind : {A B : Type 0} → Result A → (A → Result B) → Result B
bind (done a) next = next a
bind (refused reason place) next = refused reason place

-- the second, where the first has nothing to refuse
infixr 5 ◌and_then◌
abbrev pub ◌and_then◌ : {A : Type 0} → Verdict → Result A → Result A
(done u) and_then r = r
(refused reason place) and_then r = refused reason place

-- this refusal, unless the test passes
abbrev pub require : Bool → ℕ → ℕ → Verdict
require true reason place = fine
require false reason place = refused reason place

-- each of a list, in order; the same with the number of each
abbrev pub each : {A : Type 0} → (A → Verdict) → List A → Verdict
each check [] = fine
each check (x ∷ xs) = check x and_then each check xs

abbrev pub each_from : {A : Type 0} → (ℕ → A → Verdict) → ℕ → List A → Verdict
each_from check k [] = fine
each_from check k (x ∷ xs) = check k x and_then each_from check (suc k) xs

-- a state that goes through a list, in order
abbrev pub through : {A S : Type 0} → (S → A → Result S) → S → List A → Result S
through step s [] = done s
through step s (x ∷ xs) = bind (step s x) (λ next. through step next xs)

-- what comes of each of a list, in order
abbrev pub collect : {A B : Type 0} → (A → Result B) → List A → Result (List B)
collect f [] = done []
collect f (x ∷ xs) = bind (f x) (λ y. bind (collect f xs) (λ ys. done (y ∷ ys)))

-- ---- in words

-- there is nothing to refuse exactly if P
abbrev pub Says : Verdict → Type 0 → Type 0
Says v P = (v ≡ fine) ↔ P

-- the value is a exactly if P a
abbrev pub Gives : {A : Type 0} → Result A → (A → Type 0) → Type 0
Gives {A} r P = (a : A) → (r ≡ done a) ↔ P a

-- each of a list, with its number
abbrev pub AllFrom : {A : Type 0} → (ℕ → A → Type 0) → ℕ → List A → Type 0
AllFrom P k [] = Unit {0}
AllFrom P k (x ∷ xs) = P k x × AllFrom P (suc k) xs

-- a state s goes through a list to the state t, step by step
abbrev pub Through : {A S : Type 0} → (S → A → S → Type 0) → S → List A → S → Type 0
Through Step s [] t = s ≡ t
Through {S = S} Step s (x ∷ xs) t = (next : S) × Step s x next × Through Step next xs t

-- the second list has what comes of each of the first
abbrev pub Each : {A B : Type 0} → (A → B → Type 0) → List A → List B → Type 0
Each R [] [] = Unit {0}
Each R [] (y ∷ ys) = ⊥
Each R (x ∷ xs) [] = ⊥
Each R (x ∷ xs) (y ∷ ys) = R x y × Each R xs ys
