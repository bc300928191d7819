-- A sum and a product more: what the code's answers say of it.
-- Assumes nothing.
use Rattle.std.specs.Prelude.{Result as Answer}
use mathlib.Core.Path.{◌≡◌, refl}
use Prim.Native.Nat.{ℕ}
use Rattle.arithmetic.specs.Fraction.{IsFraction, arithmetic_says}
use Rattle.arithmetic.specs.declared.ArithmeticError.{ArithmeticError}
use Rattle.arithmetic.specs.declared.Fraction.{Fraction}
use Rattle.rules.specs.Result.{Result, done, refused, bind}
use Rattle.rules.proofs.Result.{gives_bind}
use Rattle.rules.specs.Values.{within12, product_at, sum_at}
use Rattle.rules.proofs.ValuesLaws.{gives_product, gives_sum}

-- the answer of a product or a sum, at a place
abbrev pub says : ℕ → Answer Fraction ArithmeticError → Result Fraction
says place a = within12 place (arithmetic_says a)

abbrev pub plus_product : ℕ → Fraction → Fraction → Fraction → Result Fraction
plus_product place sum a b = bind (product_at place a b) (λ p. sum_at place sum p)

-- what is given is a fraction
pub plus_product_is : (place : ℕ) (sum a b s : Fraction) → plus_product place sum a b ≡ done s → IsFraction s
plus_product_is place sum a b s e = ((gives_bind (product_at place a b) (λ p. sum_at place sum p) (gives_product place a b) (λ p. gives_sum place sum p) s).0 e).2.1.0

pub bind_assoc : {A B C : Type 0} (r : Result A) (f : A → Result B) (g : B → Result C) → bind r (λ a. bind (f a) g) ≡ bind (bind r f) g
bind_assoc (done a) f g = refl
bind_assoc (refused reason place) f g = refl
