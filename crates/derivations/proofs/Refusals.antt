-- First refusals as the code finds them.
-- Assumes nothing.
use mathlib.Core.Path.{◌≡◌, refl, ap}
use mathlib.Core.Bool.{Bool, true, false, ◌&&◌}
use mathlib.Core.List.{List, [], ◌∷◌}
use Prim.Native.Nat.{ℕ}
use Rattle.std.specs.Prelude.{Result, Ok, Err, IsErrAnd}
use Rattle.grammar.specs.declared.Stop.{Stop}
use Rattle.rules.specs.Tests.{all_of}
use Rattle.rules.specs.Result.{Verdict, ◌and_then◌, require, each}

-- what `?` hands up
pub handed_up : {T : Type 0} (z : Result T Stop) (stop : Stop) → IsErrAnd z (λ s. s ≡ stop) → z ≡ Err stop
handed_up (Ok x) stop h = absurd h
handed_up (Err s) stop h = ap Err h

-- a test that the code answered with b, at a place that it has as x
pub require_is : (reason : ℕ) {b test : Bool} {x place : ℕ} → b ≡ test → x ≡ place → require b reason x ≡ require test reason place
require_is reason e q = λ i. require (e i) reason (q i)

-- what a call answered, and what is tested after it
pub then_on : {u v : Verdict} (w : Verdict) → u ≡ v → u and_then w ≡ v and_then w
then_on w e = ap (λ (x : Verdict). x and_then w) e

-- one test of each of a list
pub each-require : {A : Type 0} (test : A → Bool) (reason place : ℕ) (xs : List A) → require (all_of test xs) reason place ≡ each (λ x. require (test x) reason place) xs
each-require test reason place [] = refl
each-require test reason place (x ∷ xs) = go (test x) (each-require test reason place xs)
  where
    go : (b : Bool) → require (all_of test xs) reason place ≡ each (λ x. require (test x) reason place) xs
        → require (b && all_of test xs) reason place ≡ require b reason place and_then each (λ x. require (test x) reason place) xs
    go true later = later
    go false later = refl
