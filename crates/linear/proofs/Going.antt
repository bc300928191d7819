-- Where a loop over a list is: what is left to do from a state on gives the target, what is asked holds of each that is left, and
-- the state is a good one. All three for each of some cases, as the places of refusals and what is asked of a caller.
-- Assumes nothing.
use mathlib.Core.Path.{◌≡◌, sym, ◌∙◌, ap, subst}
use mathlib.Core.List.{List, [], ◌∷◌}
use Prim.Native.Nat.{ℕ}
use Rattle.rules.specs.Tests.{All}
use Rattle.rules.specs.Result.{Result, done, refused, bind, through}

module _ {A I S : Type 0} (Asked : I → A → Type 0) (Good : I → S → Type 0) (step : I → S → A → Result S) (target : I → Result S) where
  pub record Going (s : S) (left : List A) : Type 0 where
    pub same : (i : I) → through (step i) s left ≡ target i
    pub each : (i : I) → All (Asked i) left
    pub good : (i : I) → Good i s

  module _ {s : S} {x : A} {left rest : List A} (e : left ≡ x ∷ rest) (g : Going s left) where
    pub first_is : (i : I) → Asked i x
    first_is i = (subst (All (Asked i)) e (g.each i)).0

    -- by what comes of the first
    through_is : (i : I) {r : Result S} → step i s x ≡ r → bind r (λ (t : S). through (step i) t rest) ≡ target i
    through_is i q = sym (ap (λ (r : Result S). bind r (λ (t : S). through (step i) t rest)) q) ∙ sym (ap (through (step i) s) e) ∙ g.same i

    -- one more
    pub going_on : {t : S} → ((i : I) → (step i s x ≡ done t) × Good i t) → Going t rest
    going_on h =
        record {
          same = λ i. through_is i (h i).0;
          each = λ i. (subst (All (Asked i)) e (g.each i)).1;
          good = λ i. (h i).1;
        }

    pub going_stop : (i : I) (reason place : ℕ) → step i s x ≡ refused reason place → refused reason place ≡ target i
    going_stop i reason place q = through_is i q

  pub going_end : {s : S} {left : List A} → left ≡ [] → Going s left → (i : I) → done s ≡ target i
  going_end {s} e g i = sym (ap (through (step i) s) e) ∙ g.same i
