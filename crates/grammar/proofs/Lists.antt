-- What is proved of the definitions in specs/Lists.antt.
-- Assumes nothing.
use Rattle.std.specs.Prelude.{◌≡◌, ◌⊎◌}
use Rattle.std.proofs.Common.{sym, subst, inl, inr}
use mathlib.Core.List.Memᴰ
use mathlib.Core.List.{List, [], ◌∷◌, ◌++◌, Memᴰ}
use Rattle.grammar.specs.Lists.{Each}

-- ---- laws

pub each_none : {A : Type 0} {P : A → Type 0} → Each P []
each_none = record { holds = λ x m. absurd (Memᴰ.not-nil m) }

pub each-one : {A : Type 0} {P : A → Type 0} {y : A} → P y → Each P (y ∷ [])
each-one {P = P} p = record { holds = λ x m. subst P (sym (Memᴰ.eq_of_singleton m)) p }

pub each_append : {A : Type 0} {P : A → Type 0} {xs ys : List A} → Each P xs → Each P ys → Each P (xs ++ ys)
each_append {A} {P} {xs} {ys} h k = record { holds = λ x m. either x (Memᴰ.append_cases xs m) }
  where
    either : (x : A) → Memᴰ x xs ⊎ Memᴰ x ys → P x
    either x (inl m) = h.holds x m
    either x (inr m) = k.holds x m

pub each_map : {A : Type 0} {P Q : A → Type 0} {xs : List A} → ((x : A) → P x → Q x) → Each P xs → Each Q xs
each_map f h = record { holds = λ x m. f x (h.holds x m) }
