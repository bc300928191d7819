-- A loop over a list: what is asked of each, and what comes of each.
-- Assumes nothing.
use mathlib.Core.Path.{◌≡◌, refl, sym, ap, ◌∙◌}
use mathlib.Core.Bool.{Bool, true, false, ◌&&◌}
use mathlib.Core.List.{List, [], ◌∷◌, ◌++◌, append_assoc, append-nil}
use Prim.Native.Nat.{ℕ, ◌+◌, ◌≤◌, ◌<◌}
use native.Mathlib.Numerals.{add-one}
use lib.ListN.{length, drop, get_or, drop_of_length-le}
use lib.Seq.{drop-cons}
use Rattle.std.specs.List.{list_all}
use Rattle.rules.specs.Result.{Result, done, refused, Verdict, bind, ◌and_then◌, require, each, collect}

drop-next : {A : Type 0} (xs : List A) (r : ℕ) (d : A) → r < length xs → drop r xs ≡ get_or xs r d ∷ drop (r + 1) xs
drop-next xs r d h = rw (add-one, drop-cons xs r d)

-- ---- what is asked of each

module _ {A : Type 0} (check : A → Verdict) (xs : List A) where
  -- what is left, from number r on, gives what all give
  abbrev pub Checking : ℕ → Type 0
  Checking r = each check (drop r xs) ≡ each check xs

  -- by what comes of number r
  pub checking_is : {r : ℕ} (d : A) → r < length xs → Checking r → {v : Verdict} → check (get_or xs r d) ≡ v → (v and_then each check (drop (r + 1) xs)) ≡ each check xs
  checking_is {r} d h g e =
      sym (ap (λ (v : Verdict). v and_then each check (drop (r + 1) xs)) e) ∙ sym (ap (each check) (drop-next xs r d h)) ∙ g

-- one refusal, unless each passes a test
pub each-require : {A : Type 0} (test : A → Bool) (reason place : ℕ) (xs : List A) {passed : Bool} → list_all test xs ≡ passed
    → require passed reason place ≡ each (λ x. require (test x) reason place) xs
each-require {A} test reason place xs e = ap (λ (b : Bool). require b reason place) (sym e) ∙ go xs
  where
    one : (b c : Bool) {v : Verdict} → require c reason place ≡ v → require (b && c) reason place ≡ (require b reason place and_then v)
    one true c e = e
    one false c e = refl

    go : (xs : List A) → require (list_all test xs) reason place ≡ each (λ x. require (test x) reason place) xs
    go [] = refl
    go (x ∷ xs) = one (test x) (list_all test xs) (go xs)

-- ---- what comes of each

module _ {A B : Type 0} (f : A → Result B) (xs : List A) where
  -- what came of those before number r, then of the rest
  abbrev rest : List B → ℕ → Result (List B)
  rest before r = bind (collect f (drop r xs)) (λ ys. done (before ++ ys))

  abbrev pub Collecting : List B → ℕ → Type 0
  Collecting before r = rest before r ≡ collect f xs

  pub collecting : Collecting [] 0
  collecting = go (collect f xs)
    where
      go : (o : Result (List B)) → bind o (λ ys. done ys) ≡ o
      go (done ys) = refl
      go (refused reason place) = refl

  module _ (before : List B) {r : ℕ} (d : A) (h : r < length xs) (g : Collecting before r) where
    -- by what comes of number r
    pub collecting_is : {o : Result B} → f (get_or xs r d) ≡ o
        → bind (bind o (λ y. bind (collect f (drop (r + 1) xs)) (λ ys. done (y ∷ ys)))) (λ ys. done (before ++ ys)) ≡ collect f xs
    collecting_is e =
        sym (ap (λ (o : Result B). bind (bind o (λ y. bind (collect f (drop (r + 1) xs)) (λ ys. done (y ∷ ys)))) (λ ys. done (before ++ ys))) e)
        ∙ sym (ap (λ (l : List A). bind (collect f l) (λ ys. done (before ++ ys))) (drop-next xs r d h))
        ∙ g

    pub collecting_on : {y : B} → f (get_or xs r d) ≡ done y → Collecting (before ++ (y ∷ [])) (r + 1)
    collecting_on {y} e = sym (go (collect f (drop (r + 1) xs))) ∙ collecting_is e
      where
        go : (o : Result (List B)) → bind (bind o (λ ys. done (y ∷ ys))) (λ ys. done (before ++ ys)) ≡ bind o (λ ys. done ((before ++ (y ∷ [])) ++ ys))
        go (done ys) = ap done (sym (append_assoc before (y ∷ []) ys))
        go (refused reason place) = refl

  pub collecting_end : (before : List B) {r : ℕ} → length xs ≤ r → Collecting before r → collect f xs ≡ done before
  collecting_end before h g =
      sym g ∙ ap (λ (l : List A). bind (collect f l) (λ ys. done (before ++ ys))) (drop_of_length-le xs h) ∙ ap done (append-nil before)
