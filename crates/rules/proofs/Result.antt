-- What is proved of the definitions in specs/Result.antt.
-- Assumes nothing.
use Rattle.std.specs.Prelude.{◌≡◌, refl, Bool, true, false, List, [], ◌∷◌, ◌↔◌, ℕ, suc}
use Rattle.std.proofs.Common.{◌∙◌, ap, subst, arith}
use Rattle.rules.specs.Tests.{Decides, All}
use Rattle.rules.proofs.Tests.{not-true}
use Rattle.rules.specs.Result.{◌and_then◌, Result, done, refused, Verdict, fine, bind, require, each, each_from, through, collect, Says, Gives, AllFrom, Through, Each}

-- ---- laws

pub no_value : {A X : Type 0} {reason place : ℕ} {a : A} → refused reason place ≡ done a → X
no_value e = absurd (let z : ◌≡◌ {A = ℕ} 0 1 = cc in omega arith)

pub done_same : {A : Type 0} {a b : A} → done a ≡ done b → a ≡ b
done_same e = cc

pub says-fine : Says fine (Unit {0})
says-fine = ((λ e. tt), λ u. refl)

pub says_as : {P Q : Type 0} {v : Verdict} → (P → Q) → (Q → P) → Says v P → Says v Q
says_as f g s = ((λ e. f (s.0 e)), λ q. s.1 (g q))

pub says-require : {P : Type 0} (test : Bool) (reason place : ℕ) → Decides test P → Says (require test reason place) P
says-require true reason place d = ((λ e. d.0 refl), λ p. refl)
says-require false reason place d = ((λ e. no_value e), λ p. not-true (d.1 p))

pub says_then : {P Q : Type 0} (v w : Verdict) → Says v P → Says w Q → Says (v and_then w) (P × Q)
says_then (done u) w s t = ((λ e. (s.0 refl, t.0 e)), λ h. t.1 h.1)
says_then (refused reason place) w s t = ((λ e. no_value e), λ h. no_value (s.1 h.0))

-- where a value is worked out first: there is one, and the rest holds of it
pub says-bind : {A : Type 0} {P : A → Type 0} {Q : A → Type 0} (r : Result A) (next : A → Verdict)
    → Gives r P → ((a : A) → P a → Says (next a) (Q a)) → Says (bind r next) ((a : A) × P a × Q a)
says-bind {A} {P} {Q} (done a) next g s =
    ((λ e. (a, (g a).0 refl, (s a ((g a).0 refl)).0 e)), λ h. go h.0 ((g h.0).1 h.1) h.1 h.2)
  where
    go : (b : A) → done a ≡ done b → P b → Q b → next a ≡ fine
    go b e p q = ap next (done_same e) ∙ (s b p).1 q
says-bind (refused reason place) next g s = ((λ e. no_value e), λ h. no_value ((g h.0).1 h.1))

pub says-each : {A : Type 0} (check : A → Verdict) (P : A → Type 0) → ((x : A) → Says (check x) (P x)) → (xs : List A) → Says (each check xs) (All P xs)
says-each check P s [] = says-fine
says-each check P s (x ∷ xs) = says_then (check x) (each check xs) (s x) (says-each check P s xs)

pub says-each_from : {A : Type 0} (check : ℕ → A → Verdict) (P : ℕ → A → Type 0) → ((k : ℕ) (x : A) → Says (check k x) (P k x))
    → (k : ℕ) (xs : List A) → Says (each_from check k xs) (AllFrom P k xs)
says-each_from check P s k [] = says-fine
says-each_from check P s k (x ∷ xs) = says_then (check k x) (each_from check (suc k) xs) (s k x) (says-each_from check P s (suc k) xs)

pub gives_as : {A : Type 0} {P Q : A → Type 0} {r : Result A} → ((a : A) → P a → Q a) → ((a : A) → Q a → P a) → Gives r P → Gives r Q
gives_as f g s a = ((λ e. f a ((s a).0 e)), λ q. (s a).1 (g a q))

pub gives_done : {A : Type 0} (a : A) → Gives (done a) (λ b. a ≡ b)
gives_done a b = (done_same, λ e. ap done e)

-- where a test comes first
pub gives_then : {A : Type 0} {P : Type 0} {Q : A → Type 0} (v : Verdict) (r : Result A) → Says v P → Gives r Q → Gives (v and_then r) (λ a. P × Q a)
gives_then (done u) r s g a = ((λ e. (s.0 refl, (g a).0 e)), λ h. (g a).1 h.1)
gives_then (refused reason place) r s g a = ((λ e. no_value e), λ h. no_value (s.1 h.0))

pub gives_bind : {A B : Type 0} {P : A → Type 0} {Q : A → B → Type 0} (r : Result A) (next : A → Result B)
    → Gives r P → ((a : A) → Gives (next a) (Q a)) → Gives (bind r next) (λ b. (a : A) × P a × Q a b)
gives_bind {A} {B} {P} {Q} (done a) next g s b =
    ((λ e. (a, (g a).0 refl, (s a b).0 e)), λ h. go h.0 ((g h.0).1 h.1) h.2)
  where
    go : (c : A) → done a ≡ done c → Q c b → next a ≡ done b
    go c e q = ap next (done_same e) ∙ (s c b).1 q
gives_bind (refused reason place) next g s b = ((λ e. no_value e), λ h. no_value ((g h.0).1 h.1))

pub gives_through : {A S : Type 0} (step : S → A → Result S) (Step : S → A → S → Type 0) → ((s : S) (x : A) → Gives (step s x) (Step s x))
    → (s : S) (xs : List A) → Gives (through step s xs) (Through Step s xs)
gives_through step Step g s [] = gives_done s
gives_through step Step g s (x ∷ xs) = gives_bind (step s x) (λ next. through step next xs) (g s x) (λ next. gives_through step Step g next xs)

pub gives_collect : {A B : Type 0} (f : A → Result B) (R : A → B → Type 0) → ((x : A) → Gives (f x) (R x)) → (xs : List A) → Gives (collect f xs) (Each R xs)
gives_collect {A} {B} f R g [] = none
  where
    none : Gives (done []) (Each R [])
    none [] = ((λ e. tt), λ u. refl)
    none (y ∷ ys) = ((λ e. absurd (let z : ◌≡◌ {A = ℕ} 0 1 = cc in omega arith)), λ u. absurd u)
gives_collect {A} {B} f R g (x ∷ xs) =
    gives_as to from (gives_bind (f x) _ (g x) (λ y. gives_bind (collect f xs) _ (gives_collect f R g xs) (λ ys. gives_done (y ∷ ys))))
  where
    to : (ys : List B) → (y : B) × R x y × ((zs : List B) × Each R xs zs × (y ∷ zs ≡ ys)) → Each R (x ∷ xs) ys
    to ys h = subst (Each R (x ∷ xs)) h.2.2 (h.1, h.2.1)

    from : (ys : List B) → Each R (x ∷ xs) ys → (y : B) × R x y × ((zs : List B) × Each R xs zs × (y ∷ zs ≡ ys))
    from [] h = absurd h
    from (y ∷ ys) h = (y, h.0, (ys, h.1, refl))
