-- The number that is returned for a value says what the outcome is.
-- Assumes nothing.
use mathlib.Core.Path.{◌≡◌, refl, sym, ap, ◌∙◌, subst}
use mathlib.Core.Logic.{◌↔◌, ⊎_elim}
use Prim.Native.Nat.{ℕ, ◌<◌}
use native.Mathlib.Omega.{arith}
use Rattle.text.specs.Bytes.{Bytes}
use Rattle.arithmetic.specs.Outcome.{Outcome, gives, refuses}
use Rattle.arithmetic.specs.declared.Fraction.{Fraction}
use Rattle.fraction.specs.Stored.{Stored, status}
use Rattle.numerals.specs.Spelling.{SpellsValue}
use Rattle.numerals.specs.ValueRead.{ValueRead}
use Rattle.vipr_c.specs.Values.{ValueReturned}

-- it gives or it refuses, and not both
not_both : {X : Type 0} {f : Fraction} {n : ℕ} → gives f ≡ refuses n → X
not_both e = absurd (let z : ◌≡◌ {A = ℕ} 0 1 = cc in omega arith)

-- 01's numbers of refusals are above 0
status-refused : (o : Outcome Fraction) (n : ℕ) → 0 < n → (status o ≡ n) ↔ (o ≡ refuses n)
status-refused (gives f) n h = (λ e. absurd (omega (arith, e)), λ e. not_both e)
status-refused (refuses m) n h = (λ e. ap refuses e, λ e. cc)

module _ (token : Bytes) where
  status-given : (o : Outcome Fraction) → ValueRead token o → (status o ≡ 0) ↔ ((f : Fraction) × SpellsValue f token)
  status-given (gives f) h = (λ e. (f, (h.gives_spelled f).0 refl), λ s. refl)
  status-given (refuses n) h =
      (λ e. absurd (⊎_elim (λ (q : n ≡ 4). omega (arith, e)) (λ (q : n ≡ 7). omega (arith, e)) (h.only_4_or_7 n refl)), λ s. not_both (sym ((h.gives_spelled s.0).1 s.1)))

  value_stored : {returned : ℕ} {before after : Fraction} (o : Outcome Fraction) → ValueRead token o → Stored o returned before after → (f : Fraction) → SpellsValue f token → after ≡ f
  value_stored (gives g) h s f p = let e : gives g ≡ gives f = (h.gives_spelled f).1 p in s.stores ∙ cc
  value_stored (refuses n) h s f p = not_both (sym ((h.gives_spelled f).1 p))

  value_returned : {returned : ℕ} {before after : Fraction} (o : Outcome Fraction) → ValueRead token o → Stored o returned before after → ValueReturned token returned before after
  value_returned {returned} {before} {after} o h s =
      let zero = status-given o h in
      let seven = status-refused o 7 (omega arith) in
      let four = status-refused o 4 (omega arith) in
      record {
        by_definition = subst (λ (o : Outcome Fraction). Stored o returned before after) h.by_definition s;
        promised = subst (ValueRead token) h.by_definition h;
        returns_0 = (λ e. zero.0 (sym s.returns ∙ e), λ p. s.returns ∙ zero.1 p);
        stores_spelled = value_stored o h s;
        returns-7 = (λ e. h.refuses_too_wide.0 (seven.0 (sym s.returns ∙ e)), λ p. s.returns ∙ seven.1 (h.refuses_too_wide.1 p));
        returns-4 = (λ e. h.refuses_misspelled.0 (four.0 (sym s.returns ∙ e)), λ p. s.returns ∙ four.1 (h.refuses_misspelled.1 p));
      }

  -- the fraction that is given is stored
  pub value-given : {o : Outcome Fraction} {f before after : Fraction} → ValueRead token o → o ≡ gives f → after ≡ f → ValueReturned token 0 before after
  value-given h e q = value_returned (gives _) (subst (ValueRead token) e h) (record { returns = refl; stores = q })

  -- a refusal returns its number and stores nothing
  pub value-refused : {o : Outcome Fraction} {n returned : ℕ} {before : Fraction} → ValueRead token o → o ≡ refuses n → returned ≡ n → ValueReturned token returned before before
  value-refused h e q = value_returned (refuses _) (subst (ValueRead token) e h) (record { returns = q; stores = refl })
