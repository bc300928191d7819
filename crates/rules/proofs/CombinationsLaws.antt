-- What `Combinations` works out is what it says in words: suitable multipliers, the sense, the running combination.
-- Assumes nothing.
use Rattle.std.specs.Prelude.{◌≡◌, Bool, not, cond, List, [], ◌∷◌, ◌↔◌, ℕ}
use Rattle.std.proofs.Math.Path.{refl}
use Rattle.std.proofs.Common.{ap, subst, ⊎_elim}
use Rattle.std.proofs.Math.Bool.{true, false}
use Rattle.arithmetic.specs.Quotient.{◌≈◌, ◌≤Q◌}
use Rattle.arithmetic.proofs.QuotientLaws.{≤Q_antisym}
use Rattle.arithmetic.specs.Fraction.{IsFraction}
use Rattle.arithmetic.proofs.Laws.{zero_is}
use Rattle.arithmetic.specs.declared.Fraction.{Fraction}
use Rattle.grammar.specs.Tree.{Term, Sense, equal, at_most, at_least, Multiplier, Tree}
use Rattle.rules.specs.Tests.{Decides, All, Some, all_of}
use Rattle.rules.proofs.Tests.{fails, failed, decides_or, decides_all, not-all}
use Rattle.rules.specs.Result.{Gives, Through}
use Rattle.rules.proofs.Result.{says-require, gives_as, gives_done, gives_then, gives_bind, gives_through}
use Rattle.rules.specs.Values.{zero_q, is_zero, is_positive, is_negative}
use Rattle.rules.proofs.ValuesLaws.{decides_zero, decides_positive, decides_negative, decides_not_less, gives_product, gives_sum}
use Rattle.rules.specs.Rows.{terms_of, Constraint, row_at}
use Rattle.rules.specs.Combinations.{signed, Suitable, is_suitable, HasSense, sense_of, Combination, empty_combination, with_coefficient, AddsMultiple, add_multiple, Next, next_combination, Combines, combine, Denotes, suitable_combination}

-- ---- the sign rule

module _ (tree : Tree) (ms : List Multiplier) where
  abbrev all_zero : Bool
  all_zero = all_of (λ m. is_zero (signed tree m)) ms

  abbrev none_negative : Bool
  none_negative = all_of (λ m. not (is_negative (signed tree m))) ms

  abbrev none_positive : Bool
  none_positive = all_of (λ m. not (is_positive (signed tree m))) ms

  decides_all-zero : Decides all_zero (All (λ m. signed tree m ≈ zero_q) ms)
  decides_all-zero = decides_all _ _ (λ m. decides_zero (signed tree m)) ms

  decides_none_negative : Decides none_negative (All (λ m. zero_q ≤Q signed tree m) ms)
  decides_none_negative =
      decides_all _ _ (λ m. decides_not_less (signed tree m) zero_q (is_negative (signed tree m)) (decides_negative (signed tree m))) ms

  decides_none_positive : Decides none_positive (All (λ m. signed tree m ≤Q zero_q) ms)
  decides_none_positive =
      decides_all _ _ (λ m. decides_not_less zero_q (signed tree m) (is_positive (signed tree m)) (decides_positive (signed tree m))) ms

  some_not-zero : (all_zero ≡ false) ↔ Some (λ m. signed tree m ≈ zero_q → ⊥) ms
  some_not-zero = not-all _ _ (λ m. decides_zero (signed tree m)) ms

  pub decides_suitable : Decides (is_suitable tree ms) (Suitable tree ms)
  unfolding is_suitable
  decides_suitable = decides_or none_negative none_positive decides_none_negative decides_none_positive

-- where none is negative and none is positive all are zero
both_zero : (tree : Tree) (ms : List Multiplier) → All (λ m. zero_q ≤Q signed tree m) ms → All (λ m. signed tree m ≤Q zero_q) ms → All (λ m. signed tree m ≈ zero_q) ms
both_zero tree [] h k = tt
both_zero tree (m ∷ ms) h k = (≤Q_antisym (signed tree m) zero_q k.0 h.0, both_zero tree ms h.1 k.1)

-- the sense of a suitable combination is the one that it has in words
module _ (tree : Tree) (ms : List Multiplier) (suitable : Suitable tree ms) where
  sense_has : HasSense tree ms (sense_of tree ms)
  unfolding sense_of
  sense_has = go (all_zero tree ms) refl (none_negative tree ms) refl
    where
      go : (z : Bool) → all_zero tree ms ≡ z → (n : Bool) → none_negative tree ms ≡ n → HasSense tree ms (cond z equal (cond n at_least at_most))
      go true e n f = (decides_all-zero tree ms).0 e
      go false e true f = ((decides_none_negative tree ms).0 f, (some_not-zero tree ms).0 e)
      go false e false f = (⊎_elim (λ h. absurd (failed (decides_none_negative tree ms) f h)) (λ h. h) suitable, (some_not-zero tree ms).0 e)

  sense_only : (s : Sense) → HasSense tree ms s → sense_of tree ms ≡ s
  unfolding sense_of
  sense_only equal h = rw ((decides_all-zero tree ms).1 h)
  sense_only at_least h = rw ((some_not-zero tree ms).1 h.1, (decides_none_negative tree ms).1 h.0)
  sense_only at_most h =
      let some = (some_not-zero tree ms).1 h.1 in
      rw (some, fails (none_negative tree ms) (decides_none_negative tree ms) (λ k. failed (decides_all-zero tree ms) some (both_zero tree ms k h.0)))

  pub sense_is_lem : (s : Sense) → (sense_of tree ms ≡ s) ↔ HasSense tree ms s
  sense_is_lem s = ((λ e. subst (HasSense tree ms) e sense_has), sense_only s)

-- ---- the running combination

module _ (place : ℕ) (factor : Fraction) where
  gives_multiple : (coefficient : ℕ → Fraction) (t : Term) → Gives (add_multiple place factor coefficient t) (AddsMultiple factor coefficient t)
  gives_multiple coefficient t =
      gives_bind _ _ (gives_product place factor t.coefficient)
      (λ p. gives_bind _ _ (gives_sum place (coefficient t.variable) p)
      (λ s. gives_done (with_coefficient t.variable s coefficient)))

  pub gives_next : (terms : List Term) (right : Fraction) (c : Combination) → Gives (next_combination place factor terms right c) (Next factor terms right c)
  unfolding next_combination
  gives_next terms right c =
      gives_bind _ _ (gives_through (add_multiple place factor) (AddsMultiple factor) gives_multiple c.coefficient terms)
      (λ left. gives_bind _ _ (gives_product place factor right)
      (λ p. gives_bind _ _ (gives_sum place c.right p)
      (λ s. gives_done (record { coefficient = left; right = s }))))

pub gives_combination : (tree : Tree) (place : ℕ) (ms : List Multiplier) → Gives (combine tree place ms) (Combines tree ms)
unfolding combine
gives_combination tree place ms =
    gives_through _ (λ so_far m next. Next m.factor (terms_of tree (row_at tree m.row)) (row_at tree m.row).right so_far next)
    (λ so_far m. gives_next place m.factor (terms_of tree (row_at tree m.row)) (row_at tree m.row).right so_far) empty_combination ms

-- the right side of a combination is a fraction
pub combines_fraction : (tree : Tree) (ms : List Multiplier) (c : Combination) → Combines tree ms c → IsFraction c.right
combines_fraction tree ms c h = go empty_combination ms zero_is h
  where
    Step : Combination → Multiplier → Combination → Type 0
    Step so_far m next = Next m.factor (terms_of tree (row_at tree m.row)) (row_at tree m.row).right so_far next

    go : (so_far : Combination) (ms : List Multiplier) → IsFraction so_far.right → Through Step so_far ms c → IsFraction c.right
    go so_far [] v h = subst (λ (d : Combination). IsFraction d.right) h v
    go so_far (m ∷ ms) v h = go h.0 ms (subst (λ (d : Combination). IsFraction d.right) h.1.2.2.2 h.1.2.2.1.1.0) h.2

-- ---- the constraint that a suitable combination denotes

pub gives_suitable : (tree : Tree) (place : ℕ) (ms : List Multiplier) → Gives (suitable_combination tree place ms) (Denotes tree ms)
unfolding suitable_combination
gives_suitable tree place ms =
    gives_as to from
    (gives_then _ _ (says-require (is_suitable tree ms) 13 place (decides_suitable tree ms))
    (gives_bind _ _ (gives_combination tree place ms) (λ c. gives_done (record { sense = sense_of tree ms; coefficient = c.coefficient; right = c.right }))))
  where
    made : Combination → Constraint
    made c = record { sense = sense_of tree ms; coefficient = c.coefficient; right = c.right }

    to : (d : Constraint) → Suitable tree ms × ((c : Combination) × Combines tree ms c × (made c ≡ d)) → Denotes tree ms d
    to d h =
        subst (Denotes tree ms) h.1.2
        (record { suitable = h.0; sense = sense_has tree ms h.0; combines = h.1.1 })

    from : (d : Constraint) → Denotes tree ms d → Suitable tree ms × ((c : Combination) × Combines tree ms c × (made c ≡ d))
    from d h = (
      h.suitable,
      (
        record { coefficient = d.coefficient; right = d.right },
        h.combines,
        ap (λ (s : Sense). record { sense = s; coefficient = d.coefficient; right = d.right }) (sense_only tree ms h.suitable d.sense h.sense),
      ),
    )
