-- What the proofs of the sections cite: a section is its word and then the rest, and most are a count and that many items.
-- Assumes nothing.
use mathlib.Core.Path.{◌≡◌, refl, sym, ap, ◌∙◌, subst}
use mathlib.Core.List.{List}
use Rattle.std.specs.Prelude.{Result, Ok, Err}
use Rattle.std.specs.Result.{IsErrAnd}
use Prim.Native.Nat.{ℕ, suc, ◌≤◌}
use native.Mathlib.Omega.{arith}
use lib.IntN.{ℤ}
use Rattle.text.specs.Bytes.{Bytes}
use Rattle.grammar.specs.Format.{word, Format, symbol, then, items, view}
use Rattle.grammar.specs.Certificate.{count_to, section}
use Rattle.grammar.specs.declared.Stop.{Stop}
use Rattle.symbol_reader.specs.Steps.{State, state, Room, Went, Answer, the}
use Rattle.symbol_reader.specs.Follows.{Always, Follows, below}
use Rattle.symbol_reader.specs.declared.Cursor.{Cursor}
use Rattle.symbol_reader.specs.declared.Next.{Next}
use Rattle.section_reader.specs.Sections.{step_of, Says}
use Rattle.symbol_reader.proofs.Laws.{next_is, then_reads}
use Rattle.symbol_reader.proofs.FollowsLaws.{view_follows, follows_told, follows_stop, then_stops}

-- the refusal of a part is that of the whole, also where more than a number is answered
pub step_up : {X : Type 0} (cursor : X → Cursor) (e : Stop) (z : Result X Stop) → IsErrAnd z (λ x. x ≡ e) → IsErrAnd (step_of cursor z) (λ x. x ≡ e)
step_up cursor e (Ok x) h = absurd h
step_up cursor e (Err k) h = h

-- what is known of such an answer
module _ {X : Type 0} (cursor : X → Cursor) {r : Result X Stop} {A : Type 0} {Q : State → Type 0} {f : Format A} {text : Bytes} {c : Cursor} {ix : List ℕ} {vs : List ℤ} {rs : List ℕ} {ix' : List ℕ} {vs' : List ℤ} {rs' : List ℕ} where
  pub step_follows : {x : X} → r ≡ Ok x → (P : A → X → Type 0) → Follows Q f (λ a k. Says (P a) r) text c ix vs rs ix' vs' rs' (step_of cursor r) → Follows Q f (λ a k. P a x) text c ix vs rs ix' vs' rs' (step_of cursor (Ok x))
  step_follows was P h = subst (λ (z : Result X Stop). Follows Q f (λ a k. Says (P a) z) text c ix vs rs ix' vs' rs' (step_of cursor z)) was h

  pub step_stops : {e : Stop} → r ≡ Err e → {told tells : A → ℕ → Type 0} → Follows Q f told text c ix vs rs ix' vs' rs' (step_of cursor r) → Follows Q f tells text c ix vs rs ix' vs' rs' (Err e)
  step_stops was h = follows_stop h (ap (step_of cursor) was) refl

-- ---- what must hold before

module _ {A : Type 0} {Q : State → Type 0} {f : Format A} {told : A → ℕ → Type 0} {text : Bytes} {c : Cursor} {ix : List ℕ} {vs : List ℤ} {rs : List ℕ} {ix' : List ℕ} {vs' : List ℤ} {rs' : List ℕ} {r : Answer} (h : Follows Q f told text c ix vs rs ix' vs' rs' r) where
  -- it follows from what does
  pub follows_where : {R : State → Type 0} → ((x : State) → R x → Q x) → Follows R f told text c ix vs rs ix' vs' rs' r
  follows_where so = record { is = λ room q. h.is room (so (state c ix vs rs) q) }

  -- it holds
  pub follows_held : {R : State → Type 0} → Q (state c ix vs rs) → Follows R f told text c ix vs rs ix' vs' rs' r
  follows_held q = record { is = λ room o. h.is room q }

-- ---- after a part that was read

-- what is known then: what its number says of what was kept, what held before it, and what is written
pub record Known {A : Type 0} (Q : State → Type 0) (f : Format A) (told : A → ℕ → Type 0) (text : Bytes) (c : Cursor) (ix : List ℕ) (vs : List ℤ) (rs : List ℕ) (ix' : List ℕ) (vs' : List ℤ) (rs' : List ℕ) (x : Next) (a : A) : Type 0 where
  pub says : told a x.number
  pub room : Room text (state c ix vs rs)
  pub held : Q (state c ix vs rs)
  pub went : Went f a text (state c ix vs rs) (state x.cursor ix' vs' rs')

module _ {A : Type 0} {Q : State → Type 0} {f : Format A} {told : A → ℕ → Type 0} {text : Bytes} {c : Cursor} {ix : List ℕ} {vs : List ℤ} {rs : List ℕ} {ix' : List ℕ} {vs' : List ℤ} {rs' : List ℕ} {r : Answer} (h : Follows Q f told text c ix vs rs ix' vs' rs' r) {x : Next} (was : r ≡ Ok x) where
  -- the rest is read, or refused, by all that is known
  pub then_known : {B : A → Type 0} {g : (a : A) → Format (B a)} {tells : (a : A) × B a → ℕ → Type 0} {ix'' : List ℕ} {vs'' : List ℤ} {rs'' : List ℕ} {z : Answer}
      → ((a : A) → Known Q f told text c ix vs rs ix' vs' rs' x a → Follows Always (g a) (λ b. tells (a, b)) text x.cursor ix' vs' rs' ix'' vs'' rs'' z)
      → Follows Q (then f g) tells text c ix vs rs ix'' vs'' rs'' z
  then_known k =
      record {
        is = λ room q.
            let w = next_is (h.is room q) was in
            then_reads w.2 (λ b i l. l) ((k w.0 (record { says = w.1; room = room; held = q; went = w.2 })).is w.2.room tt);
      }

-- ---- sections

module _ {w : Bytes} {told : Unit {0} → ℕ → Type 0} {text : Bytes} {c : Cursor} {ix : List ℕ} {vs : List ℤ} {rs : List ℕ} {ix' : List ℕ} {vs' : List ℤ} {rs' : List ℕ} {r : Answer} (h : Follows Always (symbol (word w)) told text c ix vs rs ix' vs' rs' r) {A : Type 0} {f : Format A} {tells : A → ℕ → Type 0} where
  -- its word, and then the rest
  pub section_follows : {x : Next} → r ≡ Ok x → {ix'' : List ℕ} {vs'' : List ℤ} {rs'' : List ℕ} {z : Answer}
      → Follows Always f tells text x.cursor ix' vs' rs' ix'' vs'' rs'' z → Follows Always (section w f) tells text c ix vs rs ix'' vs'' rs'' z
  section_follows was k = view_follows (λ a n t. t) (then_known h was (λ u known. k))

  pub section_stops : {e : Stop} → r ≡ Err e → {z : Answer} → IsErrAnd z (λ x. x ≡ e) → Follows Always (section w f) tells text c ix vs rs ix' vs' rs' z
  section_stops was up = view_follows (λ a n t. t) (then_stops h was up)

-- a count and that many items; the count is handed back
module _ {most : ℕ} {A : Type 0} {g : List A → Format A} {C : Type 0} {to : (k : ℕ) × List A → C} {from : C → (k : ℕ) × List A} {p : (x : (k : ℕ) × List A) → from (to x) ≡ x} {q : (z : C) → to (from z) ≡ z} {count : C → ℕ} {text : Bytes} {c : Cursor} {ix : List ℕ} {vs : List ℤ} {rs : List ℕ} {ix' : List ℕ} {vs' : List ℤ} {rs' : List ℕ} {r : Answer}
    (h : Follows Always (count_to most) (below (suc most)) text c ix vs rs ix' vs' rs' r) where
  pub counted_follows : {x : Next} → r ≡ Ok x → ((y : (k : ℕ) × List A) → count (to y) ≡ y.0) → {ix'' : List ℕ} {vs'' : List ℤ} {rs'' : List ℕ} {z : Answer}
      → (x.number ≤ most → Follows Always (items x.number g) (the (λ l. x.number)) text x.cursor ix' vs' rs' ix'' vs'' rs'' z)
      → Follows Always (view to from p q (then (count_to most) (λ k. items k g))) (λ y. below (suc most) (count y)) text c ix vs rs ix'' vs'' rs'' z
  counted_follows {x} was same {ix''} {vs''} {rs''} {z} k =
      view_follows (λ y n t. (same y ∙ t.0, t.1))
      (then_known h was {tells = λ y. below (suc most) y.0}
      (λ a known. follows_told
      (subst (λ (i : ℕ). Follows Always (items i g) (the (λ l. x.number)) text x.cursor ix' vs' rs' ix'' vs'' rs'' z) (sym known.says.0) (k (omega (arith, known.says.1))))
      (λ l y e t. (known.says.0 ∙ t, omega (arith, t, known.says.1)))))
