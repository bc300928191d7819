-- Readings that follow one another: how the contracts of the parts of a sequence make that of the whole. A sequence hands on the
-- refusal of a part at once (`?`): from the refused part on the whole is refused (`then_stops`), and the parts before it are put
-- before that (`then_follows`).
-- Assumes nothing.
use mathlib.Core.Path.{◌≡◌, refl, sym, ap, ◌∙◌, subst}
use mathlib.Core.Bool.{true, false}
use mathlib.Core.List.{List, []}
use Rattle.std.specs.Prelude.{Result, Ok, Err}
use Rattle.std.specs.Result.{IsErr, IsErrAnd}
use Prim.Native.Nat.{ℕ}
use lib.IntN.{ℤ}
use Rattle.text.specs.Bytes.{Bytes}
use Rattle.text.specs.Tokens.{rest}
use Rattle.grammar.specs.Format.{Symbol, Format, symbol, then, nothing, view}
use Rattle.grammar.specs.Layout.{symbol_values}
use Rattle.grammar.specs.declared.Stop.{Stop}
use Rattle.symbol_reader.specs.Steps.{State, state, Room, Went, Answer, Answers, Reads, any}
use Rattle.symbol_reader.specs.Follows.{Always, ForValue, Follows, refused, Is, Refuses}
use Rattle.symbol_reader.specs.declared.Cursor.{Cursor}
use Rattle.symbol_reader.specs.declared.Next.{Next}
use Rattle.symbol_reader.proofs.Laws.{next_is, stop_is, reads_next, reads_on, nothing_went, then_stop, then_reads, then_any, view_reads, value-next}

-- the answer of a function that hands a refusal on
pub handed_on : {X E : Type 0} (z : Result X E) (e : E) → IsErrAnd z (λ x. x ≡ e) → z ≡ Err e
handed_on (Ok x) e h = absurd h
handed_on {X} {E} (Err x) e h = ap (λ (k : E). Err k) h

-- nothing is due
pub follows_nothing : {Q : State → Type 0} {text : Bytes} {n : ℕ} {c : Cursor} {ix : List ℕ} {vs : List ℤ} {rs : List ℕ} → Follows Q nothing any text c ix vs rs ix vs rs (Ok (record { number = n; cursor = c }))
follows_nothing = record { is = λ room q. reads_next tt (nothing_went room) }

-- ---- the same under another type, and what the number says

module _ {Q : State → Type 0} {text : Bytes} {c : Cursor} {ix : List ℕ} {vs : List ℤ} {rs : List ℕ} {ix' : List ℕ} {vs' : List ℤ} {rs' : List ℕ} {r : Answer} where
  pub follows_as : {A : Type 0} {f : Format A} {B : Type 0} {g : Format B} {told : A → ℕ → Type 0} {tells : B → ℕ → Type 0}
      → ((x : State) → Room text x → Reads f told text x ix' vs' rs' r → Reads g tells text x ix' vs' rs' r) → Follows Q f told text c ix vs rs ix' vs' rs' r → Follows Q g tells text c ix vs rs ix' vs' rs' r
  follows_as turn h = record { is = λ room q. turn (state c ix vs rs) room (h.is room q) }

  pub view_follows : {A : Type 0} {f : Format A} {B : Type 0} {to : A → B} {from : B → A} {p : (a : A) → from (to a) ≡ a} {q : (b : B) → to (from b) ≡ b} {told : A → ℕ → Type 0} {tells : B → ℕ → Type 0}
      → ((a : A) (n : ℕ) → told a n → tells (to a) n) → Follows Q f told text c ix vs rs ix' vs' rs' r → Follows Q (view to from p q f) tells text c ix vs rs ix' vs' rs' r
  view_follows turn h = follows_as (λ x room k. view_reads turn k) h

  module _ {A : Type 0} {f : Format A} {told : A → ℕ → Type 0} (h : Follows Q f told text c ix vs rs ix' vs' rs' r) where
    -- from what the answer's number says, and what is known of the answer
    pub follows_told : {tells : A → ℕ → Type 0} → ((a : A) (x : Next) → r ≡ Ok x → told a x.number → tells a x.number) → Follows Q f tells text c ix vs rs ix' vs' rs' r
    follows_told {tells} turn = follows_as (λ x room k. record { is = go x r refl k.is }) h
      where
        go : (s : State) (z : Answer) → r ≡ z → Answers f told text s ix' vs' rs' z → Answers f tells text s ix' vs' rs' z
        go s (Ok x) e w = (w.0, turn w.0 x e w.1, w.2)
        go s (Err k) e w = w

    -- a refusal is handed on, whatever a number would have said
    pub follows_stop : {e : Stop} → r ≡ Err e → {z : Answer} → IsErrAnd z (λ x. x ≡ e) → {tells : A → ℕ → Type 0} → Follows Q f tells text c ix vs rs ix' vs' rs' z
    follows_stop {e} was {z} up = record { is = λ room q. reads_on (handed_on z e up) (stop_is (h.is room q) was) }

    -- the reading goes on at the same place with another number
    pub follows_next : {x : Next} → r ≡ Ok x → {tells : A → ℕ → Type 0} {n : ℕ} → ((a : A) → told a x.number → tells a n) → Follows Q f tells text c ix vs rs ix' vs' rs' (Ok (record { number = n; cursor = x.cursor }))
    follows_next e turn = record { is = λ room q. let w = next_is (h.is room q) e in record { is = (w.0, turn w.0 w.1, w.2) } }

-- what is known of a number that is handed back says more of it
pub follows_own : {A : Type 0} {Q : State → Type 0} {f : Format A} {text : Bytes} {c : Cursor} {ix : List ℕ} {vs : List ℤ} {rs : List ℕ} {ix' : List ℕ} {vs' : List ℤ} {rs' : List ℕ} {x : Next} {told tells : A → ℕ → Type 0}
    → Follows Q f told text c ix vs rs ix' vs' rs' (Ok x) → ((a : A) → told a x.number → tells a x.number) → Follows Q f tells text c ix vs rs ix' vs' rs' (Ok x)
follows_own h turn = record { is = λ room q. let w = (h.is room q).is in record { is = (w.0, turn w.0 w.1, w.2) } }

-- ---- one after another

-- what must hold before the second holds after the first
pub record Leads {A : Type 0} (Q : State → Type 0) (f : Format A) (text : Bytes) (R : State → Type 0) : Type 0 where
  pub holds : (a : A) (x y : State) → Room text x → Q x → Went f a text x y → R y

-- nothing; or that a value has room, which holds after a symbol that is no value
pub leads_always : {A : Type 0} {Q : State → Type 0} {f : Format A} {text : Bytes} → Leads Q f text Always
leads_always = record { holds = λ a x y room q w. tt }

pub leads_value : {A : Type 0} {Q : State → Type 0} {y : Symbol A} {text : Bytes} → ((a : A) → symbol_values y a ≡ []) → Leads Q (symbol y) text ForValue
leads_value none = record { holds = λ a x t room q w. value-next w (none a) room }

-- what the numbers of a sequence say: that of the first, which is m, and that of the second
abbrev pub Saying : {A : Type 0} {B : A → Type 0} → (A → ℕ → Type 0) → ℕ → ((a : A) → B a → ℕ → Type 0) → (a : A) × B a → ℕ → Type 0
Saying told m tells p n = told p.0 m × tells p.0 p.1 n

module _ {A : Type 0} {Q : State → Type 0} {f : Format A} {told : A → ℕ → Type 0} {text : Bytes} {c : Cursor} {ix : List ℕ} {vs : List ℤ} {rs : List ℕ} {ix' : List ℕ} {vs' : List ℤ} {rs' : List ℕ} {r : Answer} (h : Follows Q f told text c ix vs rs ix' vs' rs' r) where
  -- where the first part is refused, the whole is
  pub then_stops : {e : Stop} → r ≡ Err e → {z : Answer} → IsErrAnd z (λ x. x ≡ e) → {B : A → Type 0} {g : (a : A) → Format (B a)} {tells : (a : A) × B a → ℕ → Type 0} → Follows Q (then f g) tells text c ix vs rs ix' vs' rs' z
  then_stops {e} was {z} up = record { is = λ room q. reads_on (handed_on z e up) (then_stop (stop_is (h.is room q) was)) }

  -- a part after the first is refused
  pub then_stops_later : {x : Next} → r ≡ Ok x → {R : State → Type 0} → Leads Q f text R → {B : A → Type 0} {g : (a : A) → Format (B a)} {ix'' : List ℕ} {vs'' : List ℤ} {rs'' : List ℕ} {z : Answer}
      → ((a : A) → told a x.number → Follows R (g a) any text x.cursor ix' vs' rs' ix'' vs'' rs'' z) → IsErr z → {tells : (a : A) × B a → ℕ → Type 0} → Follows Q (then f g) tells text c ix vs rs ix'' vs'' rs'' z
  then_stops_later {x} was leads {g = g} {ix''} {vs''} {rs''} {z} k up {tells} =
      record {
        is = λ room q.
            let w = next_is (h.is room q) was in
            record { is = go (state c ix vs rs) z up (then_any w.2 ((k w.0 w.1).is w.2.room (leads.holds w.0 (state c ix vs rs) (state x.cursor ix' vs' rs') room q w.2))).is };
      }
    where
      go : (s : State) (z : Answer) → IsErr z → Answers (then f g) any text s ix'' vs'' rs'' z → Answers (then f g) tells text s ix'' vs'' rs'' z
      go s (Ok y) up a = absurd (not_err up)
        where
          not_err : false ≡ true → ⊥
          not_err e = cc
      go s (Err e) up a = a

  -- else the second is read from where the first ended, by what was kept of the first, of which the first's number says something
  pub then_follows : {x : Next} → r ≡ Ok x → {R : State → Type 0} → Leads Q f text R → {B : A → Type 0} {g : (a : A) → Format (B a)} {tells : (a : A) → B a → ℕ → Type 0} {ix'' : List ℕ} {vs'' : List ℤ} {rs'' : List ℕ} {r' : Answer}
      → ((a : A) → told a x.number → Follows R (g a) (tells a) text x.cursor ix' vs' rs' ix'' vs'' rs'' r') → Follows Q (then f g) (Saying told x.number tells) text c ix vs rs ix'' vs'' rs'' r'
  then_follows {x} e leads k =
      record {
        is = λ room q.
            let w = next_is (h.is room q) e in
            then_reads w.2 (λ b i l. (w.1, l)) ((k w.0 w.1).is w.2.room (leads.holds w.0 (state c ix vs rs) (state x.cursor ix' vs' rs') room q w.2));
      }

-- ---- refusals for want of room

module _ {A : Type 0} {full : Cursor → Type 0} {y : Symbol A} {text : Bytes} {c : Cursor} {same : Type 0} {r : Answer} (h : Refuses full y text c same r) where
  -- one that is handed on; more is known then of what is kept
  pub refuses_stop : {e : Stop} → r ≡ Err e → {z : Answer} → IsErrAnd z (λ x. x ≡ e) → {same' : Type 0} → (same → same') → Refuses full y text c same' z
  refuses_stop {e} was {z} up turn = record { is = λ f. let k = h.is f in (subst (Is (refused y (rest text c.at))) (was ∙ sym (handed_on z e up)) k.0, turn k.1) }
