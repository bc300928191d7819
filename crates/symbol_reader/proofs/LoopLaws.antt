-- Loops: after so many items have been read from a cursor on, what is read and written, and what the caller keeps of it.
-- Assumes nothing.
use mathlib.Core.Path.{◌≡◌, sym, subst}
use mathlib.Core.List.{List, [], ◌∷◌, ◌++◌}
use Rattle.std.specs.Prelude.{Ok, Err}
use Rattle.std.specs.Result.{IsErrAnd}
use Prim.Native.Nat.{ℕ, ◌+◌, ◌≤◌, ◌<◌}
use lib.IntN.{ℤ}
use Rattle.text.specs.Bytes.{Bytes}
use Rattle.grammar.specs.Format.{Format, items}
use Rattle.grammar.specs.declared.Stop.{Stop}
use Rattle.symbol_reader.specs.Steps.{State, state, Room, Answer}
use Rattle.symbol_reader.specs.Follows.{Always, Follows}
use Rattle.symbol_reader.specs.declared.Cursor.{Cursor}
use Rattle.symbol_reader.specs.declared.Next.{Next}
use Rattle.symbol_reader.proofs.Laws.{Loop, next_is, stop_is, reads_next, reads_on, loop_first, loop_next, loop_stop, loop_done}
use Rattle.symbol_reader.proofs.FollowsLaws.{handed_on}

-- with room at the start, k of n items are read, and P holds of them
pub record Looping {A : Type 0} (g : List A → Format A) (n k : ℕ) (P : List A → Type 0) (text : Bytes) (s t : State) : Type 0 where
  pub is : Room text s → (l : Loop g n k text s t) × P l.done

module _ {A : Type 0} {g : List A → Format A} {n : ℕ} {text : Bytes} {s : State} where
  pub looping_start : {P : List A → Type 0} → P [] → Looping g n 0 P text s s
  looping_start {P} p = record { is = λ room. let l = loop_first n room in (l.0, subst P (sym l.1) p) }

module _ {A : Type 0} {g : List A → Format A} {n k : ℕ} {P : List A → Type 0} {text : Bytes} {c₀ : Cursor} {ix₀ : List ℕ} {vs₀ : List ℤ} {rs₀ : List ℕ} {c : Cursor} {ix : List ℕ} {vs : List ℤ} {rs : List ℕ}
    (so_far : Looping g n k P text (state c₀ ix₀ vs₀ rs₀) (state c ix vs rs)) where
  -- one item more is read, or refused, which refuses the whole
  module _ (more : k < n) (P' : List A → Type 0) {ix' : List ℕ} {vs' : List ℤ} {rs' : List ℕ} {r : Answer}
      (item : (l : Loop g n k text (state c₀ ix₀ vs₀ rs₀) (state c ix vs rs)) → Room text (state c₀ ix₀ vs₀ rs₀) → P l.done → Follows Always (g l.done) (λ a i. P' (l.done ++ (a ∷ []))) text c ix vs rs ix' vs' rs' r) where
    pub looping_more : {x : Next} → r ≡ Ok x → Looping g n (k + 1) P' text (state c₀ ix₀ vs₀ rs₀) (state x.cursor ix' vs' rs')
    looping_more e =
        record {
          is = λ room.
              let l = so_far.is room in
              let w = next_is ((item l.0 room l.1).is l.0.room tt) e in
              let m = loop_next l.0 more w.2 in
              (m.0, subst P' (sym m.1) w.1);
        }

    pub looping_stops : {e : Stop} → r ≡ Err e → {z : Answer} → IsErrAnd z (λ x. x ≡ e) → {Q : State → Type 0} {told : List A → ℕ → Type 0} → Follows Q (items n g) told text c₀ ix₀ vs₀ rs₀ ix' vs' rs' z
    looping_stops {e} was {z} up = record { is = λ room q. let l = so_far.is room in reads_on (handed_on z e up) (loop_stop l.0 more (stop_is ((item l.0 room l.1).is l.0.room tt) was)) }

  -- all are read
  pub looping_done : n ≤ k → {Q : State → Type 0} {told : List A → ℕ → Type 0} {i : ℕ} → ((l : Loop g n k text (state c₀ ix₀ vs₀ rs₀) (state c ix vs rs)) → P l.done → told l.done i)
      → Follows Q (items n g) told text c₀ ix₀ vs₀ rs₀ ix vs rs (Ok (record { number = i; cursor = c }))
  looping_done h says = record { is = λ room q. let l = so_far.is room in reads_next (says l.0 l.1) (loop_done l.0 h) }
