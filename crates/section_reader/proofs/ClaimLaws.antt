-- What the proofs of the relation cite: the ends of a claim by its word, and the room that their values have.
-- Assumes nothing.
use mathlib.Core.Path.{◌≡◌, sym}
use mathlib.Core.List.{List, [], ◌∷◌}
use Rattle.std.specs.Prelude.{Ok}
use Prim.Native.Nat.{ℕ}
use native.Mathlib.Omega.{arith}
use lib.IntN.{ℤ}
use Rattle.text.specs.Bytes.{Bytes}
use Rattle.grammar.specs.Tree.{End, infinite, finite}
use Rattle.grammar.specs.Format.{or, symbol}
use Rattle.grammar.specs.Format as F
use Rattle.grammar.specs.Certificate.{end_or, ClaimWord, infeas_word, range_word, claim_cell, ends, one_of}
use Rattle.grammar.specs.Layout.{gather}
use Rattle.symbol_reader.specs.Steps.{State, Went, Answer, any, the}
use Rattle.symbol_reader.specs.Follows.{ForValue, Follows}
use Rattle.symbol_reader.specs.Leaves.{claims, or_cell}
use Rattle.symbol_reader.specs.declared.Cursor.{Cursor}
use Rattle.symbol_reader.proofs.FollowsLaws.{follows_nothing, view_follows}
use Rattle.section_reader.specs.Sections.{ForEnds}

-- ---- what is left for values: it grows with a token that is no value, and an end takes one token of it at most

pub after_word : (w : ClaimWord) {text : Bytes} {s t : State} → Went (one_of claim_cell claims) w text s t → ForValue s → ForEnds t
unfolding gather
after_word w h left = omega (arith, h.ahead, h.values-at, left)

pub after_end : {w : Bytes} (e : End) {text : Bytes} {s t : State} → Went (end_or w) e text s t → ForEnds s → ForValue t
unfolding gather
after_end infinite h left = omega (arith, h.ahead, h.values-at, left)
after_end (finite f) h left = omega (arith, h.ahead, h.values-at, left)

-- an end, of whose cell nothing more is asked
pub end_follows : {Q : State → Type 0} {w : Bytes} {text : Bytes} {c : Cursor} {ix : List ℕ} {vs : List ℤ} {rs : List ℕ} {ix' : List ℕ} {vs' : List ℤ} {rs' : List ℕ} {r : Answer}
    → Follows Q (symbol (or w 0 (F.value (1 ∷ [])))) (the (or_cell 0 (λ f. 1))) text c ix vs rs ix' vs' rs' r → Follows Q (end_or w) any text c ix vs rs ix' vs' rs' r
end_follows h = view_follows {tells = any} (λ a n t. tt) h

-- ---- the ends, by the cell of the claim's word

module _ {i : ℕ} {text : Bytes} {c : Cursor} {ix : List ℕ} {vs : List ℤ} {rs : List ℕ} where
  pub no_ends : i ≡ 0 → (w : ClaimWord) → claim_cell w ≡ i → Follows ForEnds (ends w) any text c ix vs rs ix vs rs (Ok (record { number = i; cursor = c }))
  no_ends zero infeas_word t = follows_nothing
  no_ends zero range_word t = absurd (omega (arith, zero, t))

  pub two_ends : {ix' : List ℕ} {vs' : List ℤ} {rs' : List ℕ} {r : Answer} → (i ≡ 0 → ⊥) → Follows ForEnds (ends range_word) any text c ix vs rs ix' vs' rs' r → (w : ClaimWord) → claim_cell w ≡ i → Follows ForEnds (ends w) any text c ix vs rs ix' vs' rs' r
  two_ends other h infeas_word t = absurd (other (sym t))
  two_ends other h range_word t = h
