-- What the proofs of derivations cite: what follows a reason's word, which is told by its cell, and how many reasons are
-- assumptions.
-- Assumes nothing.
use mathlib.Core.Path.{◌≡◌, refl, sym, subst}
use mathlib.Core.Bool.{Bool, true, false, cond}
use mathlib.Core.List.{List, [], ◌∷◌, ◌++◌}
use Prim.Native.Nat.{ℕ, suc, ◌+◌, ◌≤◌}
use native.Mathlib.Omega.{arith}
use lib.Dec.{eqb}
use lib.IntN.{ℤ}
use Rattle.text.specs.Bytes.{Bytes}
use Rattle.grammar.specs.Tree.{Reason, asm, lin, rnd, uns, sol, Derivation}
use Rattle.grammar.specs.Certificate.{pair_list, ReasonWord, asm_word, lin_word, rnd_word, uns_word, sol_word, reason_cell, Detail, detail, unsplit, as_reason, is_assumption, assumptions}
use Rattle.std.specs.Prelude.{Ok}
use Rattle.symbol_reader.specs.Steps.{State, Answer, any}
use Rattle.symbol_reader.specs.Follows.{Always, Follows}
use Rattle.symbol_reader.specs.declared.Cursor.{Cursor}
use Rattle.symbol_reader.proofs.FollowsLaws.{follows_nothing, view_follows}
use Rattle.row_reader.specs.Parts.{derivation_but, word_cell}

-- ---- what follows a reason's word, whose cell is k

module _ (own : ℕ) {k : ℕ} {text : Bytes} {c : Cursor} {ix : List ℕ} {vs : List ℤ} {rs : List ℕ} where
  -- nothing after `asm` and `sol`
  pub detail_none : (k ≡ 1 → ⊥) → (k ≡ 2 → ⊥) → (k ≡ 3 → ⊥) → (w : ReasonWord) → reason_cell w ≡ k → {n : ℕ} → Follows Always (detail own w) any text c ix vs rs ix vs rs (Ok (record { number = n; cursor = c }))
  detail_none n1 n2 n3 asm_word e = follows_nothing
  detail_none n1 n2 n3 lin_word e = absurd (n1 (sym e))
  detail_none n1 n2 n3 rnd_word e = absurd (n2 (sym e))
  detail_none n1 n2 n3 uns_word e = absurd (n3 (sym e))
  detail_none n1 n2 n3 sol_word e = follows_nothing

  module _ {ix' : List ℕ} {vs' : List ℤ} {rs' : List ℕ} {r : Answer} where
    -- a list of pairs after `lin` and `rnd`
    pub detail-listed : 1 ≤ k → k ≤ 2 → Follows Always (pair_list own) any text c ix vs rs ix' vs' rs' r → (w : ReasonWord) → reason_cell w ≡ k → Follows Always (detail own w) any text c ix vs rs ix' vs' rs' r
    detail-listed low high h asm_word e = absurd (omega arith)
    detail-listed low high h lin_word e = view_follows (λ a n t. tt) h
    detail-listed low high h rnd_word e = view_follows (λ a n t. tt) h
    detail-listed low high h uns_word e = absurd (omega arith)
    detail-listed low high h sol_word e = absurd (omega arith)

    -- i1 l1 i2 l2 after `uns`
    pub detail-unsplit : k ≡ 3 → Follows Always (unsplit own) any text c ix vs rs ix' vs' rs' r → (w : ReasonWord) → reason_cell w ≡ k → Follows Always (detail own w) any text c ix vs rs ix' vs' rs' r
    detail-unsplit three h asm_word e = absurd (omega arith)
    detail-unsplit three h lin_word e = absurd (omega arith)
    detail-unsplit three h rnd_word e = absurd (omega arith)
    detail-unsplit three h uns_word e = h
    detail-unsplit three h sol_word e = absurd (omega arith)

-- a reason has the cell of its word
pub word_cell_lem : (w : ReasonWord) (d : Detail w) → word_cell (as_reason (w, d)) ≡ reason_cell w
word_cell_lem asm_word d = refl
word_cell_lem lin_word d = refl
word_cell_lem rnd_word d = refl
word_cell_lem uns_word d = refl
word_cell_lem sol_word d = refl

-- ---- how many assumptions

-- 1 for an assumption, else 0
abbrev pub as_derivations : Derivation → ℕ
as_derivations d = cond (is_assumption d.reason) 1 0

-- a reason whose word has the cell 0 is one, and no other
pub counts : (q : Reason) → ◌≡◌ {A = ℕ} (cond (is_assumption q) 1 0) (cond (eqb (word_cell q) 0) 1 0)
counts asm = refl
counts (lin m) = refl
counts (rnd m) = refl
counts (uns u) = refl
counts sol = refl

pub one_at_most : (b : Bool) → cond {A = ℕ} b 1 0 ≤ 1
one_at_most true = omega arith
one_at_most false = omega arith

-- a derivation more
one_more : (b : Bool) (n : ℕ) → cond b (suc n) n ≡ n + cond b 1 0
one_more true n = omega arith
one_more false n = omega arith

pub assumptions_more : (ds : List Derivation) (d : Derivation) → assumptions (ds ++ (d ∷ [])) ≡ assumptions ds + as_derivations d
assumptions_more [] d = one_more (is_assumption d.reason) 0
assumptions_more (x ∷ ds) d = go (is_assumption x.reason) (assumptions_more ds d)
  where
    go : (b : Bool) → assumptions (ds ++ (d ∷ [])) ≡ assumptions ds + as_derivations d → cond b (suc (assumptions (ds ++ (d ∷ [])))) (assumptions (ds ++ (d ∷ []))) ≡ cond b (suc (assumptions ds)) (assumptions ds) + as_derivations d
    go true e = omega arith
    go false e = e

-- ---- a derivation: the row, the number of assumptions and the names are those of the derivations before it

pub derivation_as : (n total : ℕ) {own own' assumed assumed' : ℕ} {used used' : List Bytes} → own ≡ own' → assumed ≡ assumed' → used ≡ used'
    → {Q : State → Type 0} {told : Derivation → ℕ → Type 0} {text : Bytes} {c : Cursor} {ix : List ℕ} {vs : List ℤ} {rs : List ℕ} {ix' : List ℕ} {vs' : List ℤ} {rs' : List ℕ} {r : Answer}
    → Follows Q (derivation_but n own total assumed used) told text c ix vs rs ix' vs' rs' r → Follows Q (derivation_but n own' total assumed' used') told text c ix vs rs ix' vs' rs' r
derivation_as n total {own} {own'} {assumed} {assumed'} {used} {used'} p q u {Q} {told} {text} {c} {ix} {vs} {rs} {ix'} {vs'} {rs'} {r} h =
    subst (λ (names : List Bytes). Follows Q (derivation_but n own' total assumed' names) told text c ix vs rs ix' vs' rs' r) u
    (subst (λ (k : ℕ). Follows Q (derivation_but n own' total k used) told text c ix vs rs ix' vs' rs' r) q
    (subst (λ (k : ℕ). Follows Q (derivation_but n k total assumed used) told text c ix vs rs ix' vs' rs' r) p h))
