-- `symbol_reader::values::read_end` meets its contract: the word first, and then a value, which takes the cell 1.
-- Assumes nothing.
use mathlib.Core.Path.{◌≡◌, refl, sym, ap, ◌∙◌}
use mathlib.Core.Bool.{true, false}
use mathlib.Core.List.{List, [], ◌∷◌}
use mathlib.Core.Logic.{inl, inr, ⊎_elim}
use Prim.Native.Nat.{ℕ}
use lib.IntN.{ℤ}
use lib.Seq.{slice}
use Rattle.text.specs.Bytes.{Bytes, same}
use Rattle.text.proofs.BytesLaws.{clash}
use Rattle.text.specs.Tokens.{rest}
use Rattle.text.specs.Scans.{Found}
use Rattle.arithmetic.specs.declared.Fraction.{Fraction}
use Rattle.grammar.specs.Format.{Or, instead, given, value, or}
use Rattle.grammar.specs.Layout.{symbol_cells, symbol_values, symbol_marks}
use Rattle.symbol_reader.specs.Leaves.{token_at, or_cell, end_value, starts_with}
use Rattle.symbol_reader.proofs.Decoding.{means_at, or_instead, or-given, given_only, instead_no_value}
use Rattle.symbol_reader.proofs.TokenLaws.{missing_follows, filled_follows, ended_follows, stored_refuses}
use Rattle.symbol_reader.proofs.values.read_end.Goals as goal
use Rattle.symbol_reader.proofs.values.read_end.Goals.{After-is}

-- what it takes beside a value: one cell
module _ (w : Bytes) where
  a_cell : (a : Or Fraction) → symbol_cells (or w 0 (value (1 ∷ []))) a ≡ or_cell 0 (λ (f : Fraction). 1) a ∷ []
  a_cell instead = refl
  a_cell (given f) = refl

  no_mark : (a : Or Fraction) (i v : ℕ) → symbol_marks (or w 0 (value (1 ∷ []))) a i v ≡ []
  no_mark instead i v = refl
  no_mark (given f) i v = refl

  -- the first token is the word
  is_first : {text : Bytes} {at f t : ℕ} → Found text at f t → same (slice f t text) w ≡ true → starts_with w (rest text at) ≡ false → ⊥
  is_first found e h = clash (sym (rw found.first refl) ∙ h) e

-- whether the token is the word
same_word : (c : After-is) → c.is.result ≡ same (token_at c.args.text.now c.in_ok-token.token).bytes c.args.word.now
same_word c = c.is.ensures ∙ ap (λ (w : Bytes). same w c.args.word.now) c.bytes-bytes.ensures

pub returns-in_err-token-clause-by_index : goal.returns-in_err-token-clause-by_index
returns-in_err-token-clause-by_index c = λ rs. missing_follows c.in_err-token.ensures c.from_residual.ensures.1

pub returns-then-is-clause-by_index : goal.returns-then-is-clause-by_index
returns-then-is-clause-by_index c =
    let w = c.args.word.now in
    let t = token_at c.args.text.now c.in_ok-token.token in
    let e = sym (same_word (goal.at.returns-then-is-clause-by_index c).After-is) ∙ c.if-is.true in
    λ rs.
    filled_follows c.in_ok-token.ensures (or_instead w 0 (value (1 ∷ [])) t 0 (λ (f : Fraction). 1) e) c.filled.ensures (λ a d. refl) (a_cell w) (instead_no_value w 0 (value (1 ∷ [])) t e)
    (no_mark w)

pub returns-then-is-clause-refuses : goal.returns-then-is-clause-refuses
returns-then-is-clause-refuses c =
    let w = c.args.word.now in
    let t = token_at c.args.text.now c.in_ok-token.token in
    let e = sym (same_word (goal.at.returns-then-is-clause-refuses c).After-is) ∙ c.if-is.true in
    stored_refuses c.in_ok-token.ensures (or_instead w 0 (value (1 ∷ [])) t 0 (λ (f : Fraction). 1) e) c.filled.ensures (⊎_elim (λ h. h) (λ h. absurd (is_first w c.in_ok-token.ensures e h.1))) (λ k. (k, refl))

pub returns-clause-by_index : goal.returns-clause-by_index
returns-clause-by_index c =
    let w = c.args.word.now in
    let t = token_at c.args.text.now c.in_ok-token.token in
    let e = sym (same_word (goal.at.returns-clause-by_index c).After-is) ∙ c.if-is.false in
    λ rs.
    ended_follows c.in_ok-token.ensures (or-given w 0 (value (1 ∷ [])) t _ (λ (f : Fraction). f) e (means_at c.bytes-bytes.ensures (c.value_in.ensures _ (1 ∷ [])))) c.ended.ensures
    (given_only w 0 (value (1 ∷ [])) t e (λ a. or_cell 0 (λ (f : Fraction). 1) a ≡ 1) (λ f. refl))
    (given_only w 0 (value (1 ∷ [])) t e (λ a. symbol_cells (or w 0 (value (1 ∷ []))) a ≡ 1 ∷ []) (λ f. refl))
    (given_only w 0 (value (1 ∷ [])) t e (λ a. symbol_values (or w 0 (value (1 ∷ []))) a ≡ end_value a ∷ []) (λ f. refl)) (no_mark w)

pub returns-clause-refuses : goal.returns-clause-refuses
returns-clause-refuses c =
    let w = c.args.word.now in
    let t = token_at c.args.text.now c.in_ok-token.token in
    let e = sym (same_word (goal.at.returns-clause-refuses c).After-is) ∙ c.if-is.false in
    stored_refuses {of = end_value} c.in_ok-token.ensures (or-given w 0 (value (1 ∷ [])) t _ (λ (f : Fraction). f) e (means_at c.bytes-bytes.ensures (c.value_in.ensures _ (1 ∷ [])))) c.ended.ensures (⊎_elim (λ h. inl h) (λ h. inr h.0))
    (λ k. (ap (λ (x : (ix : List ℕ) × List ℤ). x.0) k, ap (λ (x : (ix : List ℕ) × List ℤ). x.1) k))
