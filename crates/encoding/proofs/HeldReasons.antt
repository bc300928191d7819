-- What is proved of the definitions in specs/HeldReasons.antt.
-- Assumes nothing.
use Rattle.std.specs.Prelude.{◌≡◌, ℕ, ◌+◌, eqb, ℤ, get_or}
use Rattle.std.proofs.Math.Path.{refl, ap}
use Rattle.std.proofs.Common.{◌∙◌, arith}
use Rattle.std.proofs.Math.Bool.{cond}
use mathlib.Core.List.{List, [], ◌∷◌, ◌++◌, map}
use Rattle.std.proofs.Math.ListN.{length}
use Rattle.std.proofs.lemmas.List.{length-map}
use Rattle.arithmetic.specs.Fraction.{IsFraction}
use Rattle.arithmetic.specs.declared.Fraction.{Fraction}
use Rattle.tables.specs.Words as word
use Rattle.tables.specs.Cells.{part}
use Rattle.grammar.specs.Tree.{Multiplier, MultiplierList, Reason, asm, lin, rnd, uns, sol}
use Rattle.grammar.specs.Contents.{multiplier_cells, multiplier_values, reason_cells, reason_values}
use Rattle.grammar.specs.Lists.{Each}
use Rattle.grammar.specs.Positions.{StandsAt}
use Rattle.grammar.proofs.Positions.{stands_part, stands_here, stands_next}
use Rattle.grammar.specs.Ranges.{InRange, ReasonInRange}
use Rattle.rules.specs.Tests.{All}
use Rattle.rules.specs.Derivations.{named}
use Rattle.encoding.specs.Places.{indices_at, is_combined, reason_of, multipliers_of, named_by, after_word}
use Rattle.encoding.specs.Encodes.{EncodesMultipliers, EncodesReason}
use Rattle.encoding.specs.HeldPairs.{multiplier, Turns}
use Rattle.encoding.proofs.HeldPairs.{part_stands, all_stand, pairs_from_lem}
use Rattle.encoding.specs.HeldReasons.{word_in}

module _ (index rows : List ℕ) (r last own : ℕ) where
  -- the reason of row r stands after its row, and its last index after the reason
  abbrev pub ReasonAt : Reason → Type 0
  ReasonAt q = StandsAt index (reason_of index rows r) (reason_cells q ++ (last ∷ []))

  pub word_is : (q : Reason) → ReasonAt q → get_or index (reason_of index rows r) 0 ≡ word_in q
  word_is asm c = stands_here c 0
  word_is (lin m) c = stands_here c 0
  word_is (rnd m) c = stands_here c 0
  word_is (uns u) c = stands_here c 0
  word_is sol c = stands_here c 0

  combined_size : (m : MultiplierList) → InRange own m.count multiplier.key m.multipliers → length (multiplier_cells m) ≡ 1 + m.count
  combined_size m range = omega (arith, range.counted, length-map m.multipliers multiplier.key)

  -- how many cells it takes
  pub after_word_lem : (q : Reason) → ReasonInRange own q → ReasonAt q
      → 1 + after_word (get_or index (reason_of index rows r) 0) (get_or index (reason_of index rows r + 1) 0) ≡ length (reason_cells q)
  unfolding after_word
  after_word_lem q range c = ap (λ (w : ℕ). 1 + after_word w (get_or index (reason_of index rows r + 1) 0)) (word_is q c) ∙ by q range c
    where
      by : (q : Reason) → ReasonInRange own q → ReasonAt q → 1 + after_word (word_in q) (get_or index (reason_of index rows r + 1) 0) ≡ length (reason_cells q)
      by asm range c = refl
      by (lin m) range c = omega (arith, stands_here (stands_next c) 0, combined_size m range)
      by (rnd m) range c = omega (arith, stands_here (stands_next c) 0, combined_size m range)
      by (uns u) range c = refl
      by sol range c = refl

  -- the rows that it names
  pub named_stand : (q : Reason) → ReasonInRange own q → ReasonAt q → named_by index rows r ≡ named q
  unfolding named_by
  named_stand q range c =
      ap (λ (w : ℕ). cond (eqb w word.uns) (part (reason_of index rows r + 1) 4 index) (cond (is_combined w) (indices_at index (multipliers_of index rows r)) []))
      (word_is q c)
      ∙ by q range c
    where
      combined : (m : MultiplierList) → InRange own m.count multiplier.key m.multipliers
          → StandsAt index (reason_of index rows r + 1) (multiplier_cells m ++ (last ∷ []))
          → indices_at index (multipliers_of index rows r) ≡ map multiplier.key m.multipliers
      combined m range c =
          ap (λ (k : ℕ). part (reason_of index rows r + 1 + 1) k index) (stands_here c 0)
          ∙ part_stands m.count (length-map m.multipliers multiplier.key ∙ range.counted)
          (stands_part (map multiplier.key m.multipliers) (last ∷ []) (stands_next c))

      by : (q : Reason) → ReasonInRange own q → ReasonAt q
          → cond (eqb (word_in q) word.uns) (part (reason_of index rows r + 1) 4 index) (cond (is_combined (word_in q)) (indices_at index (multipliers_of index rows r)) []) ≡ named q
      by asm range c = refl
      by (lin m) range c = combined m range (stands_next c)
      by (rnd m) range c = combined m range (stands_next c)
      by (uns u) range c = part_stands 4 refl (stands_part (u.i1 ∷ u.l1 ∷ u.i2 ∷ u.l2 ∷ []) (last ∷ []) (stands_next c))
      by sol range c = refl

  -- its multipliers
  module _ {all : List Fraction} {values : List ℤ} (turns : Turns all values) (fractions : Each IsFraction all) where
    combined : (m : MultiplierList) → InRange own m.count multiplier.key m.multipliers
        → StandsAt index (reason_of index rows r + 1) (multiplier_cells m ++ (last ∷ [])) → StandsAt all (multipliers_of index rows r).number (multiplier_values m)
        → EncodesMultipliers index values (multipliers_of index rows r) m.multipliers
    combined m range c v = (
      pairs_from_lem turns multiplier range.counted (reason_of index rows r + 1) (multipliers_of index rows r).number (stands_part (multiplier_cells m) (last ∷ []) c) v,
      factors m.multipliers (all_stand (multiplier_values m) fractions v),
    )
      where
        factors : (ms : List Multiplier) → All IsFraction (map multiplier.val ms) → All (λ (x : Multiplier). IsFraction x.factor) ms
        factors [] h = tt
        factors (x ∷ ms) h = (h.0, factors ms h.1)

    pub reason_stands : (q : Reason) → ReasonInRange own q → ReasonAt q → StandsAt all (multipliers_of index rows r).number (reason_values q)
        → EncodesReason index values (multipliers_of index rows r) q
    reason_stands asm range c v = tt
    reason_stands (lin m) range c v = combined m range (stands_next c) v
    reason_stands (rnd m) range c v = combined m range (stands_next c) v
    reason_stands (uns u) range c v = tt
    reason_stands sol range c v = tt
