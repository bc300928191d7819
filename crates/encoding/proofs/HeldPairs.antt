-- What is proved of the definitions in specs/HeldPairs.antt.
-- Assumes nothing.
use Rattle.std.specs.Prelude.{◌≡◌, refl, Bool, false, List, [], ◌∷◌, map, ℕ, ◌+◌, ◌*◌, ◌≤◌, eqb, ℤ, pos, length}
use Rattle.std.proofs.Math.Path.{sym, ap, ap₂}
use Rattle.std.proofs.Common.{◌∙◌, arith, ne_eqb}
use Rattle.std.proofs.Math.Bool.{cond}
use mathlib.Core.List.Memᴰ
use Rattle.std.proofs.lemmas.List.{length-map}
use Rattle.text.proofs.BytesLaws.{slice_take}
use Rattle.arithmetic.specs.declared.Fraction.{Fraction}
use Rattle.tables.specs.Limits.{most_variables}
use Rattle.tables.specs.Words as word
use Rattle.tables.specs.Cells.{fraction_at, part}
use Rattle.tables.proofs.CellsLaws.{part_is}
use Rattle.tables.specs.Pairs.{listed_in}
use Rattle.tables.specs.declared.Pairs.{Pairs}
use Rattle.grammar.specs.Tree.{TermList, Side, obj, listed, Tree}
use Rattle.grammar.specs.Contents.{side_cells, side_values}
use Rattle.grammar.proofs.Fits.{by_turns_length}
use Rattle.grammar.specs.Lists.{Each}
use Rattle.grammar.specs.Positions.{StandsAt}
use Rattle.grammar.proofs.Positions.{stands_slice, stands_inside, stands_here, stands_next}
use Rattle.grammar.specs.Ranges.{TermsInRange, SideInRange}
use Rattle.grammar.specs.Tables.{by_turns}
use Rattle.rules.specs.Tests.{All}
use Rattle.rules.specs.Rows.{objective, side_terms}
use Rattle.encoding.specs.Places.{indices_at, values_at, terms_at, pairs_from, cell_of, number_of, count_of, side_at, side_of, own_terms}
use Rattle.encoding.specs.HeldPairs.{Paired, term, Turns}

-- ---- parts

-- what stands in a table is that part of it
pub part_stands : {A : Type 0} {all : List A} {i : ℕ} {xs : List A} (count : ℕ) → length xs ≡ count → StandsAt all i xs → part i count all ≡ xs
part_stands {all = all} {i = i} {xs = xs} count e h =
    ap (λ (n : ℕ). part i n all) (sym e)
    ∙ part_is all i (length xs) (stands_inside h)
    ∙ sym (slice_take i (length xs) all)
    ∙ stands_slice h

-- what holds of each element holds of each of a part
pub all_stand : {A : Type 0} {P : A → Type 0} {all : List A} {i : ℕ} (xs : List A) → Each P all → StandsAt all i xs → All P xs
all_stand {A} {P} {all} xs p h = go xs (record { holds = λ x m. p.holds x (rw h.cut (Memᴰ.append_right h.before (Memᴰ.append_left h.after m))) })
  where
    go : (xs : List A) → Each P xs → All P xs
    go [] e = tt
    go (x ∷ xs) e = (e.holds x (Memᴰ.head refl), go xs (record { holds = λ y m. e.holds y (Memᴰ.tail m) }))

listed_back : {A : Type 0} (kind : Paired A) (xs : List A) → listed_in kind.make (map kind.key xs) (by_turns (map kind.val xs)) ≡ xs
unfolding listed_in
listed_back kind [] = refl
listed_back kind (x ∷ xs) = ap₂ ◌∷◌ (kind.back x) (listed_back kind xs)

module _ {all : List Fraction} {values : List ℤ} (turns : Turns all values) where
  pub fraction_is : {n : ℕ} {f : Fraction} {fs : List Fraction} → StandsAt all n (f ∷ fs) → fraction_at values n ≡ f
  unfolding fraction_at
  fraction_is v =
      let w = turns.stand v in
      ap₂ (λ (a b : ℤ). record { num = a; den = b }) (stands_here w (pos 0)) (stands_here (stands_next w) (pos 0))

  module _ {A : Type 0} (kind : Paired A) {index : List ℕ} {count : ℕ} {xs : List A} (counted : length xs ≡ count) where
    -- from the cell of the first index on
    pub pairs_are : (i n : ℕ) → StandsAt index i (map kind.key xs) → StandsAt all n (map kind.val xs)
        → listed_in kind.make (part i count index) (part (2 * n) (2 * count) values) ≡ xs
    pairs_are i n c v =
        ap₂ (listed_in kind.make)
        (part_stands count (length-map xs kind.key ∙ counted) c)
        (part_stands (2 * count) (omega (arith, by_turns_length (map kind.val xs), length-map xs kind.val)) (turns.stand v))
        ∙ listed_back kind xs

    -- from the cell of the count on
    pub pairs_from_lem : (i n : ℕ) → StandsAt index i (count ∷ map kind.key xs) → StandsAt all n (map kind.val xs)
        → listed_in kind.make (indices_at index (pairs_from index i n)) (values_at values (pairs_from index i n)) ≡ xs
    pairs_from_lem i n c v =
        ap (λ (k : ℕ). listed_in kind.make (part (i + 1) k index) (part (2 * n) (2 * k) values)) (stands_here c 0)
        ∙ pairs_are (i + 1) n (stands_next c) v

-- ---- the side of a row

-- a list has a count that is not the cell of `OBJ`
own-count : {n : ℕ} {t : TermList} → n ≤ most_variables → TermsInRange n t → eqb t.count word.OBJ ≡ false
own-count {t = t} few range = ne_eqb t.count word.OBJ (λ e. let m = range.most in omega arith)

pub side_size : (s : Side) → length (side_cells s) ≡ length (side_values s) + 1
side_size obj = refl
side_size (listed t) = omega (arith, length-map t.terms term.key, length-map t.terms term.val)

module _ {n : ℕ} (few : n ≤ most_variables) {index : List ℕ} (rows : List ℕ) (r : ℕ) {sense : ℕ} where
  pub own-terms : (s : Side) → SideInRange n s → StandsAt index (cell_of rows r) (sense ∷ side_cells s) → own_terms (count_of index rows r) ≡ length (side_values s)
  unfolding own_terms
  own-terms obj range c = ap own_terms (stands_here (stands_next c) 0)
  own-terms (listed t) range c =
      ap own_terms (stands_here (stands_next c) 0)
      ∙ ap (λ (b : Bool). cond b 0 t.count) (own-count few range)
      ∙ sym range.counted ∙ sym (length-map t.terms term.val)

  pub side_stands : (tree : Tree) (at : Pairs) {all : List Fraction} {values : List ℤ} {right : Fraction} → Turns all values
      → terms_at index values at ≡ objective tree → (s : Side) → SideInRange n s
      → StandsAt index (cell_of rows r) (sense ∷ side_cells s) → StandsAt all (number_of rows r) (right ∷ side_values s)
      → terms_at index values (side_of index rows at r) ≡ side_terms tree s
  unfolding side_at
  side_stands tree at {values = values} turns o obj range c v =
      let own = pairs_from index (cell_of rows r + 1) (number_of rows r + 1) in
      ap (λ (k : ℕ). terms_at index values (cond (eqb k word.OBJ) at own)) (stands_here (stands_next c) 0) ∙ o
  side_stands tree at {values = values} turns o (listed t) range c v =
      let own = pairs_from index (cell_of rows r + 1) (number_of rows r + 1) in
      ap (λ (k : ℕ). terms_at index values (cond (eqb k word.OBJ) at own)) (stands_here (stands_next c) 0)
      ∙ ap (λ (b : Bool). terms_at index values (cond b at own)) (own-count few range)
      ∙ pairs_from_lem turns term range.counted (cell_of rows r + 1) (number_of rows r + 1) (stands_next c) (stands_next v)
