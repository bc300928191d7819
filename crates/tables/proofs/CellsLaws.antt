-- What is fetched beyond a table's end, and what a store changes.
-- Assumes nothing.
use Rattle.std.specs.Prelude.{◌≡◌, refl, true, false, List, [], ◌∷◌, ℕ, suc, ◌+◌, ◌-◌, ◌*◌, ◌≤◌, ◌<◌, leb, ℤ, pos, length, get_or, set, take, drop}
use Rattle.std.proofs.Common.{sym, ap₂, ◌∙◌, add-one, arith, le-leb, length-set}
use Rattle.std.proofs.Math.Path.{ap}
use Rattle.std.proofs.Math.Bool.{cond}
use Rattle.std.proofs.lemmas.Bool.{lt-leb}
use Rattle.std.proofs.Math.ListN.{get_or-eq_default}
use Rattle.std.proofs.lemmas.List.Edits.{sets}
use Rattle.std.proofs.Math.Seq.{set_out}
use Rattle.arithmetic.specs.declared.Fraction.{Fraction}
use Rattle.tables.specs.Limits.{largest}
use Rattle.tables.specs.Cells.{CellIs, fraction_at, with_cell, with_value, with_entry, part}
use Rattle.tables.specs.declared.Entry.{Entry}

-- ---- fetching

pub cell_beyond : (table : List ℕ) (i : ℕ) → length table ≤ i → CellIs table i 0
cell_beyond table i le = record { is = sym (get_or-eq_default table 0 le); small = omega arith }

pub value_is : (values : List ℤ) (n : ℕ) {a b : ℤ} → a ≡ get_or values (2 * n) (pos 0) → b ≡ get_or values (2 * n + 1) (pos 0)
    → record { num = a; den = b } ≡ fraction_at values n
unfolding fraction_at
value_is values n p q = ap₂ (λ (a b : ℤ). record { num = a; den = b }) p q

pub value_beyond : (values : List ℤ) (n : ℕ) → length values ≤ n → record { num = pos 0; den = pos 0 } ≡ fraction_at values n
value_beyond values n le =
    value_is values n (sym (get_or-eq_default values (pos 0) (omega arith))) (sym (get_or-eq_default values (pos 0) (omega arith)))

-- ---- storing

pub with_cell_lem : (table : List ℕ) (i x : ℕ) → x ≤ largest → with_cell i x table ≡ set table i x
unfolding with_cell
with_cell_lem table i x le = ap (λ b. cond b (set table i x) table) (le-leb x largest le)

pub with_none : (table : List ℕ) (i x : ℕ) → largest < x → with_cell i x table ≡ table
unfolding with_cell
with_none table i x lt = ap (λ b. cond b (set table i x) table) (lt-leb x largest lt)

pub with_cell_size : (table : List ℕ) (i x : ℕ) → length (with_cell i x table) ≡ length table
unfolding with_cell
with_cell_size table i x = by_test (leb x largest)
  where
    by_test : (b : _) → length (cond b (set table i x) table) ≡ length table
    by_test true = length-set table i x
    by_test false = refl

pub with_cell_beyond : (table : List ℕ) (i x : ℕ) → length table ≤ i → with_cell i x table ≡ table
unfolding with_cell
with_cell_beyond table i x le = by_test (leb x largest)
  where
    by_test : (b : _) → cond b (set table i x) table ≡ table
    by_test true = set_out table i x le
    by_test false = refl

pub with_value_lem : (values : List ℤ) {first both : List ℤ} (n : ℕ) (f : Fraction) → first ≡ set values (2 * n) f.num → both ≡ set first (2 * n + 1) f.den → both ≡ with_value n f values
with_value_lem values n f p q = q ∙ rw (p, add-one)

pub with_value_beyond : (values : List ℤ) (n : ℕ) (f : Fraction) → length values ≤ n → with_value n f values ≡ values
with_value_beyond values n f le =
    ap (λ (l : List ℤ). set l (suc (2 * n)) f.den) (set_out values (2 * n) f.num (omega arith))
    ∙ set_out values (suc (2 * n)) f.den (omega arith)

pub with_entry_beyond : (rows : List ℕ) (r : ℕ) (e : Entry) → length rows ≤ r → with_entry r e rows ≡ rows
with_entry_beyond rows r e le =
    rw (with_cell_beyond rows (4 * r) e.place (omega arith), with_cell_beyond rows (4 * r + 1) e.size (omega arith), with_cell_beyond rows (4 * r + 2) e.cell (omega arith), with_cell_beyond rows (4 * r + 3) e.number (omega arith))

-- numbers that cells hold: the four of them, one after the other
pub with_entry_lem : (rows : List ℕ) (r : ℕ) (e : Entry) → e.place ≤ largest → e.size ≤ largest → e.cell ≤ largest → e.number ≤ largest
    → with_entry r e rows ≡ sets rows (4 * r) (e.place ∷ e.size ∷ e.cell ∷ e.number ∷ [])
with_entry_lem rows r e p s c n =
    let one : 4 * r + 1 ≡ suc (4 * r) = omega arith in
    let two : 4 * r + 2 ≡ suc (suc (4 * r)) = omega arith in
    let three : 4 * r + 3 ≡ suc (suc (suc (4 * r))) = omega arith in
    let first = set rows (4 * r) e.place in
    let second = set first (suc (4 * r)) e.size in
    let third = set second (suc (suc (4 * r))) e.cell in
    rw (one, two, three, with_cell_lem rows (4 * r) e.place p, with_cell_lem first (suc (4 * r)) e.size s, with_cell_lem second (suc (suc (4 * r))) e.cell c, with_cell_lem third (suc (suc (suc (4 * r)))) e.number n)

-- ---- parts

module _ {A : Type 0} (table : List A) (from count : ℕ) where
  pub part_is : from + count ≤ length table → part from count table ≡ take count (drop from table)
  unfolding part
  part_is le = ap (λ b. cond b (take count (drop from table)) []) (le-leb (from + count) (length table) le)

  pub part_none : length table < from + count → part from count table ≡ []
  unfolding part
  part_none lt = ap (λ b. cond b (take count (drop from table)) []) (lt-leb (from + count) (length table) lt)

  -- from one place to another
  pub part_cut : (end : ℕ) → end ≡ from + count → end ≤ length table → take (end - from) (drop from table) ≡ part from count table
  part_cut end e le = let n : end - from ≡ count = omega arith in rw n (sym (part_is (omega arith)))
