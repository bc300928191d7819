-- Runs of stores into tables, and what the items of a list give.
-- Assumes nothing.
use mathlib.Core.Path.{◌≡◌, refl, sym, ap, ◌∙◌}
use mathlib.Core.List.{List, [], ◌∷◌, ◌++◌, append_assoc, append-nil}
use Prim.Native.Nat.{ℕ, suc, ◌+◌, ◌*◌, ◌≤◌}
use native.Mathlib.Nat.{add-zero}
use native.Mathlib.Omega.{arith}
use lib.IntN.{ℤ}
use lib.ListN.{length, take, drop, set, length-append}
use lib.Seq.{slice, sets, sets-eq, length-sets, length-take-le, drop_at, take-append_seam}
use Rattle.text.specs.Bytes.{Bytes}
use Rattle.text.proofs.BytesLaws.{slice_take}
use Rattle.arithmetic.specs.declared.Fraction.{Fraction}
use Rattle.grammar.specs.Layout.{gather_items, Mark, marks_items}
use Rattle.grammar.specs.Tables.{by_turns, row_of, laid}
use Rattle.symbol_reader.specs.Steps.{Named}

pub sets_append : {A : Type 0} (xs ys l : List A) (i : ℕ) → sets l i (xs ++ ys) ≡ sets (sets l i xs) (i + length xs) ys
sets_append [] ys l i = rw add-zero
sets_append (x ∷ xs) ys l i =
    sets_append xs ys (set l i x) (suc i) ∙ ap (λ (n : ℕ). sets (sets (set l i x) (suc i) xs) n ys) (omega arith)

-- what is written stands there
pub slice_sets : {A : Type 0} (vs l : List A) (i : ℕ) → i + length vs ≤ length l → slice i (i + length vs) (sets l i vs) ≡ vs
slice_sets vs l i h =
    slice_take i (length vs) (sets l i vs)
    ∙ rw (sets-eq vs l i h, append_assoc)
    (ap (take (length vs)) (drop_at (take i l) (vs ++ drop (i + length vs) l) i (length-take-le i l (omega arith)))
    ∙ take-append_seam vs (drop (i + length vs) l))

-- ---- values by turns

pub turns_append : (xs ys : List Fraction) → by_turns (xs ++ ys) ≡ by_turns xs ++ by_turns ys
turns_append [] ys = refl
turns_append (x ∷ xs) ys = ap (λ (l : List ℤ). x.num ∷ x.den ∷ l) (turns_append xs ys)

pub turns_length : (xs : List Fraction) → length (by_turns xs) ≡ 2 * length xs
turns_length [] = refl
turns_length (x ∷ xs) = omega (arith, turns_length xs)

-- ---- rows

pub laid-append : (xs ys : List Mark) (table : List ℕ) → laid table (xs ++ ys) ≡ laid (laid table xs) ys
laid-append [] ys table = refl
laid-append (m ∷ xs) ys table = laid-append xs ys (sets table (4 * m.row) (row_of m))

pub laid-length : (xs : List Mark) (table : List ℕ) → length (laid table xs) ≡ length table
laid-length [] table = refl
laid-length (m ∷ xs) table = laid-length xs (sets table (4 * m.row) (row_of m)) ∙ length-sets table (4 * m.row) (row_of m)

pub named-append : (text : Bytes) (xs ys : List Mark) → Named text xs → Named text ys → Named text (xs ++ ys)
named-append text [] ys h k = k
named-append text (m ∷ xs) ys h k = (h.0, named-append text xs ys h.1 k)

-- ---- one item more

pub gather_snoc : {A X : Type 0} (F : List A → A → List X) (before xs : List A) (x : A) → gather_items F before (xs ++ (x ∷ [])) ≡ gather_items F before xs ++ F (before ++ xs) x
gather_snoc F before [] x = append-nil (F before x) ∙ ap (λ b. F b x) (sym (append-nil before))
gather_snoc F before (y ∷ xs) x =
    ap (λ l. F before y ++ l)
    (gather_snoc F (before ++ (y ∷ [])) xs x ∙ ap (λ b. gather_items F (before ++ (y ∷ [])) xs ++ F b x) (append_assoc before (y ∷ []) xs))
    ∙ sym (append_assoc (F before y) (gather_items F (before ++ (y ∷ [])) xs) (F (before ++ (y ∷ xs)) x))

pub marks_snoc : {A : Type 0} (C : List A → A → List ℕ) (U : List A → A → List Fraction) (M : List A → A → ℕ → ℕ → List Mark) (before xs : List A) (x : A) (i v : ℕ)
    → marks_items C U M before (xs ++ (x ∷ [])) i v
    ≡ marks_items C U M before xs i v ++ M (before ++ xs) x (i + length (gather_items C before xs)) (v + length (gather_items U before xs))
marks_snoc C U M before [] x i v =
    append-nil (M before x i v)
    ∙ (λ k. M (sym (append-nil before) k) x (sym (add-zero i) k) (sym (add-zero v) k))
marks_snoc C U M before (y ∷ xs) x i v =
    let more = before ++ (y ∷ []) in
    let p : i + length (C before y) + length (gather_items C more xs) ≡ i + length (C before y ++ gather_items C more xs) = omega (arith, length-append (C before y) (gather_items C more xs)) in
    let q : v + length (U before y) + length (gather_items U more xs) ≡ v + length (U before y ++ gather_items U more xs) = omega (arith, length-append (U before y) (gather_items U more xs)) in
    let others = marks_items C U M more xs (i + length (C before y)) (v + length (U before y)) in
    ap (λ l. M before y i v ++ l)
    (marks_snoc C U M more xs x (i + length (C before y)) (v + length (U before y))
    ∙ (λ k. others ++ M (append_assoc before (y ∷ []) xs k) x (p k) (q k)))
    ∙ sym (append_assoc (M before y i v) others (M (before ++ (y ∷ xs)) x (i + length (C before y ++ gather_items C more xs)) (v + length (U before y ++ gather_items U more xs))))
