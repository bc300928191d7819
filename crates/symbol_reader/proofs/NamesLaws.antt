-- The row table as lists of rows, derivations and solutions fill it: which names stand in it, and what stays as it was.
-- Assumes nothing.
use mathlib.Core.Path.{◌≡◌, refl, sym, ap, ◌∙◌}
use mathlib.Core.List.{List, [], ◌∷◌, ◌++◌, map}
use Prim.Native.Nat.{ℕ, zero, suc, ◌+◌, ◌*◌, ◌≤◌}
use native.Mathlib.Nat.{add-zero}
use native.Mathlib.Omega.{arith}
use lib.ListN.{length, take, drop, set, length-append, length-map}
use lib.Seq.{slice, sets, sets-eq, length-take-le, take_at, take-set-le}
use Rattle.text.specs.Bytes.{Bytes}
use Rattle.text.specs.Tokens.{Token}
use Rattle.grammar.specs.Format.{Or, instead, given, Symbol, row_name, or, Format, symbol, then, items, nothing, view}
use Rattle.grammar.specs.Layout.{cells, values, Mark, symbol_marks, marks_items, marks}
use Rattle.grammar.specs.Tables.{row_of, laid}
use Rattle.symbol_reader.specs.Steps.{State, name_at, Named}
use Rattle.symbol_reader.specs.Leaves.{names_in}
use Rattle.symbol_reader.proofs.Tables.{sets_append}
use Rattle.symbol_reader.proofs.Laws.{Loop}

-- ---- marks whose rows follow one another

-- the rows of the marks are r, r + 1, ..
abbrev pub Consecutive : ℕ → List Mark → Type 0
Consecutive r [] = Unit {0}
Consecutive r (m ∷ ms) = (m.row ≡ r) × Consecutive (suc r) ms

-- the cells of their rows
abbrev pub rows_of : List Mark → List ℕ
rows_of [] = []
rows_of (m ∷ ms) = row_of m ++ rows_of ms

abbrev pub mark_names : List Mark → List Bytes
mark_names ms = map (λ (m : Mark). m.name.bytes) ms

rows-length : (ms : List Mark) → length (rows_of ms) ≡ 4 * length ms
rows-length [] = refl
rows-length (m ∷ ms) = omega (arith, rows-length ms)

-- they are laid by one run of stores
pub laid_run : (r : ℕ) (ms : List Mark) (table : List ℕ) → Consecutive r ms → laid table ms ≡ sets table (4 * r) (rows_of ms)
laid_run r [] table h = refl
laid_run r (m ∷ ms) table h =
    let next : 4 * suc r ≡ 4 * r + 4 = omega arith in
    ap (λ (k : ℕ). laid (sets table (4 * k) (row_of m)) ms) h.0
    ∙ laid_run (suc r) ms (sets table (4 * r) (row_of m)) h.1
    ∙ ap (λ (k : ℕ). sets (sets table (4 * r) (row_of m)) k (rows_of ms)) next
    ∙ sym (sets_append (row_of m) (rows_of ms) table (4 * r))

-- the names in the cells of whole rows, and in those after them
pub names-append : (text : Bytes) (k : ℕ) (xs ys : List ℕ) → length xs ≡ 4 * k → names_in text (xs ++ ys) ≡ names_in text xs ++ names_in text ys
names-append text k [] ys e = refl
names-append text k (p ∷ []) ys e = absurd (let h : 1 ≡ 4 * k = e in omega arith)
names-append text k (p ∷ l ∷ []) ys e = absurd (let h : 2 ≡ 4 * k = e in omega arith)
names-append text k (p ∷ l ∷ c ∷ []) ys e = absurd (let h : 3 ≡ 4 * k = e in omega arith)
names-append text zero (p ∷ l ∷ c ∷ v ∷ xs) ys e = absurd (let h : suc (suc (suc (suc (length xs)))) ≡ 0 = e in omega arith)
names-append text (suc k) (p ∷ l ∷ c ∷ v ∷ xs) ys e =
    ap (λ (names : List Bytes). name_at text p l ∷ names)
    (names-append text k xs ys (let h : suc (suc (suc (suc (length xs)))) ≡ 4 * suc k = e in omega arith))

names-rows : (text : Bytes) (ms : List Mark) → Named text ms → names_in text (rows_of ms) ≡ mark_names ms
names-rows text [] h = refl
names-rows text (m ∷ ms) h = λ i. h.0 i ∷ names-rows text ms h.1 i

-- after they are laid, the names in the rows up to theirs are those before, and then theirs
pub laid-names : (text : Bytes) (r : ℕ) (ms : List Mark) (table : List ℕ) → Consecutive r ms → Named text ms → 4 * (r + length ms) ≤ length table
    → names_in text (slice 0 (4 * (r + length ms)) (laid table ms)) ≡ names_in text (slice 0 (4 * r) table) ++ mark_names ms
laid-names text r ms table h named fits =
    let top : 4 * (r + length ms) ≡ 4 * r + length (rows_of ms) = omega (arith, rows-length ms) in
    let before : length (take (4 * r) table) ≡ 4 * r = length-take-le (4 * r) table (omega arith) in
    let written : length (take (4 * r) table ++ rows_of ms) ≡ 4 * r + length (rows_of ms) = length-append (take (4 * r) table) (rows_of ms) ∙ ap (λ (k : ℕ). k + length (rows_of ms)) before in
    ap (names_in text)
    ((λ i. take (top i) (laid_run r ms table h i))
    ∙ ap (take (4 * r + length (rows_of ms))) (sets-eq (rows_of ms) table (4 * r) (omega arith))
    ∙ take_at (take (4 * r) table ++ rows_of ms) (drop (4 * r + length (rows_of ms)) table) (4 * r + length (rows_of ms)) written)
    ∙ names-append text r (take (4 * r) table) (rows_of ms) before
    ∙ ap (λ (names : List Bytes). names_in text (take (4 * r) table) ++ names) (names-rows text ms named)

-- ---- marks whose rows are all at least r

abbrev pub Beyond : ℕ → List Mark → Type 0
Beyond r [] = Unit {0}
Beyond r (m ∷ ms) = (r ≤ m.row) × Beyond r ms

pub consecutive_beyond : (r k : ℕ) (ms : List Mark) → r ≤ k → Consecutive k ms → Beyond r ms
consecutive_beyond r k [] e h = tt
consecutive_beyond r k (m ∷ ms) e h = (omega (arith, h.0), consecutive_beyond r (suc k) ms (omega arith) h.1)

take_sets : {A : Type 0} (n i : ℕ) (l vs : List A) → n ≤ i → take n (sets l i vs) ≡ take n l
take_sets n i l [] h = refl
take_sets n i l (x ∷ vs) h = take_sets n (suc i) (set l i x) vs (omega arith) ∙ take-set-le n l i x h

-- the rows before them stay as they were
pub laid_beyond : (r : ℕ) (ms : List Mark) (table : List ℕ) → Beyond r ms → slice 0 (4 * r) (laid table ms) ≡ slice 0 (4 * r) table
laid_beyond r [] table h = refl
laid_beyond r (m ∷ ms) table h =
    laid_beyond r ms (sets table (4 * m.row) (row_of m)) h.1
    ∙ take_sets (4 * r) (4 * m.row) table (row_of m) (omega (arith, h.0))

-- ---- items with one mark each

-- what is kept of a format has one mark, in this row and with this name
pub record OneMark {A : Type 0} (f : Format A) (own : ℕ) (name : A → Token) : Type 0 where
  pub is : (a : A) (i v : ℕ) → marks f a i v ≡ record { row = own; name = name a; cells = i; values = v } ∷ []

-- each item has one mark: their rows are r, r + 1, ..
pub record Marked {A : Type 0} (g : List A → Format A) (r : ℕ) (name : A → Token) : Type 0 where
  pub one : (before : List A) → OneMark (g before) (r + length before) name

module _ {A : Type 0} {g : List A → Format A} {r : ℕ} {name : A → Token} (h : Marked g r name) where
  abbrev marks_after : List A → List A → ℕ → ℕ → List Mark
  marks_after before xs i v = marks_items (λ b x. cells (g b) x) (λ b x. values (g b) x) (λ b x j w. marks (g b) x j w) before xs i v

  consecutive_after : (before xs : List A) (i v : ℕ) → Consecutive (r + length before) (marks_after before xs i v)
  consecutive_after before [] i v = tt
  consecutive_after before (x ∷ xs) i v =
      let more : r + length (before ++ (x ∷ [])) ≡ suc (r + length before) = omega (arith, length-append before (x ∷ [])) in
      rw ((h.one before).is x i v) (refl, rw more at (consecutive_after (before ++ (x ∷ [])) xs (i + length (cells (g before) x)) (v + length (values (g before) x))))

  names-after : (before xs : List A) (i v : ℕ) → mark_names (marks_after before xs i v) ≡ map (λ (x : A). (name x).bytes) xs
  names-after before [] i v = refl
  names-after before (x ∷ xs) i v =
      rw ((h.one before).is x i v)
      (ap (λ (names : List Bytes). (name x).bytes ∷ names) (names-after (before ++ (x ∷ [])) xs (i + length (cells (g before) x)) (v + length (values (g before) x))))

  module _ (n : ℕ) (xs : List A) (i v : ℕ) where
    pub marked_consecutive : Consecutive r (marks (items n g) xs i v)
    unfolding marks
    marked_consecutive = rw add-zero at (consecutive_after [] xs i v)

    pub marked-names : mark_names (marks (items n g) xs i v) ≡ map (λ (x : A). (name x).bytes) xs
    unfolding marks
    marked-names = names-after [] xs i v

    pub marked-length : length (marks (items n g) xs i v) ≡ length xs
    marked-length = sym (length-map (marks (items n g) xs i v) (λ (m : Mark). m.name.bytes)) ∙ ap length marked-names ∙ length-map xs (λ (x : A). (name x).bytes)

    -- after the items are laid, their names follow those before them
    pub marked-laid : (text : Bytes) (table : List ℕ) → Named text (marks (items n g) xs i v) → 4 * (r + length xs) ≤ length table
        → names_in text (slice 0 (4 * (r + length xs)) (laid table (marks (items n g) xs i v))) ≡ names_in text (slice 0 (4 * r) table) ++ map (λ (x : A). (name x).bytes) xs
    marked-laid text table named fits =
        let ms = marks (items n g) xs i v in
        ap (λ (k : ℕ). names_in text (slice 0 (4 * (r + k)) (laid table ms))) (sym marked-length)
        ∙ laid-names text r ms table marked_consecutive named (omega (arith, marked-length))
        ∙ ap (λ (names : List Bytes). names_in text (slice 0 (4 * r) table) ++ names) marked-names

    -- the rows before theirs stay as they were
    pub marked_beyond : (k : ℕ) (table : List ℕ) → k ≤ r → slice 0 (4 * k) (laid table (marks (items n g) xs i v)) ≡ slice 0 (4 * k) table
    marked_beyond k table e = laid_beyond k (marks (items n g) xs i v) table (consecutive_beyond k r (marks (items n g) xs i v) e marked_consecutive)

  -- the same of a loop that has read k items, and of a whole reading of them
  pub loop_names : {n k : ℕ} {text : Bytes} {s t : State} (l : Loop g n k text s t) → 4 * (r + k) ≤ length s.rows
      → names_in text (slice 0 (4 * (r + k)) t.rows) ≡ names_in text (slice 0 (4 * r) s.rows) ++ map (λ (x : A). (name x).bytes) l.done
  loop_names {n} {k} {text} {s} {t} l fits =
      (λ i. names_in text (slice 0 (4 * (r + sym l.count i)) (l.rows_is i)))
      ∙ marked-laid n l.done s.cursor.cells s.cursor.values text s.rows l.named (omega (arith, l.count))

-- ---- formats with no marks

pub record Unmarked {A : Type 0} (f : Format A) : Type 0 where
  pub none : (a : A) (i v : ℕ) → marks f a i v ≡ []

pub unmarked_symbol : {A : Type 0} {y : Symbol A} → ((a : A) (i v : ℕ) → symbol_marks y a i v ≡ []) → Unmarked (symbol y)
unfolding marks
unmarked_symbol h = record { none = h }

pub unmarked_nothing : Unmarked nothing
unfolding marks
unmarked_nothing = record { none = λ a i v. refl }

pub unmarked_then : {A : Type 0} {B : A → Type 0} {f : Format A} {g : (a : A) → Format (B a)} → Unmarked f → ((a : A) → Unmarked (g a)) → Unmarked (then f g)
unfolding marks
unmarked_then {f = f} h k =
    record { none = λ p i v. rw (h.none p.0 i v, (k p.0).none p.1 (i + length (cells f p.0)) (v + length (values f p.0))) }

pub unmarked_view : {A B : Type 0} {to : A → B} {from : B → A} {p : (a : A) → from (to a) ≡ a} {q : (b : B) → to (from b) ≡ b} {f : Format A} → Unmarked f → Unmarked (view to from p q f)
unfolding marks
unmarked_view {from = from} h = record { none = λ b i v. h.none (from b) i v }

pub unmarked_items : {A : Type 0} {g : List A → Format A} (n : ℕ) → ((before : List A) → Unmarked (g before)) → Unmarked (items n g)
unfolding marks
unmarked_items {A} {g} n h = record { none = λ xs i v. go [] xs i v }
  where
    go : (before xs : List A) (i v : ℕ) → marks_items (λ b x. cells (g b) x) (λ b x. values (g b) x) (λ b x j w. marks (g b) x j w) before xs i v ≡ []
    go before [] i v = refl
    go before (x ∷ xs) i v = rw ((h before).none x i v, go (before ++ (x ∷ [])) xs (i + length (cells (g before) x)) (v + length (values (g before) x)))

pub unmarked_or : {A : Type 0} {w : Bytes} {cell : ℕ} {y : Symbol A} → Unmarked (symbol y) → Unmarked (symbol (or w cell y))
unfolding marks
unmarked_or {A} {w} {cell} {y} h = record { none = go }
  where
    go : (a : Or A) (i v : ℕ) → symbol_marks (or w cell y) a i v ≡ []
    go instead i v = refl
    go (given a) i v = h.none a i v

-- ---- formats with one mark, which is their first token's

pub one_symbol : (own : ℕ) (used : List Bytes) → OneMark (symbol (row_name own used)) own (λ t. t)
unfolding marks
one_symbol own used = record { is = λ t i v. refl }

module _ {A : Type 0} {f : Format A} {own : ℕ} {name : A → Token} (h : OneMark f own name) where
  pub one_then : {B : A → Type 0} {g : (a : A) → Format (B a)} → ((a : A) → Unmarked (g a)) → OneMark (then f g) own (λ p. name p.0)
  unfolding marks
  one_then k =
      record { is = λ p i v. rw (h.is p.0 i v, (k p.0).none p.1 (i + length (cells f p.0)) (v + length (values f p.0))) }

  pub one_view : {B : Type 0} {to : A → B} {from : B → A} {p : (a : A) → from (to a) ≡ a} {q : (b : B) → to (from b) ≡ b} → OneMark (view to from p q f) own (λ b. name (from b))
  unfolding marks
  one_view {from = from} = record { is = λ b i v. h.is (from b) i v }
