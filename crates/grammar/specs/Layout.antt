-- What is kept of a text, as the tables hold it: index cells, values and names in file order, and for each name that the
-- row table keeps what its row says (document 01, "Tables lent by the caller").
-- Assumes nothing.
use Rattle.std.specs.Prelude.{List, [], ◌∷◌, ◌++◌, ℕ, ◌+◌, length}
use Rattle.text.specs.Bytes.{Bytes}
use Rattle.text.specs.Tokens.{Token}
use Rattle.arithmetic.specs.declared.Fraction.{Fraction}
use Rattle.grammar.specs.Format.{instead, given, Symbol, word, placed, choice, number, name, row_name, value, or, Format, symbol, then, items, nothing, view}

-- ---- what one token gives

-- "one cell for each count, variable or constraint index, and choice word"; "Names, braces, section words and VER take none"
abbrev pub symbol_cells : {A : Type 0} → Symbol A → A → List ℕ
symbol_cells (word w) u = []
symbol_cells (placed w) p = []
symbol_cells (choice cell words out) a = cell a ∷ []
symbol_cells (number bound used) n = n ∷ []
symbol_cells name t = []
symbol_cells (row_name row used) t = []
symbol_cells (value cells) f = cells
symbol_cells (or w cell s) instead = cell ∷ []
symbol_cells (or w cell s) (given a) = symbol_cells s a

abbrev pub symbol_values : {A : Type 0} → Symbol A → A → List Fraction
symbol_values (word w) u = []
symbol_values (placed w) p = []
symbol_values (choice cell words out) a = []
symbol_values (number bound used) n = []
symbol_values name t = []
symbol_values (row_name row used) t = []
symbol_values (value cells) f = f ∷ []
symbol_values (or w cell s) instead = []
symbol_values (or w cell s) (given a) = symbol_values s a

abbrev pub symbol_names : {A : Type 0} → Symbol A → A → List Bytes
symbol_names (word w) u = []
symbol_names (placed w) p = []
symbol_names (choice cell words out) a = []
symbol_names (number bound used) n = []
symbol_names name t = t.bytes ∷ []
symbol_names (row_name row used) t = t.bytes ∷ []
symbol_names (value cells) f = []
symbol_names (or w cell s) instead = []
symbol_names (or w cell s) (given a) = symbol_names s a

-- a name that the row table keeps: its row, and how many index cells and values stand before it in the file
pub record Mark : Type 0 where
  pub row : ℕ
  pub name : Token
  pub cells : ℕ
  pub values : ℕ

-- the marks of a token, after so many cells and values
abbrev pub symbol_marks : {A : Type 0} → Symbol A → A → ℕ → ℕ → List Mark
symbol_marks (word w) u i v = []
symbol_marks (placed w) p i v = []
symbol_marks (choice cell words out) a i v = []
symbol_marks (number bound used) n i v = []
symbol_marks name t i v = []
symbol_marks (row_name row used) t i v = record { row = row; name = t; cells = i; values = v } ∷ []
symbol_marks (value cells) f i v = []
symbol_marks (or w cell s) instead i v = []
symbol_marks (or w cell s) (given a) i v = symbol_marks s a i v

-- ---- what a format gives, in file order

-- what each item of a list gives, at the list of those before it
abbrev pub gather_items : {A X : Type 0} → (List A → A → List X) → List A → List A → List X
gather_items F before [] = []
gather_items F before (x ∷ xs) = F before x ++ gather_items F (before ++ (x ∷ [])) xs

module _ {X : Type 0} (of : (A : Type 0) → Symbol A → A → List X) where
  unfoldable pub gather : {A : Type 0} → Format A → A → List X
  gather (symbol {A = A} s) a = of A s a
  gather (then f g) ab = gather f ab.0 ++ gather (g ab.0) ab.1
  gather (items n g) xs = gather_items (λ before x. gather (g before) x) [] xs
  gather nothing u = []
  gather (view to from p q f) b = gather f (from b)

abbrev pub cells_of : (A : Type 0) → Symbol A → A → List ℕ
cells_of A s a = symbol_cells s a

abbrev pub values_of : (A : Type 0) → Symbol A → A → List Fraction
values_of A s a = symbol_values s a

abbrev pub names_of : (A : Type 0) → Symbol A → A → List Bytes
names_of A s a = symbol_names s a

-- "the numbers that index cells take, the values, all names"
abbrev pub cells : {A : Type 0} → Format A → A → List ℕ
cells f a = gather cells_of f a

abbrev pub values : {A : Type 0} → Format A → A → List Fraction
values f a = gather values_of f a

abbrev pub names : {A : Type 0} → Format A → A → List Bytes
names f a = gather names_of f a

-- the marks of a format, after so many cells and values
abbrev pub marks_items : {A : Type 0} → (List A → A → List ℕ) → (List A → A → List Fraction) → (List A → A → ℕ → ℕ → List Mark) → List A → List A → ℕ → ℕ → List Mark
marks_items C U M before [] i v = []
marks_items C U M before (x ∷ xs) i v =
    M before x i v ++ marks_items C U M (before ++ (x ∷ [])) xs (i + length (C before x)) (v + length (U before x))

unfoldable pub marks : {A : Type 0} → Format A → A → ℕ → ℕ → List Mark
marks (symbol s) a i v = symbol_marks s a i v
marks (then f g) ab i v =
    marks f ab.0 i v ++ marks (g ab.0) ab.1 (i + length (cells f ab.0)) (v + length (values f ab.0))
marks (items n g) xs i v =
    marks_items (λ before x. cells (g before) x) (λ before x. values (g before) x) (λ before x j w. marks (g before) x j w) [] xs i v
marks nothing u i v = []
marks (view to from p q f) b i v = marks f (from b) i v
