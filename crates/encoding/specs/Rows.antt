-- What fetching a row and a reason gives.
-- Assumes nothing.
use Rattle.std.specs.Prelude.{◌≡◌, Option, Some, None, List, ℕ, ◌≤◌, ℤ}
use Rattle.tables.specs.Limits.{largest}
use Rattle.tables.specs.Words as word
use Rattle.grammar.specs.Tree.{Row, Last, never, index as at, Tree}
use Rattle.grammar.specs.Certificate.{ReasonWord, asm_word, lin_word, rnd_word, uns_word, sol_word}
use Rattle.grammar.specs.Contents.{last_cell}
use Rattle.grammar.specs.Ranges.{LastInRange}
use Rattle.rules.specs.Rows.{terms_of}
use Rattle.senses.specs.Senses.{sense_is}
use Rattle.encoding.specs.Places.{terms_at, reason_of, last_of}
use Rattle.encoding.specs.declared.rows.ListedRow.{ListedRow}
use Rattle.encoding.specs.declared.reasons.Word.{Word}
use Rattle.encoding.specs.declared.reasons.Word.TheVariants.{Asm, Lin, Rnd, Uns, Sol}

-- a row with its terms where they stand in these tables
pub record RowIs (tree : Tree) (index : List ℕ) (values : List ℤ) (row : Row) (x : ListedRow) : Type 0 where
  pub place_is : x.place ≡ row.name.place
  pub sense_is_lem : sense_is x.bound.sense ≡ row.sense
  pub right_is : x.bound.right ≡ row.right
  pub terms_are : terms_at index values x.terms ≡ terms_of tree row

-- the cell of a reason's word: that of its row, its own two cells and those of its terms
pub record ReasonIs (index rows : List ℕ) (r q : ℕ) : Type 0 where
  pub is : q ≡ reason_of index rows r
  pub small : q ≤ 131072

-- the last index that an answer is: none is never
abbrev pub last_says : Option ℕ → Last
last_says None = never
last_says (Some i) = at i

-- the last index of row r, whose cell it is
pub record LastIs (index rows : List ℕ) (r : ℕ) (l : Option ℕ) : Type 0 where
  pub is : last_cell (last_says l) ≡ last_of index rows r
  pub small : LastInRange largest (last_says l)

-- the word that a cell is read as: each has its own, and a number that is no word's is read as `sol`
abbrev pub IsWord : ℕ → Word → Type 0
IsWord cell Asm = cell ≡ word.asm
IsWord cell Lin = cell ≡ word.lin
IsWord cell Rnd = cell ≡ word.rnd
IsWord cell Uns = cell ≡ word.uns
IsWord cell Sol = word.sol ≤ cell

-- for each case of the enum, the word of a reason
abbrev pub word_says : Word → ReasonWord
word_says Asm = asm_word
word_says Lin = lin_word
word_says Rnd = rnd_word
word_says Uns = uns_word
word_says Sol = sol_word
