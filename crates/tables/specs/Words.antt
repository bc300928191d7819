-- The numbers that index cells take for words (document 01, "Tables lent by the caller"), each once. src/words.rt has the same
-- numbers for the code; the proofs hold them to these.
-- Assumes nothing.
use Rattle.std.specs.Prelude.{ℕ}

-- "`min` 0, `max` 1"
abbrev pub min : ℕ
min = 0

abbrev pub max : ℕ
max = 1

-- "`E` 0, `L` 1, `G` 2"
abbrev pub E : ℕ
E = 0

abbrev pub L : ℕ
L = 1

abbrev pub G : ℕ
G = 2

-- "`infeas` 0, `range` 1"
abbrev pub infeas : ℕ
infeas = 0

abbrev pub range : ℕ
range = 1

-- "Each end of a range takes a cell: 0 infinite .., 1 with a value"
abbrev pub infinite : ℕ
infinite = 0

abbrev pub finite : ℕ
finite = 1

-- "`asm` 0, `lin` 1, `rnd` 2, `uns` 3, `sol` 4"
abbrev pub asm : ℕ
asm = 0

abbrev pub lin : ℕ
lin = 1

abbrev pub rnd : ℕ
rnd = 2

abbrev pub uns : ℕ
uns = 3

abbrev pub sol : ℕ
sol = 4

-- "`OBJ` instead of a term list is 65,535, as is a last index of -1"
abbrev pub OBJ : ℕ
OBJ = 65535

abbrev pub never : ℕ
never = 65535
