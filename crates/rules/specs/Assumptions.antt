-- Assumption sets (000, "DER section"; document 01: "1,024 assumption sets, all empty at the start").
-- Assumes nothing.
use Rattle.std.specs.Prelude.{◌≡◌, Bool, true, false, cond, List, [], ◌∷◌, ◌++◌, map, ℕ, ◌<◌, eqb, length, get_or}
use Rattle.grammar.specs.Tree.{Row, Multiplier, MultiplierList, Unsplit, Reason, asm, lin, rnd, uns, sol, Derivation, Tree}
use Rattle.grammar.specs.Certificate.{is_assumption}
use Rattle.rules.specs.Tests.{In}
use Rattle.rules.specs.Rows.{Entry, given_row, derived_row, entry_at}

-- ---- `asm` rows

abbrev pub IsAssumption : Entry → Type 0
IsAssumption (given_row row) = ⊥
IsAssumption (derived_row d) = d.reason ≡ asm

abbrev pub assumed : Entry → Bool
assumed (given_row row) = false
assumed (derived_row d) = is_assumption d.reason

-- ---- in words

-- row i is derived for this reason
abbrev pub HasReason : Tree → ℕ → Reason → Type 0
HasReason tree i why = (d : Derivation) × (entry_at tree i ≡ derived_row d) × (d.reason ≡ why)

-- row a is one of the assumptions of row i. Named rows are below the row's own index, as the grammar has it. "`sol` and given
-- rows empty"
pub data Assumes (tree : Tree) (a : ℕ) : ℕ → Type 0 where
  -- "`asm` is itself alone"
  itself : {i : ℕ} → HasReason tree i asm → i ≡ a → Assumes tree a i
  -- "`lin`, `rnd` the union"
  by_lin : {i : ℕ} (ms : MultiplierList) (m : Multiplier) → HasReason tree i (lin ms) → In m ms.multipliers → m.row < i → Assumes tree a m.row → Assumes tree a i
  by_rnd : {i : ℕ} (ms : MultiplierList) (m : Multiplier) → HasReason tree i (rnd ms) → In m ms.multipliers → m.row < i → Assumes tree a m.row → Assumes tree a i
  -- "`uns` A(i1) without l1 joined with A(i2) without l2": of each it is only l1, or l2, that goes. Only `asm` rows are ever
  -- assumptions, so that an l row that is none takes nothing away (`AssumptionsLaws.only_assumptions`, `without_no_assumption`)
  by_first : {i : ℕ} (u : Unsplit) → HasReason tree i (uns u) → u.i1 < i → Assumes tree a u.i1 → (u.l1 ≡ a → ⊥) → Assumes tree a i
  by_second : {i : ℕ} (u : Unsplit) → HasReason tree i (uns u) → u.i2 < i → Assumes tree a u.i2 → (u.l2 ≡ a → ⊥) → Assumes tree a i

-- "with no assumptions"
abbrev pub NoAssumptions : Tree → ℕ → Type 0
NoAssumptions tree i = (a : ℕ) → Assumes tree a i → ⊥

-- ---- worked out: a set is a list of rows, the sets of all rows one list

-- a set without the row l: the set as it is, where l is not in it
abbrev pub without : ℕ → List ℕ → List ℕ
without l [] = []
without l (i ∷ set) = let rest = without l set in cond (eqb i l) rest (i ∷ rest)

-- the union of the sets of the rows that multipliers name
abbrev pub union_of : List (List ℕ) → List Multiplier → List ℕ
union_of sets [] = []
union_of sets (m ∷ ms) = get_or sets m.row [] ++ union_of sets ms

-- the set of the row with this index, from the sets of those before it
abbrev pub set_for : List (List ℕ) → ℕ → Reason → List ℕ
set_for sets own asm = own ∷ []
set_for sets own (lin ms) = union_of sets ms.multipliers
set_for sets own (rnd ms) = union_of sets ms.multipliers
set_for sets own (uns u) = without u.l1 (get_or sets u.i1 []) ++ without u.l2 (get_or sets u.i2 [])
set_for sets own sol = []

-- the sets so far, and then those of the derivations, in order
abbrev pub sets_from : List (List ℕ) → List Derivation → List (List ℕ)
sets_from sets [] = sets
sets_from sets (d ∷ ds) = sets_from (sets ++ (set_for sets (length sets) d.reason ∷ [])) ds

unfoldable pub sets_of : Tree → List (List ℕ)
sets_of tree = sets_from (map (λ (row : Row). []) tree.constraints.rows) tree.derivations.derivations

-- the set of a row
unfoldable pub assumptions_of : Tree → ℕ → List ℕ
assumptions_of tree i = get_or (sets_of tree) i []

abbrev pub is_empty : List ℕ → Bool
is_empty [] = true
is_empty (i ∷ set) = false
