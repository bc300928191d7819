-- The assumption sets of a certificate as masks (document 01): "1,024 assumption sets, all empty at the start", "one bit for each
-- asm row".
-- Assumes nothing.
use Rattle.std.specs.Prelude.{◌≡◌, Bool, true, false, cond, ◌&&◌, List, [], ◌∷◌, ℕ, ◌-◌, max, eqb, ltb, length, get_or, take}
use Rattle.tables.specs.Limits.{most_rows, most_assumptions}
use Rattle.grammar.specs.Tree.{Reason, asm, lin, rnd, uns, sol, Tree}
use Rattle.grammar.specs.Certificate.{assumptions}
use Rattle.rules.specs.Rows.{entry_at}
use Rattle.rules.specs.Assumptions.{assumed, Assumes}
use Rattle.rules.specs.Derivations.{named}
use Rattle.sets.specs.Sets.{bit, one}

-- the bit of an `asm` row: how many of them there are before it
abbrev pub number : Tree → ℕ → ℕ
number tree r = assumptions (take (r - length tree.constraints.rows) tree.derivations.derivations)

-- the mask of row r in the array, which has none of a row beyond it
unfoldable pub mask_at : List ℕ → ℕ → ℕ
mask_at masks r = cond (ltb r most_rows) (get_or masks r 0) 0

-- a mask is that of row r: the bit of each of its assumptions is 1, and no other
pub record Represents (tree : Tree) (mask r : ℕ) : Type 0 where
  pub listed : (a : ℕ) → Assumes tree a r → bit mask (number tree a) ≡ 1
  pub marked : (j : ℕ) → bit mask j ≡ 1 → (a : ℕ) × Assumes tree a r × (number tree a ≡ j)

-- ---- the mask of one derivation more, bit by bit, from the masks of the rows before it

-- whether j is in the set of one of these rows
abbrev pub union_bit : List ℕ → List ℕ → ℕ → ℕ
union_bit masks [] j = 0
union_bit masks (i ∷ rows) j = max (bit (mask_at masks i) j) (union_bit masks rows j)

-- a bit of a set, and of the set of the row that is removed from it: removing an `asm` row clears its bit, and any other row,
-- given or derived, is in no set and clears none
abbrev pub removed : Bool → ℕ → ℕ → ℕ
removed true m l = m - l
removed false m l = m

-- whether it is in the set of row i without the row l
abbrev pub without_bit : Tree → List ℕ → ℕ → ℕ → ℕ → ℕ
without_bit tree masks i l j = removed (assumed (entry_at tree l)) (bit (mask_at masks i) j) (bit (mask_at masks l) j)

-- "`asm` is itself alone; `lin`, `rnd` the union; `uns` A(i1) without l1 joined with A(i2) without l2; `sol` .. empty": whether it
-- is in the set of a row that is derived for this reason, after n `asm` rows
abbrev pub reason_bit : Tree → List ℕ → ℕ → Reason → ℕ → ℕ
reason_bit tree masks n asm j = one (eqb j n && ltb n most_assumptions)
reason_bit tree masks n (lin ms) j = union_bit masks (named (lin ms)) j
reason_bit tree masks n (rnd ms) j = union_bit masks (named (rnd ms)) j
reason_bit tree masks n (uns u) j = max (without_bit tree masks u.i1 u.l1 j) (without_bit tree masks u.i2 u.l2 j)
reason_bit tree masks n sol j = 0
