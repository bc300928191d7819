-- The grammar of a certificate, VIPR 1.0 as document 01 restates it ("Spelling"): one format for each thing that 01 names, with
-- the record or the cases that are kept of it; first the parts, then the sections in 01's order.
-- Assumes nothing.
use Rattle.std.specs.Prelude.{◌≡◌, refl, Bool, true, false, cond, ◌&&◌, List, [], ◌∷◌, ◌++◌, map, ℕ, suc, ◌+◌, ◌-◌, leb, length}
use Rattle.std.proofs.Common.{ap, ap₂}
use Rattle.text.specs.Bytes.{Bytes}
use Rattle.text.specs.Tokens.{Token}
use Rattle.text.specs.Words as W
use Rattle.arithmetic.specs.declared.Fraction.{Fraction}
use Rattle.tables.specs.Limits.{most_variables, most_rows, most_solutions, most_assumptions}
use Rattle.tables.specs.Words as cell
use Rattle.grammar.specs.Tree.{Variables, Integers, Term, TermList, Direction, minimize, maximize, Objective, Sense, equal, at_most, at_least, Side, obj, listed, Row, Constraints, End, infinite, finite, Claim, infeas, range, Relation, Solution, Solutions, Multiplier, MultiplierList, Unsplit, Reason, asm, lin, rnd, uns, sol, Last, never, index, Derivation, Derivations, Tree}
use Rattle.grammar.specs.Format.{Word, Or, instead, given, word, placed, choice, number, name, row_name, value, or, Format, symbol, then, items, nothing, view}

-- ---- common parts

-- a word and what it stands for
abbrev pub means : {A : Type 0} → Bytes → A → Word A
means w a = record { bytes = w; meaning = a }

-- one of these words, none of them out of range
abbrev pub one_of : {A : Type 0} → (A → ℕ) → List (Word A) → Format A
one_of cell words = symbol (choice cell words (λ a. false))

-- a list taken there and back again
pub map_back : {A B : Type 0} (to : A → B) (from : B → A) → ((a : A) → from (to a) ≡ a) → (xs : List A) → map from (map to xs) ≡ xs
map_back to from same [] = refl
map_back to from same (x ∷ xs) = ap₂ ◌∷◌ (same x) (map_back to from same xs)

-- a count, at most this
abbrev pub count_to : ℕ → Format ℕ
count_to most = symbol (number (suc most) [])

-- an index, below this
abbrev pub index_below : ℕ → Format ℕ
index_below bound = symbol (number bound [])

-- an index below this, and none of those before it: "Each list has distinct indices"
abbrev pub new_index_below : ℕ → List ℕ → Format ℕ
new_index_below bound used = symbol (number bound used)

-- a value, which takes no index cell
abbrev pub plain_value : Format Fraction
plain_value = symbol (value [])

-- ---- "a count and that many pairs" of an index and a value

-- an index below the bound, none of those before it, and a value
pub record Pair : Type 0 where
  pub index : ℕ
  pub value : Fraction

abbrev pub pair : ℕ → List Pair → Format Pair
pair bound before =
    view {A = (i : ℕ) × Fraction} {B = Pair}
    (λ p. record { index = p.0; value = p.1 }) (λ p. (p.index, p.value)) (λ p. refl) (λ p. refl)
    (then (new_index_below bound (map (λ (p : Pair). p.index) before)) (λ i. plain_value))

-- at most so many of them as there are indices
abbrev pub pair_list : ℕ → Format ((k : ℕ) × List Pair)
pair_list bound = then (count_to bound) (λ k. items k (pair bound))

-- "A term list is a count and that many pairs of variable index and value", over n variables: "terms 0 to n"; "A variable's
-- index is below n"; "Zero coefficients are allowed"
abbrev pub as_term : Pair → Term
as_term p = record { variable = p.index; coefficient = p.value }

abbrev pub of_term : Term → Pair
of_term t = record { index = t.variable; value = t.coefficient }

abbrev pub term_list : ℕ → Format TermList
term_list n =
    view {A = (k : ℕ) × List Pair} {B = TermList}
    (λ p. record { count = p.0; terms = map as_term p.1 }) (λ t. (t.count, map of_term t.terms))
    (λ p. ap (λ (l : List Pair). (p.0, l)) (map_back as_term of_term (λ x. refl) p.1))
    (λ t. ap (λ (l : List Term). record { count = t.count; terms = l }) (map_back of_term as_term (λ x. refl) t.terms))
    (pair_list n)

-- ---- "A row is a name, a sense, a value, then a term list or `OBJ`"

-- "`E` 0, `L` 1, `G` 2"
abbrev pub sense_cell : Sense → ℕ
sense_cell equal = cell.E
sense_cell at_most = cell.L
sense_cell at_least = cell.G

abbrev pub sense : Format Sense
sense = one_of sense_cell (means W.E equal ∷ means W.L at_most ∷ means W.G at_least ∷ [])

-- what follows the count, or the word `OBJ` in its place: "`OBJ` instead of a term list is 65,535"
abbrev pub Listed : Or ℕ → Type 0
Listed instead = Unit {0}
Listed (given k) = List Pair

abbrev pub listed_terms : ℕ → (k : Or ℕ) → Format (Listed k)
listed_terms n instead = nothing
listed_terms n (given k) = items k (pair n)

abbrev pub as_side : (k : Or ℕ) × Listed k → Side
as_side (instead, u) = obj
as_side (given k, ps) = listed (record { count = k; terms = map as_term ps })

abbrev pub of_side : Side → (k : Or ℕ) × Listed k
of_side obj = (instead, tt)
of_side (listed t) = (given t.count, map of_term t.terms)

pub side_there : (x : (k : Or ℕ) × Listed k) → of_side (as_side x) ≡ x
side_there (instead, u) = refl
side_there (given k, ps) = ap (λ (l : List Pair). (given k, l)) (map_back as_term of_term (λ x. refl) ps)

pub side_back : (s : Side) → as_side (of_side s) ≡ s
side_back obj = refl
side_back (listed t) = ap (λ (l : List Term). listed (record { count = t.count; terms = l })) (map_back of_term as_term (λ x. refl) t.terms)

abbrev pub side : ℕ → Format Side
side n = view as_side of_side side_there side_back (then (symbol (or W.OBJ cell.OBJ (number (suc n) []))) (λ k. listed_terms n k))

-- the row with this index, whose name is none of those used
abbrev pub row : ℕ → ℕ → List Bytes → Format Row
row n own used =
    view {A = (t : Token) × ((s : Sense) × ((b : Fraction) × Side))} {B = Row}
    (λ p. record { name = p.0; sense = p.1.0; right = p.1.1.0; side = p.1.1.1 })
    (λ r. (r.name, (r.sense, (r.right, r.side)))) (λ p. refl) (λ r. refl)
    (then (symbol (row_name own used)) (λ t. then sense (λ s. then plain_value (λ b. side n))))

abbrev pub row_names : List Row → List Bytes
row_names rows = map (λ (r : Row). r.name.bytes) rows

-- ---- "A reason is `asm`, `sol`, `uns` with i1 l1 i2 l2, or `lin` or `rnd` with a count and that many pairs of row index and
-- value"

-- "multipliers 0 to the row's own index; a named row below its own index"
abbrev pub as_multiplier : Pair → Multiplier
as_multiplier p = record { row = p.index; factor = p.value }

abbrev pub of_multiplier : Multiplier → Pair
of_multiplier m = record { index = m.row; value = m.factor }

abbrev pub multiplier_list : ℕ → Format MultiplierList
multiplier_list own =
    view {A = (k : ℕ) × List Pair} {B = MultiplierList}
    (λ p. record { count = p.0; multipliers = map as_multiplier p.1 }) (λ m. (m.count, map of_multiplier m.multipliers))
    (λ p. ap (λ (l : List Pair). (p.0, l)) (map_back as_multiplier of_multiplier (λ x. refl) p.1))
    (λ m. ap (λ (l : List Multiplier). record { count = m.count; multipliers = l }) (map_back of_multiplier as_multiplier (λ x. refl) m.multipliers))
    (pair_list own)

-- i1 l1 i2 l2: "`uns` is no list and may repeat"
abbrev pub unsplit : ℕ → Format Unsplit
unsplit own =
    view {A = (i : ℕ) × ((l : ℕ) × ((j : ℕ) × ℕ))} {B = Unsplit}
    (λ p. record { i1 = p.0; l1 = p.1.0; i2 = p.1.1.0; l2 = p.1.1.1 })
    (λ u. (u.i1, (u.l1, (u.i2, u.l2)))) (λ p. refl) (λ u. refl)
    (then (index_below own) (λ i. then (index_below own) (λ l. then (index_below own) (λ j. index_below own))))

-- "`asm` 0, `lin` 1, `rnd` 2, `uns` 3, `sol` 4"
-- a reason's word, and what follows it
pub data ReasonWord : Type 0 where
  asm_word : ReasonWord
  lin_word : ReasonWord
  rnd_word : ReasonWord
  uns_word : ReasonWord
  sol_word : ReasonWord

abbrev pub reason_cell : ReasonWord → ℕ
reason_cell asm_word = cell.asm
reason_cell lin_word = cell.lin
reason_cell rnd_word = cell.rnd
reason_cell uns_word = cell.uns
reason_cell sol_word = cell.sol

abbrev pub reason_words : List (Word ReasonWord)
reason_words = means W.asm asm_word ∷ means W.lin lin_word ∷ means W.rnd rnd_word ∷ means W.uns uns_word ∷ means W.sol sol_word ∷ []

abbrev pub Detail : ReasonWord → Type 0
Detail asm_word = Unit {0}
Detail lin_word = MultiplierList
Detail rnd_word = MultiplierList
Detail uns_word = Unsplit
Detail sol_word = Unit {0}

abbrev pub detail : ℕ → (w : ReasonWord) → Format (Detail w)
detail own asm_word = nothing
detail own lin_word = multiplier_list own
detail own rnd_word = multiplier_list own
detail own uns_word = unsplit own
detail own sol_word = nothing

abbrev pub as_reason : (w : ReasonWord) × Detail w → Reason
as_reason (asm_word, u) = asm
as_reason (lin_word, m) = lin m
as_reason (rnd_word, m) = rnd m
as_reason (uns_word, u) = uns u
as_reason (sol_word, u) = sol

abbrev pub of_reason : Reason → (w : ReasonWord) × Detail w
of_reason asm = (asm_word, tt)
of_reason (lin m) = (lin_word, m)
of_reason (rnd m) = (rnd_word, m)
of_reason (uns u) = (uns_word, u)
of_reason sol = (sol_word, tt)

pub reason_there : (x : (w : ReasonWord) × Detail w) → of_reason (as_reason x) ≡ x
reason_there (asm_word, u) = refl
reason_there (lin_word, m) = refl
reason_there (rnd_word, m) = refl
reason_there (uns_word, u) = refl
reason_there (sol_word, u) = refl

pub reason_back : (r : Reason) → as_reason (of_reason r) ≡ r
reason_back asm = refl
reason_back (lin m) = refl
reason_back (rnd m) = refl
reason_back (uns u) = refl
reason_back sol = refl

-- "The 65th word `asm` is 5": the word is out of range where so many stand before it
abbrev pub is_asm : ReasonWord → Bool
is_asm asm_word = true
is_asm lin_word = false
is_asm rnd_word = false
is_asm uns_word = false
is_asm sol_word = false

-- for the row with the index own, with so many words `asm` before it
abbrev pub reason : ℕ → ℕ → Format Reason
reason own assumed =
    view as_reason of_reason reason_there reason_back
    (then (symbol (choice reason_cell reason_words (λ w. is_asm w && leb most_assumptions assumed))) (λ w. detail own w))

-- ---- "d times a row, `{`, a reason, `}`, a last index"

-- "last index below m + d", or "exactly `-1`", which is 65,535
abbrev pub as_last : Or ℕ → Last
as_last instead = never
as_last (given i) = index i

abbrev pub of_last : Last → Or ℕ
of_last never = instead
of_last (index i) = given i

pub last_there : (x : Or ℕ) → of_last (as_last x) ≡ x
last_there instead = refl
last_there (given i) = refl

pub last_back : (l : Last) → as_last (of_last l) ≡ l
last_back never = refl
last_back (index i) = refl

abbrev pub last : ℕ → Format Last
last rows = view as_last of_last last_there last_back (symbol (or W.minus_one cell.never (number rows [])))

abbrev pub is_assumption : Reason → Bool
is_assumption asm = true
is_assumption (lin m) = false
is_assumption (rnd m) = false
is_assumption (uns u) = false
is_assumption sol = false

-- how many of these are assumptions
abbrev pub assumptions : List Derivation → ℕ
assumptions [] = 0
assumptions (d ∷ ds) = let more = assumptions ds in cond (is_assumption d.reason) (suc more) more

-- over n variables, after m given rows with these names, of d derivations in all
abbrev pub derivation : ℕ → ℕ → List Bytes → ℕ → List Derivation → Format Derivation
derivation n m given-names d before =
    view {A = (r : Row) × ((o : Unit {0}) × ((q : Reason) × ((c : Unit {0}) × Last)))} {B = Derivation}
    (λ p. record { row = p.0; reason = p.1.1.0; last = p.1.1.1.1 })
    (λ r. (r.row, (tt, (r.reason, (tt, r.last))))) (λ p. refl) (λ r. refl)
    (then (row n (m + length before) (given-names ++ map (λ (x : Derivation). x.row.name.bytes) before))
    (λ r. then (symbol (word W.open_brace))
    (λ o. then (reason (m + length before) (assumptions before))
    (λ q. then (symbol (word W.close_brace))
    (λ c. last (m + d))))))

-- ---- "s times a name and a term list"

-- "Row 1,024+j, solution j"; "names of variables and of solutions may repeat"
abbrev pub solution : ℕ → List Solution → Format Solution
solution n before =
    view {A = (t : Token) × TermList} {B = Solution}
    (λ p. record { name = p.0; values = p.1 }) (λ s. (s.name, s.values)) (λ p. refl) (λ s. refl)
    (then (symbol (row_name (most_rows + length before) [])) (λ t. term_list n))

-- ---- "`infeas`, or `range` and two ends, each a value, or `-inf` for the lower, `inf` for the upper"

-- "Each end of a range takes a cell: 0 infinite (`-inf` only below, `inf` only above), 1 with a value"
abbrev pub as_end : Or Fraction → End
as_end instead = infinite
as_end (given f) = finite f

abbrev pub of_end : End → Or Fraction
of_end infinite = instead
of_end (finite f) = given f

pub end_there : (x : Or Fraction) → of_end (as_end x) ≡ x
end_there instead = refl
end_there (given f) = refl

pub end_back : (e : End) → as_end (of_end e) ≡ e
end_back infinite = refl
end_back (finite f) = refl

-- an end, whose infinite form is this word
abbrev pub end_or : Bytes → Format End
end_or w = view as_end of_end end_there end_back (symbol (or w cell.infinite (value (cell.finite ∷ []))))

-- "`infeas` 0, `range` 1"
pub data ClaimWord : Type 0 where
  infeas_word : ClaimWord
  range_word : ClaimWord

abbrev pub claim_cell : ClaimWord → ℕ
claim_cell infeas_word = cell.infeas
claim_cell range_word = cell.range

abbrev pub Ends : ClaimWord → Type 0
Ends infeas_word = Unit {0}
Ends range_word = (lower : End) × End

abbrev pub ends : (w : ClaimWord) → Format (Ends w)
ends infeas_word = nothing
ends range_word = then (end_or W.minus_inf) (λ lower. end_or W.inf)

abbrev pub as_claim : (w : ClaimWord) × Ends w → Claim
as_claim (infeas_word, u) = infeas
as_claim (range_word, e) = range e.0 e.1

abbrev pub of_claim : Claim → (w : ClaimWord) × Ends w
of_claim infeas = (infeas_word, tt)
of_claim (range lower upper) = (range_word, (lower, upper))

pub claim_there : (x : (w : ClaimWord) × Ends w) → of_claim (as_claim x) ≡ x
claim_there (infeas_word, u) = refl
claim_there (range_word, e) = refl

pub claim_back : (c : Claim) → as_claim (of_claim c) ≡ c
claim_back infeas = refl
claim_back (range lower upper) = refl

abbrev pub claim : Format Claim
claim =
    view as_claim of_claim claim_there claim_back
    (then (one_of claim_cell (means W.infeas infeas_word ∷ means W.range range_word ∷ [])) (λ w. ends w))

-- ---- the sections

-- "`min` 0, `max` 1"
abbrev pub direction_cell : Direction → ℕ
direction_cell minimize = cell.min
direction_cell maximize = cell.max

abbrev pub direction : Format Direction
direction = one_of direction_cell (means W.min minimize ∷ means W.max maximize ∷ [])

-- a section: its word, and then the rest
abbrev pub section : {A : Type 0} → Bytes → Format A → Format A
section {A} w f =
    view {A = (u : Unit {0}) × A} {B = A} (λ p. p.1) (λ a. (tt, a)) (λ p. refl) (λ a. refl) (then (symbol (word w)) (λ u. f))

-- "`VER` `1.0`"
abbrev pub version : Format (Unit {0})
version = section W.VER (symbol (word W.version))

-- "`VAR` n, n names": "variables n 0 to 256"
abbrev pub variables : Format Variables
variables =
    section W.VAR
    (view {A = (n : ℕ) × List Token} {B = Variables}
    (λ p. record { count = p.0; names = p.1 }) (λ v. (v.count, v.names)) (λ p. refl) (λ v. refl)
    (then (count_to most_variables) (λ n. items n (λ before. symbol name))))

-- "`INT`, a count, that many variable indices": "INT 0 to n"
abbrev pub integers : ℕ → Format Integers
integers n =
    section W.INT
    (view {A = (k : ℕ) × List ℕ} {B = Integers}
    (λ p. record { count = p.0; indices = p.1 }) (λ i. (i.count, i.indices)) (λ p. refl) (λ i. refl)
    (then (count_to n) (λ k. items k (λ before. new_index_below n before))))

-- "`OBJ`, `min` or `max`, a term list"
abbrev pub objective_section : ℕ → Format Objective
objective_section n =
    section W.OBJ
    (view {A = (c : Direction) × TermList} {B = Objective}
    (λ p. record { direction = p.0; terms = p.1 }) (λ o. (o.direction, o.terms)) (λ p. refl) (λ o. refl)
    (then direction (λ c. term_list n)))

-- "`CON` m b, m rows": "m 0 to 1,024; b 0 to m"
abbrev pub constraints : ℕ → Format Constraints
constraints n =
    section W.CON
    (view {A = (m : ℕ) × ((b : ℕ) × List Row)} {B = Constraints}
    (λ p. record { count = p.0; bounds = p.1.0; rows = p.1.1 }) (λ c. (c.count, (c.bounds, c.rows))) (λ p. refl) (λ c. refl)
    (then (count_to most_rows) (λ m. then (count_to m) (λ b. items m (λ before. row n (length before) (row_names before))))))

-- "`RTP`, then .."; the place of the word is kept: 10 names its line
abbrev pub relation : Format Relation
relation =
    view {A = (p : ℕ) × Claim} {B = Relation}
    (λ p. record { place = p.0; claim = p.1 }) (λ r. (r.place, r.claim)) (λ p. refl) (λ r. refl)
    (then (symbol (placed W.RTP)) (λ p. claim))

-- "`SOL` s, then s times ..": "s 0 to 64"
abbrev pub solution_section : ℕ → Format Solutions
solution_section n =
    section W.SOL
    (view {A = (s : ℕ) × List Solution} {B = Solutions}
    (λ p. record { count = p.0; solutions = p.1 }) (λ s. (s.count, s.solutions)) (λ p. refl) (λ s. refl)
    (then (count_to most_solutions) (λ s. items s (solution n))))

-- "`DER` d, then d times ..": "d 0 to 1,024 - m"; the place of the word is kept: 17 names its line where d is 0
abbrev pub derivation_section : ℕ → Constraints → Format Derivations
derivation_section n c =
    view {A = (p : ℕ) × ((d : ℕ) × List Derivation)} {B = Derivations}
    (λ p. record { place = p.0; count = p.1.0; derivations = p.1.1 }) (λ d. (d.place, (d.count, d.derivations))) (λ p. refl) (λ d. refl)
    (then (symbol (placed W.DER))
    (λ p. then (count_to (most_rows - c.count)) (λ d. items d (derivation n c.count (row_names c.rows) d))))

-- ---- the whole

-- the certificate's tree: what a text is read to
abbrev pub certificate : Format Tree
certificate =
    view {A = (u : Unit {0}) × ((v : Variables) × ((i : Integers) × ((o : Objective) × ((c : Constraints) × ((r : Relation) × ((s : Solutions) × Derivations))))))} {B = Tree}
    (λ p. record { variables = p.1.0; integers = p.1.1.0; objective = p.1.1.1.0; constraints = p.1.1.1.1.0; relation = p.1.1.1.1.1.0; solutions = p.1.1.1.1.1.1.0; derivations = p.1.1.1.1.1.1.1 })
    (λ t. (tt, (t.variables, (t.integers, (t.objective, (t.constraints, (t.relation, (t.solutions, t.derivations)))))))) (λ p. refl) (λ t. refl)
    (then version
    (λ u. then variables
    (λ v. then (integers v.count)
    (λ i. then (objective_section v.count)
    (λ o. then (constraints v.count)
    (λ c. then relation
    (λ r. then (solution_section v.count)
    (λ s. derivation_section v.count c))))))))
