-- Worked cases: certificates as texts, and the answers that documents 01 and 02 give them, by reading and then checking, in one
-- list under one statement. Their words stand beside each, "would be an error" at 01's "Errors that look reasonable".
-- Assumes nothing.
use Rattle.std.specs.Prelude.{◌≡◌, refl, List, [], ◌∷◌, ◌++◌, map, ℕ}
use Prim.Native.String.{String}
use Rattle.text.specs.Bytes.{Bytes, is_separator, is_printable, is_digit}
use Rattle.text.specs.Ascii.{ascii}
use Rattle.text.specs.Comments.{comments_end}
use Rattle.text.specs.Tokens.{rest, stream_at}
use Rattle.text.specs.Lines.{line_of}
use Rattle.arithmetic.specs.Quotient.{lowest, floor_z, ceiling_z}
use Rattle.arithmetic.specs.Fraction.{is_fraction, on_fractions, within, order}
use Rattle.integers.specs.Gcd.{gcd, euclid}
use Rattle.numerals.specs.Spelling.{quotient_of}
use Rattle.numerals.specs.Reading.{read_value, outcome_of, narrowed}
use Rattle.grammar.specs.Reading.{read}
use Rattle.grammar.specs.Texts.{ReadText, taken, refused as stopped, read_of}
use Rattle.rules.specs.Result.{Result, done, Verdict}
use Rattle.rules.specs.Rows.{value_in, constraint_of, objective_with, entries, entry_at}
use Rattle.rules.specs.Solutions.{left_side, check_row, check_solution, objectives_of}
use Rattle.rules.specs.Domination.{is_absurd, same_coefficients, dominates}
use Rattle.rules.specs.Combinations.{is_suitable, sense_of, next_combination, combine, suitable_combination}
use Rattle.rules.specs.Rounding.{is_integral, can_be_rounded, rounded}
use Rattle.rules.specs.Splits.{is_split, is_proper_split}
use Rattle.rules.specs.Assumptions.{sets_of, assumptions_of}
use Rattle.rules.specs.Derivations.{check_lin, check_rnd, check_uns, check_derivation}
use Rattle.rules.specs.Claims.{is_proved}
use Rattle.rules.specs.Check.{check_of}

-- what the program prints: `verified`, or `refused C L`
pub data Answer : Type 0 where
  verified : Answer
  refused : ℕ → ℕ → Answer

abbrev pub lined : Bytes → Verdict → Answer
lined text (done u) = verified
lined text (Result.refused reason place) = refused reason (line_of text place)

-- reading, then checking
abbrev pub verdict : ReadText → Verdict
verdict (taken tree) = check_of tree
verdict (stopped reason place) = Result.refused reason place

abbrev pub answer : Bytes → Answer
answer text = lined text (verdict (read_of text))

-- a text, and the answer to it
pub record Case : Type 0 where
  pub text : Bytes
  pub expected : Answer

abbrev pub verifies : Bytes → Case
verifies text = record { text = text; expected = verified }

abbrev pub refuses : ℕ → ℕ → Bytes → Case
refuses reason line text = record { text = text; expected = refused reason line }

-- three lines, and then the others: x is an integer variable; x and y are; x is, and y is not; x, y and z are not
abbrev pub one_integer : String → Bytes
one_integer others = ascii "VER 1.0\nVAR 1 x\nINT 1 0\n" ++ ascii others

abbrev pub two_integers : String → Bytes
two_integers others = ascii "VER 1.0\nVAR 2 x y\nINT 2 0 1\n" ++ ascii others

abbrev pub mixed : String → Bytes
mixed others = ascii "VER 1.0\nVAR 2 x y\nINT 1 0\n" ++ ascii others

abbrev pub three_others : String → Bytes
three_others others = ascii "VER 1.0\nVAR 3 x y z\nINT 0\n" ++ ascii others

-- 01's example, by its lines 9, 12 and 14
abbrev pub example : String → String → String → Bytes
example row solution derived =
    ascii "VER 1.0\nVAR 1\nx\nINT 1\n0\nOBJ max\n1 0 1\nCON 1 0\n" ++ ascii row
    ++ ascii "\nRTP range 1 1\nSOL 1\n" ++ ascii solution
    ++ ascii "\nDER 1\n" ++ ascii derived ++ ascii "\n"

-- ---- texts by the parts that cases vary. x is an integer variable; where there is y, it is not

-- a given row, and the values of a solution
abbrev pub solved : String → String → Bytes
solved row values = mixed "OBJ min 0\nCON 1 0 R1 " ++ ascii row ++ ascii "\nRTP range -inf inf\nSOL 1 a " ++ ascii values ++ ascii "\nDER 0\n"

-- an objective, the ends of a range, and two solutions
abbrev pub reaches : String → String → String → Bytes
reaches objective ends solutions =
    mixed "OBJ " ++ ascii objective ++ ascii "\nCON 0 0\nRTP range " ++ ascii ends
    ++ ascii "\nSOL 2 " ++ ascii solutions ++ ascii "\nDER 0\n"

-- `lin` or `rnd` of two rows with these last indices, by row 3
abbrev pub lasts_named : String → String → String → Bytes
lasts_named reason first second =
    one_integer "OBJ min 1 0 1\nCON 1 0 R1 G 1 1 0 1\nRTP range 1 inf\nSOL 0\nDER 3\nD1 G 1 1 0 1 { lin 1 0 1 } " ++ ascii first
    ++ ascii "\nD2 G 1 1 0 1 { lin 1 0 1 } " ++ ascii second
    ++ ascii "\nD3 G 1 OBJ { " ++ ascii reason ++ ascii " 2 1 1/2 2 1/2 } -1\n"

-- `uns` of i1 l1 i2 l2 with these last indices, by row 6
abbrev pub lasts_of_uns : String → String → String → String → Bytes
lasts_of_uns i1 l1 i2 l2 =
    one_integer "OBJ min 0\nCON 2 0 R1 G 1 1 0 2 R2 L 1 1 0 2\nRTP infeas\nSOL 0\nDER 5\nA1 L 0 1 0 1 { asm } " ++ ascii l1
    ++ ascii "\nA2 G 1 1 0 1 { asm } " ++ ascii l2 ++ ascii "\nD1 G 1 0 { lin 2 0 1 2 -2 } " ++ ascii i1
    ++ ascii "\nD2 L -1 0 { lin 2 1 1 3 -2 } " ++ ascii i2 ++ ascii "\nD3 G 1 0 { uns 4 2 5 3 } -1\n"

-- three given rows, a derived row, and its multipliers
abbrev pub combines : String → String → String → Bytes
combines rows derived multipliers =
    mixed "OBJ min 1 0 1\nCON 3 0 " ++ ascii rows ++ ascii "\nRTP range -inf inf\nSOL 0\nDER 1\nD1 " ++ ascii derived
    ++ ascii " { lin " ++ ascii multipliers ++ ascii " } -1\n"

-- the rows x ≥ 1, x = 2 and x ≤ 3
abbrev pub signs : String → String → Bytes
signs derived multipliers = combines "R1 G 1 1 0 1 R2 E 2 1 0 1 R3 L 3 1 0 1" derived multipliers

-- `lin` or `rnd` of one given row, times 1, and the derived row
abbrev pub derives : String → String → String → Bytes
derives reason row derived =
    mixed "OBJ min 1 0 1\nCON 1 0 R1 " ++ ascii row ++ ascii "\nRTP range -inf inf\nSOL 0\nDER 1\nD1 " ++ ascii derived
    ++ ascii " { " ++ ascii reason ++ ascii " 1 0 1 } -1\n"

-- two l rows of `uns`; its i rows are the absurdity that is given
abbrev pub splits : String → String → Bytes
splits first second =
    mixed "OBJ min 0\nCON 1 0 R1 G 1 0\nRTP infeas\nSOL 0\nDER 3\nA1 " ++ ascii first ++ ascii " { asm } -1\nA2 " ++ ascii second
    ++ ascii " { asm } -1\nD1 G 1 0 { uns 0 1 0 2 } -1\n"

-- an objective, three solutions, and a row derived by `sol`
abbrev pub best : String → String → String → Bytes
best objective solutions derived =
    mixed "OBJ " ++ ascii objective ++ ascii "\nCON 0 0\nRTP range -inf inf\nSOL 3 " ++ ascii solutions
    ++ ascii "\nDER 1\nD1 " ++ ascii derived ++ ascii " { sol } -1\n"

-- an objective, a claim, and a row that is given and then derived from itself
abbrev pub proves : String → String → String → Bytes
proves objective claim row =
    mixed "OBJ " ++ ascii objective ++ ascii "\nCON 1 0 R1 " ++ ascii row ++ ascii "\nRTP " ++ ascii claim
    ++ ascii "\nSOL 0\nDER 1\nD1 " ++ ascii row ++ ascii " { lin 1 0 1 } -1\n"

unfoldable pub cases : List Case
cases =
    -- ---- document 01's example, and what it says of three others
    -- "prints the one line `verified`"
    verifies (example "R1 L 3 1 0 2" "a 1 0 1" "D1 L 1 OBJ { rnd 1 0 1/2 } -1")
    -- "With `D1 L 0` it prints `refused 15 14`"
    ∷ refuses 15 14 (example "R1 L 3 1 0 2" "a 1 0 1" "D1 L 0 OBJ { rnd 1 0 1/2 } -1")
    -- "with `a 1 0 2`, `refused 9 12`"
    ∷ refuses 9 12 (example "R1 L 3 1 0 2" "a 1 0 2" "D1 L 1 OBJ { rnd 1 0 1/2 } -1")
    -- "with `R1 L 1.5-101`, `refused 4 9`": reading goes before checking
    ∷ refuses 4 9 (example "R1 L 1.5-101 1 0 2" "a 1 0 1" "D1 L 1 OBJ { rnd 1 0 1/2 } -1")
    -- with exponents (02, request 1): the same row, and one too wide
    ∷ verifies (example "R1 L 0.3E+01 1 0 20e-1" "a 1 0 1E0" "D1 L 1 OBJ { rnd 1 0 5E-1 } -1")
    ∷ refuses 7 9 (example "R1 L 1.5E-101 1 0 2" "a 1 0 1" "D1 L 1 OBJ { rnd 1 0 1/2 } -1")
    -- "a misspelling near the end goes before a false solution near the start"
    ∷ refuses 4 9 (one_integer "OBJ min 0\nCON 1 0 R1 G 1 1 0 1\nRTP infeas\nSOL 1 a 0\nDER 1\nD1 G 1 0 { lin 1 0 1 } x\n")
    -- ---- source document 000's example, minimize x + y: `lin` and `rnd`, rows given as OBJ, last indices
    ∷ verifies (two_integers "OBJ min 2 0 1 1 1\nCON 2 0\nC1 G 1 2 0 4 1 1\nC2 L 2 2 0 4 1 -1\nRTP range 1 1\nSOL 2\nfeas 2 0 1 1 2\nopt 1 1 1\nDER 4\nC3 G -1/2 1 1 1 { lin 2 0 1/2 1 -1/2 } 3\nC4 G 0 1 1 1 { rnd 1 2 1 } 4\nC5 G 1/4 OBJ { lin 2 0 1/4 3 3/4 } 5\nC6 G 1 OBJ { rnd 1 4 1 } 0\n")
    -- ---- solutions
    -- "values of integer variables are whole, else 9"
    ∷ refuses 9 7 (one_integer "OBJ min 0\nCON 0 0\nRTP range -inf inf\nSOL 1 a 1 0 1/2\nDER 0\n")
    -- a variable that is not integer takes any value; one that is not listed has the value 0
    ∷ verifies (mixed "OBJ min 1 1 1\nCON 1 0 R1 E 1/2 2 0 1 1 1\nRTP range -inf 1/2\nSOL 1 a 1 1 1/2\nDER 0\n")
    -- "9 if the sense fails", at the solution's name: the second one fails
    ∷ refuses 9 8 (one_integer "OBJ min 0\nCON 1 0 R1 G 0 1 0 1\nRTP range -inf inf\nSOL 2 a 1 0 0\nb 1 0 -1\nDER 0\n")
    -- a row given as `OBJ` is the objective
    ∷ refuses 9 7 (one_integer "OBJ min 1 0 2\nCON 1 0 R1 L 1 OBJ\nRTP range -inf inf\nSOL 1 a 1 0 1\nDER 0\n")
    -- in one solution the integer test comes first: the row would be too wide
    ∷ refuses 9 7 (one_integer "OBJ min 0\nCON 1 0 R1 G 0 1 0 2147483647\nRTP range -inf inf\nSOL 1 a 1 0 2147483647/2\nDER 0\n")
    -- "then each given row in order": the first is too wide, the second would fail
    ∷ refuses 12 7 (one_integer "OBJ min 0\nCON 2 0 R1 G 0 1 0 2147483647 R2 L 0 1 0 1\nRTP range -inf inf\nSOL 1 a 1 0 2\nDER 0\n")
    -- the first fails, the second would be too wide
    ∷ refuses 9 7 (one_integer "OBJ min 0\nCON 2 0 R1 L 0 1 0 1 R2 G 0 1 0 2147483647\nRTP range -inf inf\nSOL 1 a 1 0 2\nDER 0\n")
    -- "adds coefficient times value in listed order; 12 on the way", though all three add up to 1
    ∷ refuses 12 7 (three_others "OBJ min 0\nCON 1 0 R1 E 1 3 0 2147483647 1 1 2 -2147483647\nRTP range -inf inf\nSOL 1 a 3 0 1 1 1 2 1\nDER 0\n")
    -- in another order nothing is too wide
    ∷ verifies (three_others "OBJ min 0\nCON 1 0 R1 E 1 3 0 2147483647 2 -2147483647 1 1\nRTP range -inf inf\nSOL 1 a 3 0 1 1 1 2 1\nDER 0\n")
    -- "Refusing for width a sum whose lowest terms fit" would be an error: these two fractions add up to 1
    ∷ verifies (two_integers "OBJ min 0\nCON 1 0 R1 E 1 2 0 1073741824/2147483647 1 1073741823/2147483647\nRTP range -inf inf\nSOL 1 a 2 0 1 1 1\nDER 0\n")
    -- each sense, on either side: x = 2
    ∷ verifies (solved "E 2 1 0 1" "1 0 2")
    ∷ refuses 9 7 (solved "E 2 1 0 1" "1 0 1")
    ∷ refuses 9 7 (solved "E 2 1 0 1" "1 0 3")
    -- x ≤ 2
    ∷ verifies (solved "L 2 1 0 1" "1 0 2")
    ∷ verifies (solved "L 2 1 0 1" "1 0 1")
    ∷ refuses 9 7 (solved "L 2 1 0 1" "1 0 3")
    -- x ≥ 2
    ∷ verifies (solved "G 2 1 0 1" "1 0 2")
    ∷ verifies (solved "G 2 1 0 1" "1 0 3")
    ∷ refuses 9 7 (solved "G 2 1 0 1" "1 0 1")
    -- "Comparisons are exact, never 12"
    ∷ verifies (solved "L 1/2147483646 1 1 1" "1 1 1/2147483647")
    ∷ refuses 9 7 (solved "G 1/2147483646 1 1 1" "1 1 1/2147483647")
    -- a left side of no terms is 0
    ∷ verifies (solved "G 0 0" "1 0 5")
    ∷ refuses 9 7 (solved "G 1 0" "1 0 5")
    -- whole values: negative, written as a fraction; and not whole below 0
    ∷ verifies (solved "L -3 1 0 1" "1 0 -3")
    ∷ verifies (solved "E 2 1 0 1" "1 0 4/2")
    ∷ refuses 9 7 (solved "L 9 0" "1 0 -1/2")
    -- each integer variable: here the last
    ∷ refuses 9 7 (two_integers "OBJ min 0\nCON 0 0\nRTP range -inf inf\nSOL 1 a 2 0 1 1 1/2\nDER 0\n")
    -- each given row: here the last
    ∷ refuses 9 7 (one_integer "OBJ min 0\nCON 3 0 R1 G 0 1 0 1 R2 L 1 1 0 1 R3 E 0 1 0 1\nRTP range -inf inf\nSOL 1 a 1 0 1\nDER 0\n")
    -- each solution: here the first
    ∷ refuses 9 7 (one_integer "OBJ min 0\nCON 1 0 R1 G 0 1 0 1\nRTP range -inf inf\nSOL 2 a 1 0 -1\nb 1 0 0\nDER 0\n")
    -- "numerator magnitude .. above 2,147,483,647 is refusal 12": a product and a sum at the limit, and a sum above it
    ∷ verifies (solved "E 2147483647 1 1 2147483647" "1 1 1")
    ∷ verifies (solved "E 2147483647 2 0 2147483646 1 1" "2 0 1 1 1")
    ∷ refuses 12 7 (solved "G 0 2 0 2147483647 1 1" "2 0 1 1 1")
    -- ---- objectives, and the claim reached
    -- "After all solutions, their objectives": the first objective would be too wide, the second solution fails
    ∷ refuses 9 8 (one_integer "OBJ min 1 0 2147483647\nCON 1 0 R1 G 0 1 0 1\nRTP range -inf inf\nSOL 2 a 1 0 2\nb 1 0 -1\nDER 0\n")
    -- 12 at the solution's name, also where no end is asked
    ∷ refuses 12 8 (one_integer "OBJ min 1 0 2147483647\nCON 0 0\nRTP range -inf inf\nSOL 2 a 1 0 1\nb 1 0 2\nDER 0\n")
    -- "Under `infeas` they are worked out and none is asked for"
    ∷ refuses 12 7 (one_integer "OBJ min 1 0 2147483647\nCON 0 0\nRTP infeas\nSOL 1 a 1 0 2\nDER 0\n")
    -- "If min with ub finite, some objective is at most ub .. else 10", at the word `RTP`
    ∷ refuses 10 6 (one_integer "OBJ min 1 0 1\nCON 0 0\nRTP range -inf 1\nSOL 2 a 1 0 2 b 1 0 3\nDER 0\n")
    -- some, not all
    ∷ verifies (one_integer "OBJ min 1 0 1\nCON 0 0\nRTP range -inf 1\nSOL 2 a 1 0 2 b 1 0 1\nDER 0\n")
    -- "if max with lb finite, some is at least lb"
    ∷ refuses 10 6 (one_integer "OBJ max 1 0 1\nCON 0 0\nRTP range 4 inf\nSOL 2 a 1 0 2 b 1 0 3\nDER 0\n")
    ∷ verifies (one_integer "OBJ max 1 0 1\nCON 0 0\nRTP range 3 inf\nSOL 2 a 1 0 2 b 1 0 3\nDER 0\n")
    -- a finite end is asked, and no solution is listed
    ∷ refuses 10 6 (one_integer "OBJ min 1 0 1\nCON 0 0\nRTP range -inf 1\nSOL 0\nDER 0\n")
    -- 10 comes before the derived rows: D1 would be 13
    ∷ refuses 10 6 (one_integer "OBJ min 1 0 1\nCON 2 0 R1 G 1 1 0 1 R2 L 3 1 0 1\nRTP range 1 1\nSOL 0\nDER 1\nD1 G 4 1 0 2 { lin 2 0 1 1 1 } -1\n")
    -- "and in order": the first of two that are too wide
    ∷ refuses 12 7 (one_integer "OBJ min 1 0 2147483647\nCON 0 0\nRTP range -inf inf\nSOL 2 a 1 0 2\nb 1 0 3\nDER 0\n")
    -- all objectives are worked out before one is asked for: the first reaches ub, the second is too wide
    ∷ refuses 12 8 (one_integer "OBJ min 1 0 2147483647\nCON 0 0\nRTP range -inf 1\nSOL 2 a 1 0 0\nb 1 0 2\nDER 0\n")
    -- min: below ub, at it and above it; the first, not the last
    ∷ verifies (reaches "min 1 1 1" "-inf 1/2" "a 1 1 1/3 b 1 1 2")
    ∷ verifies (reaches "min 1 1 1" "-inf 1/2" "a 1 1 1/2 b 1 1 2")
    ∷ refuses 10 6 (reaches "min 1 1 1" "-inf 1/2" "a 1 1 2/3 b 1 1 2")
    -- max: above lb, at it and below it
    ∷ verifies (reaches "max 1 1 1" "-1 inf" "a 1 1 -1/2 b 1 1 -2")
    ∷ verifies (reaches "max 1 1 1" "-1 inf" "a 1 1 -1 b 1 1 -2")
    ∷ refuses 10 6 (reaches "max 1 1 1" "-1 inf" "a 1 1 -3/2 b 1 1 -2")
    -- ---- spent rows
    -- "A derived row is spent for rows above its last index"
    ∷ refuses 11 10 (one_integer "OBJ min 1 0 1\nCON 1 0 R1 G 1 1 0 1\nRTP range 1 inf\nSOL 0\nDER 3 D1 G 1 1 0 1 { lin 1 0 1 } 2\nD2 G 1 1 0 1 { lin 1 1 1 } -1\nD3 G 1 OBJ { lin 1 1 1 } -1\n")
    -- not at its last index; "-1 means never; given rows never"
    ∷ verifies (one_integer "OBJ min 1 0 1\nCON 1 0 R1 G 1 1 0 1\nRTP range 1 inf\nSOL 0\nDER 3 D1 G 1 1 0 1 { lin 1 0 1 } 3\nD2 G 1 1 0 1 { lin 1 1 1 } -1\nD3 G 1 OBJ { lin 3 1 1 2 0 0 0 } 0\n")
    -- "first 11", and a row with multiplier 0 is named too: D2 would be 13
    ∷ refuses 11 9 (one_integer "OBJ min 1 0 1\nCON 2 0 R1 G 1 1 0 1 R2 L 3 1 0 1\nRTP range 1 inf\nSOL 0\nDER 2 D1 G 1 1 0 1 { lin 1 0 1 } 0\nD2 G 1 1 0 1 { lin 3 0 1 1 1 2 0 } -1\n")
    -- of `uns` all four rows are named: here l2 is spent
    ∷ refuses 11 12 (one_integer "OBJ min 0\nCON 2 0 R1 G 1 1 0 2 R2 L 1 1 0 2\nRTP infeas\nSOL 0\nDER 5 A1 L 0 1 0 1 { asm } -1\nA2 G 1 1 0 1 { asm } 5\nD1 G 1 0 { lin 2 0 1 2 -2 } -1\nD2 L -1 0 { lin 2 1 1 3 -2 } -1\nD3 G 1 0 { uns 4 2 5 3 } -1\n")
    -- a spent l row that is no `asm` row is 11 too: a `lin` row past its last index
    ∷ refuses 11 13 (one_integer "OBJ min 0\nCON 2 0 R1 L 0 1 0 2 R2 G 1 1 0 2\nRTP infeas\nSOL 0\nDER 5\nL1 L 0 1 0 1 { lin 1 0 1/2 } 5\nA1 G 1 1 0 1 { asm } -1\nD1 G 1 0 { lin 2 1 1 2 -2 } -1\nD2 G 1 0 { lin 2 3 1 2 -1 } -1\nD3 G 1 0 { uns 4 2 5 3 } -1\n")
    -- each place of `lin` and `rnd`: row 3 names two rows; their last index is 3, or 2 for one of them
    ∷ verifies (lasts_named "lin" "3" "3")
    ∷ refuses 11 11 (lasts_named "lin" "2" "3")
    ∷ refuses 11 11 (lasts_named "lin" "3" "2")
    ∷ verifies (lasts_named "rnd" "3" "3")
    ∷ refuses 11 11 (lasts_named "rnd" "2" "3")
    ∷ refuses 11 11 (lasts_named "rnd" "3" "2")
    -- each place of `uns`, i1 l1 i2 l2: row 6 names four rows
    ∷ verifies (lasts_of_uns "6" "6" "6" "6")
    ∷ refuses 11 13 (lasts_of_uns "5" "6" "6" "6")
    ∷ refuses 11 13 (lasts_of_uns "6" "5" "6" "6")
    ∷ refuses 11 13 (lasts_of_uns "6" "6" "5" "6")
    ∷ refuses 11 13 (lasts_of_uns "6" "6" "6" "5")
    -- "first 11": before 12, 14, 15 and 16
    ∷ refuses 11 10 (one_integer "OBJ min 1 0 1\nCON 1 0 R1 G 1 1 0 2147483647\nRTP range 1 inf\nSOL 0\nDER 2\nD1 G 1 1 0 2147483647 { lin 1 0 1 } 0\nD2 G 1 1 0 1 { lin 1 1 2 } -1\n")
    ∷ refuses 11 10 (one_integer "OBJ min 1 0 1\nCON 1 0 R1 E 1 1 0 1\nRTP range 1 inf\nSOL 0\nDER 2\nD1 E 1 1 0 1 { lin 1 0 1 } 0\nD2 G 1 1 0 1 { rnd 1 1 1 } -1\n")
    ∷ refuses 11 10 (one_integer "OBJ min 1 0 1\nCON 1 0 R1 G 1 1 0 1\nRTP range 1 inf\nSOL 0\nDER 2\nD1 G 1 1 0 1 { lin 1 0 1 } 0\nD2 G 2 1 0 1 { lin 1 1 1 } -1\n")
    ∷ refuses 11 10 (one_integer "OBJ min 0\nCON 1 0 R1 G 1 0\nRTP infeas\nSOL 0\nDER 2\nA1 L 0 1 0 1 { asm } 0\nD1 G 1 0 { uns 0 1 0 1 } -1\n")
    -- ---- lin
    -- "sign rule of 000, else 13": x ≥ 1 and x ≤ 3, both times 1
    ∷ refuses 13 9 (one_integer "OBJ min 1 0 1\nCON 2 0 R1 G 1 1 0 1 R2 L 3 1 0 1\nRTP range 1 inf\nSOL 0\nDER 1\nD1 G 4 1 0 2 { lin 2 0 1 1 1 } -1\n")
    -- 13 comes before 12
    ∷ refuses 13 9 (one_integer "OBJ min 1 0 1\nCON 2 0 R1 G 1 1 0 1 R2 L 3 1 0 2147483647\nRTP range 1 inf\nSOL 0\nDER 1\nD1 G 4 1 0 2 { lin 2 0 1 1 2 } -1\n")
    -- an equality goes with either sign, and so does a multiplier 0
    ∷ verifies (one_integer "OBJ min 1 0 1\nCON 3 0 R1 G 1 1 0 1 R2 E 2 1 0 1 R3 L 3 1 0 1\nRTP range 0 inf\nSOL 0\nDER 1\nD1 G 0 OBJ { lin 3 0 2 1 -1 2 0 } -1\n")
    -- all at most 0: a ≤-combination
    ∷ verifies (one_integer "OBJ max 1 0 1\nCON 2 0 R1 G 1 1 0 -1 R2 L 1 1 0 1\nRTP range -inf 0\nSOL 0\nDER 1\nD1 L 0 OBJ { lin 2 0 -1/2 1 1/2 } -1\n")
    -- "12 at the first too wide": a product, at the row's name
    ∷ refuses 12 9 (one_integer "OBJ min 1 0 1\nCON 1 0 R1 G 1 1 0 2147483647\nRTP range 1 inf\nSOL 0\nDER 1\nD1 G 1 1 0 1 { lin 1 0 2 } -1\n")
    -- a sum on the way, though the combination of all three is x ≥ 1
    ∷ refuses 12 9 (one_integer "OBJ min 1 0 1\nCON 3 0 R1 G 0 1 0 2147483647 R2 G 1 1 0 1 R3 G 0 1 0 -2147483647\nRTP range 1 inf\nSOL 0\nDER 1\nD1 G 1 1 0 1 { lin 3 0 1 1 1 2 1 } -1\n")
    -- the same three rows in another order
    ∷ verifies (one_integer "OBJ min 1 0 1\nCON 3 0 R1 G 0 1 0 2147483647 R2 G 1 1 0 1 R3 G 0 1 0 -2147483647\nRTP range 1 inf\nSOL 0\nDER 1\nD1 G 1 1 0 1 { lin 3 0 1 2 1 1 1 } -1\n")
    -- a right side
    ∷ refuses 12 9 (one_integer "OBJ min 1 0 1\nCON 1 0 R1 G 2147483647 1 0 1\nRTP range 1 inf\nSOL 0\nDER 1\nD1 G 1 1 0 1 { lin 1 0 2 } -1\n")
    -- "Then 15": 2 x ≥ 2 does not dominate x ≥ 1
    ∷ refuses 15 9 (one_integer "OBJ min 1 0 1\nCON 1 0 R1 G 1 1 0 1\nRTP range 1 inf\nSOL 0\nDER 1\nD1 G 1 1 0 1 { lin 1 0 2 } -1\n")
    -- "Calling a combination an equality because its terms cancelled" would be an error: this is 0 ≥ -1, and 0 = -1 is absurd
    ∷ refuses 15 9 (one_integer "OBJ min 0\nCON 2 0 R1 G 0 1 0 1 R2 L 1 1 0 1\nRTP infeas\nSOL 0\nDER 1\nD1 G 1 0 { lin 2 0 1 1 -1 } -1\n")
    -- "All multiplier-times-sign zero gives an equality": 0 = 1
    ∷ verifies (one_integer "OBJ min 0\nCON 2 0 R1 E 1 1 0 1 R2 E 2 1 0 1\nRTP infeas\nSOL 0\nDER 1\nD1 E 1 0 { lin 2 0 -1 1 1 } -1\n")
    -- "so does p = 0": 0 = 0 dominates 0 ≥ 0
    ∷ verifies (one_integer "OBJ min 0\nCON 0 0\nRTP range 0 inf\nSOL 0\nDER 1\nD1 G 0 OBJ { lin 0 } -1\n")
    -- x ≥ 1, x = 2 and x ≤ 3. Each alone, times 1 and times -1; ≥ and ≤ with opposite signs, either way; = beside them with
    -- either sign; a multiplier 0 beside any other, and 0 alone, which "gives an equality"; "so does p = 0"
    ∷ verifies (one_integer "OBJ min 0\nCON 3 0 R1 G 1 1 0 1 R2 E 2 1 0 1 R3 L 3 1 0 1\nRTP range -inf inf\nSOL 0\nDER 14\nD1 G 1 1 0 1 { lin 1 0 1 } -1\nD2 L -1 1 0 -1 { lin 1 0 -1 } -1\nD3 E 2 1 0 1 { lin 1 1 1 } -1\nD4 E -2 1 0 -1 { lin 1 1 -1 } -1\nD5 L 3 1 0 1 { lin 1 2 1 } -1\nD6 G -3 1 0 -1 { lin 1 2 -1 } -1\nD7 G -2 0 { lin 2 0 1 2 -1 } -1\nD8 L 2 0 { lin 2 0 -1 2 1 } -1\nD9 G 8 1 0 5 { lin 3 0 1 1 5 2 -1 } -1\nD10 G -12 1 0 -5 { lin 3 0 1 1 -5 2 -1 } -1\nD11 G 1 1 0 1 { lin 2 2 0 0 1 } -1\nD12 E 0 0 { lin 1 0 0 } -1\nD13 E 0 0 { lin 3 0 0 1 0 2 0 } -1\nD14 E 0 0 { lin 0 } -1\n")
    -- ≥ and ≤ of the same sign, also with = between them; two of one sense with opposite signs
    ∷ refuses 13 9 (signs "L -4 1 0 -2" "2 0 -1 2 -1")
    ∷ refuses 13 9 (signs "G 6 1 0 3" "3 0 1 1 1 2 1")
    ∷ refuses 13 9 (combines "R1 G 1 1 0 1 R2 G 2 1 0 1 R3 L 3 1 0 1" "G -1 0" "2 0 1 1 -1")
    ∷ refuses 13 9 (combines "R1 L 1 1 0 1 R2 L 2 1 0 1 R3 L 3 1 0 1" "L -1 0" "2 0 1 1 -1")
    -- the sense is no other: not = of ≥, not ≥ of ≥ times -1, not 0 = 1 of p = 0
    ∷ refuses 15 9 (signs "E 1 1 0 1" "1 0 1")
    ∷ refuses 15 9 (signs "G -1 1 0 -1" "1 0 -1")
    ∷ refuses 15 9 (signs "E 1 0" "0")
    -- a coefficient and a right side at the limit and above it, as sums
    ∷ verifies (combines "R1 G 0 1 0 2147483646 R2 G 0 1 0 1 R3 L 3 1 0 1" "G 0 1 0 2147483647" "2 0 1 1 1")
    ∷ refuses 12 9 (combines "R1 G 0 1 0 2147483647 R2 G 0 1 0 1 R3 L 3 1 0 1" "G 0 1 0 2147483647" "2 0 1 1 1")
    ∷ verifies (combines "R1 G -2147483646 1 0 1 R2 G -1 1 0 1 R3 L 3 1 0 1" "G -2147483647 1 0 2" "2 0 1 1 1")
    ∷ refuses 12 9 (combines "R1 G -2147483647 1 0 1 R2 G -1 1 0 1 R3 L 3 1 0 1" "G -2147483647 1 0 2" "2 0 1 1 1")
    -- ---- domination
    -- "absurdities dominate all": 0 ≥ 1 dominates x ≥ 5
    ∷ verifies (one_integer "OBJ min 1 0 1\nCON 2 0 R1 G 1 1 0 1 R2 L 0 1 0 1\nRTP range 5 inf\nSOL 0\nDER 1\nD1 G 5 OBJ { lin 2 0 1 1 -1 } -1\n")
    -- "`0 ≥ -1` is not dominated by every row"
    ∷ refuses 15 9 (one_integer "OBJ min 0\nCON 1 0 R1 G 1 1 0 1\nRTP infeas\nSOL 0\nDER 1\nD1 G -1 0 { lin 1 0 1 } -1\n")
    -- 0 ≥ 0 is no absurdity
    ∷ refuses 15 9 (one_integer "OBJ min 0\nCON 1 0 R1 G 0 0\nRTP infeas\nSOL 0\nDER 1\nD1 G 1 0 { lin 1 0 1 } -1\n")
    -- an equality dominates an equality and both inequalities; "Zero coefficients are allowed and mean nothing"
    ∷ verifies (two_integers "OBJ min 1 0 1\nCON 1 0 R1 E 2 1 0 1\nRTP range 1 inf\nSOL 0\nDER 3 D1 E 2 2 1 0 0 1 { lin 1 0 1 } -1\nD2 L 3 1 0 1 { lin 1 0 1 } -1\nD3 G 1 OBJ { lin 1 0 1 } -1\n")
    -- an inequality dominates no equality
    ∷ refuses 15 9 (one_integer "OBJ min 1 0 1\nCON 1 0 R1 G 2 1 0 1\nRTP range 1 inf\nSOL 0\nDER 1\nD1 E 2 1 0 1 { lin 1 0 1 } -1\n")
    -- and none of the other sense
    ∷ refuses 15 9 (one_integer "OBJ min 1 0 1\nCON 1 0 R1 G 2 1 0 1\nRTP range 1 inf\nSOL 0\nDER 1\nD1 L 2 1 0 1 { lin 1 0 1 } -1\n")
    -- and none with a tighter right side
    ∷ refuses 15 9 (one_integer "OBJ max 1 0 1\nCON 1 0 R1 L 2 1 0 1\nRTP range -inf 1\nSOL 0\nDER 1\nD1 L 1 1 0 1 { lin 1 0 1 } -1\n")
    -- each sense by each that dominates it, with the same right side and, but for =, another one: ≥ by ≥, ≥ by =, ≤ by ≤, ≤
    -- by =, = by =; right sides on both sides of 0 that are no whole numbers
    ∷ verifies (mixed "OBJ min 0\nCON 5 0 R1 G 2 1 0 1 R2 E 2 1 0 1 R3 L 2 1 0 1 R4 G 1/2 1 1 1 R5 L -1/2 1 1 1\nRTP range -inf inf\nSOL 0\nDER 11\nD1 G 2 1 0 1 { lin 1 0 1 } -1\nD2 G 1 1 0 1 { lin 1 0 1 } -1\nD3 G 2 1 0 1 { lin 1 1 1 } -1\nD4 G 1 1 0 1 { lin 1 1 1 } -1\nD5 L 2 1 0 1 { lin 1 2 1 } -1\nD6 L 3 1 0 1 { lin 1 2 1 } -1\nD7 L 2 1 0 1 { lin 1 1 1 } -1\nD8 L 3 1 0 1 { lin 1 1 1 } -1\nD9 E 2 1 0 1 { lin 1 1 1 } -1\nD10 G 1/3 1 1 1 { lin 1 3 1 } -1\nD11 L -1/3 1 1 1 { lin 1 4 1 } -1\n")
    -- and none with a right side on the other side: ≥ by ≥, ≥ by =, ≤ by =, = by = either way, and those that are no whole
    -- numbers
    ∷ refuses 15 9 (derives "lin" "G 2 1 0 1" "G 3 1 0 1")
    ∷ refuses 15 9 (derives "lin" "E 2 1 0 1" "G 3 1 0 1")
    ∷ refuses 15 9 (derives "lin" "E 2 1 0 1" "L 1 1 0 1")
    ∷ refuses 15 9 (derives "lin" "E 2 1 0 1" "E 1 1 0 1")
    ∷ refuses 15 9 (derives "lin" "E 2 1 0 1" "E 3 1 0 1")
    ∷ refuses 15 9 (derives "lin" "G 1/3 1 1 1" "G 1/2 1 1 1")
    ∷ refuses 15 9 (derives "lin" "L -1/3 1 1 1" "L -1/2 1 1 1")
    -- ≤ dominates neither ≥ nor =
    ∷ refuses 15 9 (derives "lin" "L 2 1 0 1" "G 2 1 0 1")
    ∷ refuses 15 9 (derives "lin" "L 2 1 0 1" "E 2 1 0 1")
    -- "equal coefficients": of each variable
    ∷ refuses 15 9 (derives "lin" "G 2 2 0 1 1 3" "G 2 2 0 2 1 3")
    ∷ refuses 15 9 (derives "lin" "G 2 2 0 1 1 3" "G 2 2 0 1 1 4")
    ∷ refuses 15 9 (derives "lin" "G 2 1 0 1" "G 2 2 0 1 1 1")
    ∷ refuses 15 9 (derives "lin" "G 2 2 0 1 1 1" "G 2 1 0 1")
    -- absurdities dominate rows of each sense: 0 = 1, 0 = -1, 0 ≤ -1/2, 0 ≥ 1/2, and 0 x + 0 y = 1
    ∷ verifies (mixed "OBJ min 0\nCON 5 0 R1 E 1 0 R2 E -1 0 R3 L -1/2 0 R4 G 1/2 0 R5 E 1 2 0 0 1 0\nRTP range -inf inf\nSOL 0\nDER 5\nD1 L -9 2 0 1 1 3 { lin 1 0 1 } -1\nD2 G 9 1 1 3 { lin 1 1 1 } -1\nD3 E 9 1 0 1 { lin 1 2 1 } -1\nD4 E -9 1 0 1 { lin 1 3 1 } -1\nD5 L -9 0 { lin 1 4 1 } -1\n")
    -- 0 = 0 is none, nor is y = 1
    ∷ refuses 15 9 (derives "lin" "E 0 0" "G 9 1 0 1")
    ∷ refuses 15 9 (derives "lin" "E 1 2 0 0 1 1" "L -9 1 0 1")
    -- ---- rnd
    -- "13"
    ∷ refuses 13 9 (one_integer "OBJ min 1 0 1\nCON 2 0 R1 G 1 1 0 1 R2 L 3 1 0 1\nRTP range 1 inf\nSOL 0\nDER 1\nD1 G 4 1 0 2 { rnd 2 0 1/2 1 1 } -1\n")
    -- "12": it could not be rounded either
    ∷ refuses 12 9 (mixed "OBJ min 1 0 1\nCON 1 0 R1 G 1 2 0 1/2 1 2147483647\nRTP range 1 inf\nSOL 0\nDER 1\nD1 G 1 1 0 1 { rnd 1 0 3 } -1\n")
    -- "then 14 if it is an equality", also with p = 0
    ∷ refuses 14 9 (one_integer "OBJ min 1 0 1\nCON 0 0\nRTP range 1 inf\nSOL 0\nDER 1\nD1 G 0 0 { rnd 0 } -1\n")
    -- also of an absurd one
    ∷ refuses 14 9 (one_integer "OBJ min 0\nCON 1 0 R1 E 1/2 0\nRTP infeas\nSOL 0\nDER 1\nD1 G 1 0 { rnd 1 0 1 } -1\n")
    -- "or a coefficient is not whole"
    ∷ refuses 14 9 (one_integer "OBJ min 1 0 1\nCON 1 0 R1 G 1 1 0 1\nRTP range 1 inf\nSOL 0\nDER 1\nD1 G 1 1 0 1/2 { rnd 1 0 1/2 } -1\n")
    -- "or a nonzero one stands at a variable that isn't integer"
    ∷ refuses 14 9 (mixed "OBJ min 1 0 1\nCON 1 0 R1 G 1/2 2 0 1 1 1\nRTP range 1 inf\nSOL 0\nDER 1\nD1 G 1 2 0 1 1 1 { rnd 1 0 1 } -1\n")
    -- 14 comes before 15: nothing dominates x ≥ 9 here
    ∷ refuses 14 9 (mixed "OBJ min 1 0 1\nCON 1 0 R1 G 1/2 2 0 1 1 1\nRTP range 1 inf\nSOL 0\nDER 1\nD1 G 9 1 0 1 { rnd 1 0 1 } -1\n")
    -- tested in the combination, after cancelling
    ∷ verifies (mixed "OBJ min 1 0 1\nCON 2 0 R1 G 1/2 2 0 1 1 1 R2 G 0 1 1 -1\nRTP range 1 inf\nSOL 0\nDER 1\nD1 G 1 OBJ { rnd 2 0 1 1 1 } -1\n")
    -- "Rounding a negative fraction toward zero" would be an error: "floor(-1/2) = -1", so that 2 x ≤ -1 gives x ≤ -1
    ∷ verifies (one_integer "OBJ max 1 0 1\nCON 1 0 R1 L -1 1 0 2\nRTP range -inf -1\nSOL 0\nDER 1\nD1 L -1 OBJ { rnd 1 0 1/2 } -1\n")
    -- "ceiling(-1/2) = 0": 2 x ≥ -1 gives x ≥ 0
    ∷ verifies (one_integer "OBJ min 1 0 1\nCON 1 0 R1 G -1 1 0 2\nRTP range 0 inf\nSOL 0\nDER 1\nD1 G 0 OBJ { rnd 1 0 1/2 } -1\n")
    -- and not x ≥ 1
    ∷ refuses 15 9 (one_integer "OBJ min 1 0 1\nCON 1 0 R1 G -1 1 0 2\nRTP range 1 inf\nSOL 0\nDER 1\nD1 G 1 OBJ { rnd 1 0 1/2 } -1\n")
    -- negated multipliers: 2 x ≤ 1 times -1/2 is -x ≥ -1/2, rounded -x ≥ 0
    ∷ verifies (one_integer "OBJ min 1 0 -1\nCON 1 0 R1 L 1 1 0 2\nRTP range 0 inf\nSOL 0\nDER 1\nD1 G 0 OBJ { rnd 1 0 -1/2 } -1\n")
    -- ⌊β⌋ under ≤, of 3/2, 3, 0, -1/2 and -3; ⌈β⌉ under ≥, of 3/2, 3, 0, -3/2 and -3; with coefficients -2, and 0 at a
    -- variable that is not integer; of no terms
    ∷ verifies (mixed "OBJ min 0\nCON 13 0 R1 L 3/2 1 0 1 R2 L 3 1 0 1 R3 L 0 1 0 1 R4 L -1/2 1 0 1 R5 L -3 1 0 1 R6 G 3/2 1 0 1 R7 G 3 1 0 1 R8 G 0 1 0 1 R9 G -3/2 1 0 1 R10 G -3 1 0 1 R11 L 1/2 1 0 -2 R12 G 1/2 2 0 1 1 0 R13 L 1/2 0\nRTP range -inf inf\nSOL 0\nDER 13\nD1 L 1 1 0 1 { rnd 1 0 1 } -1\nD2 L 3 1 0 1 { rnd 1 1 1 } -1\nD3 L 0 1 0 1 { rnd 1 2 1 } -1\nD4 L -1 1 0 1 { rnd 1 3 1 } -1\nD5 L -3 1 0 1 { rnd 1 4 1 } -1\nD6 G 2 1 0 1 { rnd 1 5 1 } -1\nD7 G 3 1 0 1 { rnd 1 6 1 } -1\nD8 G 0 1 0 1 { rnd 1 7 1 } -1\nD9 G -1 1 0 1 { rnd 1 8 1 } -1\nD10 G -3 1 0 1 { rnd 1 9 1 } -1\nD11 L 0 1 0 -2 { rnd 1 10 1 } -1\nD12 G 1 1 0 1 { rnd 1 11 1 } -1\nD13 L 0 0 { rnd 1 12 1 } -1\n")
    -- and no further: under ≤
    ∷ refuses 15 9 (derives "rnd" "L 3 1 0 1" "L 2 1 0 1")
    ∷ refuses 15 9 (derives "rnd" "L 0 1 0 1" "L -1 1 0 1")
    ∷ refuses 15 9 (derives "rnd" "L -1/2 1 0 1" "L -2 1 0 1")
    ∷ refuses 15 9 (derives "rnd" "L -3 1 0 1" "L -4 1 0 1")
    -- under ≥
    ∷ refuses 15 9 (derives "rnd" "G 3/2 1 0 1" "G 3 1 0 1")
    ∷ refuses 15 9 (derives "rnd" "G 3 1 0 1" "G 4 1 0 1")
    ∷ refuses 15 9 (derives "rnd" "G 0 1 0 1" "G 1 1 0 1")
    ∷ refuses 15 9 (derives "rnd" "G -3/2 1 0 1" "G 0 1 0 1")
    ∷ refuses 15 9 (derives "rnd" "G -3 1 0 1" "G -2 1 0 1")
    -- a coefficient -1/2; a variable that is not integer, though the right side is whole; an equality with a whole right
    -- side; "all multiplier-times-sign zero" is an equality too
    ∷ refuses 14 9 (derives "rnd" "L 1/2 1 0 -1/2" "L 0 1 0 -1/2")
    ∷ refuses 14 9 (derives "rnd" "G 1 1 1 1" "G 1 1 1 1")
    ∷ refuses 14 9 (derives "rnd" "E 1 1 0 1" "E 1 1 0 1")
    ∷ refuses 14 9 (one_integer "OBJ min 1 0 1\nCON 1 0 R1 G 1 1 0 1\nRTP range -inf inf\nSOL 0\nDER 1\nD1 G 0 0 { rnd 1 0 0 } -1\n")
    -- ---- uns: 2 x = 1 has no whole solution, for x ≤ 0 gives 0 ≥ 1 and x ≥ 1 gives 0 ≤ -1
    -- "`uns` A(i1) without l1 joined with A(i2) without l2": none is left
    ∷ verifies (one_integer "OBJ min 0\nCON 2 0 R1 G 1 1 0 2 R2 L 1 1 0 2\nRTP infeas\nSOL 0\nDER 5\nA1 L 0 1 0 1 { asm } -1\nA2 G 1 1 0 1 { asm } -1\nD1 G 1 0 { lin 2 0 1 2 -2 } -1\nD2 L -1 0 { lin 2 1 1 3 -2 } -1\nD3 G 1 0 { uns 4 2 5 3 } -1\n")
    -- "perhaps after reordering"
    ∷ verifies (one_integer "OBJ min 0\nCON 2 0 R1 G 1 1 0 2 R2 L 1 1 0 2\nRTP infeas\nSOL 0\nDER 5\nA1 L 0 1 0 1 { asm } -1\nA2 G 1 1 0 1 { asm } -1\nD1 G 1 0 { lin 2 0 1 2 -2 } -1\nD2 L -1 0 { lin 2 1 1 3 -2 } -1\nD3 G 1 0 { uns 5 3 4 2 } -1\n")
    -- only the sets pair i1 with l1: a proper split, and both assumptions are kept
    ∷ refuses 17 13 (one_integer "OBJ min 0\nCON 2 0 R1 G 1 1 0 2 R2 L 1 1 0 2\nRTP infeas\nSOL 0\nDER 5\nA1 L 0 1 0 1 { asm } -1\nA2 G 1 1 0 1 { asm } -1\nD1 G 1 0 { lin 2 0 1 2 -2 } -1\nD2 L -1 0 { lin 2 1 1 3 -2 } -1\nD3 G 1 0 { uns 4 3 5 2 } -1\n")
    -- "exactly β + 1", not β + 2
    ∷ refuses 16 13 (one_integer "OBJ min 0\nCON 2 0 R1 G 1 1 0 2 R2 L 1 1 0 2\nRTP infeas\nSOL 0\nDER 5\nA1 L 0 1 0 1 { asm } -1\nA2 G 2 1 0 1 { asm } -1\nD1 G 1 0 { lin 2 0 1 2 -2 } -1\nD2 L -1 0 { lin 2 1 1 3 -2 } -1\nD3 G 1 0 { uns 4 2 5 3 } -1\n")
    -- nor β
    ∷ refuses 16 13 (one_integer "OBJ min 0\nCON 2 0 R1 G 1 1 0 2 R2 L 1 1 0 2\nRTP infeas\nSOL 0\nDER 5\nA1 L 0 1 0 1 { asm } -1\nA2 G 0 1 0 1 { asm } -1\nD1 G 1 0 { lin 2 0 1 2 -2 } -1\nD2 L 1 0 { lin 2 1 1 3 -2 } -1\nD3 G 1 0 { uns 4 2 5 3 } -1\n")
    -- "whole β"
    ∷ refuses 16 13 (one_integer "OBJ min 0\nCON 2 0 R1 G 1 1 0 2 R2 L 1 1 0 2\nRTP infeas\nSOL 0\nDER 5\nA1 L 1/2 1 0 1 { asm } -1\nA2 G 3/2 1 0 1 { asm } -1\nD1 G 0 0 { lin 2 0 1 2 -2 } -1\nD2 L -2 0 { lin 2 1 1 3 -2 } -1\nD3 G 1 0 { uns 4 2 5 3 } -1\n")
    -- "one is L .., the other G"
    ∷ refuses 16 13 (one_integer "OBJ min 0\nCON 2 0 R1 G 1 1 0 2 R2 L 1 1 0 2\nRTP infeas\nSOL 0\nDER 5\nA1 G 0 1 0 1 { asm } -1\nA2 G 1 1 0 1 { asm } -1\nD1 L 0 0 { lin 0 } -1\nD2 L -1 0 { lin 2 1 1 3 -2 } -1\nD3 G 1 0 { uns 4 2 5 3 } -1\n")
    -- "coefficients equal"
    ∷ refuses 16 13 (one_integer "OBJ min 0\nCON 2 0 R1 G 1 1 0 2 R2 L 1 1 0 2\nRTP infeas\nSOL 0\nDER 5\nA1 L 0 1 0 2 { asm } -1\nA2 G 1 1 0 1 { asm } -1\nD1 G 1 0 { lin 2 0 1 2 -1 } -1\nD2 L -1 0 { lin 2 1 1 3 -2 } -1\nD3 G 1 0 { uns 4 2 5 3 } -1\n")
    -- "and whole"
    ∷ refuses 16 13 (one_integer "OBJ min 0\nCON 2 0 R1 G 1 1 0 2 R2 L 1 1 0 2\nRTP infeas\nSOL 0\nDER 5\nA1 L 0 1 0 1/2 { asm } -1\nA2 G 1 1 0 1/2 { asm } -1\nD1 G 1 0 { lin 2 0 1 2 -4 } -1\nD2 L -3 0 { lin 2 1 1 3 -4 } -1\nD3 G 1 0 { uns 4 2 5 3 } -1\n")
    -- "nonzero only at integer variables": the same with y for x
    ∷ refuses 16 13 (mixed "OBJ min 0\nCON 2 0 R1 G 1 1 1 2 R2 L 1 1 1 2\nRTP infeas\nSOL 0\nDER 5\nA1 L 0 1 1 1 { asm } -1\nA2 G 1 1 1 1 { asm } -1\nD1 G 1 0 { lin 2 0 1 2 -2 } -1\nD2 L -1 0 { lin 2 1 1 3 -2 } -1\nD3 G 1 0 { uns 4 2 5 3 } -1\n")
    -- β + 1 beyond the limit: "never 12"
    ∷ refuses 16 10 (one_integer "OBJ min 0\nCON 0 0\nRTP infeas\nSOL 0\nDER 3 A1 L 2147483647 1 0 1 { asm } -1\nA2 G 2147483647 1 0 1 { asm } -1\nD1 G 1 0 { uns 0 0 1 1 } -1\n")
    -- 16 comes before 15: the i rows are the l rows, and dominate nothing here
    ∷ refuses 16 13 (one_integer "OBJ min 0\nCON 2 0 R1 G 1 1 0 2 R2 L 1 1 0 2\nRTP infeas\nSOL 0\nDER 5\nA1 L 0 1 0 1 { asm } -1\nA2 G 2 1 0 1 { asm } -1\nD1 G 1 0 { lin 2 0 1 2 -2 } -1\nD2 L -1 0 { lin 2 1 1 3 -2 } -1\nD3 G 1 0 { uns 2 2 3 3 } -1\n")
    -- "Then each i row dominates, else 15": the second does not
    ∷ refuses 15 13 (one_integer "OBJ min 0\nCON 2 0 R1 G 1 1 0 2 R2 L 1 1 0 2\nRTP infeas\nSOL 0\nDER 5\nA1 L 0 1 0 1 { asm } -1\nA2 G 1 1 0 1 { asm } -1\nD1 G 1 0 { lin 2 0 1 2 -2 } -1\nD2 L -1 0 { lin 2 1 1 3 -2 } -1\nD3 G 1 0 { uns 4 2 0 3 } -1\n")
    -- the first does not
    ∷ refuses 15 13 (one_integer "OBJ min 0\nCON 2 0 R1 G 1 1 0 2 R2 L 1 1 0 2\nRTP infeas\nSOL 0\nDER 5\nA1 L 0 1 0 1 { asm } -1\nA2 G 1 1 0 1 { asm } -1\nD1 G 1 0 { lin 2 0 1 2 -2 } -1\nD2 L -1 0 { lin 2 1 1 3 -2 } -1\nD3 G 1 0 { uns 0 2 5 3 } -1\n")
    -- an empty left side is allowed, 0 ≤ 0 against 0 ≥ 1; `uns` "may repeat"
    ∷ verifies (one_integer "OBJ min 0\nCON 1 0 R1 G 1 0\nRTP infeas\nSOL 0\nDER 3\nA1 L 0 0 { asm } -1\nA2 G 1 0 { asm } -1\nD1 G 1 0 { uns 0 1 0 2 } -1\n")
    -- β and β + 1 for β = -3, -1 and 2; not β and β, nor β and β + 2, nor β + 1 and β
    ∷ verifies (splits "L -3 1 0 1" "G -2 1 0 1")
    ∷ refuses 16 11 (splits "L -3 1 0 1" "G -3 1 0 1")
    ∷ refuses 16 11 (splits "L -3 1 0 1" "G -1 1 0 1")
    ∷ verifies (splits "L -1 1 0 1" "G 0 1 0 1")
    ∷ verifies (splits "L 2 1 0 1" "G 3 1 0 1")
    ∷ refuses 16 11 (splits "L 2 1 0 1" "G 2 1 0 1")
    ∷ refuses 16 11 (splits "L 2 1 0 1" "G 4 1 0 1")
    ∷ refuses 16 11 (splits "L 3 1 0 1" "G 2 1 0 1")
    -- "perhaps after reordering"
    ∷ verifies (splits "G -2 1 0 1" "L -3 1 0 1")
    -- up to the limit
    ∷ verifies (splits "L 2147483646 1 0 1" "G 2147483647 1 0 1")
    -- "whole β"
    ∷ refuses 16 11 (splits "L -1/2 1 0 1" "G 1/2 1 0 1")
    ∷ refuses 16 11 (splits "L 0 1 0 1" "G 1/2 1 0 1")
    -- "one is L .., the other G"
    ∷ refuses 16 11 (splits "L 0 1 0 1" "L 1 1 0 1")
    ∷ refuses 16 11 (splits "E 0 1 0 1" "G 1 1 0 1")
    ∷ refuses 16 11 (splits "L 0 1 0 1" "E 1 1 0 1")
    -- "coefficients equal and whole", of either sign, in any order; a zero at a variable that is not integer
    ∷ verifies (splits "L 4 1 0 -3" "G 5 1 0 -3")
    ∷ verifies (splits "L 4 2 1 0 0 1" "G 5 2 0 1 1 0")
    ∷ refuses 16 11 (splits "L 4 1 0 1" "G 5 1 0 -1")
    ∷ refuses 16 11 (splits "L 4 2 0 1 1 1" "G 5 2 0 1 1 1")
    -- a split within a split: A3 and A4 go at D3, A1 and A2 at D5
    ∷ verifies (two_integers "OBJ min 0\nCON 1 0 R1 G 1 0\nRTP infeas\nSOL 0\nDER 9\nA1 L 0 1 0 1 { asm } -1\nA2 G 1 1 0 1 { asm } -1\nA3 L 0 1 1 1 { asm } -1\nA4 G 1 1 1 1 { asm } -1\nD1 G 1 0 { lin 3 0 1 1 0 3 0 } -1\nD2 G 1 0 { lin 3 0 1 1 0 4 0 } -1\nD3 G 1 0 { uns 5 3 6 4 } -1\nD4 G 1 0 { lin 2 0 1 2 0 } -1\nD5 G 1 0 { uns 7 1 8 2 } -1\n")
    -- at D3 A1 is kept
    ∷ refuses 17 15 (two_integers "OBJ min 0\nCON 1 0 R1 G 1 0\nRTP infeas\nSOL 0\nDER 7\nA1 L 0 1 0 1 { asm } -1\nA2 G 1 1 0 1 { asm } -1\nA3 L 0 1 1 1 { asm } -1\nA4 G 1 1 1 1 { asm } -1\nD1 G 1 0 { lin 3 0 1 1 0 3 0 } -1\nD2 G 1 0 { lin 3 0 1 1 0 4 0 } -1\nD3 G 1 0 { uns 5 3 6 4 } -1\n")
    -- ---- uns: 02, "Drop the condition that l rows are `asm` rows; the pair test stays"
    -- l1 is a given row, x ≤ 0, and x ≥ 1 is assumed
    ∷ verifies (one_integer "OBJ min 0\nCON 2 0 R1 L 0 1 0 1 R2 G 1 1 0 2\nRTP infeas\nSOL 0\nDER 4\nA1 G 1 1 0 1 { asm } -1\nD1 G 1 0 { lin 2 1 1 0 -2 } -1\nD2 G 1 0 { lin 2 2 1 0 -1 } -1\nD3 G 1 0 { uns 3 0 4 2 } -1\n")
    -- l1 is a `lin` row, x ≤ 0 from 2 x ≤ 0; it may be named at its last index
    ∷ verifies (one_integer "OBJ min 0\nCON 2 0 R1 L 0 1 0 2 R2 G 1 1 0 2\nRTP infeas\nSOL 0\nDER 5\nL1 L 0 1 0 1 { lin 1 0 1/2 } 6\nA1 G 1 1 0 1 { asm } -1\nD1 G 1 0 { lin 2 1 1 2 -2 } -1\nD2 G 1 0 { lin 2 3 1 2 -1 } -1\nD3 G 1 0 { uns 4 2 5 3 } -1\n")
    -- l1 is a given row and l2 a `lin` row: no assumption at all
    ∷ verifies (one_integer "OBJ min 0\nCON 2 0 R1 L 0 1 0 1 R2 G 2 1 0 2\nRTP infeas\nSOL 0\nDER 3\nL2 G 1 1 0 1 { lin 1 1 1/2 } -1\nD1 G 1 0 { lin 2 2 1 0 -1 } -1\nD2 G 1 0 { uns 3 0 3 2 } -1\n")
    -- l2 is a `rnd` row, x ≥ 1 from 2 x ≥ 1
    ∷ verifies (one_integer "OBJ min 0\nCON 2 0 R1 G 1 1 0 2 R2 L 1 1 0 2\nRTP infeas\nSOL 0\nDER 5\nA1 L 0 1 0 1 { asm } -1\nA2 G 1 1 0 1 { rnd 1 0 1/2 } -1\nD1 G 1 0 { lin 2 0 1 2 -2 } -1\nD2 L -1 0 { lin 2 1 1 3 -2 } -1\nD3 G 1 0 { uns 4 2 5 3 } -1\n")
    -- l2 is a `sol` row, and both are OBJ rows: x ≤ 0 is assumed, x ≥ 1 as good as a solution
    ∷ verifies (one_integer "OBJ max 1 0 1\nCON 1 0 R1 L 3 1 0 2\nRTP range 1 1\nSOL 1 a 1 0 1\nDER 5\nA1 L 0 OBJ { asm } -1\nS1 G 1 OBJ { sol } -1\nD1 L 1 OBJ { lin 1 1 1 } -1\nD2 L 1 OBJ { rnd 1 0 1/2 } -1\nD3 L 1 OBJ { uns 3 1 4 2 } -1\n")
    -- l2 is a `uns` row, x ≥ 1 under 0 ≤ 0 and under 0 ≥ 1
    ∷ verifies (one_integer "OBJ min 0\nCON 2 0 R1 L 0 1 0 1 R2 G 1 1 0 1\nRTP infeas\nSOL 0\nDER 5\nA1 L 0 0 { asm } -1\nA2 G 1 0 { asm } -1\nU1 G 1 1 0 1 { uns 1 2 1 3 } -1\nD1 G 1 0 { lin 2 4 1 0 -1 } -1\nD2 G 1 0 { uns 5 0 5 4 } -1\n")
    -- l1 is an OBJ row, and the objective is x
    ∷ verifies (one_integer "OBJ min 1 0 1\nCON 2 0 R1 L 0 OBJ R2 G 1 1 0 2\nRTP infeas\nSOL 0\nDER 4\nA1 G 1 1 0 1 { asm } -1\nD1 G 1 0 { lin 2 1 1 0 -2 } -1\nD2 G 1 0 { lin 3 1 1 0 -2 2 0 } -1\nD3 G 1 0 { uns 3 0 4 2 } -1\n")
    -- the objective is 2 x, and x is not: "coefficients equal"
    ∷ refuses 16 12 (one_integer "OBJ min 1 0 2\nCON 2 0 R1 L 0 OBJ R2 G 1 1 0 2\nRTP infeas\nSOL 0\nDER 4\nA1 G 1 1 0 1 { asm } -1\nD1 G 1 0 { lin 2 1 1 0 -1 } -1\nD2 G 1 0 { lin 3 1 1 0 -1 2 0 } -1\nD3 G 1 0 { uns 3 0 4 2 } -1\n")
    -- l1 is l2: a row is no pair
    ∷ refuses 16 12 (one_integer "OBJ min 0\nCON 2 0 R1 L 0 1 0 1 R2 G 1 1 0 2\nRTP infeas\nSOL 0\nDER 4\nA1 G 1 1 0 1 { asm } -1\nD1 G 1 0 { lin 2 1 1 0 -2 } -1\nD2 G 1 0 { lin 3 1 1 0 -2 2 0 } -1\nD3 G 1 0 { uns 3 0 4 0 } -1\n")
    ∷ refuses 16 12 (one_integer "OBJ min 0\nCON 2 0 R1 L 0 1 0 1 R2 G 1 1 0 2\nRTP infeas\nSOL 0\nDER 4\nA1 G 1 1 0 1 { asm } -1\nD1 G 1 0 { lin 2 1 1 0 -2 } -1\nD2 G 1 0 { lin 3 1 1 0 -2 2 0 } -1\nD3 G 1 0 { uns 3 2 4 2 } -1\n")
    -- the pair test stays: beside a given row x ≤ 0, x ≥ 2 is no other side
    ∷ refuses 16 12 (one_integer "OBJ min 0\nCON 2 0 R1 L 0 1 0 1 R2 G 1 1 0 2\nRTP infeas\nSOL 0\nDER 4\nA1 G 2 1 0 1 { asm } -1\nD1 G 1 0 { lin 2 1 1 0 -2 } -1\nD2 G 1 0 { lin 3 1 1 0 -2 2 0 } -1\nD3 G 1 0 { uns 3 0 4 2 } -1\n")
    -- nor x ≥ 0
    ∷ refuses 16 12 (one_integer "OBJ min 0\nCON 2 0 R1 L 0 1 0 1 R2 G 1 1 0 2\nRTP infeas\nSOL 0\nDER 4\nA1 G 0 1 0 1 { asm } -1\nD1 G 1 0 { lin 2 1 1 0 -2 } -1\nD2 G 1 0 { lin 3 1 1 0 -2 2 0 } -1\nD3 G 1 0 { uns 3 0 4 2 } -1\n")
    -- beside a given row x ≥ 1, x ≤ 0 is
    ∷ verifies (one_integer "OBJ min 0\nCON 2 0 R1 G 1 1 0 1 R2 L 1 1 0 2\nRTP infeas\nSOL 0\nDER 4\nA1 L 0 1 0 1 { asm } -1\nD1 L -1 0 { lin 2 1 1 0 -2 } -1\nD2 L -1 0 { lin 3 1 1 0 -2 2 0 } -1\nD3 L -1 0 { uns 4 2 3 0 } -1\n")
    -- and x ≤ -1 is not
    ∷ refuses 16 12 (one_integer "OBJ min 0\nCON 2 0 R1 G 1 1 0 1 R2 L 1 1 0 2\nRTP infeas\nSOL 0\nDER 4\nA1 L -1 1 0 1 { asm } -1\nD1 L -1 0 { lin 2 1 1 0 -2 } -1\nD2 L -1 0 { lin 3 1 1 0 -2 2 0 } -1\nD3 L -1 0 { uns 4 2 3 0 } -1\n")
    -- nor x ≤ 1
    ∷ refuses 16 12 (one_integer "OBJ min 0\nCON 2 0 R1 G 1 1 0 1 R2 L 1 1 0 2\nRTP infeas\nSOL 0\nDER 4\nA1 L 1 1 0 1 { asm } -1\nD1 L -1 0 { lin 2 1 1 0 -2 } -1\nD2 L -1 0 { lin 3 1 1 0 -2 2 0 } -1\nD3 L -1 0 { uns 4 2 3 0 } -1\n")
    -- A(i1) without l1, a given row, is A(i1): what i1 assumes stays
    ∷ refuses 17 13 (one_integer "OBJ min 0\nCON 2 0 R1 L 0 1 0 1 R2 G 1 1 0 2\nRTP infeas\nSOL 0\nDER 5\nA1 G 1 1 0 1 { asm } -1\nA2 L 5 1 0 1 { asm } -1\nD1 G 1 0 { lin 3 1 1 0 -2 3 0 } -1\nD2 G 1 0 { lin 2 2 1 0 -1 } -1\nD3 G 1 0 { uns 4 0 5 2 } -1\n")
    -- and of A(i2) it is l2 alone that goes
    ∷ refuses 17 13 (one_integer "OBJ min 0\nCON 2 0 R1 L 0 1 0 1 R2 G 1 1 0 2\nRTP infeas\nSOL 0\nDER 5\nA1 G 1 1 0 1 { asm } -1\nA2 L 5 1 0 1 { asm } -1\nD1 G 1 0 { lin 2 1 1 0 -2 } -1\nD2 G 1 0 { lin 3 2 1 0 -1 3 0 } -1\nD3 G 1 0 { uns 4 0 5 2 } -1\n")
    -- l2 goes from A(i2) only, and i1 assumes it too
    ∷ refuses 17 11 (one_integer "OBJ min 0\nCON 2 0 R1 L 0 1 0 1 R2 G 1 1 0 2\nRTP infeas\nSOL 0\nDER 3\nA1 G 1 1 0 1 { asm } -1\nD1 G 1 0 { lin 2 2 1 0 -1 } -1\nD2 G 1 0 { uns 3 0 3 2 } -1\n")
    -- l1, x ≤ 0, is a `lin` row that assumes A1, x ≤ -5: it is no `asm` row, so nothing goes, and A1 stays. -4 ≤ x ≤ 0 has whole
    -- solutions: without A1 this would be a wrong `verified`
    ∷ refuses 17 14 (one_integer "OBJ min 0\nCON 2 0 R1 G -4 1 0 1 R2 L 0 1 0 1\nRTP infeas\nSOL 0\nDER 6\nA1 L -5 1 0 1 { asm } -1\nL1 L 0 1 0 1 { lin 1 2 1 } -1\nA2 G 1 1 0 1 { asm } -1\nD1 G 1 0 { lin 2 0 1 2 -1 } -1\nD2 G 1 0 { lin 2 4 1 1 -1 } -1\nD3 G 1 0 { uns 5 3 6 4 } -1\n")
    -- l1 is a `lin` row that assumes A1, and a later `uns` names A1 itself
    ∷ verifies (one_integer "OBJ min 0\nCON 2 0 R1 G 1 1 0 2 R2 L 1 1 0 2\nRTP infeas\nSOL 0\nDER 7\nA1 L 0 1 0 1 { asm } -1\nA2 G 1 1 0 1 { asm } -1\nL1 L 0 1 0 1 { lin 1 2 1 } -1\nD1 G 1 0 { lin 2 0 1 4 -2 } -1\nD2 L -1 0 { lin 2 1 1 3 -2 } -1\nD3 G 1 0 { uns 5 4 6 3 } -1\nD4 G 1 0 { uns 7 2 6 3 } -1\n")
    -- ---- sol
    -- "18": no solution is listed
    ∷ refuses 18 9 (one_integer "OBJ min 1 0 1\nCON 0 0\nRTP range -inf inf\nSOL 0\nDER 1\nD1 L 1 OBJ { sol } -1\n")
    -- "OBJ ≤ best objective (min)": the least of 3 and 2
    ∷ verifies (one_integer "OBJ min 1 0 1\nCON 0 0\nRTP range -inf inf\nSOL 2 a 1 0 3 b 1 0 2\nDER 1\nD1 L 2 OBJ { sol } -1\n")
    -- and no less
    ∷ refuses 15 9 (one_integer "OBJ min 1 0 1\nCON 0 0\nRTP range -inf inf\nSOL 2 a 1 0 3 b 1 0 2\nDER 1\nD1 L 1 OBJ { sol } -1\n")
    -- "OBJ ≥ best (max)": the greatest of 2 and 3
    ∷ verifies (one_integer "OBJ max 1 0 1\nCON 0 0\nRTP range -inf inf\nSOL 2 a 1 0 2 b 1 0 3\nDER 1\nD1 G 3 OBJ { sol } -1\n")
    -- and not the sense for min
    ∷ refuses 15 9 (one_integer "OBJ max 1 0 1\nCON 0 0\nRTP range -inf inf\nSOL 1 a 1 0 2\nDER 1\nD1 L 2 OBJ { sol } -1\n")
    -- under `infeas` it follows its rule too
    ∷ refuses 17 9 (one_integer "OBJ min 1 0 1\nCON 0 0\nRTP infeas\nSOL 1 a 1 0 2\nDER 1\nD1 L 2 OBJ { sol } -1\n")
    -- the best of three, first or last; a weaker row, and a stronger one
    ∷ verifies (best "min 1 0 1" "a 1 0 2 b 1 0 3 c 1 0 4" "L 2 OBJ")
    ∷ verifies (best "min 1 0 1" "a 1 0 4 b 1 0 3 c 1 0 2" "L 2 OBJ")
    ∷ verifies (best "min 1 0 1" "a 1 0 3 b 1 0 2 c 1 0 4" "L 3 OBJ")
    ∷ verifies (best "max 1 0 1" "a 1 0 -2 b 1 0 -3 c 1 0 -4" "G -2 OBJ")
    ∷ verifies (best "max 1 0 1" "a 1 0 -3 b 1 0 -2 c 1 0 -4" "G -3 OBJ")
    ∷ refuses 15 9 (best "max 1 0 1" "a 1 0 -3 b 1 0 -2 c 1 0 -4" "G -1 OBJ")
    -- no other sense
    ∷ refuses 15 9 (best "min 1 0 1" "a 1 0 2 b 1 0 2 c 1 0 2" "G 2 OBJ")
    ∷ refuses 15 9 (best "min 1 0 1" "a 1 0 2 b 1 0 2 c 1 0 2" "E 2 OBJ")
    -- the objective's terms, listed; other terms
    ∷ verifies (best "min 1 0 1" "a 1 0 3 b 1 0 2 c 1 0 4" "L 2 1 0 1")
    ∷ refuses 15 9 (best "min 1 0 1" "a 1 0 3 b 1 0 2 c 1 0 4" "L 4 1 0 2")
    -- "`sol` and given rows empty": D1 assumes nothing
    ∷ verifies (one_integer "OBJ min 1 0 1\nCON 1 0 R1 G 1 1 0 1\nRTP range 1 1\nSOL 1 a 1 0 1\nDER 2\nS1 L 1 OBJ { sol } -1\nD1 G 1 OBJ { lin 2 0 1 1 0 } -1\n")
    -- 18 under `infeas` too
    ∷ refuses 18 9 (one_integer "OBJ min 1 0 1\nCON 1 0 R1 G 1 0\nRTP infeas\nSOL 0\nDER 1\nD1 G 1 0 { sol } -1\n")
    -- ---- the claim proved
    -- "`infeas` asks a last derived row, absurd, with no assumptions"
    ∷ verifies (one_integer "OBJ min 0\nCON 1 0 R1 L -1 0\nRTP infeas\nSOL 0\nDER 1\nD1 L -1 0 { lin 1 0 1 } -1\n")
    -- it is not absurd: 17 at the "last row's name"
    ∷ refuses 17 9 (one_integer "OBJ min 0\nCON 1 0 R1 L 0 0\nRTP infeas\nSOL 0\nDER 1\nD1 L 0 0 { lin 1 0 1 } -1\n")
    -- "or word `DER` if there are none": a given row is not looked at
    ∷ refuses 17 8 (one_integer "OBJ min 0\nCON 1 0 R1 L -1 0\nRTP infeas\nSOL 0\nDER 0\n")
    -- "Letting a verified row keep an assumption at the end" would be an error
    ∷ refuses 17 9 (one_integer "OBJ min 0\nCON 0 0\nRTP infeas\nSOL 0\nDER 1\nD1 L -1 0 { asm } -1\n")
    -- "`lin`, `rnd` the union", of a row with multiplier 0 too
    ∷ refuses 17 10 (one_integer "OBJ min 1 0 1\nCON 1 0 R1 G 1 1 0 1\nRTP range 1 inf\nSOL 0\nDER 2\nA1 L 0 1 0 1 { asm } -1\nD1 G 1 OBJ { lin 2 0 1 1 0 } -1\n")
    -- of `rnd` as of `lin`
    ∷ refuses 17 10 (one_integer "OBJ min 1 0 1\nCON 0 0\nRTP range 1 inf\nSOL 0\nDER 2\nA1 G 1/2 1 0 1 { asm } -1\nD1 G 1 OBJ { rnd 1 0 1 } -1\n")
    -- an earlier row may keep its assumptions, and the last row may be spent
    ∷ verifies (one_integer "OBJ min 1 0 1\nCON 1 0 R1 G 1 1 0 1\nRTP range 1 inf\nSOL 0\nDER 2\nA1 L 0 1 0 1 { asm } -1\nD1 G 1 OBJ { lin 1 0 1 } 0\n")
    -- "`range` asks one that .. dominates OBJ ≥ lb (min, lb finite)"
    ∷ refuses 17 9 (one_integer "OBJ min 1 0 1\nCON 1 0 R1 G 1 1 0 1\nRTP range 2 inf\nSOL 0\nDER 1\nD1 G 1 OBJ { lin 1 0 1 } -1\n")
    -- "or OBJ ≤ ub (max, ub finite)"
    ∷ refuses 17 9 (one_integer "OBJ max 1 0 1\nCON 1 0 R1 L 2 1 0 1\nRTP range -inf 1\nSOL 0\nDER 1\nD1 L 2 OBJ { lin 1 0 1 } -1\n")
    ∷ verifies (one_integer "OBJ max 1 0 1\nCON 1 0 R1 L 2 1 0 1\nRTP range -inf 2\nSOL 0\nDER 1\nD1 L 2 OBJ { lin 1 0 1 } -1\n")
    -- an absurd last row proves a range
    ∷ verifies (one_integer "OBJ min 1 0 1\nCON 1 0 R1 L -1 0\nRTP range 7 inf\nSOL 0\nDER 1\nD1 L -1 0 { lin 1 0 1 } -1\n")
    -- "With that end infinite nothing is asked", also not of assumptions
    ∷ verifies (one_integer "OBJ min 1 0 1\nCON 0 0\nRTP range -inf inf\nSOL 0\nDER 1\nD1 G 1 0 { asm } -1\n")
    -- so for max
    ∷ verifies (one_integer "OBJ max 1 0 1\nCON 0 0\nRTP range -inf inf\nSOL 0\nDER 0\n")
    -- lb above ub is not tested: as any other claim that is not proved
    ∷ refuses 17 8 (one_integer "OBJ min 1 0 1\nCON 0 0\nRTP range 5 1\nSOL 1 a 0\nDER 0\n")
    -- absurdities of each sense, on both sides of 0 and at 0: 0 = β
    ∷ verifies (proves "min 0" "infeas" "E 1 0")
    ∷ verifies (proves "min 0" "infeas" "E -1 0")
    ∷ refuses 17 9 (proves "min 0" "infeas" "E 0 0")
    -- 0 ≤ β
    ∷ verifies (proves "min 0" "infeas" "L -1/2 0")
    ∷ refuses 17 9 (proves "min 0" "infeas" "L 1/2 0")
    -- 0 ≥ β
    ∷ verifies (proves "min 0" "infeas" "G 1/2 0")
    ∷ refuses 17 9 (proves "min 0" "infeas" "G 0 0")
    ∷ refuses 17 9 (proves "min 0" "infeas" "G -1/2 0")
    -- every coefficient is 0
    ∷ verifies (proves "min 0" "infeas" "E 1 1 0 0")
    ∷ refuses 17 9 (proves "min 0" "infeas" "E 1 1 0 1")
    ∷ refuses 17 9 (proves "min 0" "infeas" "G 1 2 0 0 1 1")
    -- the last derived row is asked, and not the one before
    ∷ refuses 17 10 (one_integer "OBJ min 0\nCON 1 0 R1 G 1 0\nRTP infeas\nSOL 0\nDER 2\nD1 G 1 0 { lin 1 0 1 } -1\nD2 G 0 0 { lin 1 0 1 } -1\n")
    -- min: OBJ ≥ 1, by the row itself, a stronger one and a weaker one
    ∷ verifies (proves "min 1 0 1" "range 1 inf" "G 1 1 0 1")
    ∷ verifies (proves "min 1 0 1" "range 1 inf" "G 2 1 0 1")
    ∷ refuses 17 9 (proves "min 1 0 1" "range 1 inf" "G 1/2 1 0 1")
    -- by an equality; by the other sense; by other terms; by an absurdity
    ∷ verifies (proves "min 1 0 1" "range 1 inf" "E 1 1 0 1")
    ∷ refuses 17 9 (proves "min 1 0 1" "range 1 inf" "E 1/2 1 0 1")
    ∷ refuses 17 9 (proves "min 1 0 1" "range 1 inf" "L 1 1 0 1")
    ∷ refuses 17 9 (proves "min 1 0 1" "range 1 inf" "G 1 1 0 2")
    ∷ verifies (proves "min 1 0 1" "range 1 inf" "E -1 0")
    -- max: OBJ ≤ -1, in the same way
    ∷ verifies (proves "max 1 0 1" "range -inf -1" "L -1 1 0 1")
    ∷ verifies (proves "max 1 0 1" "range -inf -1" "L -2 1 0 1")
    ∷ refuses 17 9 (proves "max 1 0 1" "range -inf -1" "L -1/2 1 0 1")
    ∷ verifies (proves "max 1 0 1" "range -inf -1" "E -1 1 0 1")
    ∷ refuses 17 9 (proves "max 1 0 1" "range -inf -1" "E -1/2 1 0 1")
    ∷ refuses 17 9 (proves "max 1 0 1" "range -inf -1" "G -1 1 0 1")
    ∷ verifies (proves "max 1 0 1" "range -inf -1" "L -1 OBJ")
    ∷ verifies (proves "max 1 0 1" "range -inf -1" "E 1 0")
    -- "With that end infinite nothing is asked": of a row that proves no bound
    ∷ verifies (proves "min 1 0 1" "range -inf inf" "L 1 1 0 1")
    ∷ verifies (proves "max 1 0 1" "range -inf inf" "G 1 1 0 1")
    -- max, and no derived row: the word `DER`
    ∷ refuses 17 8 (one_integer "OBJ max 1 0 1\nCON 1 0 R1 L 1 1 0 1\nRTP range -inf 1\nSOL 0\nDER 0\n")
    -- a range by an assumption
    ∷ refuses 17 9 (one_integer "OBJ min 1 0 1\nCON 0 0\nRTP range 1 inf\nSOL 0\nDER 1\nD1 G 1 OBJ { asm } -1\n")
    -- "the union": of the first row named, and of the last
    ∷ refuses 17 10 (one_integer "OBJ min 1 0 1\nCON 1 0 R1 G 1 1 0 1\nRTP range 1 inf\nSOL 0\nDER 2\nA1 G 1 1 0 1 { asm } -1\nD1 G 1 OBJ { lin 2 1 1/2 0 1/2 } -1\n")
    ∷ refuses 17 10 (one_integer "OBJ min 1 0 1\nCON 1 0 R1 G 1 1 0 1\nRTP range 1 inf\nSOL 0\nDER 2\nA1 G 1 1 0 1 { asm } -1\nD1 G 1 OBJ { rnd 2 0 1/2 1 1/2 } -1\n")
    ∷ []
