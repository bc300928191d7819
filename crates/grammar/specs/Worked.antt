-- Worked cases of reading a text, on either side of each rule of document 01's "Spelling" and "Reasons of refusal": one list,
-- under one statement, `cases_hold`.
-- Assumes nothing.
use Rattle.std.specs.Prelude.{◌≡◌, refl, List, [], ◌∷◌, ◌++◌, map, ℕ, zero, suc, ◌+◌, ◌/◌, ◌%◌, pos, negsuc, length}
use Prim.Native.String.{String}
use Rattle.text.specs.Bytes.{Bytes, is_separator, is_printable, is_digit}
use Rattle.text.specs.Ascii.{ascii}
use Rattle.text.specs.Comments.{comments_end}
use Rattle.text.specs.Tokens.{rest, stream_at}
use Rattle.text.specs.Lines.{line_of}
use Rattle.arithmetic.specs.Quotient.{lowest}
use Rattle.integers.specs.Gcd.{gcd, euclid}
use Rattle.numerals.specs.Spelling.{quotient_of}
use Rattle.numerals.specs.Reading.{read_value, outcome_of, narrowed}
use Rattle.arithmetic.specs.declared.Fraction.{Fraction}
use Rattle.grammar.specs.Tree.{Term, Direction, minimize, maximize, Sense, equal, at_most, at_least, Side, obj, listed, Row, infinite, finite, Claim, infeas, range, Multiplier, MultiplierList, Unsplit, Reason, asm, lin, rnd, uns, sol, Last, never, index, Derivation, Tree}
use Rattle.grammar.specs.Certificate.{certificate}
use Rattle.grammar.specs.Reading.{read}
use Rattle.grammar.specs.Layout.{Mark, gather, cells, marks}
use Rattle.grammar.specs.Texts.{ReadText, taken, refused, read_of}
use Rattle.grammar.specs.Tables.{row_of}
use Rattle.grammar.specs.Example.{example}

-- ---- what a tree says

-- what the words of each choice are in the tree: of the rows, given and then derived, their senses and their sides; the claim; the
-- reasons; the last indices
pub record Said : Type 0 where
  pub direction : Direction
  pub senses : List Sense
  pub sides : List Side
  pub claim : Claim
  pub reasons : List Reason
  pub lasts : List Last

abbrev pub said : Direction → List Sense → List Side → Claim → List Reason → List Last → Said
said direction senses sides claim reasons lasts =
    record { direction = direction; senses = senses; sides = sides; claim = claim; reasons = reasons; lasts = lasts }

abbrev pub rows_of : Tree → List Row
rows_of tree = tree.constraints.rows ++ map (λ (d : Derivation). d.row) tree.derivations.derivations

abbrev pub said_by : Tree → Said
said_by tree =
    said tree.objective.direction (map (λ (r : Row). r.sense) (rows_of tree)) (map (λ (r : Row). r.side) (rows_of tree))
    tree.relation.claim (map (λ (d : Derivation). d.reason) tree.derivations.derivations)
    (map (λ (d : Derivation). d.last) tree.derivations.derivations)

-- the parts of a tree, written short
abbrev pub whole : ℕ → Fraction
whole n = record { num = pos n; den = pos 1 }

-- -(n + 1)
abbrev pub below : ℕ → Fraction
below n = record { num = negsuc n; den = pos 1 }

abbrev pub half : Fraction
half = record { num = pos 1; den = pos 2 }

abbrev pub term : ℕ → Fraction → Term
term v f = record { variable = v; coefficient = f }

abbrev pub terms : List Term → Side
terms ts = listed (record { count = length ts; terms = ts })

abbrev pub times : ℕ → Fraction → Multiplier
times r f = record { row = r; factor = f }

abbrev pub multipliers : List Multiplier → MultiplierList
multipliers ms = record { count = length ms; multipliers = ms }

abbrev pub four : ℕ → ℕ → ℕ → ℕ → Unsplit
four i1 l1 i2 l2 = record { i1 = i1; l1 = l1; i2 = i2; l2 = l2 }

-- ---- a case

-- what reading a text gives: what the tree says, the index cells, and the rows that the row table keeps, each with its number
-- before it; or a refusal, by its reason, the place of its token or of the end, and the line
pub data Answer : Type 0 where
  takes : Said → List ℕ → List (List ℕ) → Answer
  refuses : (reason place line : ℕ) → Answer

abbrev pub answer_of : Bytes → ReadText → Answer
answer_of text (taken tree) =
    takes (said_by tree) (cells certificate tree) (map (λ (m : Mark). m.row ∷ row_of m) (marks certificate tree 0 0))
answer_of text (refused reason place) = refuses reason place (line_of text place)

pub record Case : Type 0 where
  pub text : Bytes
  pub answer : Answer

infix 68 ◌gives◌
abbrev pub ◌gives◌ : Bytes → Answer → Case
text gives a = record { text = text; answer = a }

-- every case is as it says
abbrev pub Hold : List Case → Type 0
Hold cases = map (λ (c : Case). answer_of c.text (read_of c.text)) cases ≡ map (λ (c : Case). c.answer) cases

-- ---- beginnings of texts, by the section that is due next, with one variable and one row

infixl 69 ◌&◌
abbrev pub ◌&◌ : Bytes → String → Bytes
text & more = text ++ ascii more

abbrev pub int_due : Bytes
int_due = ascii "VER 1.0\nVAR 1 x\n"

abbrev pub con_due : Bytes
con_due = int_due & "INT 0\nOBJ min 0\n"

abbrev pub rtp_due : Bytes
rtp_due = con_due & "CON 1 0 R E 0 0\n"

abbrev pub der_due : Bytes
der_due = rtp_due & "RTP infeas\nSOL 0\n"

-- ---- texts that are built

-- so many copies of a part
abbrev pub repeated : ℕ → Bytes → Bytes
repeated zero part = []
repeated (suc n) part = part ++ repeated n part

-- so many derivations from number j on, each an assumption, with two digits for its name
abbrev pub assumed : ℕ → ℕ → Bytes
assumed zero j = []
assumed (suc n) j = ((48 + j / 10) ∷ (48 + j % 10) ∷ []) ++ (ascii " E 0 0 { asm } -1\n" ++ assumed n (j + 1))

abbrev pub no_rows : Bytes
no_rows = ascii "VER 1.0 VAR 0 INT 0 OBJ min 0 CON 0 0 RTP infeas SOL 0 "

-- ---- the cases

abbrev pub cases : List Case
cases =
    -- ---- taken, with the index cells, and each row of the row table with its number before it
    -- 01's example
    example
    gives takes (said maximize (at_most ∷ at_most ∷ []) (terms (term 0 (whole 2) ∷ []) ∷ obj ∷ []) (range (finite (whole 1)) (finite (whole 1))) (rnd (multipliers (times 0 half ∷ [])) ∷ []) (never ∷ []))
    (1 ∷ 1 ∷ 0 ∷ 1 ∷ 1 ∷ 0 ∷ 1 ∷ 0 ∷ 1 ∷ 1 ∷ 0 ∷ 1 ∷ 1 ∷ 1 ∷ 1 ∷ 1 ∷ 0 ∷ 1 ∷ 1 ∷ 65535 ∷ 2 ∷ 1 ∷ 0 ∷ 65535 ∷ [])
    ((0 ∷ 46 ∷ 2 ∷ 8 ∷ 1 ∷ []) ∷ (1024 ∷ 79 ∷ 1 ∷ 15 ∷ 5 ∷ []) ∷ (1 ∷ 93 ∷ 2 ∷ 18 ∷ 6 ∷ []) ∷ [])
    -- nothing of anything; no LF at the end
    ∷ ascii "VER 1.0 VAR 0 INT 0 OBJ min 0 CON 0 0 RTP infeas SOL 0 DER 0"
    gives takes (said minimize [] [] infeas [] []) (0 ∷ 0 ∷ 0 ∷ 0 ∷ 0 ∷ 0 ∷ 0 ∷ 0 ∷ 0 ∷ []) []
    -- comments first, of any bytes; tab and CR separate; line breaks carry no meaning
    ∷ ascii "%VER\0\u{7f}\u{9f}\r\n%\nVER\t1.0\r\n\r\n VAR\r0\nINT\n0 OBJ min 0 CON 0 0 RTP infeas SOL 0 DER 0"
    gives takes (said minimize [] [] infeas [] []) (0 ∷ 0 ∷ 0 ∷ 0 ∷ 0 ∷ 0 ∷ 0 ∷ 0 ∷ 0 ∷ []) []
    -- leading zeros, at any length
    ∷ ascii "VER 1.0\nVAR 0000000000000000000000000001 x\nINT 01\n00\nOBJ max 01 00 007\nCON 00 00\nRTP infeas\nSOL 00\nDER 00\n"
    gives takes (said maximize [] [] infeas [] []) (1 ∷ 1 ∷ 0 ∷ 1 ∷ 1 ∷ 0 ∷ 0 ∷ 0 ∷ 0 ∷ 0 ∷ 0 ∷ []) []
    -- names that look like words; variables and solutions with one name; an infinite end on either side
    ∷ ascii "VER 1.0\nVAR 2 VAR VAR\nINT 0\nOBJ min 0\nCON 3 3\nOBJ E 0 0\nL G -1 0\n{ L 1 OBJ\nRTP range -inf inf\nSOL 2\n1.0 0\n1.0 0\nDER 0\n"
    gives takes (said minimize (equal ∷ at_least ∷ at_most ∷ []) (terms [] ∷ terms [] ∷ obj ∷ []) (range infinite infinite) [] [])
    (2 ∷ 0 ∷ 0 ∷ 0 ∷ 3 ∷ 3 ∷ 0 ∷ 0 ∷ 2 ∷ 0 ∷ 1 ∷ 65535 ∷ 1 ∷ 0 ∷ 0 ∷ 2 ∷ 0 ∷ 0 ∷ 0 ∷ [])
    ((0 ∷ 46 ∷ 3 ∷ 6 ∷ 0 ∷ []) ∷ (1 ∷ 56 ∷ 1 ∷ 8 ∷ 1 ∷ []) ∷ (2 ∷ 65 ∷ 1 ∷ 10 ∷ 2 ∷ []) ∷ (1024 ∷ 100 ∷ 3 ∷ 16 ∷ 3 ∷ []) ∷ (1025 ∷ 106 ∷ 3 ∷ 17 ∷ 3 ∷ []) ∷ [])
    -- a finite end below
    ∷ ascii "VER 1.0 VAR 0 INT 0 OBJ min 0 CON 0 0 RTP range 0 inf SOL 0 DER 0"
    gives takes (said minimize [] [] (range (finite (whole 0)) infinite) [] []) (0 ∷ 0 ∷ 0 ∷ 0 ∷ 0 ∷ 0 ∷ 1 ∷ 1 ∷ 0 ∷ 0 ∷ 0 ∷ []) []
    -- a finite end above
    ∷ ascii "VER 1.0 VAR 0 INT 0 OBJ min 0 CON 0 0 RTP range -inf -6/4 SOL 0 DER 0"
    gives takes (said minimize [] [] (range infinite (finite (record { num = negsuc 2; den = pos 2 }))) [] [])
    (0 ∷ 0 ∷ 0 ∷ 0 ∷ 0 ∷ 0 ∷ 1 ∷ 0 ∷ 1 ∷ 0 ∷ 0 ∷ []) []
    -- each reason; no multiplier and as many as there are rows before; the row just before; the last index up to m + d - 1, also
    -- below the row's own
    ∷ ascii "VER 1.0\nVAR 1 x\nINT 0\nOBJ min 0\nCON 1 0\na L 0 0\nRTP infeas\nSOL 0\nDER 5\nb G 1 0 { asm } 5\nc L 0 0 { lin 0 } -1\nd L 0 0 { rnd 3 2 1 0 -1 1 0 } 0\ne E 0 0 { uns 3 2 1 0 } 0005\nf E 0 0 { sol } -1\n"
    gives takes (said minimize (at_most ∷ at_least ∷ at_most ∷ at_most ∷ equal ∷ equal ∷ []) (terms [] ∷ terms [] ∷ terms [] ∷ terms [] ∷ terms [] ∷ terms [] ∷ []) infeas (asm ∷ lin (multipliers []) ∷ rnd (multipliers (times 2 (whole 1) ∷ times 0 (below 0) ∷ times 1 (whole 0) ∷ [])) ∷ uns (four 3 2 1 0) ∷ sol ∷ []) (index 5 ∷ never ∷ index 0 ∷ index 5 ∷ never ∷ []))
    (1 ∷ 0 ∷ 0 ∷ 0 ∷ 1 ∷ 0 ∷ 1 ∷ 0 ∷ 0 ∷ 0 ∷ 5 ∷ 2 ∷ 0 ∷ 0 ∷ 5 ∷ 1 ∷ 0 ∷ 1 ∷ 0 ∷ 65535 ∷ 1 ∷ 0 ∷ 2 ∷ 3 ∷ 2 ∷ 0 ∷ 1 ∷ 0 ∷ 0 ∷ 0 ∷ 3 ∷ 3 ∷ 2 ∷ 1 ∷ 0 ∷ 5 ∷ 0 ∷ 0 ∷ 4 ∷ 65535 ∷ [])
    ((0 ∷ 40 ∷ 1 ∷ 6 ∷ 0 ∷ []) ∷ (1 ∷ 71 ∷ 1 ∷ 11 ∷ 1 ∷ []) ∷ (2 ∷ 89 ∷ 1 ∷ 15 ∷ 2 ∷ []) ∷ (3 ∷ 110 ∷ 1 ∷ 20 ∷ 3 ∷ []) ∷ (4 ∷ 143 ∷ 1 ∷ 28 ∷ 7 ∷ []) ∷ (5 ∷ 172 ∷ 1 ∷ 36 ∷ 8 ∷ []) ∷ [])
    -- all variables in each list, in any order; zero coefficients
    ∷ ascii "VER 1.0\nVAR 2 x y\nINT 2 1 0\nOBJ max 2 1 0 0 0.0\nCON 1 1\nR L 1 2 1 0 0 1\nRTP infeas\nSOL 1\ns 2 0 1 1 -2\nDER 0\n"
    gives takes (said maximize (at_most ∷ []) (terms (term 1 (whole 0) ∷ term 0 (whole 1) ∷ []) ∷ []) infeas [] [])
    (2 ∷ 2 ∷ 1 ∷ 0 ∷ 1 ∷ 2 ∷ 1 ∷ 0 ∷ 1 ∷ 1 ∷ 1 ∷ 2 ∷ 1 ∷ 0 ∷ 0 ∷ 1 ∷ 2 ∷ 0 ∷ 1 ∷ 0 ∷ [])
    ((0 ∷ 56 ∷ 1 ∷ 10 ∷ 2 ∷ []) ∷ (1024 ∷ 89 ∷ 1 ∷ 16 ∷ 5 ∷ []) ∷ [])
    -- names of the bytes 33 and 126, of variables, rows, solutions and derived rows
    ∷ ascii "VER 1.0\nVAR 2 ! ~\nINT 0\nOBJ min 0\nCON 2 0\n! E 0 0\n~ L 0 0\nRTP infeas\nSOL 2\n! 0\n~ 0\nDER 2\n!! G 0 0 { asm } -1\n~~ E 0 0 { sol } -1\n"
    gives takes (said minimize (equal ∷ at_most ∷ at_least ∷ equal ∷ []) (terms [] ∷ terms [] ∷ terms [] ∷ terms [] ∷ []) infeas (asm ∷ sol ∷ []) (never ∷ never ∷ []))
    (2 ∷ 0 ∷ 0 ∷ 0 ∷ 2 ∷ 0 ∷ 0 ∷ 0 ∷ 1 ∷ 0 ∷ 0 ∷ 2 ∷ 0 ∷ 0 ∷ 2 ∷ 2 ∷ 0 ∷ 0 ∷ 65535 ∷ 0 ∷ 0 ∷ 4 ∷ 65535 ∷ [])
    ((0 ∷ 42 ∷ 1 ∷ 6 ∷ 0 ∷ []) ∷ (1 ∷ 50 ∷ 1 ∷ 8 ∷ 1 ∷ []) ∷ (1024 ∷ 75 ∷ 1 ∷ 12 ∷ 2 ∷ []) ∷ (1025 ∷ 79 ∷ 1 ∷ 13 ∷ 2 ∷ []) ∷ (2 ∷ 89 ∷ 2 ∷ 15 ∷ 2 ∷ []) ∷ (3 ∷ 109 ∷ 2 ∷ 19 ∷ 3 ∷ []) ∷ [])
    -- names of 300 bytes, of each of them
    ∷ (((((((ascii "VER 1.0\nVAR 1 " ++ repeated 300 (ascii "x")) & "\nINT 0\nOBJ min 0\nCON 1 0 ") ++ repeated 300 (ascii "y")) & " E 0 0\nRTP infeas\nSOL 1 ") ++ repeated 300 (ascii "z")) & " 0\nDER 1 ") ++ repeated 300 (ascii "w")) & " E 0 0 { asm } -1\n"
    gives takes (said minimize (equal ∷ equal ∷ []) (terms [] ∷ terms [] ∷ []) infeas (asm ∷ []) (never ∷ []))
    (1 ∷ 0 ∷ 0 ∷ 0 ∷ 1 ∷ 0 ∷ 0 ∷ 0 ∷ 0 ∷ 1 ∷ 0 ∷ 1 ∷ 0 ∷ 0 ∷ 0 ∷ 65535 ∷ [])
    ((0 ∷ 339 ∷ 300 ∷ 6 ∷ 0 ∷ []) ∷ (1024 ∷ 663 ∷ 300 ∷ 10 ∷ 1 ∷ []) ∷ (1 ∷ 972 ∷ 300 ∷ 12 ∷ 1 ∷ []) ∷ [])
    -- one name for a variable, a row and a solution; rows whose names differ in case or length; `lin` with as many multipliers as
    -- there are rows before; `uns` may repeat
    ∷ ascii "VER 1.0\nVAR 1 R\nINT 0\nOBJ min 0\nCON 2 0 R E 0 0 r E 0 0\nRTP infeas\nSOL 1 R 0\nDER 2\nRR E 0 0 { lin 2 1 1 0 2 } 3\nRr E 0 0 { uns 2 2 2 2 } 2\n"
    gives takes (said minimize (equal ∷ equal ∷ equal ∷ equal ∷ []) (terms [] ∷ terms [] ∷ terms [] ∷ terms [] ∷ []) infeas (lin (multipliers (times 1 (whole 1) ∷ times 0 (whole 2) ∷ [])) ∷ uns (four 2 2 2 2) ∷ []) (index 3 ∷ index 2 ∷ []))
    (1 ∷ 0 ∷ 0 ∷ 0 ∷ 2 ∷ 0 ∷ 0 ∷ 0 ∷ 0 ∷ 0 ∷ 0 ∷ 1 ∷ 0 ∷ 2 ∷ 0 ∷ 0 ∷ 1 ∷ 2 ∷ 1 ∷ 0 ∷ 3 ∷ 0 ∷ 0 ∷ 3 ∷ 2 ∷ 2 ∷ 2 ∷ 2 ∷ 2 ∷ [])
    ((0 ∷ 40 ∷ 1 ∷ 6 ∷ 0 ∷ []) ∷ (1 ∷ 48 ∷ 1 ∷ 8 ∷ 1 ∷ []) ∷ (1024 ∷ 73 ∷ 1 ∷ 12 ∷ 2 ∷ []) ∷ (2 ∷ 83 ∷ 2 ∷ 14 ∷ 2 ∷ []) ∷ (3 ∷ 112 ∷ 2 ∷ 21 ∷ 5 ∷ []) ∷ [])
    -- values at the limit; n terms in a derived row
    ∷ ascii "VER 1.0\nVAR 2 x y\nINT 0\nOBJ min 0\nCON 1 0 R G 2147483647 2 1 -2147483647 0 1/2147483647\nRTP infeas\nSOL 0\nDER 1 D L 0 2 0 1 1 2 { lin 1 0 3/2 } 1\n"
    gives takes (said minimize (at_least ∷ at_most ∷ []) (terms (term 1 (below 2147483646) ∷ term 0 (record { num = pos 1; den = pos 2147483647 }) ∷ []) ∷ terms (term 0 (whole 1) ∷ term 1 (whole 2) ∷ []) ∷ []) infeas (lin (multipliers (times 0 (record { num = pos 3; den = pos 2 }) ∷ [])) ∷ []) (index 1 ∷ []))
    (2 ∷ 0 ∷ 0 ∷ 0 ∷ 1 ∷ 0 ∷ 2 ∷ 2 ∷ 1 ∷ 0 ∷ 0 ∷ 0 ∷ 1 ∷ 1 ∷ 2 ∷ 0 ∷ 1 ∷ 1 ∷ 1 ∷ 0 ∷ 1 ∷ [])
    ((0 ∷ 42 ∷ 1 ∷ 6 ∷ 0 ∷ []) ∷ (1 ∷ 111 ∷ 1 ∷ 13 ∷ 3 ∷ []) ∷ [])
    -- ---- "3 text ends, a token is due"
    -- no bytes
    ∷ ascii "" gives refuses 3 0 1
    -- separators alone
    ∷ ascii " \r\n\t\n" gives refuses 3 5 3
    -- a comment through the end
    ∷ ascii "%VER 1.0" gives refuses 3 8 1
    -- each of n names is due: n 256 is in range
    ∷ ascii "VER 1.0\nVAR 256 x y z\n" gives refuses 3 22 3
    -- m 1,024 is in range
    ∷ con_due & "CON 1024 1024\n" gives refuses 3 46 6
    -- s 64 is in range
    ∷ rtp_due & "RTP infeas\nSOL 64\n" gives refuses 3 66 8
    -- d 1,024 - m is in range, with m 0 and with m 1
    ∷ no_rows & "DER 1024" gives refuses 3 63 1
    ∷ der_due & "DER 1023\n" gives refuses 3 74 9
    -- a value is due
    ∷ der_due & "DER 1 D E 0 0 { rnd 1 0" gives refuses 3 88 8
    -- the last index is due
    ∷ der_due & "DER 1 D E 0 0 { asm }\n\n" gives refuses 3 88 10
    -- ---- "4 token not of the kind due"
    -- a blank line ends the comments
    ∷ ascii "\n%\nVER 1.0" gives refuses 4 1 2
    -- a space before `%` too
    ∷ ascii " %\nVER 1.0" gives refuses 4 1 1
    -- a byte outside 33 to 126 where a word, a count or a value is due
    ∷ ascii "VER\u{7f} 1.0" gives refuses 4 0 1
    ∷ ascii "VER 1.0 VAR 1\u{80}" gives refuses 4 12 1
    ∷ con_due & "CON 1 0 R E 1\u{7f}" gives refuses 4 44 5
    -- words in another case
    ∷ ascii "ver 1.0" gives refuses 4 0 1
    ∷ ascii "VER 1.0 Var 0" gives refuses 4 8 1
    ∷ int_due & "INT 0 OBJ Max" gives refuses 4 26 3
    ∷ con_due & "CON 1 0 R e 0 0\n" gives refuses 4 42 5
    ∷ rtp_due & "RTP INFEAS" gives refuses 4 52 6
    ∷ der_due & "DER 1 D E 0 0 { ASM" gives refuses 4 81 8
    -- a word and more, or less, of it
    ∷ ascii "VERS 1.0" gives refuses 4 0 1
    ∷ ascii "VER 1.00" gives refuses 4 4 1
    ∷ ascii "VER 1." gives refuses 4 4 1
    -- NUL, VT and 160 separate nothing
    ∷ ascii "VER\01.0" gives refuses 4 0 1
    ∷ ascii "VER 1.0\u{b}VAR 0" gives refuses 4 4 1
    ∷ ascii "VER 1.0\u{a0}VAR 0" gives refuses 4 4 1
    -- sections in another order
    ∷ ascii "VER 1.0 INT 0 VAR 0" gives refuses 4 8 1
    -- counts and indices are digits only
    ∷ ascii "VER 1.0 VAR -1" gives refuses 4 12 1
    ∷ ascii "VER 1.0 VAR +1 x" gives refuses 4 12 1
    ∷ ascii "VER 1.0 VAR 1.0 x" gives refuses 4 12 1
    ∷ int_due & "INT -0" gives refuses 4 20 3
    ∷ int_due & "INT 1 -1" gives refuses 4 22 3
    ∷ der_due & "DER 1 D E 0 0 { lin 1 -1" gives refuses 4 87 8
    -- 32 is in no name: it separates
    ∷ ascii "VER 1.0 VAR 1 x y" gives refuses 4 16 1
    -- a name with a byte outside 33 to 126
    ∷ ascii "VER 1.0 VAR 1 x\u{7f}" gives refuses 4 14 1
    ∷ ascii "VER 1.0 VAR 1 x\u{1f}" gives refuses 4 14 1
    ∷ ascii "VER 1.0 VAR 1 x\u{80}" gives refuses 4 14 1
    ∷ con_due & "CON 1 0 R\u{1f}" gives refuses 4 40 5
    ∷ con_due & "CON 1 0 R\u{7f}" gives refuses 4 40 5
    ∷ rtp_due & "RTP infeas SOL 1 s\u{7f}" gives refuses 4 65 6
    ∷ der_due & "DER 1 D\u{7f}" gives refuses 4 71 8
    -- `OBJ` is no term list of the objective or of a solution
    ∷ int_due & "INT 0 OBJ min OBJ" gives refuses 4 30 3
    ∷ rtp_due & "RTP infeas SOL 1 s OBJ" gives refuses 4 67 6
    -- a value that is misspelled, however wide
    ∷ con_due & "CON 1 0 R E 1.5-101" gives refuses 4 44 5
    ∷ int_due & "INT 0 OBJ min 1 0 1/0" gives refuses 4 34 3
    ∷ der_due & "DER 1 D E 0 0 { lin 1 0 999999999999999999999." gives refuses 4 89 8
    -- 02, request 1: an exponent, and the token that is due after it; one that is too wide; one after a fraction
    ∷ con_due & "CON 1 0 R E 1.5E-7" gives refuses 3 50 5
    ∷ con_due & "CON 1 0 R E 1.5E-101" gives refuses 7 44 5
    ∷ con_due & "CON 1 0 R E 1/2E3" gives refuses 4 44 5
    -- a count has none
    ∷ con_due & "CON 1E0" gives refuses 4 36 5
    -- 01's example with `R1 L 1.5-101`
    ∷ ascii "VER 1.0\nVAR 1\nx\nINT 1\n0\nOBJ max\n1 0 1\nCON 1 0\nR1 L 1.5-101 1 0 2\nRTP range 1 1\nSOL 1\na 1 0 1\nDER 1\nD1 L 1 OBJ { rnd 1 0 1/2 } -1\n" gives refuses 4 51 9
    -- `inf` only above, `-inf` only below
    ∷ rtp_due & "RTP range inf 1" gives refuses 4 58 6
    ∷ rtp_due & "RTP range 1 -inf" gives refuses 4 60 6
    ∷ rtp_due & "RTP range -inf +inf" gives refuses 4 63 6
    ∷ rtp_due & "RTP range -Inf inf" gives refuses 4 58 6
    -- braces are tokens
    ∷ der_due & "DER 1 D E 0 0 {lin" gives refuses 4 79 8
    ∷ der_due & "DER 1 D E 0 0 lin" gives refuses 4 79 8
    ∷ der_due & "DER 1 D E 0 0 { lin 0}" gives refuses 4 85 8
    ∷ der_due & "DER 1 D E 0 0 { asm -1" gives refuses 4 85 8
    -- no reason beyond 1.0
    ∷ der_due & "DER 1 D E 0 0 { weak" gives refuses 4 81 8
    -- the last index is digits, or exactly `-1`
    ∷ der_due & "DER 1 D E 0 0 { asm } -01" gives refuses 4 87 8
    ∷ der_due & "DER 1 D E 0 0 { asm } -2" gives refuses 4 87 8
    -- `-1` is the last index's alone
    ∷ der_due & "DER 1 D E 0 0 { uns -1" gives refuses 4 85 8
    -- ---- "5 count or index out of range"
    -- n 257; a count of any length is a number
    ∷ ascii "VER 1.0 VAR 257" gives refuses 5 12 1
    ∷ ascii "VER 1.0 VAR 000000000000000000257" gives refuses 5 12 1
    ∷ ascii "VER 1.0 VAR 100000000000000000000000000000000000000000" gives refuses 5 12 1
    -- INT n + 1, with n 0 and n 1; a variable's index n
    ∷ ascii "VER 1.0 VAR 0 INT 1" gives refuses 5 18 1
    ∷ int_due & "INT 2" gives refuses 5 20 3
    ∷ int_due & "INT 1 1" gives refuses 5 22 3
    -- n + 1 terms in the objective, a row, a solution and a derived row; a variable's index n in each
    ∷ int_due & "INT 0 OBJ min 2" gives refuses 5 30 3
    ∷ int_due & "INT 0 OBJ min 1 1" gives refuses 5 32 3
    ∷ con_due & "CON 1 0 R E 0 2" gives refuses 5 46 5
    ∷ con_due & "CON 1 0 R E 0 1 1" gives refuses 5 48 5
    ∷ rtp_due & "RTP infeas SOL 1 s 2" gives refuses 5 67 6
    ∷ rtp_due & "RTP infeas SOL 1 s 1 1" gives refuses 5 69 6
    ∷ der_due & "DER 1 D E 0 2" gives refuses 5 77 8
    ∷ der_due & "DER 1 D E 0 1 1" gives refuses 5 79 8
    -- m 1,025; b m + 1
    ∷ con_due & "CON 1025" gives refuses 5 36 5
    ∷ con_due & "CON 0 1" gives refuses 5 38 5
    ∷ con_due & "CON 2 3" gives refuses 5 38 5
    -- s 65
    ∷ rtp_due & "RTP infeas SOL 65" gives refuses 5 63 6
    -- d 1,024 - m + 1, with m 0 and with m 1
    ∷ ascii "VER 1.0 VAR 0 INT 0 OBJ min 0 CON 0 0 RTP infeas SOL 0 DER 1025" gives refuses 5 59 1
    ∷ der_due & "DER 1024" gives refuses 5 69 8
    -- multipliers: one more than the row's own index
    ∷ der_due & "DER 2 D E 0 0 { lin 2" gives refuses 5 85 8
    ∷ der_due & "DER 2 D E 0 0 { asm } -1\nE E 0 0 { rnd 3" gives refuses 5 104 9
    -- a row that names itself, in either kind of list and in each place of `uns`
    ∷ der_due & "DER 1 D E 0 0 { lin 1 1" gives refuses 5 87 8
    ∷ der_due & "DER 2 D E 0 0 { asm } -1\nE E 0 0 { rnd 1 2" gives refuses 5 106 9
    ∷ der_due & "DER 1 D E 0 0 { uns 1" gives refuses 5 85 8
    ∷ der_due & "DER 1 D E 0 0 { uns 0 1" gives refuses 5 87 8
    ∷ der_due & "DER 1 D E 0 0 { uns 0 0 1" gives refuses 5 89 8
    ∷ der_due & "DER 1 D E 0 0 { uns 0 0 0 1" gives refuses 5 91 8
    -- last index m + d
    ∷ der_due & "DER 1 D E 0 0 { asm } 2" gives refuses 5 87 8
    ∷ der_due & "DER 2 D E 0 0 { asm } 3" gives refuses 5 87 8
    -- ---- "6 index twice in one list, or constraint name used before"
    -- INT's list
    ∷ ascii "VER 1.0\nVAR 2 x y\nINT 2 0 0" gives refuses 6 26 3
    -- one index with two spellings
    ∷ ascii "VER 1.0\nVAR 2 x y\nINT 2 1 01" gives refuses 6 26 3
    -- terms of the objective, of a row, of a solution
    ∷ ascii "VER 1.0\nVAR 2 x y\nINT 0 OBJ min 2 1 1 1" gives refuses 6 38 3
    ∷ ascii "VER 1.0\nVAR 2 x y\nINT 0\nOBJ min 0\nCON 1 0 R E 0 2 0 1 0" gives refuses 6 54 5
    ∷ ascii "VER 1.0\nVAR 2 x y\nINT 0\nOBJ min 0\nCON 0 0 RTP infeas SOL 1 s 2 0 1 0" gives refuses 6 67 5
    -- multipliers of `lin` and of `rnd`
    ∷ con_due & "CON 2 0 R E 0 0 S E 0 0 RTP infeas SOL 0 DER 1 D E 0 0 { lin 2 1 1 1" gives refuses 6 99 5
    ∷ con_due & "CON 2 0 R E 0 0 S E 0 0 RTP infeas SOL 0 DER 1 D E 0 0 { rnd 2 0 1 0" gives refuses 6 99 5
    -- names: two given rows, a derived row and a given one, two derived rows
    ∷ con_due & "CON 2 0\nR E 0 0\nR" gives refuses 6 48 7
    ∷ der_due & "DER 1\nR" gives refuses 6 71 9
    ∷ der_due & "DER 2\nD E 0 0 { asm } -1\nD" gives refuses 6 90 10
    -- ---- "7 value too wide"
    -- in each place of a value
    ∷ int_due & "INT 0 OBJ min 1 0 2147483648" gives refuses 7 34 3
    ∷ con_due & "CON 1 0 R E -2147483648" gives refuses 7 44 5
    ∷ con_due & "CON 1 0 R E 0 1 0 1/2147483648" gives refuses 7 50 5
    ∷ rtp_due & "RTP range 2147483648" gives refuses 7 58 6
    ∷ rtp_due & "RTP range -inf 2147483648" gives refuses 7 63 6
    ∷ rtp_due & "RTP infeas SOL 1 s 1 0 2147483648" gives refuses 7 71 6
    ∷ der_due & "DER 1 D E 0 0 { lin 1 0 0.0000000001" gives refuses 7 89 8
    -- ---- "8 a token after the last derivation"
    ∷ ascii "VER 1.0 VAR 0 INT 0 OBJ min 0 CON 0 0 RTP infeas SOL 0 DER 0\nx" gives refuses 8 61 2
    -- also one with a byte outside 33 to 126
    ∷ ascii "VER 1.0 VAR 0 INT 0 OBJ min 0 CON 0 0 RTP infeas SOL 0 DER 0\n\n \u{7f}\u{9f}" gives refuses 8 63 3
    -- one derivation more than d
    ∷ der_due & "DER 1 D E 0 0 { asm } -1\nE E 0 0 { asm } -1" gives refuses 8 90 9
    -- comments stand at the start only
    ∷ ascii "VER 1.0\nVAR 1\nx\nINT 1\n0\nOBJ max\n1 0 1\nCON 1 0\nR1 L 3 1 0 2\nRTP range 1 1\nSOL 1\na 1 0 1\nDER 1\nD1 L 1 OBJ { rnd 1 0 1/2 } -1\n% end\n" gives refuses 8 123 15
    -- ---- built
    -- "The 65th word `asm` is 5", wherever the 64 stand before it; a row of that name is none of them
    ∷ ((no_rows & "DER 65\n") ++ assumed 65 0) gives refuses 5 1353 66
    ∷ ((no_rows & "DER 66\n") ++ assumed 64 0) & "asm E 0 0 { lin 0 } -1\nx E 0 0 { asm" gives refuses 5 1375 67
    -- 64 are taken
    ∷ ((no_rows & "DER 64\n") ++ assumed 64 0) & "x" gives refuses 8 1342 66
    -- 256 variables, and all of them in INT's list's range
    ∷ (ascii "VER 1.0 VAR 256\n" ++ repeated 256 (ascii "x ")) & "INT 256" gives refuses 3 535 2
    ∷ (ascii "VER 1.0 VAR 256\n" ++ repeated 256 (ascii "x ")) & "INT 257" gives refuses 5 532 2
    -- a variable's index 255, and 256
    ∷ (ascii "VER 1.0 VAR 256\n" ++ repeated 256 (ascii "x ")) & "INT 1 255" gives refuses 3 537 2
    ∷ (ascii "VER 1.0 VAR 256\n" ++ repeated 256 (ascii "x ")) & "INT 1 256" gives refuses 5 534 2
    -- one name more than n is no `INT`
    ∷ (ascii "VER 1.0 VAR 256\n" ++ repeated 257 (ascii "x ")) gives refuses 4 528 2
    -- 64 solutions are taken
    ∷ ((ascii "VER 1.0 VAR 0 INT 0 OBJ min 0 CON 0 0 RTP infeas SOL 64\n" ++ repeated 64 (ascii "s 0 ")) & "DER 0 x") gives refuses 8 318 2
    ∷ []
