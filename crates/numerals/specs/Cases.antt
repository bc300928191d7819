-- The cases of document 01, "Numbers on either side", that are marked P, and cases on either side of the exponents of document 02,
-- request 1: one list, under one statement, `cases_hold`. Each is held to the definitions that the contracts cite. The document's
-- other cases are run (crates value_cases, fraction_cases).
-- Assumes nothing.
use Rattle.std.specs.Prelude.{◌≡◌, List, [], ◌∷◌, ℤ, pos, neg_ℤ}
use Prim.Native.String.{String}
use Rattle.text.specs.Ascii.{ascii}
use Rattle.arithmetic.specs.Outcome.{Outcome, gives, refuses}
use Rattle.arithmetic.specs.Fraction.{product_of, floor_of, ceiling_of}
use Rattle.arithmetic.specs.declared.Fraction.{Fraction}
use Rattle.numerals.specs.Reading.{read_value}

infix 5 ◌over◌
abbrev pub ◌over◌ : ℤ → ℤ → Fraction
n over d = record { num = n; den = d }

-- an operation on given operands, with the outcome that the documents state
pub data Case : Type 0 where
  reads : String → Outcome Fraction → Case
  floors : Fraction → Outcome ℤ → Case
  ceilings : Fraction → Outcome ℤ → Case
  products : Fraction → Fraction → Outcome Fraction → Case

abbrev pub Holds : Case → Type 0
Holds (reads token o) = read_value (ascii token) ≡ o
Holds (floors f o) = floor_of f ≡ o
Holds (ceilings f o) = ceiling_of f ≡ o
Holds (products f g o) = product_of f g ≡ o

abbrev pub All : List Case → Type 0
All [] = Unit {0}
All (c ∷ cs) = Holds c × All cs

abbrev pub cases : List Case
cases =
    -- "`2147483647` taken"
    reads "2147483647" (gives (pos 2147483647 over pos 1))
    -- "`2147483648` 7"
    ∷ reads "2147483648" (refuses 7)
    -- "`4294967294/2` taken as 2147483647"
    ∷ reads "4294967294/2" (gives (pos 2147483647 over pos 1))
    -- "`0.0000000005` is 1/2000000000"
    ∷ reads "0.0000000005" (gives (pos 1 over pos 2000000000))
    -- "`0.0000000001` 7"
    ∷ reads "0.0000000001" (refuses 7)
    -- "`1.5-101` 4"
    ∷ reads "1.5-101" (refuses 4)
    -- "`1/0` 4"
    ∷ reads "1/0" (refuses 4)
    -- "floor(-1/2) = -1"
    ∷ floors (neg_ℤ (pos 1) over pos 2) (gives (neg_ℤ (pos 1)))
    -- "ceiling(-1/2) = 0"
    ∷ ceilings (neg_ℤ (pos 1) over pos 2) (gives (pos 0))
    -- "1/65536 times 1/32768 is 12"
    ∷ products (pos 1 over pos 65536) (pos 1 over pos 32768) (refuses 12)
    -- 02, request 1: "`1.5E-7`"
    ∷ reads "1.5E-7" (gives (pos 3 over pos 20000000))
    -- "in 01, `1.5E-101` turns from 4 to 7"
    ∷ reads "1.5E-101" (refuses 7)
    -- "an optional sign", before the digits of the exponent too
    ∷ reads "-1.5e+003" (gives (neg_ℤ (pos 1500) over pos 1))
    -- "a fraction may not"
    ∷ reads "1/2E3" (refuses 4)
    -- "N zero gives 0", whatever x is
    ∷ reads "0E99999" (gives (pos 0 over pos 1))
    -- N, "leading and trailing zeros dropped", on both sides of the point
    ∷ reads "0.00000000000000000015E20" (gives (pos 15 over pos 1))
    ∷ reads "100000000000000000000E-20" (gives (pos 1 over pos 1))
    -- "x outside -18 to 18": here x is -18, and then -19
    ∷ reads "298023223876953125E-18" (gives (pos 78125 over pos 262144))
    ∷ reads "29802322387695312.5E-18" (refuses 7)
    -- "N over 18 digits": here N has 18, and then 19, though x is -18 and the number, 819200001/819200000, is within the limit
    ∷ reads "999999998779296875E-18" (gives (pos 819199999 over pos 819200000))
    ∷ reads "1000000001220703125E-18" (refuses 7)
    -- "a result too wide"
    ∷ reads "2.147483647E9" (gives (pos 2147483647 over pos 1))
    ∷ reads "2.147483648E9" (refuses 7)
    ∷ []
