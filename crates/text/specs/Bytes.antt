-- Bytes and strings of bytes, as document 01 speaks of them ("Spelling"). A text, a token and a word are lists of bytes.
-- Assumes nothing.
use Rattle.std.specs.Prelude.{Bool, true, false, cond, ◌&&◌, ◌||◌, List, [], ◌∷◌, ℕ, suc, ◌+◌, ◌-◌, ◌*◌, eqb, leb}

abbrev pub Bytes : Type 0
Bytes = List ℕ

-- "separated by space, tab, CR, LF"
unfoldable pub is_separator : ℕ → Bool
is_separator b = eqb b 32 || (eqb b 9 || (eqb b 13 || eqb b 10))

-- "bytes 33 to 126", of which a name is made
unfoldable pub is_printable : ℕ → Bool
is_printable b = leb 33 b && leb b 126

-- `0` to `9`
unfoldable pub is_digit : ℕ → Bool
is_digit b = leb 48 b && leb b 57

-- every byte passes the test
abbrev pub every : (ℕ → Bool) → Bytes → Bool
every test [] = true
every test (b ∷ w) = test b && every test w

-- how many bytes at the start pass the test
abbrev pub leading : (ℕ → Bool) → Bytes → ℕ
leading test [] = 0
leading test (b ∷ w) = cond (test b) (suc (leading test w)) 0

-- "compared byte for byte, case included"
abbrev pub same : Bytes → Bytes → Bool
same [] [] = true
same [] (b ∷ v) = false
same (a ∷ u) [] = false
same (a ∷ u) (b ∷ v) = eqb a b && same u v

-- "digits": one or more, and nothing else
abbrev pub is_numeral : Bytes → Bool
is_numeral [] = false
is_numeral (b ∷ w) = every is_digit (b ∷ w)

-- the number that digits spell after those that spell n; and the number that digits spell
abbrev pub number_after : ℕ → Bytes → ℕ
number_after n [] = n
number_after n (b ∷ w) = number_after (n * 10 + (b - 48)) w

abbrev pub number_of : Bytes → ℕ
number_of w = number_after 0 w
