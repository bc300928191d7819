-- 01's own example ("Numbers on either side"): what its 123 bytes spell, and what the tables hold after reading them.
-- Assumes nothing.
use Rattle.std.specs.Prelude.{◌≡◌, refl, [], ◌∷◌, ℕ, pos, replicate}
use Prim.Native.String.{String}
use Rattle.std.proofs.Math.Seq.{slice}
use Rattle.text.specs.Bytes.{Bytes, is_separator, is_printable, is_digit}
use Rattle.text.specs.Ascii.{ascii}
use Rattle.text.specs.Comments.{comments_end}
use Rattle.text.specs.Tokens.{Token, rest, stream_at}
use Rattle.tables.specs.Limits.{index_cells, value_cells, row_cells}
use Rattle.arithmetic.specs.Quotient.{lowest}
use Rattle.arithmetic.specs.declared.Fraction.{Fraction}
use Rattle.integers.specs.Gcd.{gcd, euclid}
use Rattle.numerals.specs.Spelling.{quotient_of}
use Rattle.numerals.specs.Reading.{read_value, outcome_of, narrowed}
use Rattle.grammar.specs.Tree.{Tree, TermList, maximize, at_most, obj, listed, finite, range, rnd, never}
use Rattle.grammar.specs.Reading.{read}
use Rattle.grammar.specs.Layout.{gather, marks}
use Rattle.grammar.specs.Texts.{SpellsTree, Certificate, SpellsCertificate, taken, read_of}
use Rattle.grammar.specs.Tables.{filled, index_table, value_table, by_turns, row_table}

-- the text
abbrev pub example : Bytes
example =
    ascii "VER 1.0\nVAR 1\nx\nINT 1\n0\nOBJ max\n1 0 1\nCON 1 0\nR1 L 3 1 0 2\nRTP range 1 1\nSOL 1\na 1 0 1\nDER 1\nD1 L 1 OBJ { rnd 1 0 1/2 } -1\n"

abbrev at : ℕ → String → Token
at place name = record { place = place; bytes = ascii name }

infix 70 ◌over◌
abbrev ◌over◌ : ℕ → ℕ → Fraction
n over d = record { num = pos n; den = pos d }

-- one term, of variable 0
abbrev one_term : ℕ → TermList
one_term c = record { count = 1; terms = record { variable = 0; coefficient = c over 1 } ∷ [] }

-- the tree that it spells
unfoldable pub example_tree : Tree
example_tree =
    record {
      variables = record { count = 1; names = at 14 "x" ∷ [] };
      integers = record { count = 1; indices = 0 ∷ [] };
      objective = record { direction = maximize; terms = one_term 1 };
      constraints =
          record { count = 1; bounds = 0; rows = record { name = at 46 "R1"; sense = at_most; right = 3 over 1; side = listed (one_term 2) } ∷ [] };
      relation = record { place = 59; claim = range (finite (1 over 1)) (finite (1 over 1)) };
      solutions = record { count = 1; solutions = record { name = at 79 "a"; values = one_term 1 } ∷ [] };
      derivations =
          record {
            place = 87;
            count = 1;
            derivations =
                record {
                  row = record { name = at 93 "D1"; sense = at_most; right = 1 over 1; side = obj };
                  reason = rnd (record { count = 1; multipliers = record { row = 0; factor = 1 over 2 } ∷ [] });
                  last = never;
                } ∷ [];
          };
    }

-- "Index cells: .."; the values; the names
abbrev pub example_certificate : Certificate
example_certificate =
    record {
      numbers = 1 ∷ 1 ∷ 0 ∷ 1 ∷ 1 ∷ 0 ∷ 1 ∷ 0 ∷ 1 ∷ 1 ∷ 0 ∷ 1 ∷ 1 ∷ 1 ∷ 1 ∷ 1 ∷ 0 ∷ 1 ∷ 1 ∷ 65535 ∷ 2 ∷ 1 ∷ 0 ∷ 65535 ∷ [];
      values = 1 over 1 ∷ 3 over 1 ∷ 2 over 1 ∷ 1 over 1 ∷ 1 over 1 ∷ 1 over 1 ∷ 1 over 1 ∷ 1 over 2 ∷ [];
      names = ascii "x" ∷ ascii "R1" ∷ ascii "a" ∷ ascii "D1" ∷ [];
    }

-- the tables after reading it, of the cells needed: zeros after the cells of the certificate; "Row 0: 46 2 8 1. Row 1:
-- 93 2 18 6. Row 1,024: 79 1 15 5"
pub record ExampleTables : Type 0 where
  pub index : index_table index_cells example_tree ≡ filled 0 index_cells example_certificate.numbers
  pub values : value_table value_cells example_tree ≡ filled (pos 0) value_cells (by_turns example_certificate.values)
  pub row_0 : slice 0 4 (row_table row_cells example_tree) ≡ 46 ∷ 2 ∷ 8 ∷ 1 ∷ []
  pub row_1 : slice 4 8 (row_table row_cells example_tree) ≡ 93 ∷ 2 ∷ 18 ∷ 6 ∷ []
  pub rows_between : slice 8 4096 (row_table row_cells example_tree) ≡ replicate 4088 0
  pub row_1024 : slice 4096 4100 (row_table row_cells example_tree) ≡ 79 ∷ 1 ∷ 15 ∷ 5 ∷ []
  pub rows-after : slice 4100 4352 (row_table row_cells example_tree) ≡ replicate 252 0
