-- What is proved of the definitions in specs/Example.antt.
-- Assumes nothing.
use Rattle.std.specs.Prelude.{◌≡◌, refl, [], ◌∷◌, ℕ, pos, replicate}
use Prim.Native.String.{String}
use Rattle.std.proofs.Math.Seq.{slice}
use Rattle.text.specs.Bytes.{Bytes, is_separator, is_printable, is_digit}
use Rattle.text.specs.Ascii.{ascii}
use Rattle.text.specs.Comments.{comments_end}
use Rattle.text.specs.Tokens.{Token, rest, stream_at}
use Rattle.tables.specs.Limits.{index_cells, value_cells, row_cells}
use Rattle.arithmetic.specs.Quotient.{lowest}
use Rattle.arithmetic.specs.declared.Fraction.{Fraction}
use Rattle.integers.specs.Gcd.{gcd, euclid}
use Rattle.numerals.specs.Spelling.{quotient_of}
use Rattle.numerals.specs.Reading.{read_value, outcome_of, narrowed}
use Rattle.grammar.specs.Tree.{Tree, TermList, maximize, at_most, obj, listed, finite, range, rnd, never}
use Rattle.grammar.specs.Reading.{read}
use Rattle.grammar.specs.Layout.{gather, marks}
use Rattle.grammar.specs.Texts.{SpellsTree, Certificate, SpellsCertificate, taken, read_of}
use Rattle.grammar.proofs.Texts.{read_sound}
use Rattle.grammar.specs.Tables.{filled, index_table, value_table, by_turns, row_table}
use Rattle.grammar.specs.Example.{example, example_tree, example_certificate, ExampleTables}

example-read : read_of example ≡ taken example_tree
unfolding example_tree read_of comments_end rest stream_at read is_separator is_printable is_digit read_value outcome_of narrowed quotient_of lowest gcd euclid
example-read = refl

pub example_spelled : SpellsTree example example_tree
example_spelled = read_sound example example_tree example-read

pub example-certificate : SpellsCertificate example example_certificate
unfolding example_tree gather
example-certificate = record { tree = example_tree; spells = example_spelled; lists = refl }

pub example_tables : ExampleTables
unfolding example_tree gather marks index_table value_table row_table
example_tables =
    record { index = refl; values = refl; row_0 = refl; row_1 = refl; rows_between = refl; row_1024 = refl; rows-after = refl }
