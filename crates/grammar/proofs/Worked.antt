-- What is proved of the definitions in specs/Worked.antt.
-- Assumes nothing.
use Rattle.std.specs.Prelude.{◌≡◌, refl, List, [], ◌∷◌, ◌++◌, map, ℕ, zero, suc, ◌+◌, ◌/◌, ◌%◌, pos, negsuc, length}
use Prim.Native.String.{String}
use Rattle.text.specs.Bytes.{Bytes, is_separator, is_printable, is_digit}
use Rattle.text.specs.Ascii.{ascii}
use Rattle.text.specs.Comments.{comments_end}
use Rattle.text.specs.Tokens.{rest, stream_at}
use Rattle.text.specs.Lines.{line_of}
use Rattle.arithmetic.specs.Quotient.{lowest}
use Rattle.integers.specs.Gcd.{gcd, euclid}
use Rattle.numerals.specs.Spelling.{quotient_of}
use Rattle.numerals.specs.Reading.{read_value, outcome_of, narrowed}
use Rattle.arithmetic.specs.declared.Fraction.{Fraction}
use Rattle.grammar.specs.Tree.{Term, Direction, minimize, maximize, Sense, equal, at_most, at_least, Side, obj, listed, Row, infinite, finite, Claim, infeas, range, Multiplier, MultiplierList, Unsplit, Reason, asm, lin, rnd, uns, sol, Last, never, index, Derivation, Tree}
use Rattle.grammar.specs.Certificate.{certificate}
use Rattle.grammar.specs.Reading.{read}
use Rattle.grammar.specs.Layout.{Mark, gather, cells, marks}
use Rattle.grammar.specs.Texts.{ReadText, taken, refused, read_of}
use Rattle.grammar.specs.Tables.{row_of}
use Rattle.grammar.specs.Example.{example}
use Rattle.grammar.specs.Worked.{Hold, cases}

pub cases_hold : Hold cases
unfolding read_of comments_end rest stream_at read gather marks is_separator is_printable is_digit read_value outcome_of narrowed quotient_of lowest gcd euclid line_of
cases_hold = refl
