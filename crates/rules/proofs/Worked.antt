-- What is proved of the definitions in specs/Worked.antt.
-- Assumes nothing.
use Rattle.std.specs.Prelude.{◌≡◌, refl, List, [], ◌∷◌, ◌++◌, map, ℕ}
use Prim.Native.String.{String}
use Rattle.text.specs.Bytes.{Bytes, is_separator, is_printable, is_digit}
use Rattle.text.specs.Ascii.{ascii}
use Rattle.text.specs.Comments.{comments_end}
use Rattle.text.specs.Tokens.{rest, stream_at}
use Rattle.text.specs.Lines.{line_of}
use Rattle.arithmetic.specs.Quotient.{lowest, floor_z, ceiling_z}
use Rattle.arithmetic.specs.Fraction.{is_fraction, on_fractions, within, order}
use Rattle.integers.specs.Gcd.{gcd, euclid}
use Rattle.numerals.specs.Spelling.{quotient_of}
use Rattle.numerals.specs.Reading.{read_value, outcome_of, narrowed}
use Rattle.grammar.specs.Reading.{read}
use Rattle.grammar.specs.Texts.{ReadText, taken, refused as stopped, read_of}
use Rattle.rules.specs.Result.{Result, done, Verdict}
use Rattle.rules.specs.Rows.{value_in, constraint_of, objective_with, entries, entry_at}
use Rattle.rules.specs.Solutions.{left_side, check_row, check_solution, objectives_of}
use Rattle.rules.specs.Domination.{is_absurd, same_coefficients, dominates}
use Rattle.rules.specs.Combinations.{is_suitable, sense_of, next_combination, combine, suitable_combination}
use Rattle.rules.specs.Rounding.{is_integral, can_be_rounded, rounded}
use Rattle.rules.specs.Splits.{is_split, is_proper_split}
use Rattle.rules.specs.Assumptions.{sets_of, assumptions_of}
use Rattle.rules.specs.Derivations.{check_lin, check_rnd, check_uns, check_derivation}
use Rattle.rules.specs.Claims.{is_proved}
use Rattle.rules.specs.Check.{check_of}
use Rattle.rules.specs.Worked.{answer, Case, cases}

pub worked : map (λ (c : Case). answer c.text) cases ≡ map (λ (c : Case). c.expected) cases
unfolding cases read_of comments_end rest stream_at read is_separator is_printable is_digit read_value outcome_of narrowed quotient_of lowest floor_z ceiling_z gcd euclid is_fraction on_fractions within order line_of check_of value_in constraint_of objective_with entries entry_at left_side check_row check_solution objectives_of is_absurd same_coefficients dominates is_suitable sense_of next_combination combine suitable_combination is_integral can_be_rounded rounded is_split is_proper_split sets_of assumptions_of check_lin check_rnd check_uns check_derivation is_proved
worked = refl
