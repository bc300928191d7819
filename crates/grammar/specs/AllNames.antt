-- "all names" of a certificate, in file order (document 01, "Tables lent by the caller"): the variables', the given rows', the
-- solutions' and the derived rows' (`tree_names`); and the variables', "which the text alone holds", stand in the text.
-- Assumes nothing.
use Rattle.std.specs.Prelude.{◌≡◌, refl, ◌⊎◌, ℕ}
use Rattle.std.proofs.Math.Path.{sym, ap₂}
use Rattle.std.proofs.Common.{◌∙◌, ap, inl, inr}
use mathlib.Core.List.Memᴰ
use mathlib.Core.List.{List, [], ◌∷◌, ◌++◌, map, map-id, map-append, append-nil, Memᴰ}
use Rattle.text.specs.Bytes.{Bytes}
use Rattle.text.specs.Tokens.{Token}
use Rattle.grammar.specs.Lists.{Each}
use Rattle.grammar.specs.Tree.{Tree, Constraints, Row, Derivation, Solution}
use Rattle.grammar.specs.Format.{Or, instead, given, Symbol, word, placed, choice, number, name, row_name, value, or, Format, symbol, then, items, nothing, view}
use Rattle.grammar.specs.Spelling.{ItemsSpelled, Spells}
use Rattle.grammar.specs.Certificate.{pair, pair_list, listed_terms, side, row, row_names, ReasonWord, asm_word, lin_word, rnd_word, uns_word, sol_word, detail, derivation, solution, ClaimWord, infeas_word, range_word, ends, section, variables, integers, objective_section, constraints, relation, solution_section, derivation_section, certificate}
use Rattle.grammar.specs.Layout.{symbol_names, gather_items, gather, names}
use Rattle.grammar.specs.Texts.{SpellsTree}
use Rattle.grammar.specs.Names.{StandsIn}

-- the names of a certificate, in file order
abbrev pub row_tokens : List Row → List Token
row_tokens rows = map (λ (r : Row). r.name) rows

abbrev pub solution_tokens : List Solution → List Token
solution_tokens solutions = map (λ (s : Solution). s.name) solutions

abbrev pub derivation_tokens : List Derivation → List Token
derivation_tokens derivations = map (λ (d : Derivation). d.row.name) derivations

abbrev pub name_tokens : Tree → List Token
name_tokens t =
    t.variables.names
    ++ (row_tokens t.constraints.rows
    ++ (solution_tokens t.solutions.solutions
    ++ derivation_tokens t.derivations.derivations))

abbrev pub spellings : List Token → List Bytes
spellings ts = map (λ (t : Token). t.bytes) ts
