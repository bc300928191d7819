-- What a text spells, what reading it gives, and that these agree (document 01, "Spelling" and "Reasons of refusal").
-- Assumes nothing.
use Rattle.std.specs.Prelude.{◌≡◌, refl, ◌↔◌, ℕ, length}
use Rattle.std.proofs.Common.{sym, ◌∙◌}
use Rattle.std.proofs.Math.Path.{ap, subst}
use mathlib.Core.List.{List}
use Rattle.text.specs.Bytes.{Bytes}
use Rattle.text.specs.Comments.{comments_end}
use Rattle.text.specs.Tokens.{Token, Stream, end, token, join, listed, rest, tokens_of, TextHasTokens}
use Rattle.text.proofs.TokensLaws.{listed-join, rest_is, text_tokens, text_tokens_only}
use Rattle.arithmetic.specs.declared.Fraction.{Fraction}
use Rattle.grammar.specs.Tree.{Tree}
use Rattle.grammar.specs.Spelling.{Spells}
use Rattle.grammar.specs.Certificate.{certificate}
use Rattle.grammar.specs.Reading.{Read, got, stopped, read}
use Rattle.grammar.specs.Layout.{cells, values, names}

-- ---- what a text spells

-- "A text spells a certificate exactly if its tokens are these, in order, as in 000, with none left over"
pub record SpellsTree (text : Bytes) (tree : Tree) : Type 0 where
  pub tokens : List Token
  pub has_tokens : TextHasTokens text tokens
  pub spelled : Spells certificate tree tokens

-- 01's term: "A certificate is three lists in file order: the numbers that index cells take, the values, all names"
pub record Certificate : Type 0 where
  pub numbers : List ℕ
  pub values : List Fraction
  pub names : List Bytes

-- "The certificate spelled has these tokens' numbers and values as the tables above write them, and their names byte for byte"
abbrev pub certificate_of : Tree → Certificate
certificate_of tree = record { numbers = cells certificate tree; values = values certificate tree; names = names certificate tree }

pub record SpellsCertificate (text : Bytes) (c : Certificate) : Type 0 where
  pub tree : Tree
  pub spells : SpellsTree text tree
  pub lists : certificate_of tree ≡ c

-- ---- what reading a text gives

-- the tree, or the first refusal, by 01's number and a place; its line is `line_of text place`
pub data ReadText : Type 0 where
  taken : Tree → ReadText
  refused : ℕ → ℕ → ReadText

-- "8 a token after the last derivation"
abbrev pub ended : Tree → Stream → ReadText
ended tree (end size) = taken tree
ended tree (token place bytes s) = refused 8 place

abbrev pub to_the_end : Read Tree → ReadText
to_the_end (got tree s) = ended tree s
to_the_end (stopped r p) = refused r p

-- "the whole text is read, token by token, each tested 3, 4, 5, 6, 7; then 8"
unfoldable pub read_of : Bytes → ReadText
read_of text = to_the_end (read certificate (rest text (comments_end text)))
