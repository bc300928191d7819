-- What solver makers quote: of every text that is read and whose checking refuses nothing, the sentence about points holds. Of
-- every text that spells a certificate, whatever checking says of it, the denominators that the sentence compares are positive.
-- Assumes nothing.
use Rattle.std.specs.Prelude.{◌≡◌}
use Rattle.text.specs.Bytes.{Bytes}
use Rattle.grammar.specs.Tree.{Tree}
use Rattle.grammar.specs.Texts.{SpellsTree}
use Rattle.grammar.proofs.Texts.{spelled_once}
use Rattle.rules.specs.Result.{fine}
use Rattle.rules.specs.Check.{check_of}
use Rattle.rules.proofs.Agreement.{check_says}
use Rattle.rules.specs.Sentence.Points.{DenominatorsPositive, SentenceOf}
use Rattle.rules.proofs.Sentence.Spelled.{spelled_formed}
use Rattle.rules.proofs.Sentence.Denominators.{formed_positive}
use Rattle.rules.proofs.Sentence.Meaning.{sentence}

pub denominators_positive : (text : Bytes) (tree : Tree) → SpellsTree text tree → DenominatorsPositive tree
denominators_positive text tree s = formed_positive tree (spelled_formed tree s.tokens s.spelled)

pub verified_means : (text : Bytes) (tree : Tree) → SpellsTree text tree → check_of tree ≡ fine → SentenceOf text
verified_means text tree s e =
    record {
      tree = tree;
      spelled = s;
      spelled_once = λ other t. spelled_once text tree other s t;
      denominators_positive = denominators_positive text tree s;
      sentence = sentence tree (spelled_formed tree s.tokens s.spelled) ((check_says tree).0 e);
    }
