-- What is proved of the definitions in specs/Texts.antt.
-- Assumes nothing.
use Rattle.std.specs.Prelude.{◌≡◌, refl, ◌↔◌, ℕ, length}
use Rattle.std.proofs.Common.{sym, ◌∙◌}
use Rattle.std.proofs.Math.Path.{ap, subst}
use mathlib.Core.List.{List}
use Rattle.text.specs.Bytes.{Bytes}
use Rattle.text.specs.Comments.{comments_end}
use Rattle.text.specs.Tokens.{Token, Stream, end, token, join, listed, rest, tokens_of, TextHasTokens}
use Rattle.text.proofs.TokensLaws.{listed-join, rest_is, text_tokens, text_tokens_only}
use Rattle.arithmetic.specs.declared.Fraction.{Fraction}
use Rattle.grammar.specs.Tree.{Tree}
use Rattle.grammar.specs.Spelling.{Spells}
use Rattle.grammar.specs.Certificate.{certificate}
use Rattle.grammar.specs.Reading.{Read, got, stopped, read}
use Rattle.grammar.proofs.SymbolAgreement.{impossible}
use Rattle.grammar.proofs.Agreement.{sound, complete}
use Rattle.grammar.proofs.Unambiguous.{certificate_clear}
use Rattle.grammar.specs.Layout.{cells, values, names}
use Rattle.grammar.specs.Texts.{SpellsTree, Certificate, certificate_of, SpellsCertificate, taken, to_the_end, read_of}

-- ---- both agree

to_the_end_lem : (r : Read Tree) (tree : Tree) → to_the_end r ≡ taken tree → (size : ℕ) × (r ≡ got tree (end size))
to_the_end_lem (got t (end size)) tree e = (size, (let p : t ≡ tree = cc in ap (λ (x : Tree). got x (end size)) p))
to_the_end_lem (got t (token place bytes s)) tree e = impossible (cc)
to_the_end_lem (stopped r p) tree e = impossible (cc)

module _ (text : Bytes) where
  abbrev whole : Stream
  whole = rest text (comments_end text)

  pub read_sound : (tree : Tree) → read_of text ≡ taken tree → SpellsTree text tree
  unfolding read_of tokens_of
  read_sound tree e =
      let r = to_the_end_lem (read certificate whole) tree e in
      let s = sound certificate whole tree (end r.0) r.1 in
      let tokens : tokens_of text ≡ s.0 = ap listed s.1 ∙ listed-join s.0 r.0 in
      record { tokens = s.0; has_tokens = subst (λ (ts : List Token). TextHasTokens text ts) tokens (text_tokens text); spelled = s.2 }

  pub read_complete : (tree : Tree) → SpellsTree text tree → read_of text ≡ taken tree
  unfolding read_of tokens_of
  read_complete tree s =
      let stream : whole ≡ join s.tokens (end (length text)) =
      rest_is text (comments_end text) ∙ ap (λ (ts : List Token). join ts (end (length text))) (sym (text_tokens_only s.has_tokens)) in
      ap (λ (o : Stream). to_the_end (read certificate o)) stream
      ∙ ap to_the_end (complete certificate tree s.tokens (end (length text)) certificate_clear s.spelled)

  -- a text is taken exactly if it spells a tree
  pub taken_spelled : (tree : Tree) → (read_of text ≡ taken tree) ↔ SpellsTree text tree
  taken_spelled tree = (read_sound tree, read_complete tree)

  -- a text is taken exactly if it spells some certificate
  pub taken_certificate : ((tree : Tree) × (read_of text ≡ taken tree)) ↔ ((c : Certificate) × SpellsCertificate text c)
  taken_certificate = (
    λ r. (certificate_of r.0, record { tree = r.0; spells = read_sound r.0 r.1; lists = refl }),
    λ c. (c.1.tree, read_complete c.1.tree c.1.spells),
  )

  -- no text spells two
  pub spelled_once : (a b : Tree) → SpellsTree text a → SpellsTree text b → a ≡ b
  spelled_once a b s t =
      let p = read_complete a s in
      let q = read_complete b t in
      cc

  pub certificate_once : (c d : Certificate) → SpellsCertificate text c → SpellsCertificate text d → c ≡ d
  certificate_once c d s t =
      sym s.lists ∙ ap certificate_of (spelled_once s.tree t.tree s.spells t.spells) ∙ t.lists
