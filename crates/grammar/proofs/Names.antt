-- What is proved of the definitions in specs/Names.antt.
-- Assumes nothing.
use Rattle.std.specs.Prelude.{◌≡◌, refl, ℕ, ◌+◌, ◌-◌, ◌≤◌}
use Rattle.std.proofs.Common.{sym, ◌∙◌, ap, subst, arith, drop-drop, drop_at, take_at}
use mathlib.Core.List.Memᴰ
use mathlib.Core.List.{List, [], ◌∷◌, ◌++◌, Memᴰ}
use lib.ListN.{length, drop, length-append, length-drop}
use Rattle.std.proofs.Math.Seq.{slice}
use Rattle.text.specs.Bytes.{Bytes}
use Rattle.text.proofs.BytesLaws.{slice_take}
use Rattle.text.specs.Tokens.{Token, FirstToken, HasTokens, TextHasTokens}
use Rattle.arithmetic.specs.declared.Fraction.{Fraction}
use Rattle.grammar.specs.Tree.{Tree}
use Rattle.grammar.specs.Format.{instead, given, Symbol, word, placed, choice, number, name, row_name, value, or, Format, symbol, then, items, nothing, view}
use Rattle.grammar.specs.Lists.{Each}
use Rattle.grammar.proofs.Lists.{each_none, each-one, each_append, each_map}
use Rattle.grammar.specs.Spelling.{SymbolSpelled, ItemsSpelled, Spells}
use Rattle.grammar.specs.Certificate.{certificate}
use Rattle.grammar.specs.Layout.{Mark, symbol_marks, gather_items, gather, cells, values, marks_items, marks}
use Rattle.grammar.specs.Texts.{SpellsTree}
use Rattle.grammar.specs.Names.{StandsIn, MarkAmong}

-- the part of a text from a place on
module _ (text : Bytes) where
  first_stands : {at : ℕ} {part : Bytes} {t : Token} {after : Bytes} → drop at text ≡ part → FirstToken at part t after
      → StandsIn text t × (drop (t.place + length t.bytes) text ≡ after)
  first_stands {at} {part} {t} {after} e f =
      let from : drop t.place text ≡ t.bytes ++ after =
      ap (λ (n : ℕ). drop n text) f.place ∙ sym (drop-drop (length f.gap) at text)
      ∙ ap (drop (length f.gap)) (e ∙ f.cut) ∙ drop_at f.gap (t.bytes ++ after) (length f.gap) refl in
      let size : length text - t.place ≡ length t.bytes + length after =
      sym (length-drop t.place text) ∙ ap length from ∙ length-append t.bytes after in (
        record {
          bytes =
              slice_take t.place (length t.bytes) text
              ∙ ap (lib.ListN.take (length t.bytes)) from
              ∙ take_at t.bytes after (length t.bytes) refl;
          inside = omega (arith, f.not-empty);
        },
        sym (drop-drop (length t.bytes) t.place text) ∙ ap (drop (length t.bytes)) from
            ∙ drop_at t.bytes after (length t.bytes) refl,
      )

  tokens_stand : (at : ℕ) (part : Bytes) (ts : List Token) → drop at text ≡ part → HasTokens at part ts → Each (StandsIn text) ts
  tokens_stand at part [] e h = each_none
  tokens_stand at part (t ∷ ts) e h =
      let first = first_stands e h.1 in
      each_append (each-one first.0) (tokens_stand (t.place + length t.bytes) h.0 ts first.1 h.2)

-- each token of a text stands in it
pub text_tokens_stand : {text : Bytes} {ts : List Token} → TextHasTokens text ts → Each (StandsIn text) ts
text_tokens_stand {text} {ts} h = tokens_stand text h.start (drop h.start text) ts refl h.tokens

-- among more tokens, with more before it
among_more : {us ts : List Token} {j k v w : ℕ} → ((t : Token) → Memᴰ t us → Memᴰ t ts) → j ≤ k → v ≤ w → (m : Mark) → MarkAmong us j v m → MarkAmong ts k w m
among_more f p q m h =
    record { name_among = f m.name h.name_among; cells_most = omega (arith, h.cells_most); values_most = omega (arith, h.values_most) }

symbol_marks_lem : {A : Type 0} (s : Symbol A) (a : A) (t : Token) → SymbolSpelled s a t → (i v : ℕ) → Each (MarkAmong (t ∷ []) i v) (symbol_marks s a i v)
symbol_marks_lem (word w) a t h i v = each_none
symbol_marks_lem (placed w) a t h i v = each_none
symbol_marks_lem (choice cell words out) a t h i v = each_none
symbol_marks_lem (number bound used) a t h i v = each_none
symbol_marks_lem name a t h i v = each_none
symbol_marks_lem (row_name row used) a t h i v = each-one (record { name_among = Memᴰ.head (sym h.0); cells_most = omega arith; values_most = omega arith })
symbol_marks_lem (value cells) a t h i v = each_none
symbol_marks_lem (or w cell s) instead t h i v = each_none
symbol_marks_lem (or w cell s) (given a) t h i v = symbol_marks_lem s a t h i v

-- one run of tokens, and then another
two-marks : {ts us vs : List Token} {i j k v w x : ℕ} {l r : List Mark} → ts ≡ us ++ vs → Each (MarkAmong us i v) l → Each (MarkAmong vs j w) r
    → i ≤ k → j ≤ k → v ≤ x → w ≤ x → Each (MarkAmong ts k x) (l ++ r)
two-marks {us = us} {vs = vs} e h g p q a b =
    rw e
    (each_append (each_map (among_more (λ t m. Memᴰ.append_left vs m) p a) h) (each_map (among_more (λ t m. Memᴰ.append_right us m) q b) g))

items_marks : {A : Type 0} (P : List A → A → List Token → Type 0) (C : List A → A → List ℕ) (U : List A → A → List Fraction) (M : List A → A → ℕ → ℕ → List Mark)
    → ((before : List A) (x : A) (us : List Token) → P before x us → (i v : ℕ) → Each (MarkAmong us (i + length (C before x)) (v + length (U before x))) (M before x i v))
    → (before xs : List A) (ts : List Token) → ItemsSpelled P before xs ts → (i v : ℕ)
    → Each (MarkAmong ts (i + length (gather_items C before xs)) (v + length (gather_items U before xs))) (marks_items C U M before xs i v)
items_marks P C U M one before [] ts h i v = each_none
items_marks P C U M one before (x ∷ xs) ts h i v =
    let c = length-append (C before x) (gather_items C (before ++ (x ∷ [])) xs) in
    let u = length-append (U before x) (gather_items U (before ++ (x ∷ [])) xs) in
    two-marks h.tokens (one before x h.front h.first i v)
    (items_marks P C U M one (before ++ (x ∷ [])) xs h.back h.second (i + length (C before x)) (v + length (U before x)))
    (omega arith) (omega arith) (omega arith) (omega arith)

-- a mark of what tokens spell has one of these tokens for its name, and the cells and values before it are some of theirs
pub marks_among : {A : Type 0} (f : Format A) (a : A) (ts : List Token) → Spells f a ts → (i v : ℕ)
    → Each (MarkAmong ts (i + length (cells f a)) (v + length (values f a))) (marks f a i v)
unfolding gather marks
marks_among (symbol s) a ts h i v =
    rw h.alone
    (each_map (among_more (λ t m. m) (omega arith) (omega arith)) (symbol_marks_lem s a h.token h.spelled i v))
marks_among (then f g) ab ts h i v =
    let c = length-append (cells f ab.0) (cells (g ab.0) ab.1) in
    let u = length-append (values f ab.0) (values (g ab.0) ab.1) in
    two-marks h.tokens (marks_among f ab.0 h.front h.first i v)
    (marks_among (g ab.0) ab.1 h.back h.second (i + length (cells f ab.0)) (v + length (values f ab.0)))
    (omega arith) (omega arith) (omega arith) (omega arith)
marks_among (items n g) xs ts h i v =
    items_marks (λ before x vs. Spells (g before) x vs) (λ before x. cells (g before) x) (λ before x. values (g before) x) (λ before x j w. marks (g before) x j w)
    (λ before x us p j w. marks_among (g before) x us p j w) [] xs ts h.each i v
marks_among nothing a ts h i v = each_none
marks_among (view to from p q f) b ts h i v = marks_among f (from b) ts h i v

-- ---- the names of the row table

-- each name that the row table keeps stands in the text at the place and with the length that its row says
pub names_stand : {text : Bytes} {tree : Tree} → SpellsTree text tree → Each (λ (m : Mark). StandsIn text m.name) (marks certificate tree 0 0)
names_stand {text} {tree} s =
    each_map (λ m h. (text_tokens_stand s.has_tokens).holds m.name h.name_among) (marks_among certificate tree s.tokens s.spelled 0 0)
