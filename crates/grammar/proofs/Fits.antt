-- What is proved of the definitions in specs/Fits.antt.
-- Assumes nothing.
use Rattle.std.specs.Prelude.{◌≡◌, refl, Bool, true, ℕ, suc, ◌+◌, ◌-◌, ◌*◌, ◌≤◌, ◌<◌, length, drop}
use Rattle.std.proofs.Common.{sym, ◌∙◌, ap, subst, arith, lit<, length-append, length-drop}
use mathlib.Core.List.Memᴰ
use mathlib.Core.List.{List, [], ◌∷◌, ◌++◌, Memᴰ}
use Rattle.text.specs.Bytes.{Bytes, every}
use Rattle.text.proofs.BytesLaws.{clash}
use Rattle.text.specs.Tokens.{Token, is_token_byte, is_ended, FirstToken, HasTokens, TextHasTokens}
use Rattle.text.proofs.TokensLaws.{first_byte}
use Rattle.text.specs.Words as W
use Rattle.tables.specs.Limits.{index_cells, value_cells, row_cells, most_variables, most_rows, most_entries, most_bytes}
use Rattle.tables.specs.Words as cell
use Rattle.arithmetic.specs.Fraction.{IsFraction}
use Rattle.arithmetic.specs.declared.Fraction.{Fraction}
use Rattle.numerals.specs.Spelling.{SpellsValue}
use Rattle.numerals.proofs.Agreement.{value_read}
use Rattle.grammar.specs.Tree.{Tree, Sense, Direction, Constraints, Solution}
use Rattle.grammar.proofs.ByCases.{by_sense, by_claim_word, by_direction}
use Rattle.grammar.specs.Format.{Word, Or, instead, given, Symbol, word, placed, choice, number, name, row_name, value, or, Format, symbol, then, items, nothing, view}
use Rattle.grammar.specs.Spelling.{SymbolSpelled, ItemsSpelled, Spells}
use Rattle.grammar.specs.Certificate.{count_to, index_below, plain_value, pair, pair_list, term_list, sense, listed_terms, side, row, unsplit, ReasonWord, asm_word, lin_word, rnd_word, uns_word, sol_word, reason_cell, detail, reason, last, assumptions, solution, end_or, ClaimWord, infeas_word, range_word, ends, claim, section, version, variables, integers, objective_section, constraints, relation, solution_section, derivation_section, certificate}
use Rattle.grammar.specs.Layout.{Mark, symbol_cells, symbol_values, gather_items, gather, cells, values, marks}
use Rattle.grammar.specs.Texts.{SpellsTree}
use Rattle.grammar.specs.Tables.{by_turns, row_of}
use Rattle.grammar.proofs.Contents.{tree_rows_lem}
use Rattle.grammar.proofs.Ranges.{tree_in_range, rows-below}
use Rattle.grammar.specs.Names.{StandsIn}
use Rattle.grammar.proofs.Names.{text_tokens_stand, marks_among}
use Rattle.grammar.specs.Lists.{Each}
use Rattle.grammar.proofs.Lists.{each_none, each-one, each_append}
use Rattle.grammar.specs.Fits.{FitsU16, RowFits, Fits}

-- ---- tokens are separated: a text of so many bytes has at most half as many tokens

-- where a token ends before a part, the next token has a separator before it
ended_gap : {at : ℕ} {part : Bytes} {t : Token} {after : Bytes} → is_ended part ≡ true → (f : FirstToken at part t after) → 0 < length f.gap
ended_gap {at} {part} {t} {after} e f = go f.gap f.cut t.bytes refl f.not-empty f.unbroken
  where
    go : (gap : Bytes) → part ≡ gap ++ (t.bytes ++ after) → (w : Bytes) → t.bytes ≡ w → 0 < length t.bytes → every is_token_byte t.bytes ≡ true → 0 < length gap
    go (b ∷ gap) cut w q s u = omega arith
    go [] cut [] q s u = absurd (omega (arith, ap length q))
    go [] cut (b ∷ w) q s u =
        clash (first_byte b w (sym (ap (every is_token_byte) q) ∙ u))
        (sym (ap (λ (x : Bytes). is_ended (x ++ after)) q) ∙ sym (ap is_ended cut) ∙ e)

first_size : {at : ℕ} {part : Bytes} {t : Token} {after : Bytes} → (f : FirstToken at part t after) → length part ≡ length f.gap + (length t.bytes + length after)
first_size {t = t} {after = after} f =
    ap length f.cut ∙ length-append f.gap (t.bytes ++ after) ∙ ap (λ (n : ℕ). length f.gap + n) (length-append t.bytes after)

tokens-ended : (at : ℕ) (part : Bytes) (ts : List Token) → is_ended part ≡ true → HasTokens at part ts → 2 * length ts ≤ length part
tokens-ended at part [] e h = omega arith
tokens-ended at part (t ∷ ts) e h =
    let more = tokens-ended (t.place + length t.bytes) h.0 ts h.1.ended h.2 in
    omega (arith, first_size h.1, ended_gap e h.1, h.1.not-empty)

tokens_few : (at : ℕ) (part : Bytes) (ts : List Token) → HasTokens at part ts → 2 * length ts ≤ length part + 1
tokens_few at part [] h = omega arith
tokens_few at part (t ∷ ts) h =
    let more = tokens-ended (t.place + length t.bytes) h.0 ts h.1.ended h.2 in
    omega (arith, first_size h.1, h.1.not-empty)

pub text_tokens_few : {text : Bytes} {ts : List Token} → TextHasTokens text ts → 2 * length ts ≤ length text + 1
text_tokens_few {text} {ts} h =
    let few = tokens_few h.start (drop h.start text) ts h.tokens in
    let size = length-drop h.start text in
    omega arith

-- ---- values, for every format: each is in lowest terms within the limit

spelled_fraction : (f : Fraction) (w : Bytes) → SpellsValue f w → IsFraction f
spelled_fraction f w s = ((value_read w).spells_exactly f s).0

symbol_values_lem : {A : Type 0} (s : Symbol A) (a : A) (t : Token) → SymbolSpelled s a t → Each IsFraction (symbol_values s a)
symbol_values_lem (word w) a t h = each_none
symbol_values_lem (placed w) a t h = each_none
symbol_values_lem (choice cell words out) a t h = each_none
symbol_values_lem (number bound used) a t h = each_none
symbol_values_lem name a t h = each_none
symbol_values_lem (row_name row used) a t h = each_none
symbol_values_lem (value cells) f t h = each-one (spelled_fraction f t.bytes h)
symbol_values_lem (or w cell s) instead t h = each_none
symbol_values_lem (or w cell s) (given a) t h = symbol_values_lem s a t h

items_values : {A : Type 0} (P : List A → A → List Token → Type 0) (U : List A → A → List Fraction)
    → ((before : List A) (x : A) (us : List Token) → P before x us → Each IsFraction (U before x))
    → (before xs : List A) (ts : List Token) → ItemsSpelled P before xs ts → Each IsFraction (gather_items U before xs)
items_values P U one before [] ts h = each_none
items_values P U one before (x ∷ xs) ts h = each_append (one before x h.front h.first) (items_values P U one (before ++ (x ∷ [])) xs h.back h.second)

pub values_are : {A : Type 0} (f : Format A) (a : A) (ts : List Token) → Spells f a ts → Each IsFraction (values f a)
unfolding gather
values_are (symbol s) a ts h = symbol_values_lem s a h.token h.spelled
values_are (then f g) ab ts h = each_append (values_are f ab.0 h.front h.first) (values_are (g ab.0) ab.1 h.back h.second)
values_are (items n g) xs ts h =
    items_values (λ before x vs. Spells (g before) x vs) (λ before x. values (g before) x) (λ before x us p. values_are (g before) x us p) [] xs ts h.each
values_are nothing a ts h = each_none
values_are (view to from p q f) b ts h = values_are f (from b) ts h

-- ---- cells and values, format by format

-- what these tokens take of the tables, cells and values: at most one cell for each token, and one value for each two tokens.
-- Where a part of the grammar has more tokens for its values than that, they are extra, and where it has fewer, some are
-- missing: twice the values, and what is extra, are at most the tokens, and what is missing
record Takes (extra missing : ℕ) (ts : List Token) (cs : List ℕ) (vs : List Fraction) : Type 0 where
  cells_few : length cs ≤ length ts
  values_few : 2 * length vs + extra ≤ length ts + missing
  cells_narrow : Each FitsU16 cs

takes_none : Takes 0 0 [] [] []
takes_none = record { cells_few = omega arith; values_few = omega arith; cells_narrow = each_none }

-- with less that is extra, or more that is missing
takes_as : {s o : ℕ} {ts : List Token} {cs : List ℕ} {vs : List Fraction} (extra missing : ℕ) → extra + o ≤ s + missing
    → Takes s o ts cs vs → Takes extra missing ts cs vs
takes_as extra missing le t =
    record { cells_few = t.cells_few; values_few = omega (arith, t.values_few); cells_narrow = t.cells_narrow }

-- one run of tokens, and then another
takes_both : {s o s' o' : ℕ} {ts us ws : List Token} {cs ds : List ℕ} {vs xs : List Fraction} → ts ≡ us ++ ws
    → Takes s o us cs vs → Takes s' o' ws ds xs → Takes (s + s') (o + o') ts (cs ++ ds) (vs ++ xs)
takes_both {us = us} {ws = ws} {cs = cs} {ds = ds} {vs = vs} {xs = xs} e t u =
    let size = ap length e ∙ length-append us ws in
    let c = length-append cs ds in
    let v = length-append vs xs in
    record {
      cells_few = omega (arith, t.cells_few, u.cells_few);
      values_few = omega (arith, t.values_few, u.values_few);
      cells_narrow = each_append t.cells_narrow u.cells_narrow;
    }

-- so it is for all tokens that spell the format
record Narrow {A : Type 0} (extra missing : ℕ) (f : Format A) : Type 0 where
  takes : (a : A) (ts : List Token) → Spells f a ts → Takes extra missing ts (cells f a) (values f a)

narrow_as : {A : Type 0} {f : Format A} {s o : ℕ} (extra missing : ℕ) → extra + o ≤ s + missing → Narrow s o f → Narrow extra missing f
narrow_as extra missing le h = record { takes = λ a ts p. takes_as extra missing le (h.takes a ts p) }

nothing_narrow : Narrow 0 0 nothing
unfolding gather
nothing_narrow = record { takes = λ a ts p. rw p takes_none }

module _ {A B : Type 0} {to : A → B} {from : B → A} {there : (a : A) → from (to a) ≡ a} {back : (b : B) → to (from b) ≡ b} {f : Format A} {extra missing : ℕ} where
  view_narrow : Narrow extra missing f → Narrow extra missing (view to from there back f)
  unfolding gather
  view_narrow h = record { takes = λ b ts p. h.takes (from b) ts p }

module _ {A : Type 0} {B : A → Type 0} {f : Format A} {g : (a : A) → Format (B a)} {s o s' o' : ℕ} where
  then_narrow : Narrow s o f → ((a : A) (us : List Token) → Spells f a us → Narrow s' o' (g a)) → Narrow (s + s') (o + o') (then f g)
  unfolding gather
  then_narrow h k = record { takes = λ ab ts p. takes_both p.tokens (h.takes ab.0 p.front p.first) ((k ab.0 p.front p.first).takes ab.1 p.back p.second) }

-- each item may depend on those before it, of which there are fewer than n
module _ {A : Type 0} {n : ℕ} {g : List A → Format A} (each : (before : List A) → length before < n → Narrow 0 0 (g before)) where
  items_take : (before xs : List A) (ts : List Token) → length before + length xs ≡ n → ItemsSpelled (λ before x us. Spells (g before) x us) before xs ts
      → Takes 0 0 ts (gather_items (λ before x. cells (g before) x) before xs) (gather_items (λ before x. values (g before) x) before xs)
  items_take before [] ts e p = rw p takes_none
  items_take before (x ∷ xs) ts e p =
      takes_both p.tokens ((each before (omega arith)).takes x p.front p.first)
      (items_take (before ++ (x ∷ [])) xs p.back (omega (arith, length-append before (x ∷ []))) p.second)

  items_narrow : Narrow 0 0 (items n g)
  unfolding gather
  items_narrow = record { takes = λ xs ts p. items_take [] xs ts (omega (arith, p.counted)) p.each }

-- ---- one token

-- a value has one token, so that one is missing; another symbol has one, and no value
abbrev extra : {A : Type 0} → Symbol A → ℕ
extra (word w) = 1
extra (placed w) = 1
extra (choice cell words out) = 1
extra (number bound used) = 1
extra name = 1
extra (row_name row used) = 1
extra (value cells) = 0
extra (or w cell y) = extra y

abbrev missing : {A : Type 0} → Symbol A → ℕ
missing y = 1 - extra y

-- the cells of a symbol are one at most, and it fits u16
abbrev SymbolFits : {A : Type 0} → Symbol A → Type 0
SymbolFits (word w) = Unit {0}
SymbolFits (placed w) = Unit {0}
SymbolFits (choice {A = A} cell words out) = (a : A) → FitsU16 (cell a)
SymbolFits (number bound used) = bound ≤ 65536
SymbolFits name = Unit {0}
SymbolFits (row_name row used) = Unit {0}
SymbolFits (value cells) = (length cells ≤ 1) × Each FitsU16 cells
SymbolFits (or w cell y) = FitsU16 cell × SymbolFits y

extra_most : {A : Type 0} (y : Symbol A) → extra y ≤ 1
extra_most (word w) = omega arith
extra_most (placed w) = omega arith
extra_most (choice cell words out) = omega arith
extra_most (number bound used) = omega arith
extra_most name = omega arith
extra_most (row_name row used) = omega arith
extra_most (value cells) = omega arith
extra_most (or w cell y) = extra_most y

-- no value, at most one cell
takes_cells : (t : Token) {cs : List ℕ} → length cs ≤ 1 → Each FitsU16 cs → Takes 1 0 (t ∷ []) cs []
takes_cells t few each = record { cells_few = few; values_few = omega arith; cells_narrow = each }

symbol_takes : {A : Type 0} (y : Symbol A) → SymbolFits y → (a : A) (t : Token) → SymbolSpelled y a t
    → Takes (extra y) (missing y) (t ∷ []) (symbol_cells y a) (symbol_values y a)
symbol_takes (word w) f a t h = takes_cells t (omega arith) each_none
symbol_takes (placed w) f a t h = takes_cells t (omega arith) each_none
symbol_takes (choice cell words out) f a t h = takes_cells t (omega arith) (each-one (f a))
symbol_takes (number bound used) f a t h = takes_cells t (omega arith) (each-one (omega (arith, h.in_range)))
symbol_takes name f a t h = takes_cells t (omega arith) each_none
symbol_takes (row_name row used) f a t h = takes_cells t (omega arith) each_none
symbol_takes (value cells) f a t h =
    record { cells_few = f.0; values_few = omega arith; cells_narrow = f.1 }
symbol_takes (or w cell y) f instead t h = takes_as (extra y) (missing y) (omega (arith, extra_most y)) (takes_cells t (omega arith) (each-one f.0))
symbol_takes (or w cell y) f (given a) t h = symbol_takes y f.1 a t h

symbol_narrow : {A : Type 0} (y : Symbol A) → SymbolFits y → Narrow (extra y) (missing y) (symbol y)
unfolding gather
symbol_narrow y f = record { takes = λ a ts p. rw p.alone (symbol_takes y f a p.token p.spelled) }

-- ---- the grammar, in 01's order

-- a number below a bound that a cell holds
number_narrow : {bound : ℕ} {used : List ℕ} → bound ≤ 65536 → Narrow 1 0 (symbol (number bound used))
number_narrow {bound} {used} le = symbol_narrow (number bound used) le

plain_narrow : Narrow 0 1 plain_value
plain_narrow = symbol_narrow (value []) (omega arith, each_none)

-- a choice that takes these cells
choice_narrow : {A : Type 0} {cell : A → ℕ} {words : List (Word A)} {out : A → Bool} → ((a : A) → FitsU16 (cell a)) → Narrow 1 0 (symbol (choice cell words out))
choice_narrow {cell = cell} {words = words} {out = out} le = symbol_narrow (choice cell words out) le

-- "a count and that many pairs": an index and a value, two tokens
pairs_narrow : (bound : ℕ) → bound ≤ 65535 → (k : ℕ) → Narrow 0 0 (items k (pair bound))
pairs_narrow bound le k =
    items_narrow (λ before p. narrow_as 0 0 (omega arith) (view_narrow (then_narrow (number_narrow (omega arith)) (λ a us p. plain_narrow))))

counted_narrow : (bound : ℕ) → bound ≤ 65535 → Narrow 0 0 (pair_list bound)
counted_narrow bound le = narrow_as 0 0 (omega arith) (then_narrow (number_narrow (omega arith)) (λ k us p. pairs_narrow bound le k))

terms_narrow : (n : ℕ) → n ≤ 65535 → Narrow 0 0 (term_list n)
terms_narrow n le = view_narrow (counted_narrow n le)

sense_narrow : Narrow 1 0 sense
sense_narrow = choice_narrow (by_sense _ (lit< tt) (lit< tt) (lit< tt))

listed_narrow : (n : ℕ) → n ≤ 65535 → (k : Or ℕ) → Narrow 0 0 (listed_terms n k)
listed_narrow n le instead = nothing_narrow
listed_narrow n le (given k) = pairs_narrow n le k

side_narrow : (n : ℕ) → n ≤ 65535 → Narrow 0 0 (side n)
side_narrow n le =
    narrow_as 0 0 (omega arith)
    (view_narrow (then_narrow (symbol_narrow (or _ cell.OBJ (number (suc n) [])) (lit< tt, omega arith)) (λ k us p. listed_narrow n le k)))

row_narrow : (n own : ℕ) (used : List Bytes) → n ≤ 65535 → Narrow 0 0 (row n own used)
row_narrow n own used le =
    narrow_as 0 0 (omega arith)
    (view_narrow (then_narrow (symbol_narrow (row_name own used) tt) (λ t us p. then_narrow sense_narrow (λ c vs q. then_narrow plain_narrow (λ b ws r. side_narrow n le)))))

unsplit_narrow : (own : ℕ) → own ≤ most_rows → Narrow 0 0 (unsplit own)
unsplit_narrow own le =
    let i : Narrow 1 0 (index_below own) = number_narrow (omega arith) in
    narrow_as 0 0 (omega arith) (view_narrow (then_narrow i (λ a us p. then_narrow i (λ b vs q. then_narrow i (λ c ws r. i)))))

detail_narrow : (own : ℕ) → own ≤ most_rows → (w : ReasonWord) → Narrow 0 0 (detail own w)
detail_narrow own le asm_word = nothing_narrow
detail_narrow own le lin_word = view_narrow (counted_narrow own (omega arith))
detail_narrow own le rnd_word = view_narrow (counted_narrow own (omega arith))
detail_narrow own le uns_word = unsplit_narrow own le
detail_narrow own le sol_word = nothing_narrow

reason-cell_fits : (w : ReasonWord) → FitsU16 (reason_cell w)
reason-cell_fits asm_word = lit< tt
reason-cell_fits lin_word = lit< tt
reason-cell_fits rnd_word = lit< tt
reason-cell_fits uns_word = lit< tt
reason-cell_fits sol_word = lit< tt

reason_narrow : (own assumed : ℕ) → own ≤ most_rows → Narrow 0 0 (reason own assumed)
reason_narrow own assumed le =
    narrow_as 0 0 (omega arith) (view_narrow (then_narrow (choice_narrow reason-cell_fits) (λ a us p. detail_narrow own le a)))

last_narrow : (rows : ℕ) → rows ≤ 65535 → Narrow 0 0 (last rows)
last_narrow rows le = narrow_as 0 0 (omega arith) (view_narrow (symbol_narrow (or _ cell.never (number _ [])) (lit< tt, omega arith)))

derivation_narrow : (n own rows : ℕ) (used : List Bytes) (assumed : ℕ) → n ≤ 65535 → own ≤ most_rows → rows ≤ 65535
    → Narrow 0 0
    (then (row n own used) (λ r. then (symbol (word W.open_brace)) (λ o. then (reason own assumed) (λ q. then (symbol (word W.close_brace)) (λ c. last rows)))))
derivation_narrow n own rows used assumed le inside most =
    narrow_as 0 0 (omega arith)
    (then_narrow (row_narrow n own used le)
    (λ r us p. then_narrow (symbol_narrow (word _) tt)
    (λ o vs q. then_narrow (reason_narrow own assumed inside) (λ x ws y. then_narrow (symbol_narrow (word _) tt) (λ c xs z. last_narrow rows most)))))

solution_narrow : (n : ℕ) (before : List Solution) → n ≤ 65535 → Narrow 0 0 (solution n before)
solution_narrow n before le =
    narrow_as 0 0 (omega arith)
    (view_narrow (then_narrow (symbol_narrow (row_name _ []) tt) (λ t us p. terms_narrow n le)))

-- an end is one token; `RTP`, `range` and two ends are four
end_narrow : (w : Bytes) → Narrow 0 1 (end_or w)
end_narrow w = view_narrow (symbol_narrow (or w 0 (value (1 ∷ []))) (lit< tt, (omega arith, each-one (lit< tt))))

ends_narrow : (w : ClaimWord) → Narrow 0 2 (ends w)
ends_narrow infeas_word = narrow_as 0 2 (omega arith) nothing_narrow
ends_narrow range_word = then_narrow (end_narrow _) (λ lower us p. end_narrow _)

claim_narrow : Narrow 1 2 claim
claim_narrow = view_narrow (then_narrow (choice_narrow (by_claim_word _ (lit< tt) (lit< tt))) (λ w us p. ends_narrow w))

relation_narrow : Narrow 0 0 relation
relation_narrow = narrow_as 0 0 (omega arith) (view_narrow (then_narrow (symbol_narrow (placed _) tt) (λ p us q. claim_narrow)))

-- a section's word takes nothing
section_narrow : {A : Type 0} (w : Bytes) {f : Format A} → Narrow 0 0 f → Narrow 0 0 (section w f)
section_narrow w h = narrow_as 0 0 (omega arith) (view_narrow (then_narrow (symbol_narrow (word w) tt) (λ u us p. h)))

-- a count and what it counts
after-count : {most : ℕ} {B : ℕ → Type 0} {g : (n : ℕ) → Format (B n)} → most ≤ 65535 → ((n : ℕ) → n ≤ most → Narrow 0 0 (g n)) → Narrow 0 0 (then (count_to most) g)
after-count le h = narrow_as 0 0 (omega arith) (then_narrow (number_narrow (omega arith)) (λ n us p. h n (omega (arith, p.spelled.in_range))))

version_narrow : Narrow 0 0 version
version_narrow = section_narrow _ (narrow_as 0 0 (omega arith) (symbol_narrow (word _) tt))

variables_narrow : Narrow 0 0 variables
variables_narrow =
    section_narrow _
    (view_narrow (after-count (omega arith) (λ n le. items_narrow (λ before p. narrow_as 0 0 (omega arith) (symbol_narrow name tt)))))

integers_narrow : (n : ℕ) → n ≤ most_variables → Narrow 0 0 (integers n)
integers_narrow n le =
    section_narrow _
    (view_narrow (after-count (omega arith) (λ k few. items_narrow (λ before p. narrow_as 0 0 (omega arith) (number_narrow (omega arith))))))

objective_narrow : (n : ℕ) → n ≤ most_variables → Narrow 0 0 (objective_section n)
objective_narrow n le =
    section_narrow _
    (narrow_as 0 0 (omega arith)
    (view_narrow (then_narrow (choice_narrow (by_direction _ (lit< tt) (lit< tt))) (λ c us p. terms_narrow n (omega arith)))))

constraints_narrow : (n : ℕ) → n ≤ most_variables → Narrow 0 0 (constraints n)
constraints_narrow n le =
    section_narrow _
    (view_narrow (after-count (omega arith)
    (λ m most. after-count (omega arith) (λ b few. items_narrow (λ before p. row_narrow n (length before) _ (omega arith))))))

solutions_narrow : (n : ℕ) → n ≤ most_variables → Narrow 0 0 (solution_section n)
solutions_narrow n le =
    section_narrow _
    (view_narrow (after-count (omega arith) (λ s most. items_narrow (λ before p. solution_narrow n before (omega arith)))))

derivations_narrow : (n : ℕ) (c : Constraints) → n ≤ most_variables → c.count ≤ most_rows → Narrow 0 0 (derivation_section n c)
derivations_narrow n c le m =
    narrow_as 0 0 (omega arith)
    (view_narrow (then_narrow (symbol_narrow (placed _) tt)
    (λ p us q. after-count (omega arith) (λ d most. items_narrow (λ before r. view_narrow (derivation_narrow n (c.count + length before) (c.count + d) _ (assumptions before) (omega arith) (omega arith) (omega arith)))))))

certificate_narrow : Narrow 0 0 certificate
certificate_narrow =
    view_narrow (then_narrow version_narrow
    (λ u us p. then_narrow variables_narrow
    (λ v vs q.
    let n : v.count ≤ most_variables = omega (arith, q.second.first.spelled.in_range) in
    then_narrow (integers_narrow v.count n)
    (λ i ws r. then_narrow (objective_narrow v.count n)
    (λ o xs x. then_narrow (constraints_narrow v.count n)
    (λ c ys y.
    let m : c.count ≤ most_rows = omega (arith, y.second.first.spelled.in_range) in
    then_narrow relation_narrow (λ e zs z. then_narrow (solutions_narrow v.count n) (λ s ts t. derivations_narrow v.count c n m))))))))

-- ---- the whole

pub by_turns_length : (fs : List Fraction) → length (by_turns fs) ≡ 2 * length fs
by_turns_length [] = refl
by_turns_length (f ∷ fs) = omega (arith, by_turns_length fs)

-- a row of numbers that are all below 65,536
row_fits : (m : Mark) {text : Bytes} → StandsIn text m.name → length text ≤ most_bytes → m.cells ≤ index_cells → m.values ≤ value_cells → m.row < most_entries → RowFits m
row_fits m s short c v r =
    record {
      inside = omega arith;
      numbers =
          each_append {xs = m.name.place ∷ []} (each-one (omega (arith, s.inside)))
          (each_append {xs = length m.name.bytes ∷ []} (each-one (omega (arith, s.inside)))
          (each_append {xs = m.cells ∷ []} (each-one (omega arith)) (each-one (omega arith))));
    }

-- "cells needed": the tables of these sizes hold what is spelled by any text that is not too long
pub fits : {text : Bytes} {tree : Tree} → SpellsTree text tree → length text ≤ most_bytes → Fits tree
fits {text} {tree} s short =
    let t = certificate_narrow.takes tree s.tokens s.spelled in
    let range = tree_in_range s in
    let few = text_tokens_few s.has_tokens in
    let among = marks_among certificate tree s.tokens s.spelled 0 0 in
    let c : length (cells certificate tree) ≤ index_cells = omega (arith, t.cells_few) in
    let v : 2 * length (values certificate tree) ≤ value_cells = omega (arith, t.values_few) in
    record {
      index_inside = c;
      index_numbers = t.cells_narrow;
      values_inside = omega (arith, by_turns_length (values certificate tree));
      values-within = values_are certificate tree s.tokens s.spelled;
      rows =
          record {
            holds = λ m h.
                let a = among.holds m h in
                row_fits m ((text_tokens_stand s.has_tokens).holds m.name a.name_among) short
                (omega (arith, a.cells_most)) (omega (arith, a.values_most)) (rows-below range m.row (subst (Memᴰ m.row) (tree_rows_lem tree) (Memᴰ.map (λ (x : Mark). x.row) h)));
          };
    }
