-- What is proved of the definitions in specs/AllNames.antt.
-- Assumes nothing.
use Rattle.std.specs.Prelude.{◌≡◌, refl, ◌⊎◌, ℕ}
use Rattle.std.proofs.Math.Path.{sym, ap₂}
use Rattle.std.proofs.Common.{◌∙◌, ap, inl, inr}
use mathlib.Core.List.Memᴰ
use mathlib.Core.List.{List, [], ◌∷◌, ◌++◌, map, map-id, map-append, append-nil, Memᴰ}
use Rattle.text.specs.Bytes.{Bytes}
use Rattle.text.specs.Tokens.{Token}
use Rattle.grammar.specs.Lists.{Each}
use Rattle.grammar.proofs.Lists.{each_none, each-one, each_append, each_map}
use Rattle.grammar.specs.Tree.{Tree, Constraints, Row, Derivation, Solution}
use Rattle.grammar.specs.Format.{Or, instead, given, Symbol, word, placed, choice, number, name, row_name, value, or, Format, symbol, then, items, nothing, view}
use Rattle.grammar.specs.Spelling.{ItemsSpelled, Spells}
use Rattle.grammar.specs.Certificate.{pair, pair_list, listed_terms, side, row, row_names, ReasonWord, asm_word, lin_word, rnd_word, uns_word, sol_word, detail, derivation, solution, ClaimWord, infeas_word, range_word, ends, section, variables, integers, objective_section, constraints, relation, solution_section, derivation_section, certificate}
use Rattle.grammar.specs.Layout.{symbol_names, gather_items, gather, names}
use Rattle.grammar.specs.Texts.{SpellsTree}
use Rattle.grammar.specs.Names.{StandsIn}
use Rattle.grammar.proofs.Names.{text_tokens_stand}
use Rattle.grammar.specs.AllNames.{row_tokens, solution_tokens, derivation_tokens, name_tokens, spellings}

-- ---- for every format

-- what a format keeps of names are these tokens
record Named {A : Type 0} (f : Format A) (N : A → List Token) : Type 0 where
  are : (a : A) → names f a ≡ spellings (N a)

-- a symbol that is no name
abbrev Nameless : {A : Type 0} → Symbol A → Type 0
Nameless (word w) = Unit {0}
Nameless (placed w) = Unit {0}
Nameless (choice cell words out) = Unit {0}
Nameless (number bound used) = Unit {0}
Nameless name = ⊥
Nameless (row_name row used) = ⊥
Nameless (value cells) = Unit {0}
Nameless (or w cell y) = Nameless y

no_name : {A : Type 0} (y : Symbol A) → Nameless y → (a : A) → symbol_names y a ≡ []
no_name (word w) n a = refl
no_name (placed w) n a = refl
no_name (choice cell words out) n a = refl
no_name (number bound used) n a = refl
no_name name n a = absurd n
no_name (row_name row used) n a = absurd n
no_name (value cells) n a = refl
no_name (or w cell y) n instead = refl
no_name (or w cell y) n (given a) = no_name y n a

one_nameless : {A : Type 0} {y : Symbol A} → Nameless y → Named (symbol y) (λ a. [])
unfolding gather
one_nameless {y = y} n = record { are = no_name y n }

variable_named : Named (symbol name) (λ t. t ∷ [])
unfolding gather
variable_named = record { are = λ t. refl }

row_named : (r : ℕ) (used : List Bytes) → Named (symbol (row_name r used)) (λ t. t ∷ [])
unfolding gather
row_named r used = record { are = λ t. refl }

nothing_nameless : Named nothing (λ a. [])
unfolding gather
nothing_nameless = record { are = λ a. refl }

module _ {A : Type 0} {B : A → Type 0} {f : Format A} {g : (a : A) → Format (B a)} where
  then_named : {N : A → List Token} {M : (a : A) → B a → List Token} → Named f N → ((a : A) → Named (g a) (M a)) → Named (then f g) (λ ab. N ab.0 ++ M ab.0 ab.1)
  unfolding gather
  then_named {N} {M} h k = record { are = λ ab. ap₂ ◌++◌ (h.are ab.0) ((k ab.0).are ab.1) ∙ sym (map-append _ (N ab.0) (M ab.0 ab.1)) }

  then_nameless : Named f (λ a. []) → ((a : A) → Named (g a) (λ b. [])) → Named (then f g) (λ ab. [])
  then_nameless h k = record { are = (then_named h k).are }

  -- of the second part alone, and of the first
  first_nameless : {M : (a : A) → B a → List Token} → Named f (λ a. []) → ((a : A) → Named (g a) (M a)) → Named (then f g) (λ ab. M ab.0 ab.1)
  first_nameless h k = record { are = (then_named h k).are }

  first-named : {N : A → List Token} → Named f N → ((a : A) → Named (g a) (λ b. [])) → Named (then f g) (λ ab. N ab.0)
  unfolding gather
  first-named {N} h k = record { are = λ ab. ap₂ ◌++◌ (h.are ab.0) ((k ab.0).are ab.1) ∙ append-nil (spellings (N ab.0)) }

module _ {A B : Type 0} {to : A → B} {from : B → A} {there : (a : A) → from (to a) ≡ a} {back : (b : B) → to (from b) ≡ b} {f : Format A} where
  view_named : {N : A → List Token} → Named f N → Named (view to from there back f) (λ b. N (from b))
  unfolding gather
  view_named h = record { are = λ b. h.are (from b) }

-- items that have one name each, or none
items_one : {A : Type 0} (F : List A → A → List Bytes) (name_of : A → Token) → ((before : List A) (x : A) → F before x ≡ (name_of x).bytes ∷ []) → (before xs : List A)
    → gather_items F before xs ≡ spellings (map name_of xs)
items_one F name_of h before [] = refl
items_one F name_of h before (x ∷ xs) = ap₂ ◌++◌ (h before x) (items_one F name_of h (before ++ (x ∷ [])) xs)

items_none : {A : Type 0} (F : List A → A → List Bytes) → ((before : List A) (x : A) → F before x ≡ []) → (before xs : List A) → gather_items F before xs ≡ []
items_none F h before [] = refl
items_none F h before (x ∷ xs) = ap₂ ◌++◌ (h before x) (items_none F h (before ++ (x ∷ [])) xs)

module _ {A : Type 0} {n : ℕ} {g : List A → Format A} where
  items_named : (name_of : A → Token) → ((before : List A) → Named (g before) (λ x. name_of x ∷ [])) → Named (items n g) (λ xs. map name_of xs)
  unfolding gather
  items_named name_of h = record { are = λ xs. items_one (λ before x. names (g before) x) name_of (λ before x. (h before).are x) [] xs }

  items_nameless : ((before : List A) → Named (g before) (λ x. [])) → Named (items n g) (λ xs. [])
  unfolding gather
  items_nameless h = record { are = λ xs. items_none (λ before x. names (g before) x) (λ before x. (h before).are x) [] xs }

-- ---- part by part

pairs_nameless : (bound k : ℕ) → Named (items k (pair bound)) (λ ps. [])
pairs_nameless bound k = items_nameless (λ before. view_named (then_nameless (one_nameless tt) (λ i. one_nameless tt)))

counted_nameless : (bound : ℕ) → Named (pair_list bound) (λ ps. [])
counted_nameless bound = then_nameless (one_nameless tt) (λ k. pairs_nameless bound k)

listed_nameless : (n : ℕ) (k : Or ℕ) → Named (listed_terms n k) (λ t. [])
listed_nameless n instead = nothing_nameless
listed_nameless n (given k) = pairs_nameless n k

side_nameless : (n : ℕ) → Named (side n) (λ s. [])
side_nameless n = view_named (then_nameless (one_nameless tt) (λ k. listed_nameless n k))

row_is_named : (n own : ℕ) (used : List Bytes) → Named (row n own used) (λ r. r.name ∷ [])
row_is_named n own used = view_named (first-named (row_named own used) (λ t. then_nameless (one_nameless tt) (λ s. then_nameless (one_nameless tt) (λ b. side_nameless n))))

detail_nameless : (own : ℕ) (w : ReasonWord) → Named (detail own w) (λ d. [])
detail_nameless own asm_word = nothing_nameless
detail_nameless own lin_word = view_named (counted_nameless own)
detail_nameless own rnd_word = view_named (counted_nameless own)
detail_nameless own uns_word = view_named (then_nameless (one_nameless tt) (λ a. then_nameless (one_nameless tt) (λ b. then_nameless (one_nameless tt) (λ c. one_nameless tt))))
detail_nameless own sol_word = nothing_nameless

derivation-named : (n m : ℕ) (used : List Bytes) (d : ℕ) (before : List Derivation) → Named (derivation n m used d before) (λ d. d.row.name ∷ [])
derivation-named n m used d before =
    view_named (first-named (row_is_named n _ _)
    (λ r. then_nameless (one_nameless tt)
    (λ o. then_nameless (view_named (then_nameless (one_nameless tt) (detail_nameless _)))
    (λ q. then_nameless (one_nameless tt) (λ c. view_named (one_nameless tt))))))

ends_nameless : (w : ClaimWord) → Named (ends w) (λ e. [])
ends_nameless infeas_word = nothing_nameless
ends_nameless range_word = then_nameless (view_named (one_nameless tt)) (λ lower. view_named (one_nameless tt))

section-named : {A : Type 0} (w : Bytes) {f : Format A} {N : A → List Token} → Named f N → Named (section w f) N
unfolding gather
section-named w h = record { are = h.are }

variables-named : Named variables (λ v. v.names)
variables-named = record { are = λ v. named.are v ∙ ap spellings (map-id v.names) }
  where
    named : Named variables (λ v. map (λ t. t) v.names)
    named = section-named _ (view_named (first_nameless (one_nameless tt) (λ n. items_named (λ t. t) (λ before. variable_named))))

integers_nameless : (n : ℕ) → Named (integers n) (λ i. [])
integers_nameless n = section-named _ (view_named (then_nameless (one_nameless tt) (λ k. items_nameless (λ before. one_nameless tt))))

objective_nameless : (n : ℕ) → Named (objective_section n) (λ o. [])
objective_nameless n = section-named _ (view_named (then_nameless (one_nameless tt) (λ c. view_named (counted_nameless n))))

constraints-named : (n : ℕ) → Named (constraints n) (λ c. row_tokens c.rows)
constraints-named n =
    section-named _
    (view_named (first_nameless (one_nameless tt)
    (λ m. first_nameless (one_nameless tt) (λ b. items_named (λ r. r.name) (λ before. row_is_named n _ _)))))

relation_nameless : Named relation (λ r. [])
relation_nameless = view_named (then_nameless (one_nameless tt) (λ p. view_named (then_nameless (one_nameless tt) ends_nameless)))

solutions_named : (n : ℕ) → Named (solution_section n) (λ s. solution_tokens s.solutions)
solutions_named n =
    section-named _
    (view_named (first_nameless (one_nameless tt)
    (λ s. items_named (λ x. x.name) (λ before. view_named (first-named (row_named _ []) (λ t. view_named (counted_nameless n)))))))

derivations-named : (n : ℕ) (c : Constraints) → Named (derivation_section n c) (λ d. derivation_tokens d.derivations)
derivations-named n c =
    view_named (first_nameless (one_nameless tt)
    (λ p. first_nameless (one_nameless tt) (λ d. items_named (λ x. x.row.name) (λ before. derivation-named n c.count (row_names c.rows) d before))))

certificate-named : Named certificate name_tokens
certificate-named =
    view_named
    (first_nameless (section-named _ (one_nameless tt))
    (λ u. then_named variables-named
    (λ v. first_nameless (integers_nameless v.count)
    (λ i. first_nameless (objective_nameless v.count)
    (λ o. then_named (constraints-named v.count)
    (λ c. first_nameless relation_nameless
    (λ r. then_named (solutions_named v.count) (λ s. derivations-named v.count c))))))))

pub tree_names : (tree : Tree) → names certificate tree ≡ spellings (name_tokens tree)
tree_names tree = certificate-named.are tree

-- ---- the variables' names

-- items that are tokens themselves
tokens_among : (P : List Token → Token → List Token → Type 0) → ((before : List Token) (t : Token) (us : List Token) → P before t us → Memᴰ t us)
    → (before xs ts : List Token) → ItemsSpelled P before xs ts → Each (λ (t : Token). Memᴰ t ts) xs
tokens_among P f before [] ts h = each_none
tokens_among P f before (x ∷ xs) ts h =
    rw h.tokens
    (each_append (each-one (Memᴰ.append_left h.back (f before x h.front h.first)))
    (each_map (λ t m. Memᴰ.append_right h.front m) (tokens_among P f (before ++ (x ∷ [])) xs h.back h.second)))

-- tokens of the second part, and of the first, are tokens of the whole
module _ {ts : List Token} {t : Token} (front back : List Token) (e : ts ≡ front ++ back) where
  in_back : Memᴰ t back → Memᴰ t ts
  in_back m = rw e (Memᴰ.append_right front m)

  in_front : Memᴰ t front → Memᴰ t ts
  in_front m = rw e (Memᴰ.append_left back m)

pub variables_stand : {text : Bytes} {tree : Tree} → SpellsTree text tree → Each (StandsIn text) tree.variables.names
variables_stand {text} {tree} s =
    let p = s.spelled in
    let v = p.second.first in
    let names = v.second.second.each in
    let among = tokens_among (λ before x us. Spells (symbol name) x us) (λ before x us o. rw o.alone (Memᴰ.head (sym o.spelled.0))) [] tree.variables.names v.second.back names in
    let q = p.second in
    let w = v.second in
    each_map
    (λ t m.
    (text_tokens_stand s.has_tokens).holds t
    (in_back p.front p.back p.tokens
    (in_front q.front q.back q.tokens
    (in_back v.front v.back v.tokens
    (in_back w.front w.back w.tokens m)))))
    among
