-- What is proved of the definitions in specs/Ranges.antt.
-- Assumes nothing.
use Rattle.std.specs.Prelude.{◌≡◌, refl, Bool, true, false, cond, ◌⊎◌, ℕ, suc, ◌+◌, ◌≤◌, ◌<◌, eqb, length}
use Rattle.std.proofs.Common.{sym, ◌∙◌, ap, subst, subst₂, inl, inr, arith, leb-false, eq-eqb}
use mathlib.Core.List.Memᴰ
use mathlib.Core.List.{List, [], ◌∷◌, ◌++◌, map, map-id, map-map, map-append, append_assoc, append-nil, Memᴰ}
use Rattle.std.proofs.lemmas.List.{length-map}
use Rattle.text.specs.Bytes.{Bytes, same}
use Rattle.text.proofs.BytesLaws.{clash, same_refl}
use Rattle.text.specs.Tokens.{Token}
use Rattle.tables.specs.Limits.{most_variables, most_rows, most_solutions, most_assumptions, most_entries}
use Rattle.grammar.specs.Tree.{Integers, Term, TermList, Side, obj, listed, Row, Solution, Multiplier, Reason, asm, lin, rnd, uns, sol, Last, never, index, Derivation, Tree}
use Rattle.grammar.specs.Format.{items}
use Rattle.grammar.specs.Spelling.{ItemsSpelled, Spells}
use Rattle.grammar.specs.Certificate.{new_index_below, Pair, pair, pair_list, of_term, term_list, of_multiplier, side, row, row_names, reason, last, is_assumption, assumptions, derivation, solution, integers}
use Rattle.grammar.proofs.SymbolAgreement.{impossible}
use Rattle.grammar.specs.Texts.{SpellsTree}
use Rattle.grammar.specs.Contents.{up_from, tree_rows}
use Rattle.grammar.specs.Lists.{Each, NoneOf}
use Rattle.grammar.proofs.Lists.{each_none, each-one, each_append}
use Rattle.grammar.specs.Ranges.{Distinct, InRange, TermsInRange, SideInRange, ReasonInRange, LastInRange, DerivationInRange, TreeInRange, Once}

-- ---- items, one by one

-- an item of a list, with those before and after it
module _ {A : Type 0} (P : List A → A → List Token → Type 0) where
  item_after : (done before : List A) (x : A) (after : List A) (ts : List Token) → ItemsSpelled P done (before ++ (x ∷ after)) ts
      → (us : List Token) × P (done ++ before) x us
  item_after done [] x after ts h = (h.front, subst (λ (l : List A). P l x h.front) (sym (append-nil done)) h.first)
  item_after done (y ∷ before) x after ts h =
      let r = item_after (done ++ (y ∷ [])) before x after h.back h.second in
      (r.0, subst (λ (l : List A). P l x r.0) (append_assoc done (y ∷ []) before) r.1)

  -- the same of a list that is spelled whole
  item_spelled : (xs : List A) (ts : List Token) → ItemsSpelled P [] xs ts → (before : List A) (x : A) (after : List A) → xs ≡ before ++ (x ∷ after)
      → (us : List Token) × P before x us
  item_spelled xs ts h before x after e = item_after [] before x after ts (subst (λ (l : List A). ItemsSpelled P [] l ts) e h)

  -- what holds of each item
  each_spelled : {Q : A → Type 0} → ((before : List A) (x : A) (us : List Token) → P before x us → Q x) → (done xs : List A) (ts : List Token) → ItemsSpelled P done xs ts → Each Q xs
  each_spelled f done [] ts h = each_none
  each_spelled f done (x ∷ xs) ts h = each_append (each-one (f done x h.front h.first)) (each_spelled f (done ++ (x ∷ [])) xs h.back h.second)

-- ---- lists of indices

-- items of which each has an index below the bound, and none of those before it
items_in_range : {A : Type 0} (P : List A → A → List Token → Type 0) (bound : ℕ) (key : A → ℕ)
    → ((before : List A) (x : A) (us : List Token) → P before x us → (key x < bound) × NoneOf (key x) (map key before))
    → (k : ℕ) (xs : List A) (ts : List Token) → k ≤ bound → length xs ≡ k → ItemsSpelled P [] xs ts → InRange bound k key xs
items_in_range P bound key f k xs ts le n h =
    record {
      counted = n;
      most = le;
      below = each_spelled P (λ before x us p. (f before x us p).0) [] xs ts h;
      distinct =
          record {
            once = λ before x after e m.
                let r = item_spelled P xs ts h before x after e in
                (f before x r.0 r.1).1 m;
          };
    }

-- the same list under other names
in_range-map : {A B : Type 0} {bound count : ℕ} {key : B → ℕ} (f : A → B) (xs : List A) → InRange bound count key (map f xs) → InRange bound count (λ (x : A). key (f x)) xs
in_range-map {key = key} f xs h =
    record {
      counted = sym (length-map xs f) ∙ h.counted;
      most = h.most;
      below = record { holds = λ x m. h.below.holds (f x) (Memᴰ.map f m) };
      distinct =
          record {
            once = λ before x after e m.
                h.distinct.once (map f before) (f x) (map f after) (ap (map f) e ∙ map-append f before (x ∷ after))
                (subst (Memᴰ (key (f x))) (sym (map-map key f before)) m);
          };
    }

pairs_in_range : (bound k : ℕ) (ps : List Pair) (ts : List Token) → k ≤ bound → Spells (items k (pair bound)) ps ts → InRange bound k (λ (p : Pair). p.index) ps
pairs_in_range bound k ps ts le h =
    items_in_range (λ before x vs. Spells (pair bound before) x vs) bound (λ (p : Pair). p.index) (λ before x us p. (p.first.spelled.in_range, p.first.spelled.distinct)) k ps ts le h.counted h.each

counted_in_range : {A : Type 0} (bound count : ℕ) (f : A → Pair) (xs : List A) (ts : List Token) → Spells (pair_list bound) (count, map f xs) ts
    → InRange bound count (λ (x : A). (f x).index) xs
counted_in_range bound count f xs ts h = in_range-map f xs (pairs_in_range bound count (map f xs) h.back (omega (arith, h.first.spelled.in_range)) h.second)

-- ---- part by part

terms_in_range : (n : ℕ) (t : TermList) (ts : List Token) → Spells (term_list n) t ts → TermsInRange n t
terms_in_range n t ts h = counted_in_range n t.count of_term t.terms ts h

side_in_range : (n : ℕ) (s : Side) (ts : List Token) → Spells (side n) s ts → SideInRange n s
side_in_range n obj ts h = tt
side_in_range n (listed t) ts h =
    in_range-map of_term t.terms (pairs_in_range n t.count (map of_term t.terms) h.back (omega (arith, h.first.spelled.in_range)) h.second)

reason_in_range : (own assumed : ℕ) (r : Reason) (ts : List Token) → Spells (reason own assumed) r ts → ReasonInRange own r
reason_in_range own assumed asm ts h = tt
reason_in_range own assumed (lin m) ts h = counted_in_range own m.count of_multiplier m.multipliers h.back h.second
reason_in_range own assumed (rnd m) ts h = counted_in_range own m.count of_multiplier m.multipliers h.back h.second
reason_in_range own assumed (uns u) ts h =
    let p = h.second in
    let q = p.second in
    let r = q.second in
    (p.first.spelled.in_range, q.first.spelled.in_range, r.first.spelled.in_range, r.second.spelled.in_range)
reason_in_range own assumed sol ts h = tt

last_in_range : (rows : ℕ) (l : Last) (ts : List Token) → Spells (last rows) l ts → LastInRange rows l
last_in_range rows never ts h = tt
last_in_range rows (index i) ts h = h.spelled.in_range

derivation_in_range : (n m : ℕ) (used : List Bytes) (d : ℕ) (before : List Derivation) (x : Derivation) (ts : List Token) → Spells (derivation n m used d before) x ts
    → DerivationInRange n (m + length before) (m + d) x
derivation_in_range n m used d before x ts h =
    record {
      side = side_in_range n x.row.side _ h.first.second.second.second;
      reason = reason_in_range (m + length before) (assumptions before) x.reason _ h.second.second.first;
      last = last_in_range (m + d) x.last _ h.second.second.second.second;
    }

-- ---- "The 65th word `asm` is 5"

one_more : (b c : Bool) (n : ℕ) → (let m = cond c (suc n) n in cond b (suc m) m) ≡ (let m = cond b (suc n) n in cond c (suc m) m)
one_more true true n = refl
one_more true false n = refl
one_more false true n = refl
one_more false false n = refl

assumptions-last : (before : List Derivation) (x : Derivation)
    → assumptions (before ++ (x ∷ [])) ≡ (let n = assumptions before in cond (is_assumption x.reason) (suc n) n)
assumptions-last [] x = refl
assumptions-last (d ∷ before) x =
    ap (λ (n : ℕ). cond (is_assumption d.reason) (suc n) n) (assumptions-last before x)
    ∙ one_more (is_assumption d.reason) (is_assumption x.reason) (assumptions before)

one-assumed : (own assumed : ℕ) (r : Reason) (ts : List Token) → assumed ≤ most_assumptions → Spells (reason own assumed) r ts → cond (is_assumption r) (suc assumed) assumed ≤ most_assumptions
one-assumed own assumed asm ts le h = leb-false most_assumptions assumed h.first.spelled.1
one-assumed own assumed (lin m) ts le h = le
one-assumed own assumed (rnd m) ts le h = le
one-assumed own assumed (uns u) ts le h = le
one-assumed own assumed sol ts le h = le

assumed_most : (n m : ℕ) (used : List Bytes) (d : ℕ) (done xs : List Derivation) (ts : List Token) → assumptions done ≤ most_assumptions
    → ItemsSpelled (λ before x us. Spells (derivation n m used d before) x us) done xs ts → assumptions (done ++ xs) ≤ most_assumptions
assumed_most n m used d done [] ts le h = rw (append-nil done) le
assumed_most n m used d done (x ∷ xs) ts le h =
    rw (← append_assoc done (x ∷ []) xs)
    (assumed_most n m used d (done ++ (x ∷ [])) xs h.back (rw (assumptions-last done x) (one-assumed (m + length done) (assumptions done) x.reason _ le h.first.second.second.first)) h.second)

-- ---- "Constraints, given and derived, have distinct names"

-- an element of two lists is one of the first, or one of the second
pub cut_append : {A : Type 0} (xs ys before : List A) (z : A) (after : List A) → xs ++ ys ≡ before ++ (z ∷ after)
    → ((rest : List A) × (xs ≡ before ++ (z ∷ rest))) ⊎ ((mid : List A) × (before ≡ xs ++ mid) × (ys ≡ mid ++ (z ∷ after)))
cut_append [] ys before z after e = inr (before, refl, e)
cut_append {A} (x ∷ xs) ys [] z after e = let p : x ≡ z = cc in inl (xs, ap (λ (a : A). a ∷ xs) p)
cut_append {A} (x ∷ xs) ys (b ∷ before) z after e = let p : x ≡ b = cc in let q : xs ++ ys ≡ before ++ (z ∷ after) = cc in more p (cut_append xs ys before z after q)
  where
    more : x ≡ b → ((rest : List A) × (xs ≡ before ++ (z ∷ rest))) ⊎ ((mid : List A) × (before ≡ xs ++ mid) × (ys ≡ mid ++ (z ∷ after)))
        → ((rest : List A) × (x ∷ xs ≡ (b ∷ before) ++ (z ∷ rest))) ⊎ ((mid : List A) × (b ∷ before ≡ (x ∷ xs) ++ mid) × (ys ≡ mid ++ (z ∷ after)))
    more p (inl r) = inl (r.0, λ i. p i ∷ r.1 i)
    more p (inr r) = inr (r.0, (λ i. sym p i ∷ r.1 i), r.2)

-- an element of a list under other names
pub cut_map : {A B : Type 0} (f : A → B) (xs : List A) (before : List B) (z : B) (after : List B) → map f xs ≡ before ++ (z ∷ after)
    → (front : List A) × (x : A) × (back : List A) × (xs ≡ front ++ (x ∷ back)) × (map f front ≡ before) × (f x ≡ z)
cut_map f [] [] z after e = impossible (cc)
cut_map f [] (b ∷ before) z after e = impossible (cc)
cut_map f (x ∷ xs) [] z after e = ([], x, xs, refl, refl, cc)
cut_map {A} {B} f (x ∷ xs) (b ∷ before) z after e =
    let p : f x ≡ b = cc in
    let r = cut_map f xs before z after (cc) in
    (x ∷ r.0, r.1, r.2, (λ i. x ∷ r.3 i), (λ i. p i ∷ r.4 i), r.5)

abbrev name_of : Row → Bytes
name_of r = r.name.bytes

abbrev row_in : Derivation → Row
row_in d = d.row

-- the names of these rows and of the rows of these derivations
names_of : (given : List Row) (derived : List Derivation) → map name_of (given ++ map row_in derived) ≡ row_names given ++ map (λ (x : Derivation). x.row.name.bytes) derived
names_of given derived = map-append name_of given (map row_in derived) ∙ ap (λ (l : List Bytes). row_names given ++ l) (map-map name_of row_in derived)

module _ (n m d : ℕ) (given : List Row) (derived : List Derivation) (us vs : List Token)
    (g : ItemsSpelled (λ before x ts. Spells (row n (length before) (row_names before)) x ts) [] given us)
    (h : ItemsSpelled (λ before x ts. Spells (derivation n m (row_names given) d before) x ts) [] derived vs) where
  -- of a given row
  given_once : (before : List Row) (r : Row) (after : List Row) → given ≡ before ++ (r ∷ after) → Memᴰ (name_of r) (map name_of before) → ⊥
  given_once before r after e k =
      let s = item_spelled (λ before x ts. Spells (row n (length before) (row_names before)) x ts) given us g before r after e in
      s.1.first.spelled.2 k

  -- of a derived row
  derived_once : (before : List Derivation) (x : Derivation) (after : List Derivation) → derived ≡ before ++ (x ∷ after)
      → Memᴰ (name_of x.row) (map name_of (given ++ map row_in before)) → ⊥
  derived_once before x after e k =
      let s = item_spelled (λ before x ts. Spells (derivation n m (row_names given) d before) x ts) derived vs h before x after e in
      s.1.first.first.spelled.2 (subst (Memᴰ (name_of x.row)) (names_of given before) k)

  names_once : Distinct name_of (given ++ map row_in derived)
  names_once = record { once = λ before r after e k. go before r after k (cut_append given (map row_in derived) before r after e) }
    where
      go : (before : List Row) (r : Row) (after : List Row) → Memᴰ (name_of r) (map name_of before)
          → ((rest : List Row) × (given ≡ before ++ (r ∷ rest))) ⊎ ((mid : List Row) × (before ≡ given ++ mid) × (map row_in derived ≡ mid ++ (r ∷ after))) → ⊥
      go before r after k (inl c) = given_once before r c.0 c.1 k
      go before r after k (inr c) =
          let q = cut_map row_in derived c.0 r after c.2 in
          derived_once q.0 q.1 q.2 q.3
          (subst₂ (λ (x : Row) (l : List Row). Memᴰ (name_of x) (map name_of l)) (sym q.5) (c.1 ∙ ap (λ (l : List Row). given ++ l) (sym q.4)) k)

-- ---- the whole

integers_in_range : (n : ℕ) (i : Integers) (ts : List Token) → Spells (integers n) i ts → InRange n i.count (λ (j : ℕ). j) i.indices
integers_in_range n i ts h =
    items_in_range (λ before x us. Spells (new_index_below n before) x us) n (λ (j : ℕ). j)
    (λ before x us p. (p.spelled.in_range, rw (map-id before) p.spelled.distinct))
    i.count i.indices _ (omega (arith, h.second.first.spelled.in_range)) h.second.second.counted h.second.second.each

-- a tree that is spelled is in range
pub tree_in_range : {text : Bytes} {t : Tree} → SpellsTree text t → TreeInRange t
tree_in_range {text} {t} spelled =
    let n = t.variables.count in
    let m = t.constraints.count in
    let names = row_names t.constraints.rows in
    let k = t.derivations.count in
    let p = spelled.spelled.second in
    let q = p.second in
    let r = q.second.second in
    let v = p.first.second in
    let o = q.second.first.second in
    let c = r.first.second in
    let s = r.second.second.first.second in
    let d = r.second.second.second.second in
    record {
      variables_most = omega (arith, v.first.spelled.in_range);
      variables_counted = v.second.counted;
      integers = integers_in_range n t.integers q.front q.first;
      objective = terms_in_range n t.objective.terms o.back o.second;
      rows_most = omega (arith, c.first.spelled.in_range);
      bounds_most = omega (arith, c.second.first.spelled.in_range);
      rows_counted = c.second.second.counted;
      sides =
          each_spelled (λ before x us. Spells (row n (length before) (row_names before)) x us)
          (λ before x us q. side_in_range n x.side q.second.second.back q.second.second.second) []
          t.constraints.rows c.second.back c.second.second.each;
      solutions_most = omega (arith, s.first.spelled.in_range);
      solutions_counted = s.second.counted;
      solutions =
          each_spelled (λ before x us. Spells (solution n before) x us) (λ before x us q. terms_in_range n x.values q.back q.second) []
          t.solutions.solutions s.back s.second.each;
      derivations_most = omega (arith, d.first.spelled.in_range, c.first.spelled.in_range);
      derivations_counted = d.second.counted;
      derivations = λ before x after e.
          let r = item_spelled (λ before x us. Spells (derivation n m names k before) x us) t.derivations.derivations d.back d.second.each before x after e in
          derivation_in_range n m names k before x r.0 r.1;
      assumptions_most = assumed_most n m names k [] t.derivations.derivations d.back (omega arith) d.second.each;
      names_distinct = names_once n m k t.constraints.rows t.derivations.derivations c.second.back d.back c.second.second.each d.second.each;
    }

once_append : (xs ys : List ℕ) → Once xs → Once ys → ((n : ℕ) → Memᴰ n xs → Memᴰ n ys → ⊥) → Once (xs ++ ys)
once_append [] ys p q d = q
once_append (x ∷ xs) ys p q d =
    (λ m. either (Memᴰ.append_cases xs m), once_append xs ys p.1 q (λ n k. d n (Memᴰ.tail k)))
  where
    either : Memᴰ x xs ⊎ Memᴰ x ys → ⊥
    either (inl m) = p.0 m
    either (inr m) = d x (Memᴰ.head refl) m

up_from_range : {A : Type 0} (a : ℕ) (xs : List A) (n : ℕ) → Memᴰ n (up_from a xs) → (a ≤ n) × (n < a + length xs)
up_from_range a [] n m = absurd (Memᴰ.not-nil m)
up_from_range a (x ∷ xs) n m = either (λ k. up_from_range (a + 1) xs n k) (Memᴰ.cases_cons m)
  where
    either : (Memᴰ n (up_from (a + 1) xs) → (a + 1 ≤ n) × (n < a + 1 + length xs)) → (n ≡ a) ⊎ Memᴰ n (up_from (a + 1) xs) → (a ≤ n) × (n < a + suc (length xs))
    either ih (inl e) = (omega arith, omega arith)
    either ih (inr k) = let r = ih k in (omega arith, omega arith)

once_up_from : {A : Type 0} (a : ℕ) (xs : List A) → Once (up_from a xs)
once_up_from a [] = tt
once_up_from a (x ∷ xs) = (λ m. let r = up_from_range (a + 1) xs a m in omega arith, once_up_from (a + 1) xs)

-- the rows of a tree that is in range: each below 1,088, and none twice
module _ {tree : Tree} (t : TreeInRange tree) where
  after-given : (n : ℕ) → Memᴰ n (up_from most_rows tree.solutions.solutions ++ up_from tree.constraints.count tree.derivations.derivations)
      → (tree.constraints.count ≤ n) × (n < most_entries)
  after-given n m = either (Memᴰ.append_cases (up_from most_rows tree.solutions.solutions) m)
    where
      either : Memᴰ n (up_from most_rows tree.solutions.solutions) ⊎ Memᴰ n (up_from tree.constraints.count tree.derivations.derivations)
          → (tree.constraints.count ≤ n) × (n < most_entries)
      either (inl k) =
          let r = up_from_range most_rows tree.solutions.solutions n k in
          (omega (arith, t.rows_most), omega (arith, t.solutions_most, t.solutions_counted))
      either (inr k) =
          let r = up_from_range tree.constraints.count tree.derivations.derivations n k in
          (omega arith, omega (arith, t.derivations_most, t.derivations_counted))

  pub rows-below : (n : ℕ) → Memᴰ n (tree_rows tree) → n < most_entries
  rows-below n m = either (Memᴰ.append_cases (up_from 0 tree.constraints.rows) m)
    where
      either : Memᴰ n (up_from 0 tree.constraints.rows) ⊎ Memᴰ n (up_from most_rows tree.solutions.solutions ++ up_from tree.constraints.count tree.derivations.derivations)
          → n < most_entries
      either (inl k) = let r = up_from_range 0 tree.constraints.rows n k in omega (arith, t.rows_most, t.rows_counted)
      either (inr k) = (after-given n k).1

  pub rows_once : Once (tree_rows tree)
  rows_once =
      once_append (up_from 0 tree.constraints.rows) _ (once_up_from 0 tree.constraints.rows)
      (once_append (up_from most_rows tree.solutions.solutions) _ (once_up_from most_rows tree.solutions.solutions) (once_up_from tree.constraints.count tree.derivations.derivations)
      (λ n k l.
      let r = up_from_range most_rows tree.solutions.solutions n k in
      let s = up_from_range tree.constraints.count tree.derivations.derivations n l in
      omega (arith, t.derivations_most, t.derivations_counted)))
      (λ n k l.
      let r = up_from_range 0 tree.constraints.rows n k in
      let s = after-given n l in
      omega (arith, t.rows_counted))
