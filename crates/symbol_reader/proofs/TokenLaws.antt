-- One token: from where it stands, what it means and what is stored to the contract of its reader.
-- Assumes nothing.
use mathlib.Core.Path.{◌≡◌, refl, sym, ap, ◌∙◌, subst}
use mathlib.Core.List.{List, [], ◌∷◌}
use Rattle.std.specs.Prelude.{Option, Some, None, Result, Ok, Err, ok_or}
use Rattle.std.specs.Result.{IsErrAnd}
use Prim.Native.Nat.{ℕ, ◌+◌, ◌-◌, ◌*◌, ◌<◌}
use native.Mathlib.Nat.{add-zero}
use native.Mathlib.Omega.{arith}
use lib.IntN.{ℤ}
use lib.ListN.{length}
use lib.Seq.{slice, sets, length-slice}
use Rattle.text.specs.Bytes.{Bytes}
use Rattle.text.specs.Tokens.{rest}
use Rattle.text.specs.Scans.{Found, scan_of}
use Rattle.text.specs.declared.Token.{Token as Span}
use Rattle.arithmetic.specs.Outcome.{Outcome, gives, refuses}
use Rattle.arithmetic.specs.declared.Fraction.{Fraction}
use Rattle.grammar.specs.Format.{Symbol, symbol}
use Rattle.grammar.specs.Reading.{stopped, decode, read_symbol, read}
use Rattle.grammar.specs.Layout.{symbol_cells, symbol_values, symbol_marks}
use Rattle.grammar.specs.declared.Refusal.{Refusal}
use Rattle.grammar.specs.declared.Refusal.TheVariants.{TokenMissing}
use Rattle.grammar.specs.declared.Stop.{Stop}
use Rattle.symbol_reader.specs.Steps.{State, state, Room, Went, Stopped, Answer, Reads, the}
use Rattle.symbol_reader.specs.Follows.{ForValue, Follows, refused, Is, Refuses}
use Rattle.symbol_reader.specs.Leaves.{Given, stop, Missing, Due, token_at, Said, Means, Passed, Storing, Filled, Valued, Ended, Rowed}
use Rattle.symbol_reader.specs.declared.Cursor.{Cursor}
use Rattle.symbol_reader.proofs.FollowsLaws.{handed_on}
use Rattle.symbol_reader.proofs.Laws.{reads_next, reads_on, symbol_went, token_found, token-missing, index_inside, value_inside}

-- ---- where it stands

-- what the scan from a place on says
pub due_of : (text : Bytes) (at : ℕ) (o : Option Span) → o ≡ scan_of (rest text at) → Due text at (ok_or o (stop TokenMissing (length text)))
due_of text at (Some t) e = token_found text at e refl
due_of text at None e = (token-missing text at e refl, refl)

-- ---- no token is left

refused-read : {A : Type 0} {y : Symbol A} {text : Bytes} {s : State} {k p : ℕ} → read_symbol y (rest text s.cursor.at) ≡ stopped k p → Stopped (symbol y) text s k p
unfolding read
refused-read e = record { refuses = e }

module _ {A : Type 0} {y : Symbol A} {text : Bytes} {c : Cursor} {e : Stop} (h : Missing text c.at e) where
  pub missing_follows : {z : Answer} → IsErrAnd z (λ x. x ≡ e) → {Q : State → Type 0} {told : A → ℕ → Type 0} {ix : List ℕ} {vs : List ℤ} {rs : List ℕ} → Follows Q (symbol y) told text c ix vs rs ix vs rs z
  missing_follows {z} up = record { is = λ room q. reads_on (handed_on z e up) (refused-read (rw (h.0, h.1) refl)) }

-- ---- a token with a meaning, where nothing is stored

-- it has a byte
pub token_filled : {text part : Bytes} {at from to : ℕ} → Found text at from to → part ≡ slice from to text → 0 < length part
token_filled {text} {from = from} {to} found e = omega (arith, ap length e, length-slice from to text found.inside, found.not-empty)

module _ {A : Type 0} {y : Symbol A} {of : A → ℕ} {text : Bytes} {c : Cursor} {t : Span} {m : Result ℕ Refusal} {r : Answer} (found : Found text c.at t.from t.to) (means : Means y of (token_at text t) m) (passed : Given m (Passed t c r)) where
  -- it takes nothing
  pub passed_follows : {told : A → ℕ → Type 0} → ((a : A) → decode y (token_at text t) ≡ gives a → told a (of a)) → ((a : A) → symbol_cells y a ≡ []) → ((a : A) → symbol_values y a ≡ []) → ((a : A) (i v : ℕ) → symbol_marks y a i v ≡ [])
      → {Q : State → Type 0} {ix : List ℕ} {vs : List ℤ} {rs : List ℕ} → Follows Q (symbol y) told text c ix vs rs ix vs rs r
  passed_follows {told} says nc nv nm {Q} {ix} {vs} {rs} = record { is = λ room q. by (decode y (token_at text t)) m refl means.is passed.holds room }
    where
      by : (o : Outcome A) (z : Result ℕ Refusal) → decode y (token_at text t) ≡ o → Said of o z → Passed t c r z → Room text (state c ix vs rs) → Reads (symbol y) told text (state c ix vs rs) ix vs rs r
      by (gives a) (Ok n) d h p room =
          subst (Reads (symbol y) told text (state c ix vs rs) ix vs rs) (sym p)
          (reads_next (subst (told a) h (says a d))
          (symbol_went y text (state c ix vs rs) t.from t.to found room d (nc a) (nv a) (nm a c.cells c.values) refl (sym (add-zero c.cells)) (sym (add-zero c.values)) refl refl refl tt (omega arith) (omega (arith, room.of_values.values_fit))))
      by (refuses k) (Err q) d h p room = reads_on p (refused-read (rw (found.first, d, h) refl))
      by (gives a) (Err q) d h p room = absurd h
      by (refuses k) (Ok n) d h p room = absurd h

-- ---- a token that takes what is stored

module _ {A Y X : Type 0} {y : Symbol A} {of : A → Y} {text : Bytes} {c : Cursor} {t : Span} {m : Result Y Refusal} {room full : Type 0} {number : Y → ℕ} {d : Cursor} {stored : Y → X} {table table' : X} {r : Answer}
    (found : Found text c.at t.from t.to) (means : Means y of (token_at text t) m) (store : Given m (Storing room full t.from number d stored table table' r)) where
  -- with room, as `went` says
  pub stored_follows : {Q : State → Type 0} {ix : List ℕ} {vs : List ℤ} {rs : List ℕ} {ix' : List ℕ} {vs' : List ℤ} {rs' : List ℕ} {told : A → ℕ → Type 0}
      → ((a : A) → decode y (token_at text t) ≡ gives a → told a (number (of a)))
      → ((a : A) → decode y (token_at text t) ≡ gives a → Room text (state c ix vs rs) → Q (state c ix vs rs) → room × (table' ≡ stored (of a) → Went (symbol y) a text (state c ix vs rs) (state d ix' vs' rs')))
      → Follows Q (symbol y) told text c ix vs rs ix' vs' rs' r
  stored_follows {Q} {ix} {vs} {rs} {ix'} {vs'} {rs'} {told} says went = record { is = λ space q. by (decode y (token_at text t)) m refl means.is store.holds space q }
    where
      by : (o : Outcome A) (z : Result Y Refusal) → decode y (token_at text t) ≡ o → Said of o z → Storing room full t.from number d stored table table' r z → Room text (state c ix vs rs) → Q (state c ix vs rs) → Reads (symbol y) told text (state c ix vs rs) ix' vs' rs' r
      by (gives a) (Ok x) k h st space q =
          let w = went a k space q in
          let l = st.goes w.0 in
          subst (Reads (symbol y) told text (state c ix vs rs) ix' vs' rs') (sym l.0)
          (reads_next (subst (λ (z : Y). told a (number z)) h (says a k)) (w.1 (l.1 ∙ ap stored (sym h))))
      by (refuses n) (Err q) k h st space p = reads_on st.0 (refused-read (rw (found.first, k, h) refl))
      by (gives a) (Err q) k h st space p = absurd h
      by (refuses n) (Ok x) k h st space p = absurd h

  -- without room
  pub stored_refuses : {lacks : Cursor → Type 0} {same : Type 0} → (lacks c → full) → (table' ≡ table → same) → Refuses lacks y text c same r
  stored_refuses {lacks} {same} keeps is_same = record { is = by (decode y (token_at text t)) m refl means.is store.holds }
    where
      by : (o : Outcome A) (z : Result Y Refusal) → decode y (token_at text t) ≡ o → Said of o z → Storing room full t.from number d stored table table' r z → lacks c → Is (refused y (rest text c.at)) r × same
      by (gives a) (Ok x) k h st l = let s = st.stays (keeps l) in (subst (Is (refused y (rest text c.at))) (sym s.0) (rw (found.first, k) refl), is_same s.1)
      by (refuses n) (Err q) k h st l = (subst (Is (refused y (rest text c.at))) (sym st.0) (rw (found.first, k, h) refl), is_same st.1)
      by (gives a) (Err q) k h st l = absurd h
      by (refuses n) (Ok x) k h st l = absurd h

-- ---- with room

module _ {A : Type 0} {y : Symbol A} {of : A → ℕ} {text : Bytes} {c : Cursor} {t : Span} {m : Result ℕ Refusal} (found : Found text c.at t.from t.to) (means : Means y of (token_at text t) m) where
  -- a cell
  pub filled_follows : {ix ix' : List ℕ} {r : Answer} → Given m (Filled t c ix ix' r) → {told : A → ℕ → Type 0} → ((a : A) → decode y (token_at text t) ≡ gives a → told a (of a)) → ((a : A) → symbol_cells y a ≡ of a ∷ [])
      → ((a : A) → decode y (token_at text t) ≡ gives a → symbol_values y a ≡ []) → ((a : A) (i v : ℕ) → symbol_marks y a i v ≡ []) → {Q : State → Type 0} {vs : List ℤ} {rs : List ℕ} → Follows Q (symbol y) told text c ix vs rs ix' vs rs r
  filled_follows {ix} fill says nc nv nm {vs = vs} {rs} =
      stored_follows found means fill says
      (λ a d room q. (
        index_inside found room.of_index,
        λ e.
            symbol_went y text (state c ix vs rs) t.from t.to found room d (nc a) (nv a d) (nm a c.cells c.values) refl refl
            (sym (add-zero c.values)) e refl refl tt (omega arith) (omega (arith, room.of_values.values_fit)),
      ))

  -- a row
  pub rowed_follows : {row : ℕ} {rs rs' : List ℕ} {r : Answer} → Given m (Rowed t c row rs rs' r) → row < 1088 → {told : A → ℕ → Type 0} → ((a : A) → decode y (token_at text t) ≡ gives a → told a (of a)) → ((a : A) → symbol_cells y a ≡ []) → ((a : A) → symbol_values y a ≡ [])
      → ((a : A) (i v : ℕ) → decode y (token_at text t) ≡ gives a → symbol_marks y a i v ≡ record { row = row; name = token_at text t; cells = i; values = v } ∷ [])
      → {Q : State → Type 0} {ix : List ℕ} {vs : List ℤ} → Follows Q (symbol y) told text c ix vs rs ix vs rs' r
  rowed_follows {row} {rs} store few says nc nv mark {ix = ix} {vs} =
      stored_follows found means store says
      (λ a d room q.
      let i = room.of_index in
      let v = room.of_values in
      let size : length (token_at text t).bytes ≡ t.to - t.from = length-slice t.from t.to text found.inside in
      let there : t.from + length (token_at text t).bytes ≡ t.to = omega (arith, size, found.not-empty) in (
        (omega (arith, few, room.of_rows.rows_long), omega (arith, found.inside, i.short), omega (arith, i.cells_fit, i.inside, i.short), omega (arith, v.values_fit, i.inside, i.short)),
        λ e.
            symbol_went y text (state c ix vs rs) t.from t.to found room d (nc a) (nv a) (mark a c.cells c.values d) refl (sym (add-zero c.cells)) (sym (add-zero c.values)) refl refl
            (e ∙ ap (λ (l : ℕ). sets rs (4 * row) (t.from ∷ l ∷ c.cells ∷ c.values ∷ [])) (sym size)) (ap (λ (k : ℕ). slice t.from k text) there, tt) (omega arith) (omega (arith, v.values_fit)),
      ))

module _ {A : Type 0} {y : Symbol A} {of : A → Fraction} {text : Bytes} {c : Cursor} {t : Span} {m : Result Fraction Refusal} (found : Found text c.at t.from t.to) (means : Means y of (token_at text t) m) where
  -- a value
  pub valued_follows : {vs vs' : List ℤ} {r : Answer} → Given m (Valued t c vs vs' r) → ((a : A) → symbol_cells y a ≡ []) → ((a : A) → decode y (token_at text t) ≡ gives a → symbol_values y a ≡ of a ∷ []) → ((a : A) (i v : ℕ) → symbol_marks y a i v ≡ [])
      → {ix : List ℕ} {rs : List ℕ} → Follows ForValue (symbol y) (the (λ a. 0)) text c ix vs rs ix vs' rs r
  valued_follows {vs} store nc value nm {ix} {rs} =
      stored_follows found means store (λ a d. refl)
      (λ a d room left. (
        value_inside found room.of_values left,
        λ e.
            symbol_went y text (state c ix vs rs) t.from t.to found room d (nc a) (value a d) (nm a c.cells c.values) refl (sym (add-zero c.cells)) refl
            refl e refl tt (omega arith) (omega (arith, left)),
      ))

  -- a cell and a value
  pub ended_follows : {ix ix' : List ℕ} {vs vs' : List ℤ} {r : Answer} → Given m (Ended t c (ix, vs) (ix', vs') r) → {told : A → ℕ → Type 0} → ((a : A) → decode y (token_at text t) ≡ gives a → told a 1)
      → ((a : A) → decode y (token_at text t) ≡ gives a → symbol_cells y a ≡ 1 ∷ []) → ((a : A) → decode y (token_at text t) ≡ gives a → symbol_values y a ≡ of a ∷ []) → ((a : A) (i v : ℕ) → symbol_marks y a i v ≡ [])
      → {rs : List ℕ} → Follows ForValue (symbol y) told text c ix vs rs ix' vs' rs r
  ended_follows {ix} {vs = vs} store says nc value nm {rs} =
      stored_follows found means store says
      (λ a d room left. (
        (index_inside found room.of_index, value_inside found room.of_values left),
        λ e.
            symbol_went y text (state c ix vs rs) t.from t.to found room d (nc a d) (value a d) (nm a c.cells c.values) refl refl refl
            (ap (λ (p : (x : List ℕ) × List ℤ). p.0) e) (ap (λ (p : (x : List ℕ) × List ℤ). p.1) e) refl tt (omega arith) (omega (arith, left)),
      ))
