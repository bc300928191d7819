-- How the readings of a format's parts make the reading of the whole: one law for each form of a format.
-- Assumes nothing.
use mathlib.Core.Path.{◌≡◌, refl, sym, ap, ◌∙◌, subst}
use mathlib.Core.List.{List, [], ◌∷◌, ◌++◌}
use Rattle.std.specs.Prelude.{Option, Some, None, Ok, Err}
use Prim.Native.Nat.{ℕ, suc, ◌+◌, ◌-◌, ◌*◌, ◌≤◌, ◌<◌}
use native.Mathlib.Nat.{add-zero, sub-zero}
use native.Mathlib.Omega.{arith}
use lib.IntN.{ℤ}
use lib.ListN.{length, length-append}
use lib.Seq.{slice, sets, length-sets}
use Rattle.text.specs.Bytes.{Bytes}
use Rattle.text.specs.Tokens.{Token, Stream, end, rest}
use Rattle.text.specs.Scans.{Found, scan_of}
use Rattle.text.proofs.ScansLaws.{found, ended}
use Rattle.text.specs.declared.Token.{Token as Span}
use Rattle.arithmetic.specs.Outcome.{gives}
use Rattle.arithmetic.specs.declared.Fraction.{Fraction}
use Rattle.grammar.specs.Format.{Symbol, Format, symbol, then, items, nothing, view}
use Rattle.grammar.specs.Reading.{got, decode, read_items, read}
use Rattle.grammar.specs.Layout.{symbol_cells, symbol_values, symbol_marks, gather, cells, values, Mark, marks}
use Rattle.grammar.specs.Tables.{by_turns, laid}
use Rattle.grammar.specs.Refusals.{refusal_number}
use Rattle.grammar.specs.declared.Stop.{Stop}
use Rattle.symbol_reader.specs.Steps.{State, state, IndexRoom, ValueRoom, Room, one_of, tokens, Named, Went, Stopped, any, Answer, Answers, Reads}
use Rattle.symbol_reader.specs.declared.Cursor.{Cursor}
use Rattle.symbol_reader.specs.declared.Next.{Next}
use Rattle.symbol_reader.proofs.Tables.{sets_append, turns_append, turns_length, laid-append, laid-length, named-append, gather_snoc, marks_snoc}

-- ---- what an answer that is known says

module _ {A : Type 0} {f : Format A} {told : A → ℕ → Type 0} {text : Bytes} {s : State} {ix : List ℕ} {vs : List ℤ} {rs : List ℕ} {r : Answer} (h : Reads f told text s ix vs rs r) where
  pub next_is : {x : Next} → r ≡ Ok x → (a : A) × told a x.number × Went f a text s (state x.cursor ix vs rs)
  next_is e = subst (λ (z : Answer). Answers f told text s ix vs rs z) e h.is

  pub stop_is : {e : Stop} → r ≡ Err e → Stopped f text s (refusal_number e.reason) e.place
  stop_is e = subst (λ (z : Answer). Answers f told text s ix vs rs z) e h.is

-- ---- the answer of a function from what is known

module _ {A : Type 0} {f : Format A} {told : A → ℕ → Type 0} {text : Bytes} {s : State} {ix : List ℕ} {vs : List ℤ} {rs : List ℕ} where
  pub reads_next : {a : A} {x : Next} → told a x.number → Went f a text s (state x.cursor ix vs rs) → Reads f told text s ix vs rs (Ok x)
  reads_next {a} e w = record { is = (a, e, w) }

  -- an answer as it stands, where it is known to be a refusal
  pub reads_on : {r : Answer} {e : Stop} → r ≡ Err e → Stopped f text s (refusal_number e.reason) e.place → Reads f told text s ix vs rs r
  reads_on e h = record { is = subst (λ (z : Answer). Answers f told text s ix vs rs z) (sym e) h }

-- ---- then

module _ {A : Type 0} {B : A → Type 0} {f : Format A} {g : (a : A) → Format (B a)} {text : Bytes} {s : State} where
  pub then_stop : {q p : ℕ} → Stopped f text s q p → Stopped (then f g) text s q p
  unfolding read
  then_stop e = record { refuses = rw e.refuses }

  module _ {a : A} {t : State} (h : Went f a text s t) where
    pub then_stops : {q p : ℕ} → Stopped (g a) text t q p → Stopped (then f g) text s q p
    unfolding read
    then_stops e = record { refuses = rw (h.reads, e.refuses) }

    pub then_went : {b : B a} {u : State} → Went (g a) b text t u → Went (then f g) (a, b) text s u
    unfolding read gather marks
    then_went {b} {u} k =
        record {
          reads = rw (h.reads, k.reads);
          cells_at = rw length-append (omega (arith, h.cells_at, k.cells_at));
          values-at = rw length-append (omega (arith, h.values-at, k.values-at));
          index_is =
              k.index_is
              ∙ (λ i. sets (h.index_is i) (h.cells_at i) (cells (g a) b))
              ∙ sym (sets_append (cells f a) (cells (g a) b) s.index s.cursor.cells);
          values_is =
              let n : 2 * (s.cursor.values + length (values f a)) ≡ 2 * s.cursor.values + length (by_turns (values f a)) = omega (arith, turns_length (values f a)) in
              k.values_is
              ∙ (λ i. sets (h.values_is i) (2 * h.values-at i) (by_turns (values (g a) b)))
              ∙ ap (λ (m : ℕ). sets (sets s.values (2 * s.cursor.values) (by_turns (values f a))) m (by_turns (values (g a) b))) n
              ∙ sym (sets_append (by_turns (values f a)) (by_turns (values (g a) b)) s.values (2 * s.cursor.values))
              ∙ sym (ap (sets s.values (2 * s.cursor.values)) (turns_append (values f a) (values (g a) b)));
          rows_is =
              k.rows_is
              ∙ (λ i. laid (h.rows_is i) (marks (g a) b (h.cells_at i) (h.values-at i)))
              ∙ sym (laid-append (marks f a s.cursor.cells s.cursor.values) (marks (g a) b (s.cursor.cells + length (cells f a)) (s.cursor.values + length (values f a))) s.rows);
          named =
              named-append text (marks f a s.cursor.cells s.cursor.values) (marks (g a) b (s.cursor.cells + length (cells f a)) (s.cursor.values + length (values f a))) h.named
              (subst (λ (i : ℕ). Named text (marks (g a) b i (s.cursor.values + length (values f a)))) h.cells_at
              (subst (λ (v : ℕ). Named text (marks (g a) b t.cursor.cells v)) h.values-at k.named));
          ahead = rw length-append (omega (arith, h.ahead, k.ahead));
          room = k.room;
        }

    -- the rest's answer is the answer of the whole
    pub then_reads : {told : B a → ℕ → Type 0} {tells : (x : A) × B x → ℕ → Type 0} → ((b : B a) (n : ℕ) → told b n → tells (a, b) n) → {ix : List ℕ} {vs : List ℤ} {rs : List ℕ} {r : Answer}
        → Reads (g a) told text t ix vs rs r → Reads (then f g) tells text s ix vs rs r
    then_reads {told} {tells} same {ix} {vs} {rs} {r} k = record { is = by r k.is }
      where
        by : (z : Answer) → Answers (g a) told text t ix vs rs z → Answers (then f g) tells text s ix vs rs z
        by (Ok x) w = ((a, w.0), same w.0 x.number w.1, then_went w.2)
        by (Err e) h = then_stops h

    pub then_any : {told : B a → ℕ → Type 0} {ix : List ℕ} {vs : List ℤ} {rs : List ℕ} {r : Answer} → Reads (g a) told text t ix vs rs r → Reads (then f g) any text s ix vs rs r
    then_any k = then_reads {tells = any} (λ b n h. tt) k

-- ---- nothing

pub nothing_went : {text : Bytes} {s : State} → Room text s → Went nothing tt text s s
unfolding read gather marks
nothing_went {text} {s} h =
    record {
      reads = refl;
      cells_at = sym (add-zero s.cursor.cells);
      values-at = sym (add-zero s.cursor.values);
      index_is = refl;
      values_is = refl;
      rows_is = refl;
      named = tt;
      ahead = omega arith;
      room = h;
    }

-- ---- view

module _ {A B : Type 0} {to : A → B} {from : B → A} {p : (a : A) → from (to a) ≡ a} {q : (b : B) → to (from b) ≡ b} {f : Format A} {text : Bytes} {s : State} where
  pub view_stop : {k m : ℕ} → Stopped f text s k m → Stopped (view to from p q f) text s k m
  unfolding read
  view_stop e = record { refuses = rw e.refuses }

  pub view_went : {a : A} {t : State} → Went f a text s t → Went (view to from p q f) (to a) text s t
  unfolding read gather marks
  view_went {a} {t} h =
      let back = sym (p a) in
      record {
        reads = rw h.reads;
        cells_at = subst (λ x. t.cursor.cells ≡ s.cursor.cells + length (cells f x)) back h.cells_at;
        values-at = subst (λ x. t.cursor.values ≡ s.cursor.values + length (values f x)) back h.values-at;
        index_is = subst (λ x. t.index ≡ sets s.index s.cursor.cells (cells f x)) back h.index_is;
        values_is = subst (λ x. t.values ≡ sets s.values (2 * s.cursor.values) (by_turns (values f x))) back h.values_is;
        rows_is = subst (λ x. t.rows ≡ laid s.rows (marks f x s.cursor.cells s.cursor.values)) back h.rows_is;
        named = subst (λ x. Named text (marks f x s.cursor.cells s.cursor.values)) back h.named;
        ahead = subst (λ x. s.cursor.at + 2 * tokens f x ≤ t.cursor.at) back h.ahead;
        room = h.room;
      }

  pub view_reads : {told : A → ℕ → Type 0} {tells : B → ℕ → Type 0} → ((a : A) (n : ℕ) → told a n → tells (to a) n) → {ix : List ℕ} {vs : List ℤ} {rs : List ℕ} {r : Answer}
      → Reads f told text s ix vs rs r → Reads (view to from p q f) tells text s ix vs rs r
  view_reads {told} {tells} same {ix} {vs} {rs} {r} k = record { is = by r k.is }
    where
      by : (z : Answer) → Answers f told text s ix vs rs z → Answers (view to from p q f) tells text s ix vs rs z
      by (Ok x) w = (to w.0, same w.0 x.number w.1, view_went w.2)
      by (Err e) h = view_stop h

-- ---- a symbol, found as the token from f to t

module _ {A : Type 0} (y : Symbol A) (text : Bytes) (s : State) where
  module _ (f t : ℕ) (found : Found text s.cursor.at f t) where
    abbrev here : Token
    here = record { place = f; bytes = slice f t text }

    -- it gives cs, us and ms, and these stand in the tables
    pub symbol_went : Room text s → {a : A} → decode y here ≡ gives a → {cs : List ℕ} → symbol_cells y a ≡ cs → {us : List Fraction} → symbol_values y a ≡ us → {ms : List Mark} → symbol_marks y a s.cursor.cells s.cursor.values ≡ ms
        → {u : State} → u.cursor.at ≡ t + 1 → u.cursor.cells ≡ s.cursor.cells + length cs → u.cursor.values ≡ s.cursor.values + length us
        → u.index ≡ sets s.index s.cursor.cells cs → u.values ≡ sets s.values (2 * s.cursor.values) (by_turns us) → u.rows ≡ laid s.rows ms
        → Named text ms → length cs ≤ 1 → 4 * u.cursor.values ≤ s.cursor.at + 2 → Went (symbol y) a text s u
    unfolding read gather marks
    symbol_went room {a} d {cs} ec {us} ev {ms} em {u} at cells_at values-at index_is values_is rows_is named few fit =
        record {
          reads = rw (found.first, d) (ap (λ (o : Stream). got a o) (found.onward ∙ ap (rest text) (sym at)));
          cells_at = rw ec cells_at;
          values-at = rw ev values-at;
          index_is = rw ec index_is;
          values_is = rw ev values_is;
          rows_is = rw em rows_is;
          named = rw em named;
          ahead = omega (arith, found.ahead, found.not-empty, at);
          room =
              record {
                of_index =
                    record {
                      short = room.of_index.short;
                      inside = omega (arith, found.inside, at);
                      cells_fit = omega (arith, room.of_index.cells_fit, found.ahead, found.not-empty, at);
                      index_long = omega (arith, room.of_index.index_long, ap length index_is ∙ length-sets s.index s.cursor.cells cs);
                    };
                of_values =
                    record {
                      short = room.of_index.short;
                      inside = omega (arith, found.inside, at);
                      values_fit = omega (arith, found.ahead, found.not-empty, at);
                      values_long = omega (arith, room.of_values.values_long, ap length values_is ∙ length-sets s.values (2 * s.cursor.values) (by_turns us));
                    };
                of_rows = record { rows_long = omega (arith, room.of_rows.rows_long, ap length rows_is ∙ laid-length ms s.rows) };
              };
        }

-- after a token that is no value, a value has room
pub value-next : {A : Type 0} {y : Symbol A} {a : A} {text : Bytes} {s t : State} → Went (symbol y) a text s t → symbol_values y a ≡ [] → Room text s → 4 * t.cursor.values + 2 ≤ t.cursor.at
unfolding gather marks
value-next h e room = let v = ap length e in omega (arith, h.ahead, h.values-at, room.of_values.values_fit)

-- ---- items: after k of n of them

pub record Loop {A : Type 0} (g : List A → Format A) (n k : ℕ) (text : Bytes) (s t : State) : Type 0 where
  pub done : List A
  pub count : length done ≡ k
  pub within : k ≤ n
  pub left : read_items (λ before v. read (g before) v) (n - k) done (rest text t.cursor.at) ≡ read (items n g) (rest text s.cursor.at)
  pub cells_at : t.cursor.cells ≡ s.cursor.cells + length (cells (items n g) done)
  pub values-at : t.cursor.values ≡ s.cursor.values + length (values (items n g) done)
  pub index_is : t.index ≡ sets s.index s.cursor.cells (cells (items n g) done)
  pub values_is : t.values ≡ sets s.values (2 * s.cursor.values) (by_turns (values (items n g) done))
  pub rows_is : t.rows ≡ laid s.rows (marks (items n g) done s.cursor.cells s.cursor.values)
  pub named : Named text (marks (items n g) done s.cursor.cells s.cursor.values)
  pub ahead : s.cursor.at + 2 * tokens (items n g) done ≤ t.cursor.at
  pub room : Room text t

one_more : (n k : ℕ) → k < n → n - k ≡ suc (n - (k + 1))
one_more n k h = omega arith

module _ {A : Type 0} {g : List A → Format A} {text : Bytes} where
  pub loop_start : (n : ℕ) {s : State} → Room text s → Loop g n 0 text s s
  unfolding read gather marks
  loop_start n h =
      record {
        done = [];
        count = refl;
        within = omega arith;
        left = rw sub-zero;
        cells_at = sym (add-zero _);
        values-at = sym (add-zero _);
        index_is = refl;
        values_is = refl;
        rows_is = refl;
        named = tt;
        ahead = omega arith;
        room = h;
      }

  -- the same, where a proof follows what is done
  pub loop_first : (n : ℕ) {s : State} → Room text s → (l : Loop g n 0 text s s) × (l.done ≡ [])
  unfolding loop_start
  loop_first n h = (loop_start n h, refl)

  module _ {n k : ℕ} {s t : State} (l : Loop g n k text s t) where
    pub loop_done : n ≤ k → Went (items n g) l.done text s t
    loop_done h =
        record {
          reads = sym l.left ∙ (let z : n - k ≡ 0 = omega arith in rw z);
          cells_at = l.cells_at;
          values-at = l.values-at;
          index_is = l.index_is;
          values_is = l.values_is;
          rows_is = l.rows_is;
          named = l.named;
          ahead = l.ahead;
          room = l.room;
        }

    pub loop_stop : k < n → {q p : ℕ} → Stopped (g l.done) text t q p → Stopped (items n g) text s q p
    loop_stop h e = record { refuses = sym l.left ∙ rw (one_more n k h, e.refuses) }

    pub loop_more : k < n → {a : A} {u : State} → Went (g l.done) a text t u → Loop g n (k + 1) text s u
    unfolding gather marks
    loop_more h {a} {u} w =
        let cs = gather_snoc (λ before x. cells (g before) x) [] l.done a in
        let us = gather_snoc (λ before x. values (g before) x) [] l.done a in
        let ms = marks_snoc (λ before x. cells (g before) x) (λ before x. values (g before) x) (λ before x i v. marks (g before) x i v) [] l.done a s.cursor.cells s.cursor.values in
        let ts = gather_snoc (λ before x. gather one_of (g before) x) [] l.done a in
        let here = marks (items n g) l.done s.cursor.cells s.cursor.values in
        let there = marks (g l.done) a (s.cursor.cells + length (cells (items n g) l.done)) (s.cursor.values + length (values (items n g) l.done)) in
        record {
          done = l.done ++ (a ∷ []);
          count = length-append l.done (a ∷ []) ∙ ap (λ (m : ℕ). m + 1) l.count;
          within = omega arith;
          left = sym (rw (one_more n k h, w.reads)) ∙ l.left;
          cells_at = rw (cs, length-append) (omega (arith, w.cells_at, l.cells_at));
          values-at = rw (us, length-append) (omega (arith, w.values-at, l.values-at));
          index_is =
              w.index_is
              ∙ (λ i. sets (l.index_is i) (l.cells_at i) (cells (g l.done) a))
              ∙ sym (sets_append (cells (items n g) l.done) (cells (g l.done) a) s.index s.cursor.cells)
              ∙ sym (ap (sets s.index s.cursor.cells) cs);
          values_is =
              let j : 2 * (s.cursor.values + length (values (items n g) l.done)) ≡ 2 * s.cursor.values + length (by_turns (values (items n g) l.done)) = omega (arith, turns_length (values (items n g) l.done)) in
              w.values_is
              ∙ (λ i. sets (l.values_is i) (2 * l.values-at i) (by_turns (values (g l.done) a)))
              ∙ ap (λ (m : ℕ). sets (sets s.values (2 * s.cursor.values) (by_turns (values (items n g) l.done))) m (by_turns (values (g l.done) a))) j
              ∙ sym (sets_append (by_turns (values (items n g) l.done)) (by_turns (values (g l.done) a)) s.values (2 * s.cursor.values))
              ∙ sym (ap (sets s.values (2 * s.cursor.values)) (turns_append (values (items n g) l.done) (values (g l.done) a)))
              ∙ sym (ap (λ x. sets s.values (2 * s.cursor.values) (by_turns x)) us);
          rows_is =
              w.rows_is
              ∙ (λ i. laid (l.rows_is i) (marks (g l.done) a (l.cells_at i) (l.values-at i)))
              ∙ sym (laid-append here there s.rows)
              ∙ sym (ap (laid s.rows) ms);
          named =
              rw ms
              (named-append text here there l.named
              (subst (λ (i : ℕ). Named text (marks (g l.done) a i (s.cursor.values + length (values (items n g) l.done)))) l.cells_at
              (subst (λ (v : ℕ). Named text (marks (g l.done) a t.cursor.cells v)) l.values-at w.named)));
          ahead = rw (ts, length-append) (omega (arith, w.ahead, l.ahead));
          room = w.room;
        }

    pub loop_next : k < n → {a : A} {u : State} → Went (g l.done) a text t u → (m : Loop g n (k + 1) text s u) × (m.done ≡ l.done ++ (a ∷ []))
    unfolding loop_more
    loop_next h w = (loop_more h w, refl)

-- ---- scanning: what the answer of `next_token` says

module _ (text : Bytes) (at : ℕ) {r : Option Span} (e : r ≡ scan_of (rest text at)) where
  pub token_found : {t : Span} → r ≡ Some t → Found text at t.from t.to
  token_found h = found text at (sym e ∙ h)

  pub token-missing : r ≡ None → rest text at ≡ end (length text)
  token-missing h = ended text at (sym e ∙ h)

-- a cell more fits the index table, where a token is left
pub index_inside : {text : Bytes} {c : Cursor} {index : List ℕ} {f t : ℕ} → Found text c.at f t → IndexRoom text c index → c.cells < length index
index_inside h r = omega (arith, h.ahead, h.not-empty, h.inside, r.short, r.cells_fit, r.index_long)

-- a value more fits the value table, where it has room
pub value_inside : {text : Bytes} {c : Cursor} {values : List ℤ} {f t : ℕ} → Found text c.at f t → ValueRoom text c values → 4 * c.values + 2 ≤ c.at → 2 * c.values + 2 ≤ length values
value_inside h r left = omega (arith, left, r.values_long, r.short, h.ahead, h.not-empty, h.inside)
