-- Reading agrees with spelling: what is read is spelled by the tokens taken (`sound`), for every format, and what tokens spell
-- is read from them (`complete`), for every format that is `Clear`. So no tokens spell two by such a format (`once`).
-- Assumes nothing.
use Rattle.std.specs.Prelude.{◌≡◌, refl, List, [], ◌∷◌, ◌++◌, ℕ, zero, suc, length}
use Rattle.std.proofs.Common.{sym, ◌∙◌, ap, subst, append_assoc, append-nil}
use Rattle.text.specs.Tokens.{Token, Stream, end, token, join}
use Rattle.arithmetic.specs.Outcome.{Outcome, gives, refuses}
use Rattle.grammar.specs.Format.{Symbol, Format, symbol, then, items, nothing, view}
use Rattle.grammar.specs.Spelling.{SymbolSpelled, ItemsSpelled, ListSpelled, Spells}
use Rattle.grammar.specs.Reading.{decode, Read, got, stopped, onward, kept, read_symbol, read_items, read}
use Rattle.grammar.specs.SymbolAgreement.{ClearSymbol}
use Rattle.grammar.proofs.SymbolAgreement.{impossible, decode_sound, decode_complete}

-- ---- formats by which no tokens spell two

-- each symbol is clear, wherever it stands
abbrev pub Clear : {A : Type 0} → Format A → Type 0
Clear (symbol s) = ClearSymbol s
Clear (then {A = A} f g) = Clear f × ((a : A) → Clear (g a))
Clear (items {A = A} n g) = (before : List A) → Clear (g before)
Clear nothing = Unit {0}
Clear (view to from p q f) = Clear f

-- ---- streams

onward_got : {A B : Type 0} (r : Read A) (k : A → Stream → Read B) (b : B) (w : Stream) → onward r k ≡ got b w
    → (a : A) × (v : Stream) × (r ≡ got a v) × (k a v ≡ got b w)
onward_got (got a v) k b w e = (a, v, refl, e)
onward_got (stopped r p) k b w e = impossible (cc)

pub join-append : (a b : List Token) (s : Stream) → join (a ++ b) s ≡ join a (join b s)
join-append [] b s = refl
join-append (t ∷ a) b s = ap (token t.place t.bytes) (join-append a b s)

-- two runs of tokens, one after the other
joined : (s u : Stream) (a b : List Token) (w o : Stream) → s ≡ join a u → u ≡ join b w → w ≡ o → s ≡ join (a ++ b) o
joined s u a b w o p q r = p ∙ ap (join a) (q ∙ ap (join b) r) ∙ sym (join-append a b o)

symbol_sound : {A : Type 0} (y : Symbol A) (s : Stream) (a : A) (o : Stream) → read_symbol y s ≡ got a o
    → (t : Token) × (s ≡ join (t ∷ []) o) × SymbolSpelled y a t
symbol_sound y (end size) a o e = impossible (cc)
symbol_sound {A} y (token p w s) a o e = go (decode y t) refl e
  where
    t : Token
    t = record { place = p; bytes = w }

    go : (d : Outcome A) → decode y t ≡ d → kept d p s ≡ got a o → (t : Token) × (token p w s ≡ join (t ∷ []) o) × SymbolSpelled y a t
    go (gives b) q k =
        let eq : b ≡ a = cc in
        let left : s ≡ o = cc in
        (t, ap (token p w) left, decode_sound y t a (q ∙ ap gives eq))
    go (refuses r) q k = impossible (cc)

items_complete : {A : Type 0} (P : List A → A → List Token → Type 0) (R : List A → Stream → Read A)
    → ((before : List A) (x : A) (us : List Token) (o : Stream) → P before x us → R before (join us o) ≡ got x o)
    → (before xs : List A) (us : List Token) (o : Stream) → ItemsSpelled P before xs us
    → read_items R (length xs) before (join us o) ≡ got (before ++ xs) o
items_complete P R one before [] us o e = rw (e, append-nil before)
items_complete P R one before (x ∷ xs) us o h =
    rw (h.tokens, join-append, one before x h.front (join h.back o) h.first)
    (items_complete P R one (before ++ (x ∷ [])) xs h.back o h.second ∙ ap (λ (l : List _). got l o) (append_assoc before (x ∷ []) xs))

-- what tokens spell is read from them, whatever follows
pub complete : {A : Type 0} (f : Format A) (a : A) (us : List Token) (o : Stream) → Clear f → Spells f a us → read f (join us o) ≡ got a o
unfolding read
complete (symbol y) a us o c h = rw (h.alone, decode_complete y h.token a c h.spelled)
complete (then f g) ab us o c h =
    rw (h.tokens, join-append, complete f ab.0 h.front (join h.back o) c.0 h.first, complete (g ab.0) ab.1 h.back o (c.1 ab.0) h.second)
complete (items n g) xs us o c h =
    rw (← h.counted)
    (items_complete (λ before x vs. Spells (g before) x vs) (λ before v. read (g before) v) (λ before x vs w p. complete (g before) x vs w (c before) p) [] xs us o h.each)
complete nothing u us o c h = rw h
complete (view to from p q f) b us o c h = rw (complete f (from b) us o c h, q b)

items_sound : {A : Type 0} (P : List A → A → List Token → Type 0) (R : List A → Stream → Read A)
    → ((before : List A) (s : Stream) (x : A) (o : Stream) → R before s ≡ got x o → (us : List Token) × (s ≡ join us o) × P before x us)
    → (n : ℕ) (before : List A) (s : Stream) (xs : List A) (o : Stream) → read_items R n before s ≡ got xs o
    → (ys : List A) × (before ++ ys ≡ xs) × (length ys ≡ n) × (us : List Token) × (s ≡ join us o) × ItemsSpelled P before ys us
items_sound P R one zero before s xs o e =
    let p : before ≡ xs = cc in
    let q : s ≡ o = cc in
    ([], append-nil before ∙ p, refl, [], q, refl)
items_sound P R one (suc n) before s xs o e =
    let h = onward_got (R before s) (λ a u. read_items R n (before ++ (a ∷ [])) u) xs o e in
    let first = one before s h.0 h.1 h.2 in
    let more = items_sound P R one n (before ++ (h.0 ∷ [])) h.1 xs o h.3 in (
      h.0 ∷ more.0,
      sym (append_assoc before (h.0 ∷ []) more.0) ∙ more.1,
      ap suc more.2,
      first.0 ++ more.3,
      joined s h.1 first.0 more.3 o o first.1 more.4 refl,
      record { front = first.0; back = more.3; tokens = refl; first = first.2; second = more.5 },
    )

-- what is read is spelled by the tokens taken
pub sound : {A : Type 0} (f : Format A) (s : Stream) (a : A) (o : Stream) → read f s ≡ got a o
    → (us : List Token) × (s ≡ join us o) × Spells f a us
unfolding read
sound (symbol y) s a o e =
    let h = symbol_sound y s a o e in
    (h.0 ∷ [], h.1, record { token = h.0; alone = refl; spelled = h.2 })
sound (then f g) s ab o e =
    let h = onward_got (read f s) (λ a u. onward (read (g a) u) (λ b v. got (a, b) v)) ab o e in
    let i = onward_got (read (g h.0) h.1) (λ b v. got (h.0, b) v) ab o h.3 in
    let first = sound f s h.0 h.1 h.2 in
    let second = sound (g h.0) h.1 i.0 i.1 i.2 in
    let p : (h.0, i.0) ≡ ab = cc i.3 in
    let q : i.1 ≡ o = cc i.3 in (
      first.0 ++ second.0,
      joined s h.1 first.0 second.0 i.1 o first.1 second.1 q,
      subst (λ x. Spells (then f g) x (first.0 ++ second.0)) p
          (record { front = first.0; back = second.0; tokens = refl {a = first.0 ++ second.0}; first = first.2; second = second.2 }),
    )
sound (items n g) s xs o e =
    let r = items_sound (λ before x vs. Spells (g before) x vs) (λ before v. read (g before) v) (λ before v x w p. sound (g before) v x w p) n [] s xs o e in
    (r.3, r.4, subst (λ l. ListSpelled n (λ before x vs. Spells (g before) x vs) l r.3) r.1 (record { counted = r.2; each = r.5 }))
sound nothing s u o e =
    let left : s ≡ o = cc in
    ([], left, refl)
sound (view to from p q f) s b o e =
    let h = onward_got (read f s) (λ a u. got (to a) u) b o e in
    let r = sound f s h.0 h.1 h.2 in
    let eq : to h.0 ≡ b = cc h.3 in
    let left : h.1 ≡ o = cc h.3 in (
      r.0,
      r.1 ∙ ap (join r.0) left,
      subst (λ x. Spells f (from x) r.0) eq (subst (λ x. Spells f x r.0) (sym (p h.0)) r.2),
    )

-- no tokens spell two
pub once : {A : Type 0} (f : Format A) (a b : A) (ts : List Token) → Clear f → Spells f a ts → Spells f b ts → a ≡ b
once f a b ts c h k =
    let p = complete f a ts (end 0) c h in
    let q = complete f b ts (end 0) c k in
    cc
