-- `row_reader::derivations::read_derivations` meets its contract.
use mathlib.Core.Path.{◌≡◌, refl, sym, ap, ◌∙◌, subst}
use mathlib.Core.Bool.{cond}
use mathlib.Core.List.{List, [], ◌∷◌, ◌++◌, map, map-append, append-nil, append_assoc}
use Prim.Native.Nat.{ℕ, ◌+◌, ◌*◌, ◌≤◌}
use native.Mathlib.Omega.{arith}
use lib.Dec.{eqb}
use lib.IntN.{ℤ}
use lib.Seq.{slice}
use Rattle.std.specs.Prelude.{Ok}
use Rattle.text.specs.Bytes.{Bytes}
use Rattle.grammar.specs.Tree.{Derivation}
use Rattle.grammar.specs.Certificate.{derivation, assumptions}
use Rattle.symbol_reader.specs.Steps.{state, Answer, Room}
use Rattle.symbol_reader.specs.Follows.{Always, Follows}
use Rattle.symbol_reader.specs.Leaves.{names_in}
use Rattle.symbol_reader.specs.Marks.{Fingerprinted}
use Rattle.symbol_reader.specs.declared.Cursor.{Cursor}
use Rattle.symbol_reader.proofs.Laws.{Loop}
use Rattle.symbol_reader.proofs.FollowsLaws.{follows_told}
use Rattle.symbol_reader.proofs.LoopLaws.{looping_start, looping_more, looping_stops, looping_done}
use Rattle.symbol_reader.proofs.NamesLaws.{loop_names}
use Rattle.text.proofs.BytesLaws.{clash}
use Rattle.row_reader.specs.Parts.{derivation_but, word_cell}
use Rattle.row_reader.proofs.RowNames.{derivations-marked}
use Rattle.row_reader.proofs.Reasons.{counts, one_at_most, assumptions_more, derivation_as}
use Rattle.row_reader.proofs.derivations.read_derivations.Goals as goal
use Rattle.symbol_reader.specs.declared.Next.{Next}

-- the names of these derivations
abbrev name_of : Derivation → Bytes
name_of d = d.row.name.bytes

names_more : (names : List Bytes) (ds : List Derivation) (d : Derivation) → (names ++ map name_of ds) ++ (name_of d ∷ []) ≡ names ++ map name_of (ds ++ (d ∷ []))
names_more names ds d = append_assoc names (map name_of ds) (name_of d ∷ []) ∙ ap (λ (more : List Bytes). names ++ more) (sym (map-append name_of ds (d ∷ [])))

-- one more derivation was read, or refused, after those before it
item : (m : ℕ) {n count i assumed : ℕ} {text : Bytes} {at₀ : Cursor} {ix₀ : List ℕ} {vs₀ : List ℤ} {rs₀ : List ℕ} {at : Cursor} {ix : List ℕ} {vs : List ℤ} {rs prints : List ℕ} {ix' : List ℕ} {vs' : List ℤ} {rs' prints' : List ℕ} {r : Answer}
    → m + count ≤ 1024
    → (Fingerprinted (names_in text (slice 0 (4 * (m + i)) rs)) prints
    → Follows Always (derivation_but n (m + i) (m + count) assumed (names_in text (slice 0 (4 * (m + i)) rs))) (λ a k. (word_cell a.reason ≡ k) × Fingerprinted (names_in text (slice 0 (4 * (m + i)) rs) ++ (a.row.name.bytes ∷ [])) prints') text at ix vs rs ix' vs' rs' r)
    → (l : Loop (derivation n m (names_in text (slice 0 (4 * m) rs₀)) count) count i text (state at₀ ix₀ vs₀ rs₀) (state at ix vs rs)) → Room text (state at₀ ix₀ vs₀ rs₀)
    → (assumptions l.done ≡ assumed) × Fingerprinted (names_in text (slice 0 (4 * m) rs₀) ++ map name_of l.done) prints
    → Follows Always (derivation n m (names_in text (slice 0 (4 * m) rs₀)) count l.done) (λ a k. (word_cell a.reason ≡ k) × Fingerprinted (names_in text (slice 0 (4 * m) rs₀) ++ map name_of (l.done ++ (a ∷ []))) prints') text at ix vs rs ix' vs' rs' r
item m {n} {count} {i} {assumed} {text} {rs₀ = rs₀} {rs = rs} {prints} {prints' = prints'} few reads l room p =
    let given : List Bytes = names_in text (slice 0 (4 * m) rs₀) in
    let used : names_in text (slice 0 (4 * (m + i)) rs) ≡ given ++ map name_of l.done =
    loop_names (derivations-marked n m given count) l (omega (arith, few, room.of_rows.rows_long, l.within)) in
    follows_told
    (derivation_as n (m + count) (ap (λ (k : ℕ). m + k) (sym l.count)) (sym p.0) used
    (reads (subst (λ (names : List Bytes). Fingerprinted names prints) (sym used) p.1)))
    (λ a x e h. (h.0, subst (λ (names : List Bytes). Fingerprinted names prints') (ap (λ (names : List Bytes). names ++ (name_of a ∷ [])) used ∙ names_more given l.done a) h.1))

-- an answer has one number
same_number : {x y : Next} → ◌≡◌ {A = Answer} (Ok x) (Ok y) → x.number ≡ y.number
same_number e = ap (λ (x : Next). x.number) (same_next e)
  where
    same_next : {x y : Next} → ◌≡◌ {A = Answer} (Ok x) (Ok y) → x ≡ y
    same_next e = cc

pub returns-then-not-has_rows : goal.returns-then-not-has_rows
returns-then-not-has_rows c = λ small few prints. clash c.if-not-has_rows.true (c.has_rows.ensures.value few)

pub loop-i-init : goal.loop-i-init
loop-i-init c =
    (λ small few prints. looping_start (refl, subst (λ (names : List Bytes). Fingerprinted names c.args.prints.now) (sym (append-nil _)) prints), omega arith, refl, refl, refl, refl)

pub loop-i-preserved : goal.loop-i-preserved
loop-i-preserved c = (
  λ small few prints.
      looping_more (c.loop-i.invariant.0 small few prints) (omega arith) (λ done. (assumptions done ≡ c.with_reason-assumed.result) × Fingerprinted (names_in c.args.text.now (slice 0 (4 * c.args.m) c.args.rows.now) ++ map name_of done) c.read_derivation.new.prints)
      (λ l room p. follows_told (item c.args.m few (c.read_derivation.ensures small (omega (arith, few)) few) l room p) (λ a x e h. (assumptions_more l.done a ∙ (λ i. p.0 i + counts a.reason i) ∙ ap (λ (z : ℕ). c.loop-i.assumed + cond (eqb z 0) 1 0) (h.0 ∙ same_number (sym e ∙ c.in_ok-next.was)) ∙ sym c.with_reason-assumed.ensures, h.1)))
      c.in_ok-next.was,
  omega (arith, c.with_reason-assumed.ensures, one_at_most (eqb c.in_ok-next.next.number 0), c.loop-i.invariant.1),
  omega arith,
  omega arith,
  omega arith,
  omega arith,
)

pub returns-in_err-next : goal.returns-in_err-next
returns-in_err-next c =
    λ small few prints.
    looping_stops (c.loop-i.invariant.0 small few prints) (omega arith) (λ done. Unit {0}) (λ l room p. follows_told (item c.args.m few (c.read_derivation.ensures small (omega (arith, few)) few) l room p) (λ a x e h. tt)) c.in_err-next.was c.from_residual.ensures.1

pub returns : goal.returns
returns c = λ small few prints. looping_done (c.loop-i.invariant.0 small few prints) (omega arith) (λ l m. tt)
