-- Fingerprints of names, as they are marked: of none, and of one name more.
-- Assumes nothing.
use mathlib.Core.Path.{◌≡◌, refl, sym, ap, ◌∙◌}
use mathlib.Core.Bool.{Bool, true, false, ◌||◌}
use mathlib.Core.List.{List, [], ◌∷◌, ◌++◌}
use Prim.Native.Nat.{ℕ, ◌+◌, ◌*◌, ◌%◌, ◌<◌}
use native.Mathlib.Omega.{arith}
use borrow.Author.Tests.{eq-eqb}
use lib.Dec.{eqb}
use lib.ListN.{length}
use Rattle.text.specs.Bytes.{Bytes, same}
use Rattle.text.proofs.BytesLaws.{same_true, clash}
use Rattle.grammar.specs.Reading.{is_among}
use Rattle.symbol_reader.specs.Leaves.{fingerprint_after, fingerprint_of}
use Rattle.symbol_reader.specs.Marks.{marked, Fingerprinted}
use Rattle.symbol_reader.proofs.MarksLaws.{among_more}

-- ---- one name more

pub no_names : {words : List ℕ} → length words ≡ 1024 → Fingerprinted [] words
no_names e = record { enough = e; are = λ w h. clash refl h }

print_small : (n : ℕ) (w : Bytes) → n < 65536 → fingerprint_after n w < 65536
print_small n [] h = h
print_small n (b ∷ w) h = print_small ((n * 31 + b) % 65536) w (omega arith)

pub one_more : {names : List Bytes} {words words' : List ℕ} (v : Bytes) → Fingerprinted names words → length words' ≡ length words → ((k : ℕ) → k < 64 * length words → marked words' k ≡ eqb k (fingerprint_of v) || marked words k) → Fingerprinted (names ++ (v ∷ [])) words'
unfolding fingerprint_of
one_more {names} {words} {words'} v p e h =
    record {
      enough = e ∙ p.enough;
      are = λ w i. h (fingerprint_of w) (omega (arith, p.enough, print_small 0 w (omega arith))) ∙ go w (same w v) refl (sym (among_more same w v names) ∙ i);
    }
  where
    go : (w : Bytes) (t : Bool) → same w v ≡ t → t || is_among same w names ≡ true → eqb (fingerprint_of w) (fingerprint_of v) || marked words (fingerprint_of w) ≡ true
    go w true s i = ap (λ (t : Bool). t || marked words (fingerprint_of w)) (eq-eqb (fingerprint_of w) (fingerprint_of v) (ap fingerprint_of (same_true w v s)))
    go w false s i = ap (λ (t : Bool). eqb (fingerprint_of w) (fingerprint_of v) || t) (p.are w i) ∙ or-true (eqb (fingerprint_of w) (fingerprint_of v))
      where
        or-true : (t : Bool) → t || true ≡ true
        or-true true = refl
        or-true false = refl
