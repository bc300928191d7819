-- The bytes that are shown begin at the place, and there is one at least exactly where a token begins.
-- Assumes nothing.
use mathlib.Core.Path.{◌≡◌, refl, sym, ap, ◌∙◌, subst}
use mathlib.Core.Bool.{Bool, true, false}
use mathlib.Core.List.{List, ◌∷◌, ◌++◌}
use Prim.Native.Nat.{ℕ, ◌+◌, ◌≤◌}
use native.Mathlib.Nat.{add-zero}
use native.Mathlib.Omega.{arith}
use lib.ListN.{length, drop, length-drop}
use lib.Seq.{slice, slice_empty, length-slice}
use Rattle.text.specs.Bytes.{Bytes}
use Rattle.text.proofs.BytesLaws.{clash, leading_le}
use Rattle.text.specs.Tokens.{Token, TextHasTokens, is_token_byte, token_end}
use Rattle.text.proofs.ScansLaws.{token_some}
use Rattle.text.specs.Shown.{begins_token, shown_at}
use Rattle.text.proofs.ShownLaws.{from_begun, to_begun, begun_inside, begun_byte, shown_none, text_token_shown}
use Rattle.vipr_c.specs.Shown.{TokenMeasured}

module _ (text : Bytes) (place : ℕ) where
  each_measured : (before : List Token) (t : Token) (after : List Token) → TextHasTokens text (before ++ (t ∷ after)) → t.place ≡ place
      → length (shown_at text place) ≡ length t.bytes
  each_measured before t after h q = ap (length {A = ℕ}) (ap (shown_at text) (sym q) ∙ (text_token_shown before t after h).1)

  -- a token ends within the text
  module _ (e : begins_token text place ≡ true) where
    token_inside : token_end text place ≤ length text
    token_inside = omega (arith, begun_inside text place e, leading_le is_token_byte (drop place text), length-drop place text)

    shown_is : shown_at text place ≡ slice place (token_end text place) text
    shown_is = λ i. slice (from_begun text place e i) (to_begun text place e i) text

    shown_length : place + length (shown_at text place) ≡ token_end text place
    shown_length = omega (arith, ap (length {A = ℕ}) shown_is, length-slice place (token_end text place) text token_inside)

  measured : (b : Bool) → begins_token text place ≡ b → TokenMeasured text place (length (shown_at text place))
  measured true e =
      record {
        by_definition = refl;
        bytes = ap (λ (n : ℕ). slice place n text) (shown_length e) ∙ sym (shown_is e);
        some_exactly = (λ h. e, λ h. omega (arith, shown_length e, token_some text place (begun_inside text place e) (begun_byte text place e)));
        each-token = each_measured;
      }
  measured false e =
      let none : length (shown_at text place) ≡ 0 = ap (length {A = ℕ}) (shown_none text place e) in
      record {
        by_definition = refl;
        bytes = ap (λ (n : ℕ). slice place (place + n) text) none ∙ ap (λ (n : ℕ). slice place n text) (add-zero place) ∙ slice_empty place text ∙ sym (shown_none text place e);
        some_exactly = (λ h. absurd (omega (arith, none)), λ h. clash e h);
        each-token = each_measured;
      }

  pub token_measured : {part : Bytes} → part ≡ shown_at text place → TokenMeasured text place (length part)
  token_measured e = subst (λ (part : Bytes). TokenMeasured text place (length part)) (sym e) (measured (begins_token text place) refl)
