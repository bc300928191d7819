-- Show a token for C. The part that is shown begins at the place, so its length is all that C has to be told.
-- Assumes nothing.
use Rattle.std.specs.Prelude.{◌≡◌, true, List, ◌∷◌, ◌++◌, ◌↔◌, ℕ, ◌+◌, ◌<◌, length}
use Rattle.std.proofs.Math.Seq.{slice}
use Rattle.text.specs.Bytes.{Bytes}
use Rattle.text.specs.Tokens.{Token, TextHasTokens}
use Rattle.text.specs.Shown.{begins_token, shown_at}

pub record TokenMeasured (text : Bytes) (place returned : ℕ) : Type 0 where
  -- how many bytes are shown
  pub by_definition : returned ≡ length (shown_at text place)
  -- they are the bytes from the place on
  pub bytes : slice place (place + returned) text ≡ shown_at text place
  -- 0 exactly where no token begins
  pub some_exactly : (0 < returned) ↔ (begins_token text place ≡ true)
  -- of each token of the text, after its comments, the number of its bytes at its place
  pub each-token : (before : List Token) (t : Token) (after : List Token) → TextHasTokens text (before ++ (t ∷ after)) → t.place ≡ place
      → returned ≡ length t.bytes
