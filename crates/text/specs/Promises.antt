-- What the public functions promise of their answers: each is the one that a definition works out, and what that says in words.
-- Assumes nothing.
use Rattle.std.specs.Prelude.{◌≡◌, Bool, true, false, ◌↔◌, List, [], ◌∷◌, ◌++◌, ℕ, Option, Some, None, length, drop}
use Rattle.std.proofs.Math.Seq.{slice}
use Rattle.std.specs.Borrow.{Bor}
use Rattle.text.specs.Bytes.{Bytes, same}
use Rattle.text.specs.Comments.{CommentsEndAt, comments_end}
use Rattle.text.specs.Tokens.{Token, FirstToken, HasTokens, FirstGoes, TextHasTokens, rest}
use Rattle.text.specs.Shown.{begins_token, shown_from, shown_to, IsPart, part_from, part_to}
use Rattle.text.specs.Scans.{scan_of}
use Rattle.text.specs.declared.Token.{Token as Answer}

-- `comments_end`
pub record CommentsPassed (text : Bytes) (answer : ℕ) : Type 0 where
  pub by_definition : answer ≡ comments_end text
  -- the comments end at the answer, and at no other place
  pub ends_exactly : (place : ℕ) → CommentsEndAt text place ↔ (place ≡ answer)

-- `next_token`
pub record TokenScanned (text : Bytes) (at : ℕ) (answer : Option Answer) : Type 0 where
  pub by_definition : answer ≡ scan_of (rest text at)
  -- it is a token exactly where that is the first from `at` on, and none exactly where none but separators are left
  pub token_exactly : (from to : ℕ) → (answer ≡ Some (record { from = from; to = to })) ↔ FirstGoes text at from to
  pub end_exactly : (answer ≡ None) ↔ HasTokens at (drop at text) []

-- `part`: a part of the lent text itself
pub record PartTaken (text : Bor Bytes) (from to : ℕ) (answer : Bor Bytes) : Type 0 where
  pub itself : IsPart text (part_from text.now from to) (part_to text.now to) answer
  -- its bytes are those from `from` up to `to`
  pub bytes : answer.now ≡ slice from to text.now

-- `is_word`: "compared byte for byte, case included"
pub record WordCompared (part word : Bytes) (answer : Bool) : Type 0 where
  pub by_definition : answer ≡ same part word
  -- it is true exactly where the bytes are equal
  pub equal_exactly : (answer ≡ true) ↔ (part ≡ word)

-- `show_token`
pub record TokenShown (text : Bor Bytes) (place : ℕ) (answer : Bor Bytes) : Type 0 where
  pub by_definition : IsPart text (shown_from text.now place) (shown_to text.now place) answer
  -- "If a token begins there .., the answer is that part of the lent text itself": from the place on the text has this token first
  pub begun : begins_token text.now place ≡ true
      → (after : Bytes) × FirstToken place (drop place text.now) (record { place = place; bytes = answer.now }) after
  -- "otherwise an empty part at its end"
  pub not_begun : begins_token text.now place ≡ false → IsPart text (length text.now) (length text.now) answer
  -- each token of the text, after its comments, is shown at its place
  pub each-token : (before : List Token) (t : Token) (after : List Token) → TextHasTokens text.now (before ++ (t ∷ after))
      → t.place ≡ place → answer.now ≡ t.bytes
