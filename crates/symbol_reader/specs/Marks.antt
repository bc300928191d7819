-- Marks: which numbers are marked in words of 64 bits.
-- Assumes nothing.
use Rattle.std.specs.Prelude.{◌≡◌, Bool, true, List, ℕ, ◌*◌, ◌/◌, ◌%◌, ◌<◌, eqb, length, get_or}
use Rattle.text.specs.Bytes.{Bytes, same}
use Rattle.sets.specs.Sets.{bit}
use Rattle.grammar.specs.Reading.{is_among}
use Rattle.symbol_reader.specs.Leaves.{fingerprint_of}

-- bit n % 64 of the word n / 64
abbrev pub marked : List ℕ → ℕ → Bool
marked words n = eqb (bit (get_or words (n / 64) 0) (n % 64)) 1

-- just these numbers are marked, of those that the words can mark
pub record Marks (numbers words : List ℕ) : Type 0 where
  pub are : (n : ℕ) → n < 64 * length words → marked words n ≡ is_among eqb n numbers

-- the words that mark all fingerprints, of which there are 65,536
abbrev pub print_words : ℕ
print_words = 1024

-- the fingerprints of these names are marked, in words that can mark every one
pub record Fingerprinted (names : List Bytes) (words : List ℕ) : Type 0 where
  pub enough : length words ≡ print_words
  pub are : (w : Bytes) → is_among same w names ≡ true → marked words (fingerprint_of w) ≡ true
