-- A quoted text as bytes: each character's code, which is its one byte where the text is ASCII.
-- Assumes nothing.
use Rattle.std.specs.Prelude.{[] as []ᴸ, ◌∷◌ as ◌∷ᴸ◌}
use Prim.Native.Char.{code}
use Prim.Native.String.{String, [], ◌∷◌}
use Rattle.text.specs.Bytes.{Bytes}

abbrev pub ascii : String → Bytes
ascii [] = []ᴸ
ascii (c ∷ s) = code c ∷ᴸ ascii s
