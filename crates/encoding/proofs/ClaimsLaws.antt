-- What is proved of the definitions in specs/Claims.antt: the ends and the word of a claim.
-- Assumes nothing.
use mathlib.Core.Path.{◌≡◌}
use mathlib.Core.Bool.{Bool, true, false}
use mathlib.Core.List.{List}
use Prim.Native.Nat.{ℕ}
use lib.IntN.{ℤ}
use lib.ListN.{get_or}
use Rattle.grammar.specs.Tree.{Claim, infeas, range}
use Rattle.grammar.specs.Certificate.{claim_cell, of_claim}
use Rattle.rules.specs.Sentence.Formed.{EndFormed, ClaimFormed}
use Rattle.encoding.specs.Encodes.{EncodesClaim}
use Rattle.encoding.specs.Claims.{end_in}

-- an end of a claim that is well formed is well formed
pub end_formed : (upper : Bool) (c : Claim) → ClaimFormed c → EndFormed (end_in upper c)
end_formed upper infeas h = tt
end_formed true (range low high) h = h.1
end_formed false (range low high) h = h.0

-- the word of an encoded claim
pub claim_word : (index : List ℕ) (values : List ℤ) (cell n : ℕ) (c : Claim) → EncodesClaim index values cell n c → get_or index cell 0 ≡ claim_cell (of_claim c).0
claim_word index values cell n infeas h = h
claim_word index values cell n (range low high) h = h.0.0
