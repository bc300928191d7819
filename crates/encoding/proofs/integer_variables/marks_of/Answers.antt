use Rattle.std.proofs.Common.{◌≡◌, ℕ, zero, suc, false, refl, sym, ◌∙◌, ltb, get_or}
use Rattle.std.proofs.Math.Bool.{and-false}
use Rattle.std.proofs.Math.ListN.{replicate}
use Rattle.tables.specs.Limits.{most_variables}
use Rattle.encoding.proofs.integer_variables.marks_of.Goals as goal

-- nothing is marked at the start
unmarked : (n v : ℕ) → get_or (replicate n false) v false ≡ false
unmarked zero v = refl
unmarked (suc n) zero = refl
unmarked (suc n) (suc v) = unmarked n v

pub loop-variable-init : goal.loop-variable-init
loop-variable-init c = record { long = refl; is = λ v. unmarked most_variables v ∙ sym (and-false (ltb v most_variables)) }
