-- What came after one more read, and what is handed over then.
-- Assumes nothing.
use Rattle.std.proofs.Common.{◌≡◌, ℕ, true, false, List, [], ◌++◌, ◌+◌, None, Some, Ok, Err, sym, ap, ◌∙◌, append_assoc, take, drop, subst}
use Rattle.std.proofs.Math.Seq.{take-add}
use Rattle.std.specs.Prelude.{Option, Result}
use Rattle.std.specs.Result.{result_ok}
use Rattle.std.specs.Option.{is_some}
use Rattle.text.specs.Bytes.{Bytes}
use Rattle.program.specs.Line.{printed}
use Rattle.program.specs.Transcript.{line_after}
use Rattle.std.specs.Io.KnownBytes.{Consumes, ReadConsumes}

-- two reads after one another
consumed_both : (a b c : Option (List ℕ)) (xs ys : List ℕ) → Consumes a b xs → Consumes b c ys → Consumes a c (xs ++ ys)
consumed_both None b c xs ys p q = tt
consumed_both (Some x) None c xs ys p q = absurd p
consumed_both (Some x) (Some y) None xs ys p q = absurd q
consumed_both (Some x) (Some y) (Some z) xs ys p q = p ∙ ap (λ l. xs ++ l) q ∙ sym (append_assoc xs ys z)

-- the bytes that a read gave are gone from the input
read_gave : {E : Type 0} (b c : Option (List ℕ)) (r : Result ℕ E) (part : List ℕ) (more : ℕ) → ReadConsumes b c r part → result_ok r ≡ Some more → Consumes b c (take more part)
read_gave b c (Ok n) part more h e = let same : n ≡ more = cc in subst (λ k. Consumes b c (take k part)) same h.0
read_gave b c (Err x) part more h e = cc

-- a text that keeps what came before a read, and after it has the part that the read took from the input
pub consumed_more : {E : Type 0} (a b c : Option (List ℕ)) (r : Result ℕ E) (text part text' : List ℕ) (came more : ℕ)
    → Consumes a b (take came text) → ReadConsumes b c r part → result_ok r ≡ Some more
    → take came text' ≡ take came text → take more (drop came text') ≡ take more part
    → Consumes a c (take (came + more) text')
consumed_more a b c r text part text' came more known read gave kept new =
    let joined : take (came + more) text' ≡ take came text ++ take more part =
    take-add came more text' ∙ ap (λ l. l ++ take more (drop came text')) kept ∙ ap (λ l. take came text ++ l) new in
    subst (Consumes a c) (sym joined) (consumed_both a b c _ _ known (read_gave b c r part more read gave))

-- after a failure nothing is handed over, else the line
pub no_line : (last : Option ℕ) (text : Bytes) {line : Bytes} → is_some last ≡ false → line ≡ [] → line ≡ line_after last text
no_line None text e made = made
no_line (Some more) text e made = cc

pub line_known : (last : Option ℕ) (text : Bytes) {line : Bytes} → is_some last ≡ true → line ≡ printed text → line ≡ line_after last text
line_known None text e made = cc
line_known (Some more) text e made = made
