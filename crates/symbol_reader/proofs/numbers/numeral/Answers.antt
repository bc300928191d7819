-- `symbol_reader::numbers::numeral` meets its contract. The invariant: n is at most 65,535, and the bytes from the next on, after those that
-- spell n, spell what the token spells.
-- Assumes nothing.
use mathlib.Core.Path.{◌≡◌, refl, sym, ap, ◌∙◌}
use mathlib.Core.Bool.{true, false}
use Prim.Native.Nat.{ℕ, ◌+◌, ◌*◌, min}
use native.Mathlib.Omega.{arith}
use lib.ListN.{get_or}
use Rattle.text.specs.Bytes.{is_digit}
use Rattle.symbol_reader.proofs.Turns.{goes_on, settled, digit, numeral_after, numeral_digit}
use Rattle.symbol_reader.proofs.numbers.numeral.Goals as goal

pub returns-then-not-is_ascii_digit : goal.returns-then-not-is_ascii_digit
returns-then-not-is_ascii_digit c =
    let e : is_digit (get_or c.args.token.now c.loop-b.b-index 0) ≡ false = sym (digit _) ∙ sym c.if-not-is_ascii_digit.ensures.value in
    settled c.loop-b.invariant.1 (omega arith) (omega arith) (λ w. rw e refl)

pub loop-b-preserved : goal.loop-b-preserved
loop-b-preserved c =
    let e : is_digit (get_or c.args.token.now c.loop-b.b-index 0) ≡ true = sym (digit _) ∙ sym c.if-not-is_ascii_digit.ensures.value in
    let n = c.min-n.ensures ∙ ap (λ (k : ℕ). min (c.loop-b.n * 10 + k) 65535) c.from.ensures in (
      omega (arith, c.min-n.ensures),
      goes_on c.loop-b.invariant.1 (omega arith) (omega arith) (λ w. numeral_digit c.loop-b.n _ w e ∙ ap (λ (n : ℕ). numeral_after n w) (sym n)),
    )
