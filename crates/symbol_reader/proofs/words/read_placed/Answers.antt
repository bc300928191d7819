-- `symbol_reader::words::read_placed` meets its contract: a word takes nothing, and the place that is kept is that of its token.
-- Assumes nothing.
use mathlib.Core.Path.{◌≡◌, refl}
use mathlib.Core.List.{List}
use Prim.Native.Nat.{ℕ}
use lib.IntN.{ℤ}
use Rattle.grammar.specs.Format.{symbol, placed}
use Rattle.symbol_reader.specs.Follows.{Always, Follows}
use Rattle.symbol_reader.specs.Leaves.{token_at}
use Rattle.symbol_reader.proofs.Decoding.{means_at, placed_at}
use Rattle.symbol_reader.proofs.FollowsLaws.{follows_stop, follows_next}
use Rattle.symbol_reader.proofs.TokenLaws.{missing_follows, passed_follows}
use Rattle.symbol_reader.proofs.words.read_placed.Goals as goal
use Rattle.symbol_reader.proofs.words.read_placed.Goals.{After-passed}

-- the word is passed, or refused
word_passed : (c : After-passed) (ix : List ℕ) (vs : List ℤ) (rs : List ℕ) → Follows Always (symbol (placed c.args.word.now)) (λ p n. p ≡ c.in_ok-token.token.from) c.args.text.now c.args.cursor ix vs rs ix vs rs c.passed.result
word_passed c ix vs rs =
    passed_follows c.in_ok-token.ensures (means_at c.bytes.ensures (c.word_in.ensures.means _)) c.passed.ensures (placed_at c.args.word.now (token_at c.args.text.now c.in_ok-token.token)) (λ a. refl) (λ a. refl) (λ a i v. refl)

pub returns-in_err-token : goal.returns-in_err-token
returns-in_err-token c = λ ix vs rs. missing_follows c.in_err-token.ensures c.from_residual.ensures.1

pub returns-in_err-next : goal.returns-in_err-next
returns-in_err-next c = λ ix vs rs. follows_stop (word_passed (goal.at.returns-in_err-next c).After-passed ix vs rs) c.in_err-next.was c.from_residual-in_err-next.ensures.1

pub returns : goal.returns
returns c = λ ix vs rs. follows_next (word_passed (goal.at.returns c).After-passed ix vs rs) c.in_ok-next.was (λ a h. h)
