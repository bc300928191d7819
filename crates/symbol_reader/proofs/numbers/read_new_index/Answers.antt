-- `symbol_reader::numbers::read_new_index` meets its contract: a number that is not marked takes a cell, and is marked.
-- Assumes nothing.
use mathlib.Core.Path.{refl}
use mathlib.Core.List.{List}
use Prim.Native.Nat.{ℕ, ◌*◌, ◌≤◌}
use lib.IntN.{ℤ}
use lib.ListN.{length}
use Rattle.grammar.specs.Format.{symbol, number}
use Rattle.symbol_reader.specs.Steps.{the}
use Rattle.symbol_reader.specs.Follows.{Always, Follows}
use Rattle.symbol_reader.specs.Leaves.{Means, token_at}
use Rattle.symbol_reader.specs.Marks.{Marks}
use Rattle.symbol_reader.proofs.Decoding.{means_at}
use Rattle.symbol_reader.proofs.TokenLaws.{missing_follows, token_filled, filled_follows, stored_refuses}
use Rattle.symbol_reader.proofs.FollowsLaws.{follows_stop, follows_next, refuses_stop}
use Rattle.symbol_reader.proofs.MarksLaws.{marks_more}
use Rattle.symbol_reader.proofs.numbers.read_new_index.Goals as goal
use Rattle.symbol_reader.proofs.numbers.read_new_index.Goals.{After-filled}

module _ (c : After-filled) (used : List ℕ) (small : c.args.bound ≤ 65535) (fits : c.args.bound ≤ 64 * length c.args.seen.now) (marks : Marks used c.args.seen.now) where
  means : Means (number c.args.bound used) (λ n. n) (token_at c.args.text.now c.in_ok-token.token) c.new_in-meaning.result
  means = means_at c.bytes.ensures (c.new_in-meaning.ensures _ used (token_filled c.in_ok-token.ensures c.bytes.ensures) small fits marks)

  -- the number is stored, or refused
  stored : (vs : List ℤ) (rs : List ℕ) → Follows Always (symbol (number c.args.bound used)) (the (λ n. n)) c.args.text.now c.args.cursor c.args.index.now vs rs c.filled.new.index vs rs c.filled.result
  stored vs rs = filled_follows c.in_ok-token.ensures means c.filled.ensures (λ a d. refl) (λ i. refl) (λ i e. refl) (λ i j v. refl)

pub returns-in_err-token-clause-by_index : goal.returns-in_err-token-clause-by_index
returns-in_err-token-clause-by_index c = λ used vs rs small fits marks. missing_follows c.in_err-token.ensures c.from_residual.ensures.1

pub returns-in_err-next-clause-by_index : goal.returns-in_err-next-clause-by_index
returns-in_err-next-clause-by_index c =
    λ used vs rs small fits marks. follows_stop (stored (goal.at.returns-in_err-next-clause-by_index c).After-filled used small fits marks vs rs) c.in_err-next.was c.from_residual-in_err-next.ensures.1

pub returns-in_err-next-clause-by_index_2 : goal.returns-in_err-next-clause-by_index_2
returns-in_err-next-clause-by_index_2 c =
    λ used small fits marks.
    refuses_stop (stored_refuses c.in_ok-token.ensures (means (goal.at.returns-in_err-next-clause-by_index_2 c).After-filled used small fits marks) c.filled.ensures (λ h. h) (λ e. e)) c.in_err-next.was c.from_residual-in_err-next.ensures.1
    (λ e. (e, refl))

pub returns-clause-by_index : goal.returns-clause-by_index
returns-clause-by_index c =
    λ used vs rs small fits marks.
    follows_next (stored (goal.at.returns-clause-by_index c).After-filled used small fits marks vs rs) c.in_ok-next.was
    (λ i h. rw h (marks_more c.in_ok-next.next.number marks c.mark.ensures.words_len_unchanged c.mark.ensures.by_index))
