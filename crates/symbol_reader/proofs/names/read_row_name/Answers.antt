-- `symbol_reader::names::read_row_name` meets its contract: a new name takes a row, and its fingerprint is marked.
-- Assumes nothing.
use mathlib.Core.Path.{refl, sym, ap, ◌∙◌, subst}
use mathlib.Core.Bool.{◌||◌}
use mathlib.Core.List.{List}
use Prim.Native.Nat.{ℕ, ◌*◌, ◌<◌}
use lib.Dec.{eqb}
use lib.IntN.{ℤ}
use lib.Seq.{slice}
use Rattle.text.specs.Bytes.{Bytes}
use Rattle.grammar.specs.Format.{symbol, row_name}
use Rattle.symbol_reader.specs.Steps.{the}
use Rattle.symbol_reader.specs.Follows.{Always, Follows}
use Rattle.symbol_reader.specs.Leaves.{Means, token_of, token_at, names_in, fingerprint_of}
use Rattle.symbol_reader.specs.Marks.{marked, Fingerprinted}
use Rattle.symbol_reader.proofs.Decoding.{means_at, name_mark}
use Rattle.symbol_reader.proofs.TokenLaws.{missing_follows, rowed_follows, stored_refuses}
use Rattle.symbol_reader.proofs.FollowsLaws.{follows_stop, follows_next, refuses_stop}
use Rattle.symbol_reader.proofs.Fingerprints.{one_more}
use Rattle.symbol_reader.proofs.names.read_row_name.Goals as goal
use Rattle.symbol_reader.proofs.names.read_row_name.Goals.{After-rowed}

-- the names of the rows before it
abbrev used : (c : After-rowed) → List Bytes
used c = names_in c.args.text.now (slice 0 (4 * c.args.row) c.args.rows.now)

-- what the token means
meaning : (c : After-rowed) → Fingerprinted (used c) c.args.prints.now → Means (row_name c.args.row (used c)) (λ x. fingerprint_of x.bytes) (token_at c.args.text.now c.in_ok-token.token) c.row_name_in-meaning.result
meaning c prints =
    means_at c.bytes.ensures
    (subst (λ (rows : List ℕ). Fingerprinted (names_in c.args.text.now rows) c.args.prints.now → Means (row_name c.args.row (names_in c.args.text.now rows)) (λ x. fingerprint_of x.bytes) (token_of c.in_ok-token.token.from c.bytes.result.now) c.row_name_in-meaning.result)
    c.rows_below.ensures (c.row_name_in-meaning.ensures _ c.args.row) prints)

-- the row is stored, or the name is refused
stored : (c : After-rowed) (ix : List ℕ) (vs : List ℤ) → c.args.row < 1088 → Fingerprinted (used c) c.args.prints.now
    → Follows Always (symbol (row_name c.args.row (used c))) (the (λ x. fingerprint_of x.bytes)) c.args.text.now c.args.cursor ix vs c.args.rows.now ix vs c.rowed.new.rows c.rowed.result
stored c ix vs few prints =
    rowed_follows c.in_ok-token.ensures (meaning c prints) c.rowed.ensures few (λ a d. refl) (λ a. refl) (λ a. refl)
    (name_mark c.args.row (used c) (λ x. fingerprint_of x.bytes) (token_at c.args.text.now c.in_ok-token.token))

pub returns-in_err-token-clause-by_index : goal.returns-in_err-token-clause-by_index
returns-in_err-token-clause-by_index c = λ ix vs few prints. missing_follows c.in_err-token.ensures c.from_residual.ensures.1

pub returns-in_err-next-clause-by_index : goal.returns-in_err-next-clause-by_index
returns-in_err-next-clause-by_index c =
    λ ix vs few prints. follows_stop (stored (goal.at.returns-in_err-next-clause-by_index c).After-rowed ix vs few prints) c.in_err-next.was c.from_residual-in_err-next.ensures.1

pub returns-in_err-next-clause-refuses : goal.returns-in_err-next-clause-refuses
returns-in_err-next-clause-refuses c =
    λ prints.
    refuses_stop (stored_refuses c.in_ok-token.ensures (meaning (goal.at.returns-in_err-next-clause-refuses c).After-rowed prints) c.rowed.ensures (λ h. h) (λ e. e)) c.in_err-next.was c.from_residual-in_err-next.ensures.1
    (λ e. (e, refl))

pub returns-clause-by_index : goal.returns-clause-by_index
returns-clause-by_index c =
    let more = c.mark.ensures in
    λ ix vs few prints.
    follows_next (stored (goal.at.returns-clause-by_index c).After-rowed ix vs few prints) c.in_ok-next.was
    (λ x h. one_more x.bytes prints more.words_len_unchanged (λ i l. more.by_index i l ∙ ap (λ (z : ℕ). eqb i z || marked c.args.prints.now i) (sym h)))
