-- `row_reader::derivations::read_reason` meets its contract: a word, and what follows it; the word's cell is handed back.
use mathlib.Core.Path.{◌∙◌}
use Rattle.symbol_reader.specs.Steps.{any}
use Rattle.symbol_reader.proofs.FollowsLaws.{then_stops, then_stops_later, then_follows, leads_always, view_follows, follows_stop, follows_next, follows_own}
use Rattle.row_reader.proofs.Reasons.{word_cell_lem}
use Rattle.row_reader.proofs.derivations.read_reason.Goals as goal

pub returns-in_err-word : goal.returns-in_err-word
returns-in_err-word c = λ rs small. view_follows (λ p n t. t) (then_stops (c.read_reason_word.ensures.follows _ rs) c.in_err-word.was c.from_residual.ensures.1)

pub returns-in_err-detail : goal.returns-in_err-detail
returns-in_err-detail c =
    let up = c.from_residual-in_err-detail.ensures in
    λ rs small.
    view_follows (λ p n t. t)
    (then_stops_later (c.read_reason_word.ensures.follows _ rs) c.in_ok-word.was leads_always (λ w t. follows_stop (c.read_detail.ensures w rs small t) c.in_err-detail.was up.1) up.0)

pub returns : goal.returns
returns c =
    λ rs small.
    view_follows (λ p n t. t)
    (follows_own (then_follows (c.read_reason_word.ensures.follows _ rs) c.in_ok-word.was leads_always (λ w t. follows_next (c.read_detail.ensures w rs small t) c.in_ok-detail.was {tells = any} (λ a h. tt))) (λ p t. word_cell_lem p.0 p.1 ∙ t.0))
