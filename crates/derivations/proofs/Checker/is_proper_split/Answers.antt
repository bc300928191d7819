-- `derivations::Checker::is_proper_split` meets its contract: the two rows' constraints are a split.
use Rattle.std.proofs.Common.{◌∙◌}
use Rattle.std.proofs.Math.Path.{ap₂}
use Rattle.rules.specs.Splits.{is_split, is_proper_split}
use Rattle.derivations.proofs.RowsLaws.{lists_row}
use Rattle.derivations.proofs.Checker.is_proper_split.Goals as goal

pub returns : goal.returns
unfolding is_proper_split
returns c =
    λ tree h lt lt2.
    let e = h.encodes in
    let n = c.args.self.now.certificate in
    let l = lists_row n e _ lt (c.row.ensures tree _ (e.row _ lt)) in
    let l2 = lists_row n e _ lt2 (c.row-2.ensures tree _ (e.row _ lt2)) in
    let s = c.row_of-first.ensures tree _ l in
    let s2 = c.row_of-second.ensures tree _ l2 in
    c.is_split.ensures tree h.integers_are l.few s.formed s2.formed ∙ ap₂ (is_split tree) s.is s2.is
