-- `derivations::spent::is_spent` meets its contract: a given row never, a derived one by its last index.
use Rattle.std.proofs.Common.{rules, ◌≡◌, false, ltb, MatchOption, ◌∙◌}
use Rattle.std.proofs.lemmas.Bool.{lt-leb}
use Rattle.derivations.proofs.SpentLaws.{spent_given, spent_by, past_by}
use Rattle.derivations.proofs.spent.is_spent.Goals as goal

pub returns-then-r-certificate : goal.returns-then-r-certificate
returns-then-r-certificate c =
    λ tree e lt.
    let h : MatchOption c.last.result (c.is_some_and.result ≡ false) (λ last. c.is_some_and.result ≡ ltb last c.args.own) = search rules in
    past_by c.args.own c.last.result h ∙ spent_by c.args.certificate e _ _ c.if-r-certificate.true lt c.last.ensures

pub returns-else-r-certificate : goal.returns-else-r-certificate
returns-else-r-certificate c =
    λ tree e lt. lt-leb c.args.certificate.header.given c.args.r c.if-r-certificate.false ∙ spent_given c.args.certificate e _ _ c.if-r-certificate.false
