-- `derivations::Checker::check_uns` meets its contract: a proper split, then each i row.
use Rattle.std.proofs.Common.{◌≡◌, ℕ, ◌<◌, sym, ◌∙◌, ap, subst}
use Rattle.std.proofs.Math.Path.{ap₂}
use Rattle.rules.specs.Rows.{constraint_of, row_at}
use Rattle.rules.specs.Splits.{is_proper_split}
use Rattle.rules.specs.Derivations.{check_dominates, check_uns}
use Rattle.verdicts.specs.Verdicts.{verdict_says}
use Rattle.derivations.proofs.Refusals.{handed_up, require_is, then_on}
use Rattle.derivations.proofs.Checker.check_uns.Goals as goal

-- what is told of a row that was fetched as x
fetched : {A : Type 0} (f : ℕ → A) (n : ℕ) {x y : ℕ} {r : A} → x ≡ y → y < n → (x < n → r ≡ f x) → r ≡ f y
fetched f n e lt g = g (subst (λ (i : ℕ). i < n) (sym e) lt) ∙ ap f e

-- the same of two
fetched_both : {A : Type 0} (f : ℕ → ℕ → A) (n : ℕ) {x y z w : ℕ} {r : A} → x ≡ y → z ≡ w → y < n → w < n → (x < n → z < n → r ≡ f x z) → r ≡ f y w
fetched_both f n e q lt lt2 g = g (subst (λ (i : ℕ). i < n) (sym e) lt) (subst (λ (i : ℕ). i < n) (sym q) lt2) ∙ ap₂ f e q

pub returns-in_err-require : goal.returns-in_err-require
unfolding check_uns
returns-in_err-require c =
    λ tree r h l b.
    let n = c.args.self.now.certificate.header.rows in
    let proper = fetched_both (is_proper_split tree) n c.cell_at-l1.ensures.is c.cell_at-l2.ensures.is b.1.0 b.1.1.1.0 (c.is_proper_split-proper.ensures tree h) in
    ap verdict_says (handed_up c.from_residual.result c.in_err-require.field-0.0 c.from_residual.ensures.1)
    ∙ then_on _ (c.in_err-require.ensures ∙ require_is 16 proper l.is.place_is)

pub returns-in_err-check_by_row : goal.returns-in_err-check_by_row
unfolding check_uns
returns-in_err-check_by_row c =
    λ tree r h l b.
    let n = c.args.self.now.certificate.header.rows in
    let proper = fetched_both (is_proper_split tree) n c.cell_at-l1.ensures.is c.cell_at-l2.ensures.is b.1.0 b.1.1.1.0 (c.is_proper_split-proper.ensures tree h) in
    ap verdict_says (handed_up c.from_residual-in_err-check_by_row.result c.in_err-check_by_row.field-0.0 c.from_residual-in_err-check_by_row.ensures.1)
    ∙ then_on _ (fetched (λ i. check_dominates tree (constraint_of tree (row_at tree i)) r) n c.cell_at.ensures.is b.0 (c.in_err-check_by_row.ensures tree r h.encodes l))
    ∙ then_on _ (c.in_ok-require.ensures ∙ require_is 16 proper l.is.place_is)

pub returns : goal.returns
unfolding check_uns
returns c =
    λ tree r h l b.
    let n = c.args.self.now.certificate.header.rows in
    let proper = fetched_both (is_proper_split tree) n c.cell_at-l1.ensures.is c.cell_at-l2.ensures.is b.1.0 b.1.1.1.0 (c.is_proper_split-proper.ensures tree h) in
    fetched (λ i. check_dominates tree (constraint_of tree (row_at tree i)) r) n c.cell_at-2.ensures.is b.1.1.0 (c.check_by_row-2.ensures tree r h.encodes l)
    ∙ then_on _ (fetched (λ i. check_dominates tree (constraint_of tree (row_at tree i)) r) n c.cell_at.ensures.is b.0 (c.in_ok-check_by_row.ensures tree r h.encodes l))
    ∙ then_on _ (c.in_ok-require.ensures ∙ require_is 16 proper l.is.place_is)
