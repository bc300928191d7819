-- `row_reader::derivations::read_detail` meets its contract: by the word's cell.
use mathlib.Core.Path.{◌≡◌}
use Prim.Native.Nat.{ℕ, ◌≤◌}
use borrow.Author.Rules.{rules}
use Rattle.row_reader.proofs.Reasons.{detail_none, detail-listed, detail-unsplit}
use Rattle.row_reader.proofs.derivations.read_detail.Goals as goal

pub returns-in-1 : goal.returns-in-1
returns-in-1 c =
    let k : ℕ = c.args.word.number in
    let low : 1 ≤ k = search rules in
    let high : k ≤ 2 = search rules in
    λ w rs small e. detail-listed c.args.own low high (c.read_pair_list.ensures rs small) w e

pub returns-in-3 : goal.returns-in-3
returns-in-3 c = λ w rs small e. detail-unsplit c.args.own c.in-3.is (c.read_unsplit.ensures _ rs small) w e

pub returns-in_default : goal.returns-in_default
returns-in_default c =
    let k : ℕ = c.args.word.number in
    let n1 : k ≡ 1 → ⊥ = search rules in
    let n2 : k ≡ 2 → ⊥ = search rules in
    let n3 : k ≡ 3 → ⊥ = search rules in
    λ w rs small e. detail_none c.args.own n1 n2 n3 w e

pub returns-in_default-2 : goal.returns-in_default-2
returns-in_default-2 c =
    let k : ℕ = c.args.word.number in
    let n1 : k ≡ 1 → ⊥ = search rules in
    let n2 : k ≡ 2 → ⊥ = search rules in
    let n3 : k ≡ 3 → ⊥ = search rules in
    λ w rs small e. detail_none c.args.own n1 n2 n3 w e
