-- A test of each of a list, in order: where a loop over it is. And a test of every variable, by a loop over those that have their
-- place in the array.
-- Assumes nothing.
use mathlib.Core.Path.{◌≡◌, sym, ◌∙◌, ap}
use mathlib.Core.Bool.{Bool, true, false, ◌&&◌}
use mathlib.Core.List.{List, [], ◌∷◌}
use Prim.Native.Nat.{ℕ, zero, suc, ◌+◌, ◌≤◌, ◌<◌, min}
use native.Mathlib.Numerals.{add-one}
use native.Mathlib.Decide.{dec_lt}
use native.Mathlib.Omega.{arith}
use lib.IntN.{ℤ}
use lib.ListN.{get_or}
use Rattle.std.specs.List.{list_all, range_with_len}
use Rattle.tables.specs.Cells.{fraction_at}
use Rattle.tables.specs.Pairs.{pairs_in}
use Rattle.grammar.specs.Tree.{Term}
use Rattle.linear.specs.Lists.{a_term, terms_in}
use Rattle.linear.specs.ListsLaws.{listed_from, listed_next, listed_none}
use Rattle.rules.specs.Tests.{Decides, EveryBelow, all_of, every_below}
use Rattle.rules.proofs.Tests.{fails, failed, decides_below}

-- the tests of those that are left give that of all
module _ {A : Type 0} (test : A → Bool) {x : A} {left rest : List A} {target : Bool} (g : all_of test left ≡ target) (e : left ≡ x ∷ rest) {r : Bool} (q : r ≡ test x) where
  told : r && all_of test rest ≡ target
  told = ap (λ (b : Bool). b && all_of test rest) q ∙ sym (ap (all_of test) e) ∙ g

  pub tests_on : r ≡ true → all_of test rest ≡ target
  tests_on t = ap (λ (b : Bool). b && all_of test rest) (sym t) ∙ told

  pub tests_stop : r ≡ false → false ≡ target
  tests_stop t = ap (λ (b : Bool). b && all_of test rest) (sym t) ∙ told

pub tests_end : {A : Type 0} (test : A → Bool) {left : List A} {target : Bool} → all_of test left ≡ target → left ≡ [] → true ≡ target
tests_end test g e = sym (ap (all_of test) e) ∙ g

-- a test of each term, by its number
module _ (variables : List ℕ) (parts : List ℤ) (test : Term → Bool) where
  abbrev tested : ℕ → Bool
  tested k = test (a_term (get_or variables k 0) (fraction_at parts k))

  tests_from : (a n : ℕ) → a + n ≡ pairs_in variables parts → list_all tested (range_with_len a n) ≡ all_of test (listed_from a_term variables parts a)
  tests_from a zero e = sym (ap (all_of test) (listed_none a_term variables parts a (omega arith)))
  tests_from a (suc n) e =
      ap (λ (b : Bool). tested a && b) (tests_from (a + 1) n (omega arith)) ∙ sym (ap (all_of test) (listed_next a_term variables parts a (omega arith)))

  pub tests_of_all : list_all tested (range_with_len 0 (pairs_in variables parts)) ≡ all_of test (terms_in variables parts)
  tests_of_all = tests_from 0 (pairs_in variables parts) (omega arith)

-- ---- of every variable

module _ (test : ℕ → Bool) where
  decides_each : (n : ℕ) → Decides (every_below n test) (EveryBelow n (λ v. test v ≡ true))
  decides_each n = decides_below test (λ v. test v ≡ true) (λ v. ((λ e. e), λ e. e)) n

  -- one more passes
  pub every_on : (v : ℕ) → every_below v test ≡ true → test v ≡ true → every_below (v + 1) test ≡ true
  every_on v e t = rw (add-one v, e, t)

  -- one fails
  pub every_stop : (n v : ℕ) → v < n → test v ≡ false → every_below n test ≡ false
  every_stop n v h t = fails (every_below n test) (decides_each n) (λ each. failed (decides_true (test v)) t (each v h))
    where
      decides_true : (b : Bool) → Decides b (b ≡ true)
      decides_true b = ((λ e. e), λ e. e)

  -- all in the array pass, and those beyond it do
  pub every_end : (n v : ℕ) → min n 256 ≤ v → every_below v test ≡ true → ((u : ℕ) → 256 ≤ u → test u ≡ true) → every_below n test ≡ true
  every_end n v h e beyond = (decides_each n).1 (λ u k. go u k (dec_lt u v))
    where
      go : (u : ℕ) → u < n → Dec (u < v) → test u ≡ true
      go u k (yes l) = (decides_each v).0 e u l
      go u k (no l) = beyond u (omega arith)
