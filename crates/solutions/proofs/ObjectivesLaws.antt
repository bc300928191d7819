-- Objectives, one after the other.
-- Assumes nothing.
use Rattle.std.specs.Prelude.{◌≡◌, Bool, true, false, cond, Option, Some, IfSome, List, [], ◌∷◌, ◌++◌, ℕ, ◌+◌, ◌≤◌, ◌<◌, length}
use Rattle.std.proofs.Common.{refl, sym, ap, subst, ◌∙◌}
use Rattle.std.proofs.Math.Option as maybe
use Rattle.arithmetic.specs.Fraction.{IsFraction}
use Rattle.arithmetic.specs.declared.Fraction.{Fraction}
use Rattle.grammar.specs.Tree.{Direction, End, Sense, Solution, Tree}
use Rattle.rules.specs.Result.{Result, done, refused}
use Rattle.rules.specs.Rows.{objective}
use Rattle.rules.specs.Solutions.{left_side, holds, objectives_of, towards, best_from, best_of}
use Rattle.encoding.specs.Encodes.{no_solution, solution_at}
use Rattle.verdicts.specs.Best.{best_says}
use Rattle.solutions.specs.Objectives.{BestIs, Worked}
use Rattle.solutions.specs.declared.objectives.Best.{Best}
use Rattle.solutions.proofs.Lists.{Collecting, collecting_is, collecting_on, collecting_end}

-- ---- one objective more

-- the best of a best one and one more
abbrev pub next_best : Direction → maybe.Option Fraction → Fraction → Fraction
next_best d maybe.none o = o
next_best d (maybe.some best) o = cond (holds (towards d) best o) best o

pub best_more : (d : Direction) (os : List Fraction) (o : Fraction) → maybe.some (next_best d (best_of d os) o) ≡ best_of d (os ++ (o ∷ []))
best_more d [] o = refl
best_more d (x ∷ os) o = ap maybe.some (go x os)
  where
    go : (x : Fraction) (os : List Fraction) → cond (holds (towards d) (best_from d x os) o) (best_from d x os) o ≡ best_from d x (os ++ (o ∷ []))
    go x [] = refl
    go x (y ∷ os) = go (cond (holds (towards d) x y) x y) os

-- the best of them is as good as one more, and stays; or it is not, and the one more is the best
module _ (d : Direction) (os : List Fraction) {best : Option Fraction} {b o : Fraction} {s : Sense} {test : Bool} (is : best ≡ Some b) (e : s ≡ towards d)
    (of : best_says best ≡ best_of d os) (f : IfSome best IsFraction) (h : IsFraction o) (t : IsFraction b → IsFraction o → test ≡ holds s b o) where
  tested : IsFraction b → maybe.some (cond test b o) ≡ best_of d (os ++ (o ∷ []))
  tested g =
      ap (λ (x : Bool). maybe.some (cond x b o)) (t g h ∙ ap (λ (z : Sense). holds z b o) e)
      ∙ ap (λ (x : maybe.Option Fraction). maybe.some (next_best d x o)) (sym (ap best_says is) ∙ of)
      ∙ best_more d os o

  is_fraction : IsFraction b
  is_fraction = subst (λ (x : Option Fraction). IfSome x IsFraction) is f

  pub kept : test ≡ true → (maybe.some b ≡ best_of d (os ++ (o ∷ []))) × IsFraction b
  kept q = (sym (ap (λ (x : Bool). maybe.some (cond x b o)) q) ∙ tested is_fraction, is_fraction)

  pub taken : test ≡ false → (maybe.some o ≡ best_of d (os ++ (o ∷ []))) × IsFraction o
  taken q = (sym (ap (λ (x : Bool). maybe.some (cond x b o)) q) ∙ tested is_fraction, h)

-- ---- those of the solutions

module _ (tree : Tree) (end : End) where
  abbrev objective_of : Solution → Result Fraction
  objective_of s = left_side s.name.place s.values.terms (objective tree)

  -- of the solutions before number j
  pub record WorkedTo (b : Best) (j : ℕ) : Type 0 where
    pub values : List Fraction
    pub are : Collecting objective_of tree.solutions.solutions values j
    pub best : BestIs tree.objective.direction end values b

  module _ {b : Best} {j : ℕ} (w : WorkedTo b j) where
    pub worked_on : {next : Best} {o : Fraction} → j < length tree.solutions.solutions → objective_of (solution_at tree j) ≡ done o
        → BestIs tree.objective.direction end (w.values ++ (o ∷ [])) next → WorkedTo next (j + 1)
    worked_on {o = o} h e n =
        record { values = w.values ++ (o ∷ []); are = collecting_on objective_of tree.solutions.solutions w.values no_solution h w.are e; best = n }

    pub worked_stop : {reason place : ℕ} → j < length tree.solutions.solutions → objective_of (solution_at tree j) ≡ refused reason place → objectives_of tree ≡ refused reason place
    unfolding objectives_of
    worked_stop h e = sym (collecting_is objective_of tree.solutions.solutions w.values no_solution h w.are e)

    pub worked_end : length tree.solutions.solutions ≤ j → Worked tree end b
    unfolding objectives_of
    worked_end h = record { values = w.values; are = collecting_end objective_of tree.solutions.solutions w.values h w.are; best = w.best }
