-- THE SENTENCE ABOUT POINTS (document 02, request 11): what a verified certificate says of the problem that it is about.
--
-- A point gives each variable a value: a whole numerator for each, over one positive whole denominator for all. It is feasible
-- if the integer variables take whole values at it and every given row (section CON) holds at it. Of a text that is verified:
--
--   each listed solution is a feasible point;
--   under `infeas` there is no feasible point;
--   under `range` and min no feasible point has an objective below a finite lb, and a listed solution has one of at most a
--   finite ub;
--   under `range` and max no feasible point has one above a finite ub, and a listed solution has one of at least a finite lb.
--
-- Nothing here refers to checking, and nothing bounds the size of a point. A row's terms are its own, or the objective's where
-- it says `OBJ` (`terms_of`); a variable that a solution does not list has the value 0 (`value_in`). A fraction stands for a
-- rational number (`exact`). Rational numbers are quotients of whole numbers, `top` over `bottom`, compared by cross products:
-- y ≤Q z says that y.top · z.bottom is at most z .top · y.bottom, and y ≈ z that the two are equal. That is the order and the
-- equality of the rational numbers where both bottoms are positive, and all that are compared here are (`DenominatorsPositive`).
-- Assumes nothing.
use Rattle.std.specs.Prelude.{◌≡◌, List, [], ◌∷◌, ℕ, ◌<◌, ℤ, pos}
use Rattle.text.specs.Bytes.{Bytes}
use Rattle.arithmetic.specs.Quotient.{Quotient, ◌≈◌, ◌≤Q◌, ◌+Q◌, ◌*Q◌, whole_q}
use Rattle.arithmetic.specs.QuotientLaws.{Positive}
use Rattle.arithmetic.specs.Fraction.{exact}
use Rattle.grammar.specs.Tree.{Term, Sense, equal, at_most, at_least, Row, Direction, minimize, maximize, End, infinite, finite, Claim, infeas, range, Solution, Tree}
use Rattle.grammar.specs.Texts.{SpellsTree}
use Rattle.rules.specs.Tests.{All, Some, EveryBelow}
use Rattle.rules.specs.Rows.{variables, value_in, objective, terms_of}

-- ---- points

-- "A point is a whole numerator for each variable over one common positive whole denominator"
pub record Point : Type 0 where
  pub numerator : ℕ → ℤ
  pub denominator : ℕ
  pub positive : 0 < denominator

-- the value of a variable at a point
abbrev pub coordinate : Point → ℕ → Quotient
coordinate x v = record { top = x.numerator v; bottom = x.denominator }

-- the value of a sum of terms at a point
abbrev pub value_at : List Term → Point → Quotient
value_at [] x = whole_q (pos 0)
value_at (t ∷ ts) x = exact t.coefficient *Q coordinate x t.variable +Q value_at ts x

-- the objective at a point
abbrev pub objective_at : Tree → Point → Quotient
objective_at tree x = value_at (objective tree) x

-- ---- feasible points

-- two rational numbers compare as a sense says: =, ≤, ≥
abbrev pub Compares : Sense → Quotient → Quotient → Type 0
Compares equal y z = y ≈ z
Compares at_most y z = y ≤Q z
Compares at_least y z = z ≤Q y

-- a row holds at a point
abbrev pub HoldsAt : Tree → Point → Row → Type 0
HoldsAt tree x row = Compares row.sense (value_at (terms_of tree row) x) (exact row.right)

-- "integer variables taking whole values", and every given row holds
pub record FeasiblePoint (tree : Tree) (x : Point) : Type 0 where
  pub integers-whole : All (λ v. (z : ℤ) × (coordinate x v ≈ whole_q z)) tree.integers.indices
  pub rows_hold : All (HoldsAt tree x) tree.constraints.rows

-- ---- listed solutions

-- the point that a solution lists
abbrev pub IsPointOf : Tree → Solution → Point → Type 0
IsPointOf tree s x = EveryBelow (variables tree) (λ v. coordinate x v ≈ exact (value_in s.values.terms v))

-- "each listed solution is a feasible point": there is a point that it lists, and each that it lists is feasible
pub record SolutionFeasible (tree : Tree) (s : Solution) : Type 0 where
  pub point : Point
  pub is_point : IsPointOf tree s point
  pub feasible : (x : Point) → IsPointOf tree s x → FeasiblePoint tree x

-- ---- the claim

-- P of the objective at every feasible point; P of the objective at a listed solution, which is a feasible point
abbrev pub EveryFeasible : Tree → (Quotient → Type 0) → Type 0
EveryFeasible tree P = (x : Point) → FeasiblePoint tree x → P (objective_at tree x)

abbrev pub SomeListed : Tree → (Quotient → Type 0) → Type 0
SomeListed tree P =
    Some (λ s. (x : Point) × IsPointOf tree s x × FeasiblePoint tree x × P (objective_at tree x)) tree.solutions.solutions

-- P of a finite end
abbrev pub IfFinite : End → (Quotient → Type 0) → Type 0
IfFinite infinite P = Unit {0}
IfFinite (finite bound) P = P (exact bound)

abbrev pub ClaimTrue : Tree → Direction → Claim → Type 0
-- "under `infeas` no feasible point exists"
ClaimTrue tree direction infeas = (x : Point) → FeasiblePoint tree x → ⊥
-- "under `range` and min none has an objective below a finite lb, and a listed solution has one of at most a finite ub"
ClaimTrue tree minimize (range lower upper) =
    IfFinite lower (λ lb. EveryFeasible tree (λ value. lb ≤Q value)) × IfFinite upper (λ ub. SomeListed tree (λ value. value ≤Q ub))
-- "under max none lies above a finite ub, and a listed one has at least a finite lb"
ClaimTrue tree maximize (range lower upper) =
    IfFinite upper (λ ub. EveryFeasible tree (λ value. value ≤Q ub)) × IfFinite lower (λ lb. SomeListed tree (λ value. lb ≤Q value))

-- ---- denominators

-- of the ends of a claim, where they are finite
abbrev pub EndsPositive : Claim → Type 0
EndsPositive infeas = Unit {0}
EndsPositive (range lower upper) = IfFinite lower Positive × IfFinite upper Positive

-- every rational number that is compared above has a positive denominator: the sums at a point, the right sides, the values that
-- solutions list, and the ends. A point's own is positive by itself, and a whole number's is 1
pub record DenominatorsPositive (tree : Tree) : Type 0 where
  pub left_sides : (x : Point) → All (λ (row : Row). Positive (value_at (terms_of tree row) x)) tree.constraints.rows
  pub right_sides : All (λ (row : Row). Positive (exact row.right)) tree.constraints.rows
  pub objectives : (x : Point) → Positive (objective_at tree x)
  pub solutions : All (λ (s : Solution). (v : ℕ) → Positive (exact (value_in s.values.terms v))) tree.solutions.solutions
  pub ends : EndsPositive tree.relation.claim

-- ---- the sentence

-- of a certificate
pub record Sentence (tree : Tree) : Type 0 where
  pub solutions_feasible : All (SolutionFeasible tree) tree.solutions.solutions
  pub claim_true : ClaimTrue tree tree.objective.direction tree.relation.claim

-- of a text: it spells a certificate, and no other, whose denominators are positive, and the sentence holds of that one
pub record SentenceOf (text : Bytes) : Type 0 where
  pub tree : Tree
  pub spelled : SpellsTree text tree
  pub spelled_once : (other : Tree) → SpellsTree text other → tree ≡ other
  pub denominators_positive : DenominatorsPositive tree
  pub sentence : Sentence tree
