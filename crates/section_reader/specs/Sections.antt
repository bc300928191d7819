-- What the readers of sections promise: what is known of an answer, and what those of the larger sections say.
-- Assumes nothing.
use Rattle.std.specs.Prelude.{◌≡◌, refl, Result, Ok, Err, List, ℕ, ◌+◌, ◌-◌, ◌*◌, ◌≤◌}
use Rattle.text.specs.Bytes.{Bytes}
use Rattle.text.specs.Words as W
use Rattle.tables.specs.Limits.{most_rows}
use Rattle.grammar.specs.Tree.{Objective, Derivation, Derivations}
use Rattle.grammar.specs.Format.{Format, symbol, placed, then, items, view}
use Rattle.grammar.specs.Certificate.{count_to, derivation}
use Rattle.grammar.specs.Header.{is_maximize}
use Rattle.grammar.specs.declared.Stop.{Stop}
use Rattle.symbol_reader.specs.Steps.{State, Answer}
use Rattle.symbol_reader.specs.declared.Cursor.{Cursor}
use Rattle.section_reader.specs.declared.problem.Objective.{Objective as ObjectiveRead}
use Rattle.section_reader.specs.declared.proof.Derivations.{Derivations as DerivationsRead}

-- ---- an answer of more than a number

-- where the reading goes on after what was read, or where it stops
abbrev pub step_of : {X : Type 0} → (X → Cursor) → Result X Stop → Answer
step_of cursor (Ok x) = Ok (record { number = 0; cursor = cursor x })
step_of cursor (Err e) = Err e

-- what is said of what was read
abbrev pub Says : {X : Type 0} → (X → Type 0) → Result X Stop → Type 0
Says P (Ok x) = P x
Says P (Err e) = Unit {0}

-- ---- the sections

-- what must hold at the start of the ends of a range beside the room: two values have room
abbrev pub ForEnds : State → Type 0
ForEnds s = 4 * s.cursor.values + 4 ≤ s.cursor.at

-- what reading the objective o from the cursor c on hands back: its terms follow the cells of its direction and of their count
pub record SaysObjective (c : Cursor) (o : Objective) (r : ObjectiveRead) : Type 0 where
  pub direction : r.maximize ≡ is_maximize o.direction
  pub terms : r.terms ≡ record { cell = c.cells + 2; number = c.values; count = o.terms.count }

-- the section of derivations after m given rows with these names
abbrev pub derivations_after : ℕ → ℕ → List Bytes → Format Derivations
derivations_after n m names =
    view {A = (p : ℕ) × ((d : ℕ) × List Derivation)} {B = Derivations}
    (λ p. record { place = p.0; count = p.1.0; derivations = p.1.1 }) (λ d. (d.place, (d.count, d.derivations))) (λ p. refl) (λ d. refl)
    (then (symbol (placed W.DER)) (λ p. then (count_to (most_rows - m)) (λ d. items d (derivation n m names d))))

-- what reading it hands back: the place of its word, and how many derivations there are
pub record SaysDerivations (m : ℕ) (d : Derivations) (r : DerivationsRead) : Type 0 where
  pub place : r.place ≡ d.place
  pub count : r.count ≡ d.count
  pub within : r.count ≤ most_rows - m
