-- `reader::read_certificate` meets its contract: a table is too small, or the text too long, or the text is read into cleared tables,
-- which are cleared again where it is refused.
use mathlib.Core.Path.{sym, ◌∙◌, ap}
use Prim.Native.Nat.{ℕ}
use native.Mathlib.Omega.{arith}
use lib.IntN.{pos}
use lib.ListN.{replicate}
use Rattle.symbol_reader.specs.Steps.{state}
use Rattle.reader.specs.Promise.{Begun}
use Rattle.reader.specs.Documents.{start_of, ReadsToEnd}
use Rattle.reader.proofs.Whole.{start-room}
use Rattle.reader.proofs.Courses.{begun_by}
use Rattle.reader.proofs.Demand.{small_table, long_text, taken_equations, refused_equations, promised}
use Rattle.reader.proofs.read_certificate.Goals as goal
use Rattle.reader.proofs.read_certificate.Goals.{After-read_document}

-- it was begun, and read into the cleared tables
begun : (c : After-read_document) → Begun c.args.text.now c.args.index.now c.args.values.now c.args.rows.now
begun c =
    begun_by c.args.text.now c.args.index.now c.args.values.now c.args.rows.now (sym c.has_cells.ensures ∙ c.if-not-has_cells.false) (sym c.is_short.ensures ∙ c.if-not-is_short.false)

read : (c : After-read_document) → ReadsToEnd c.args.text.now (state (start_of c.args.text.now) c.clear.new.index c.clear.new.values c.clear.new.rows) c.read_document.new.index c.read_document.new.values c.read_document.new.rows c.read_document.result
read c = let b = begun c in c.read_document.ensures (start-room b.short (omega (arith, b.index-cells)) (omega (arith, b.value-cells)) (omega (arith, b.row-cells)))

pub returns-then-not-has_cells : goal.returns-then-not-has_cells
returns-then-not-has_cells c = promised (small_table (sym c.has_cells.ensures ∙ c.if-not-has_cells.true))

pub returns-then-not-is_short : goal.returns-then-not-is_short
returns-then-not-is_short c = promised (long_text (sym c.has_cells.ensures ∙ c.if-not-has_cells.false) (sym c.is_short.ensures ∙ c.if-not-is_short.true))

pub returns-in-Ok : goal.returns-in-Ok
returns-in-Ok c =
    let a = (goal.at.returns-in-Ok c).After-read_document in
    promised (taken_equations (begun a) (read a) c.in-Ok.is c.clear.ensures.index c.clear.ensures.values c.clear.ensures.rows)

pub returns-in-Err : goal.returns-in-Err
returns-in-Err c =
    let a = (goal.at.returns-in-Err c).After-read_document in
    let d = c.read_document in
    let e = c.clear-in-Err.ensures in
    promised
    (refused_equations (begun a) (read a) c.in-Err.is c.line_of.ensures
    (e.index ∙ ap (λ (n : ℕ). replicate n 0) (d.auto.index ∙ c.clear.auto.index))
    (e.values ∙ ap (λ (n : ℕ). replicate n (pos 0)) (d.auto.values ∙ c.clear.auto.values))
    (e.rows ∙ ap (λ (n : ℕ). replicate n 0) (d.auto.rows ∙ c.clear.auto.rows)))
