-- `encoding::integer_variables::marks_of` meets its contract: what is marked are the variables listed so far.
use Rattle.std.specs.Prelude.{◌≡◌, false, ◌&&◌, ℕ, eqb, ltb, length, get_or, take}
use Rattle.tables.specs.Limits.{most_variables}
use Rattle.rules.specs.Tests.{some_of}
use Rattle.encoding.proofs.integer_variables.marks_of.Given as goal

abbrev pub invariant-loop-variable : goal.invariant-loop-variable
invariant-loop-variable l = record {
  long : length l.marks ≡ most_variables;
  is : (v : ℕ) → get_or l.marks v false ≡ ltb v most_variables && some_of (λ i. eqb i v) (take l.variable-index l.variables);
}
