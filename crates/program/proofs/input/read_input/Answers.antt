-- What came after one more read is what the input gave.
use Rattle.std.proofs.Common.{rules, arith, sym, ◌∙◌}
use Rattle.std.proofs.lemmas.Grind.{common_steps}
use Rattle.program.proofs.Inputs.{consumed_more}
use Rattle.program.proofs.input.read_input.Goals as goal

pub loop-came-preserved : goal.loop-came-preserved
loop-came-preserved g c = record {
  in_room = search rules;
  consumed = consumed_more _ _ _ c.read.result c.loop-came.text c.read.new.buf _ c.loop-came.came c.in-Some.more c.loop-came.invariant.consumed c.read.ensures.bytes (sym c.ok-last.ensures.value ∙ c.in-Some.is) (grind (arith, common_steps)) (grind (arith, common_steps));
  going = search rules;
}
