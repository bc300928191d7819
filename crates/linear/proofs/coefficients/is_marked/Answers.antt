-- `linear::coefficients::is_marked` meets its contract: no variable beyond the array is marked.
use borrow.Author.Tests.{lt-ltb, le-ltb}
use Rattle.linear.specs.Coefficients.{marked}
use Rattle.linear.proofs.coefficients.is_marked.Goals as goal

pub returns-then-v-lt-VARIABLES : goal.returns-then-v-lt-VARIABLES
unfolding marked
returns-then-v-lt-VARIABLES c = rw (lt-ltb c.args.v 256 c.if-v-lt-VARIABLES.true)

pub returns-else-v-lt-VARIABLES : goal.returns-else-v-lt-VARIABLES
unfolding marked
returns-else-v-lt-VARIABLES c = rw (le-ltb c.args.v 256 c.if-v-lt-VARIABLES.false)
