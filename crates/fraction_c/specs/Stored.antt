-- What a function for C returns, and what its pointers point to afterwards: the record `Stored` of crates/fraction/specs, which
-- the functions for C of other crates cite, too; and a comparison's result as a number.
-- Assumes nothing.
use Rattle.std.specs.Prelude.{pos, negsuc, ℤ}
use Rattle.arithmetic.specs.Outcome.{Outcome, gives, refuses}
use Rattle.std.specs.declared.cmp.Ordering.{Ordering}
use Rattle.std.specs.declared.cmp.Ordering.TheVariants.{Less, Equal, Greater}
pub use Rattle.fraction.specs.Stored.{status, contents, Stored, pair}

-- a comparison's result as a number: -1 for less, 0 for equal, 1 for greater
abbrev pub sign_of : Outcome Ordering → Outcome ℤ
sign_of (gives Less) = gives (negsuc 0)
sign_of (gives Equal) = gives (pos 0)
sign_of (gives Greater) = gives (pos 1)
sign_of (refuses n) = refuses n
