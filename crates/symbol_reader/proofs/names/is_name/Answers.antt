-- `symbol_reader::names::is_name` meets its contract: every byte is printable.
-- Assumes nothing.
use Rattle.std.proofs.Common.{rules, tests, ◌∙◌}
use Rattle.std.proofs.lemmas.Iterator.{YieldsList-from_slice}
use Rattle.std.proofs.lemmas.Iterator.Search.{all_from_yields_List}
use Rattle.text.specs.Bytes.{is_printable}
use Rattle.symbol_reader.proofs.Turns.{all_every, printable}
use Rattle.symbol_reader.proofs.names.is_name.Goals as goal

pub returns : goal.returns
returns c =
    all_from_yields_List is_printable _ _ _ c.all.ensures.ran (YieldsList-from_slice c.args.token.now cc) (λ x b q k. search (rules, tests, printable))
    ∙ all_every is_printable c.args.token.now
