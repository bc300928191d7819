-- `reader::documents::read_document` meets its contract: a certificate, and then the end of the text.
use mathlib.Core.Path.{◌≡◌, sym, ap, ◌∙◌}
use Rattle.grammar.specs.Header.{header_of}
use Rattle.symbol_reader.proofs.FollowsLaws.{handed_on}
use Rattle.section_reader.proofs.SectionLaws.{step_stops, step_follows}
use Rattle.reader.proofs.Whole.{with_header, stops_before_end, reads_to_end}
use Rattle.reader.proofs.documents.read_document.Goals as goal

pub returns-in_err-document : goal.returns-in_err-document
returns-in_err-document c = λ room. stops_before_end ((step_stops (λ d. d.cursor) c.in_err-document.was c.read_sections.ensures).is room tt) (handed_on _ _ c.from_residual.ensures.1)

pub returns-in_err-read_end : goal.returns-in_err-read_end
returns-in_err-read_end c =
    λ room.
    reads_to_end ((step_follows (λ d. d.cursor) c.in_ok-document.was (λ t d. d.header ≡ header_of t) c.read_sections.ensures).is room tt) c.read_end.ensures
    (handed_on _ _ c.from_residual-in_err-read_end.ensures.1 ∙ sym (ap (with_header c.in_ok-document.document.header) c.in_err-read_end.was))

pub returns : goal.returns
returns c =
    λ room.
    reads_to_end ((step_follows (λ d. d.cursor) c.in_ok-document.was (λ t d. d.header ≡ header_of t) c.read_sections.ensures).is room tt) c.read_end.ensures
    (sym (ap (with_header c.in_ok-document.document.header) c.in_ok-read_end.was))
