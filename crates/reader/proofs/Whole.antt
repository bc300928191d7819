-- The reading of a text to its end from that of its certificate.
-- Assumes nothing.
use mathlib.Core.Path.{◌≡◌, refl, sym, ap, ◌∙◌, subst}
use mathlib.Core.List.{List}
use Rattle.std.specs.Prelude.{⊤, Result, Ok, Err}
use Prim.Native.Nat.{ℕ, ◌≤◌}
use native.Mathlib.Omega.{arith}
use lib.IntN.{ℤ}
use lib.ListN.{length}
use Rattle.text.specs.Bytes.{Bytes}
use Rattle.text.proofs.CommentsLaws.{comments_inside}
use Rattle.text.specs.Tokens.{Stream, end, token, rest}
use Rattle.tables.specs.Limits.{index_cells, value_cells, row_cells, most_bytes}
use Rattle.tables.specs.declared.Header.{Header}
use Rattle.grammar.specs.Tree.{Tree}
use Rattle.grammar.specs.Certificate.{certificate}
use Rattle.grammar.specs.Header.{header_of}
use Rattle.grammar.specs.Reading.{got}
use Rattle.grammar.specs.Texts.{to_the_end, read_of}
use Rattle.grammar.specs.declared.Stop.{Stop}
use Rattle.symbol_reader.specs.Steps.{State, state, Room, Went, Reads, any}
use Rattle.symbol_reader.specs.declared.Cursor.{Cursor}
use Rattle.symbol_reader.specs.declared.Next.{Next}
use Rattle.reader.specs.Documents.{start_of, unless_left, end_of, AnswersToEnd, ReadsToEnd}

pub start-room : {text : Bytes} {ix : List ℕ} {vs : List ℤ} {rs : List ℕ} → length text ≤ most_bytes → index_cells ≤ length ix → value_cells ≤ length vs → row_cells ≤ length rs
    → Room text (state (start_of text) ix vs rs)
start-room {text} short i v r =
    let inside = comments_inside text in
    record {
      of_index = record { short = short; inside = omega arith; cells_fit = omega arith; index_long = i };
      of_values = record { short = short; inside = omega arith; values_fit = omega arith; values_long = v };
      of_rows = record { rows_long = r };
    }

abbrev first : Bytes → List ℕ → List ℤ → List ℕ → State
first text ix vs rs = state (start_of text) ix vs rs

-- the answer of a reading, by that of its end
abbrev pub with_header : Header → Result ⊤ Stop → Result Header Stop
with_header header (Ok u) = Ok header
with_header header (Err e) = Err e

module _ {text : Bytes} {ix₀ : List ℕ} {vs₀ : List ℤ} {rs₀ : List ℕ} {ix : List ℕ} {vs : List ℤ} {rs : List ℕ} where
  -- the certificate was refused
  pub stops_before_end : {e : Stop} → Reads certificate any text (first text ix₀ vs₀ rs₀) ix vs rs (Err e) → {r : Result Header Stop} → r ≡ Err e → ReadsToEnd text (first text ix₀ vs₀ rs₀) ix vs rs r
  unfolding read_of
  stops_before_end {e = e} h up = record { is = subst (AnswersToEnd text (first text ix₀ vs₀ rs₀) ix vs rs) (sym up) (ap to_the_end h.is.refuses) }

  -- it was read; then no token is left, or one is
  module _ {header : Header} where
    ended : {c : Cursor} (tree : Tree) → header ≡ header_of tree → Went certificate tree text (first text ix₀ vs₀ rs₀) (state c ix vs rs) → (o : Stream) → rest text c.at ≡ o
        → AnswersToEnd text (first text ix₀ vs₀ rs₀) ix vs rs (with_header header (unless_left o))
    unfolding read_of
    ended tree h w (end size) e =
        record { tree = tree; reads = ap to_the_end w.reads ∙ ap (λ (o : Stream). to_the_end (got tree o)) e; header_is = h; index_is = w.index_is; values_is = w.values_is; rows_is = w.rows_is }
    ended tree h w (token place bytes o) e = ap to_the_end w.reads ∙ ap (λ (o : Stream). to_the_end (got tree o)) e

    pub reads_to_end : {x : Next} → Reads certificate (λ t i. header ≡ header_of t) text (first text ix₀ vs₀ rs₀) ix vs rs (Ok x) → {u : Result ⊤ Stop} → u ≡ end_of text x.cursor → {r : Result Header Stop} → r ≡ with_header header u
        → ReadsToEnd text (first text ix₀ vs₀ rs₀) ix vs rs r
    reads_to_end {x} h is e =
        let w = h.is in
        record { is = subst (AnswersToEnd text (first text ix₀ vs₀ rs₀) ix vs rs) (sym (e ∙ ap (with_header header) is)) (ended w.0 w.1 w.2 (rest text x.cursor.at) refl) }
