-- The reading of the whole: from the start of the text to its end.
-- Assumes nothing.
use Rattle.std.specs.Prelude.{◌≡◌, ⊤, Result, Ok, Err, List, ℕ, ◌+◌, ℤ}
use Rattle.std.proofs.lemmas.List.Edits.{sets}
use Rattle.text.specs.Bytes.{Bytes}
use Rattle.text.specs.Comments.{comments_end}
use Rattle.text.specs.Tokens.{Stream, end, token, rest}
use Rattle.tables.specs.declared.Header.{Header}
use Rattle.grammar.specs.Tree.{Tree, Constraints, Relation, Solutions, Derivations}
use Rattle.grammar.specs.Format.{Format, then}
use Rattle.grammar.specs.Certificate.{relation, solution_section, derivation_section, certificate}
use Rattle.grammar.specs.Header.{header_of}
use Rattle.grammar.specs.Layout.{cells, marks}
use Rattle.grammar.specs.Layout as L
use Rattle.grammar.specs.Tables.{by_turns, laid}
use Rattle.grammar.specs.Texts.{taken, refused, read_of}
use Rattle.grammar.specs.Refusals.{refusal_number}
use Rattle.grammar.specs.declared.Refusal.TheVariants.{TokenLeft}
use Rattle.grammar.specs.declared.Stop.{Stop}
use Rattle.symbol_reader.specs.Steps.{State}
use Rattle.symbol_reader.specs.declared.Cursor.{Cursor}
use Rattle.reader.specs.declared.documents.Proof.{Proof}

-- after the comments nothing is written yet
abbrev pub start_of : Bytes → Cursor
start_of text = record { at = comments_end text; cells = 0; values = 0 }

-- ---- from RTP on

-- the grammar after the constraints k
abbrev pub proof_part : ℕ → Constraints → Format ((r : Relation) × ((s : Solutions) × Derivations))
proof_part n k = then relation (λ r. then (solution_section n) (λ s. derivation_section n k))

-- what reading it hands back: the places of `RTP` and `DER`, and how many solutions and rows there are
pub record SaysProof (k : Constraints) (a : (r : Relation) × ((s : Solutions) × Derivations)) (p : Proof) : Type 0 where
  pub relation : p.relation ≡ a.0.place
  pub solutions : p.solutions ≡ a.1.0.count
  pub derivation : p.derivation ≡ a.1.1.place
  pub rows : p.rows ≡ k.count + a.1.1.count

-- ---- to the end

-- "8 text goes on after the last derivation"
abbrev pub unless_left : Stream → Result ⊤ Stop
unless_left (end size) = Ok tt
unless_left (token place bytes s) = Err (record { reason = TokenLeft; place = place })

-- the end of a text is due at the cursor
abbrev pub end_of : Bytes → Cursor → Result ⊤ Stop
end_of text c = unless_left (rest text c.at)

-- a text was read to its end, and the tree that was kept is written into the tables
pub record Written (text : Bytes) (header : Header) (s : State) (index : List ℕ) (values : List ℤ) (rows : List ℕ) : Type 0 where
  pub tree : Tree
  pub reads : read_of text ≡ taken tree
  pub header_is : header ≡ header_of tree
  pub index_is : index ≡ sets s.index 0 (cells certificate tree)
  pub values_is : values ≡ sets s.values 0 (by_turns (L.values certificate tree))
  pub rows_is : rows ≡ laid s.rows (marks certificate tree 0 0)

-- by cases on the answer; a refused text has the refusal of its reading
abbrev pub AnswersToEnd : Bytes → State → List ℕ → List ℤ → List ℕ → Result Header Stop → Type 0
AnswersToEnd text s index values rows (Ok header) = Written text header s index values rows
AnswersToEnd text s index values rows (Err stop) = read_of text ≡ refused (refusal_number stop.reason) stop.place

-- the answer of reading a text to its end
pub record ReadsToEnd (text : Bytes) (s : State) (index : List ℕ) (values : List ℤ) (rows : List ℕ) (r : Result Header Stop) : Type 0 where
  pub is : AnswersToEnd text s index values rows r
