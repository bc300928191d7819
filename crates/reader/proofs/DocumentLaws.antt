-- What the proof of a document cites: its sections one after another, and the header that they make.
-- Assumes nothing.
use mathlib.Core.Path.{◌≡◌, refl, sym, ap, ◌∙◌, subst}
use mathlib.Core.List.{List}
use Rattle.std.specs.Prelude.{Ok}
use Prim.Native.Nat.{ℕ, suc, ◌+◌, ◌*◌, ◌≤◌}
use native.Mathlib.Nat.{zero-add}
use native.Mathlib.Omega.{arith}
use lib.IntN.{ℤ}
use lib.ListN.{length}
use lib.Seq.{slice}
use Rattle.text.specs.Bytes.{Bytes}
use Rattle.text.specs.Tokens.{rest}
use Rattle.tables.specs.Limits.{most_variables, most_rows}
use Rattle.tables.specs.declared.Header.{Header}
use Rattle.grammar.specs.Tree.{Tree, Variables, Integers, Objective, Constraints, Relation, Solutions, Derivations}
use Rattle.grammar.specs.Format.{Format, then}
use Rattle.grammar.specs.Certificate.{row_names, version, variables, integers, objective_section, constraints, certificate}
use Rattle.grammar.specs.Header.{header_of}
use Rattle.grammar.specs.Layout.{gather, cells, values, marks}
use Rattle.grammar.specs.Contents.{integers_cells, objective_cells, constraints_cells, term_values, constraints_values}
use Rattle.grammar.proofs.Contents.{variables_lay, integers_lay, objective_lay, constraints_lay}
use Rattle.grammar.proofs.Agreement.{sound}
use Rattle.symbol_reader.specs.Steps.{State, Went, Answer, any}
use Rattle.symbol_reader.specs.Follows.{Always, Follows, below}
use Rattle.symbol_reader.specs.Leaves.{names_in}
use Rattle.symbol_reader.specs.Marks.{Fingerprinted}
use Rattle.symbol_reader.specs.declared.Cursor.{Cursor}
use Rattle.symbol_reader.specs.declared.Next.{Next}
use Rattle.symbol_reader.proofs.FollowsLaws.{view_follows}
use Rattle.symbol_reader.proofs.NamesLaws.{marked-laid}
use Rattle.row_reader.proofs.RowNames.{rows-marked}
use Rattle.section_reader.specs.Sections.{SaysObjective}
use Rattle.section_reader.specs.declared.problem.Objective.{Objective as ObjectiveRead}
use Rattle.section_reader.proofs.SectionLaws.{Known, then_known}
use Rattle.reader.specs.Documents.{start_of, proof_part, SaysProof}
use Rattle.reader.specs.declared.documents.Proof.{Proof}

-- after the given rows are read, the row table has their names: m is their number, for what was read is spelled
constraints-names : (n : ℕ) {k : Constraints} {text : Bytes} {s t : State} → Went (constraints n) k text s t → 4 * most_rows ≤ length s.rows
    → names_in text (slice 0 (4 * k.count) t.rows) ≡ row_names k.rows
unfolding marks gather
constraints-names n {k} {text} {s} {t} w fits =
    let spelled = (sound (constraints n) (rest text s.cursor.at) k (rest text t.cursor.at) w.reads).2 in
    let counted : length k.rows ≡ k.count = spelled.second.second.second.counted in
    ap (λ (m : ℕ). names_in text (slice 0 (4 * m) t.rows)) (sym counted ∙ sym (zero-add (length k.rows)))
    ∙ ap (λ (table : List ℕ). names_in text (slice 0 (4 * (0 + length k.rows)) table)) w.rows_is
    ∙ marked-laid (rows-marked n) k.count k.rows _ _ text s.rows w.named (omega (arith, spelled.second.first.spelled.in_range, fits, counted))

version_takes : (u : Unit {0}) → (length (cells version u) ≡ 0) × (length (values version u) ≡ 0)
unfolding gather
version_takes u = (refl, refl)

-- the header that the code makes: of n, of the answers to INT, OBJ and CON, of m and of the proof's answers
abbrev header_by : ℕ → ℕ → ObjectiveRead → ℕ → Proof → ℕ → ℕ → Header
header_by n listed o m p claim ends =
    record { variables = n; integers = listed; maximize = o.maximize; objective = o.terms; given = m; rows = p.rows; solutions = p.solutions; claim = claim; ends = ends; relation = p.relation; derivation = p.derivation }

-- the grammar after the variables
abbrev pub Rest : ℕ → Format ((i : Integers) × ((o : Objective) × ((k : Constraints) × ((l : Relation) × ((z : Solutions) × Derivations)))))
Rest n = then (integers n) (λ i. then (objective_section n) (λ o. then (constraints n) (λ k. proof_part n k)))

-- a certificate begins at its start
pub from_start : {f : Format Tree} {tells : Tree → ℕ → Type 0} {text : Bytes} {c : Cursor} {ix : List ℕ} {vs : List ℤ} {rs : List ℕ} {ix' : List ℕ} {vs' : List ℤ} {rs' : List ℕ} {z : Answer}
    → c ≡ start_of text → Follows Always f tells text c ix vs rs ix' vs' rs' z → Follows Always f tells text (start_of text) ix vs rs ix' vs' rs' z
from_start {f} {tells} {text} {ix = ix} {vs} {rs} {ix'} {vs'} {rs'} {z} e h = subst (λ (c : Cursor). Follows Always f tells text c ix vs rs ix' vs' rs' z) e h

module _ {text : Bytes} {c : Cursor} {ix₀ : List ℕ} {vs₀ : List ℤ} {rs₀ : List ℕ} {x₁ : Next} {ix₁ : List ℕ} {vs₁ : List ℤ} {rs₁ : List ℕ} {x₂ : Next} {ix₂ : List ℕ} {vs₂ : List ℤ} {rs₂ : List ℕ} (start : c ≡ start_of text) where
  -- the sections after the variables, of which there are as many as their number says
  pub after_variables : {r₁ r₂ : Answer} → Follows Always version any text c ix₀ vs₀ rs₀ ix₁ vs₁ rs₁ r₁ → r₁ ≡ Ok x₁ → Follows Always variables (λ (v : Variables). below (suc most_variables) v.count) text x₁.cursor ix₁ vs₁ rs₁ ix₂ vs₂ rs₂ r₂ → r₂ ≡ Ok x₂
      → {tells : Tree → ℕ → Type 0} {ix : List ℕ} {vs : List ℤ} {rs : List ℕ} {z : Answer}
      → ((u : Unit {0}) (v : Variables) → Known Always version any text c ix₀ vs₀ rs₀ ix₁ vs₁ rs₁ x₁ u → Known Always variables (λ (v : Variables). below (suc most_variables) v.count) text x₁.cursor ix₁ vs₁ rs₁ ix₂ vs₂ rs₂ x₂ v → x₂.number ≤ most_variables
      → Follows Always (Rest x₂.number) (λ y. tells (record { variables = v; integers = y.0; objective = y.1.0; constraints = y.1.1.0; relation = y.1.1.1.0; solutions = y.1.1.1.1.0; derivations = y.1.1.1.1.1 })) text x₂.cursor ix₂ vs₂ rs₂ ix vs rs z)
      → Follows Always certificate tells text (start_of text) ix₀ vs₀ rs₀ ix vs rs z
  after_variables h₁ was₁ h₂ was₂ {tells} {ix} {vs} {rs} {z} k =
      from_start start
      (view_follows (λ y i t. t)
      (then_known h₁ was₁
      (λ u k₁. then_known h₂ was₂
      (λ v k₂. subst (λ (n : ℕ). Follows Always (Rest n) (λ y. tells (record { variables = v; integers = y.0; objective = y.1.0; constraints = y.1.1.0; relation = y.1.1.1.0; solutions = y.1.1.1.1.0; derivations = y.1.1.1.1.1 })) text x₂.cursor ix₂ vs₂ rs₂ ix vs rs z) (sym k₂.says.0)
      (k u v k₁ k₂ (omega (arith, k₂.says.1)))))))

  module _ {x₃ : Next} {ix₃ : List ℕ} {vs₃ : List ℤ} {rs₃ : List ℕ} {o : ObjectiveRead} {ix₄ : List ℕ} {vs₄ : List ℤ} {rs₄ : List ℕ} {x₅ : Next} {ix₅ : List ℕ} {vs₅ : List ℤ} {rs₅ : List ℕ} {prints : List ℕ} {u : Unit {0}} {v : Variables} {i : Integers} {b : Objective} {k : Constraints}
      (k₁ : Known Always version any text c ix₀ vs₀ rs₀ ix₁ vs₁ rs₁ x₁ u) (k₂ : Known Always variables (λ (v : Variables). below (suc most_variables) v.count) text x₁.cursor ix₁ vs₁ rs₁ ix₂ vs₂ rs₂ x₂ v)
      (k₃ : Known Always (integers x₂.number) (λ (i : Integers). below (suc x₂.number) i.count) text x₂.cursor ix₂ vs₂ rs₂ ix₃ vs₃ rs₃ x₃ i) (k₄ : Known Always (objective_section x₂.number) (λ b j. SaysObjective x₃.cursor b o) text x₃.cursor ix₃ vs₃ rs₃ ix₄ vs₄ rs₄ (record { number = 0; cursor = o.cursor }) b)
      (k₅ : Known Always (constraints x₂.number) (λ (k : Constraints) j. below (suc most_rows) k.count j × Fingerprinted (row_names k.rows) prints) text o.cursor ix₄ vs₄ rs₄ ix₅ vs₅ rs₅ x₅ k) where
    -- the names of the given rows, which the sections of the proof ask for
    pub names_known : names_in text (slice 0 (4 * x₅.number) rs₅) ≡ row_names k.rows
    names_known = ap (λ (j : ℕ). names_in text (slice 0 (4 * j) rs₅)) (sym k₅.says.0.0) ∙ constraints-names x₂.number k₅.went (omega (arith, k₅.room.of_rows.rows_long))

    -- where the objective stands, and the claim
    objective-cell : x₃.cursor.cells ≡ 1 + length (integers_cells i)
    objective-cell =
        omega (arith, ap (λ (d : Cursor). d.cells) start, k₁.went.cells_at, k₂.went.cells_at, k₃.went.cells_at, (version_takes u).0, ap length (variables_lay.cells_are v), ap length ((integers_lay x₂.number).cells_are i))

    objective-number : x₃.cursor.values ≡ 0
    objective-number =
        omega (arith, ap (λ (d : Cursor). d.values) start, k₁.went.values-at, k₂.went.values-at, k₃.went.values-at, (version_takes u).1, ap length (variables_lay.values_are v), ap length ((integers_lay x₂.number).values_are i))

    claim-cell : x₅.cursor.cells ≡ 1 + length (integers_cells i) + length (objective_cells b) + length (constraints_cells k)
    claim-cell = omega (arith, objective-cell, k₄.went.cells_at, k₅.went.cells_at, ap length ((objective_lay x₂.number).cells_are b), ap length ((constraints_lay x₂.number).cells_are k))

    claim-number : x₅.cursor.values ≡ length (term_values b.terms) + length (constraints_values k)
    claim-number = omega (arith, objective-number, k₄.went.values-at, k₅.went.values-at, ap length ((objective_lay x₂.number).values_are b), ap length ((constraints_lay x₂.number).values_are k))

    -- the header is that of the tree
    pub headed : {l : Relation} {z : Solutions} {d : Derivations} {p : Proof} → SaysProof k (l, (z, d)) p
        → header_by x₂.number x₃.number o x₅.number p x₅.cursor.cells x₅.cursor.values ≡ header_of (record { variables = v; integers = i; objective = b; constraints = k; relation = l; solutions = z; derivations = d })
    headed t =
        let terms = k₄.says.terms ∙ (λ j. record { cell = objective-cell j + 2; number = objective-number j; count = b.terms.count }) in
        λ j. record { variables = sym k₂.says.0 j; integers = sym k₃.says.0 j; maximize = k₄.says.direction j; objective = terms j; given = sym k₅.says.0.0 j; rows = t.rows j; solutions = t.solutions j; claim = claim-cell j; ends = claim-number j; relation = t.relation j; derivation = t.derivation j }
