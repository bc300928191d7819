-- The text of a row of cells, one cell more at a time.
use Rattle.std.proofs.Common.{◌≡◌, ◌∙◌, sym, ap, refl, ℕ, ◌+◌, ◌<◌, List, [], ◌∷◌, ◌++◌, length, take, get_or, codes, Option, Some, None, Ok, IsOk, IfSome, rules, append_assoc, append-nil}
use Rattle.std.proofs.lemmas.List.{take_more}
use Rattle.std.proofs.Output.{has_written_append}
use Rattle.std.specs.Fmt.{HasWritten, DisplaysOnOk, ◌++?◌}
use Rattle.std.specs.declared.fmt.Error.{Error}
use Rattle.std.specs.declared.fmt.Formatter.{Formatter}
use Rattle.case_texts.specs.Cells.{cells_text}

appended-assoc : (a b c : Option (List ℕ)) → (a ++? b) ++? c ≡ a ++? (b ++? c)
appended-assoc None b c = refl
appended-assoc (Some a) None c = refl
appended-assoc (Some a) (Some b) None = refl
appended-assoc (Some a) (Some b) (Some c) = ap (λ (l : List ℕ). Some l) (append_assoc a b c)

one_cell : (o : Option (List ℕ)) → Some (codes " ") ++? (o ++? Some []) ≡ Some [] ++? (Some (codes " ") ++? o)
one_cell None = refl
one_cell (Some a) = ap (λ (l : List ℕ). Some (codes " " ++ l)) (append-nil a)

cells_snoc : {T : Type 0} (text : T → Option (List ℕ)) (xs : List T) (x : T)
    → cells_text text (xs ++ (x ∷ [])) ≡ cells_text text xs ++? (Some (codes " ") ++? text x)
cells_snoc text [] x = one_cell (text x)
cells_snoc text (y ∷ ys) x =
    let last = Some (codes " ") ++? text x in
    ap (λ (o : Option (List ℕ)). Some (codes " ") ++? (text y ++? o)) (cells_snoc text ys x)
    ∙ ap (λ (o : Option (List ℕ)). Some (codes " ") ++? o) (sym (appended-assoc (text y) (cells_text text ys) last))
    ∙ sym (appended-assoc (Some (codes " ")) (text y ++? cells_text text ys) last)

pub cells_more : {T : Type 0} (text : T → Option (List ℕ)) (xs : List T) (i : ℕ) (x : T) → i < length xs → x ≡ get_or xs i x
    → cells_text text (take (i + 1) xs) ≡ cells_text text (take i xs) ++? (Some (codes " ") ++? text x)
cells_more {T} text xs i x below there =
    ap (cells_text text) (take_more xs i x below ∙ ap (λ (y : T). take i xs ++ (y ∷ [])) (sym there))
    ∙ cells_snoc text (take i xs) x

-- What was written so far, and then one write that succeeded.
pub written_more : {W : Type 0} (took : W → List ℕ → W → Type 0) (f g h : Formatter W) (a b : Option (List ℕ)) (u : Unit {0})
    → IfSome a (λ bs. HasWritten took f bs g) → DisplaysOnOk took g (Ok u) b h → IfSome (a ++? b) (λ bs. HasWritten took f bs h)
written_more took f g h None b u p q = tt
written_more took f g h (Some a) None u p q = tt
written_more took f g h (Some a) (Some b) u p q =
    let ok : IsOk {E = Error} (Ok u) = search rules in
    has_written_append took f a g b h p (q p.plain ok)
