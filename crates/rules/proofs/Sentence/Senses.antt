-- Senses as relations of whole numbers: what sums and factors do to them.
-- Assumes nothing.
use Rattle.std.specs.Prelude.{◌≡◌, ℕ, ◌<◌, ℤ, pos, ◌+ℤ◌, ◌*ℤ◌, ◌≤ℤ◌}
use Rattle.std.proofs.Common.{sym, ap, subst}
use Rattle.std.proofs.Math.IntN.{*ℤ_comm}
use Rattle.integers.specs.Signs.{*ℤ_cancel}
use Rattle.integers.specs.Integers.{*ℤ_mono, *ℤ_le_cancel, +ℤ_mono, ≤ℤ_of_eq}
use Rattle.grammar.specs.Tree.{Sense, equal, at_most, at_least}

abbrev pub Rel : Sense → ℤ → ℤ → Type 0
Rel equal x y = x ≡ y
Rel at_most x y = x ≤ℤ y
Rel at_least x y = y ≤ℤ x

pub rel_same : (s : Sense) {x x' y y' : ℤ} → x ≡ x' → y ≡ y' → Rel s x y → Rel s x' y'
rel_same s {x} {x'} {y} {y'} e f h = subst (λ (z : ℤ). Rel s x' z) f (subst (λ (z : ℤ). Rel s z y) e h)

pub rel_eq : (s : Sense) (x y : ℤ) → x ≡ y → Rel s x y
rel_eq equal x y e = e
rel_eq at_most x y e = ≤ℤ_of_eq x y e
rel_eq at_least x y e = ≤ℤ_of_eq y x (sym e)

pub rel_add : (s : Sense) (x y u v : ℤ) → Rel s x y → Rel s u v → Rel s (x +ℤ u) (y +ℤ v)
rel_add equal x y u v h k = cc
rel_add at_most x y u v h k = +ℤ_mono x y u v h k
rel_add at_least x y u v h k = +ℤ_mono y x v u h k

times_le : (d : ℕ) (x y : ℤ) → x ≤ℤ y → (x *ℤ pos d) ≤ℤ (y *ℤ pos d)
times_le d x y h = rel_same at_most (*ℤ_comm (pos d) x) (*ℤ_comm (pos d) y) (*ℤ_mono d x y h)

cancel_le : (d : ℕ) (x y : ℤ) → 0 < d → (x *ℤ pos d) ≤ℤ (y *ℤ pos d) → x ≤ℤ y
cancel_le d x y p h = *ℤ_le_cancel d x y p (rel_same at_most (*ℤ_comm x (pos d)) (*ℤ_comm y (pos d)) h)

pub rel_times : (s : Sense) (d : ℕ) (x y : ℤ) → Rel s x y → Rel s (x *ℤ pos d) (y *ℤ pos d)
rel_times equal d x y h = ap (λ (z : ℤ). z *ℤ pos d) h
rel_times at_most d x y h = times_le d x y h
rel_times at_least d x y h = times_le d y x h

pub rel_cancel : (s : Sense) (d : ℕ) (x y : ℤ) → 0 < d → Rel s (x *ℤ pos d) (y *ℤ pos d) → Rel s x y
rel_cancel equal d x y p h = *ℤ_cancel x y d p h
rel_cancel at_most d x y p h = cancel_le d x y p h
rel_cancel at_least d x y p h = cancel_le d y x p h
