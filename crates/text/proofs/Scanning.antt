-- What `next_token` finds, by the runs of bytes that it passes over.
-- Assumes nothing.
use mathlib.Core.Path.{◌≡◌, sym, ap, ◌∙◌, subst}
use Prim.Native.Nat.{ℕ, ◌+◌, ◌≤◌, ◌<◌}
use lib.ListN.{length, drop}
use Rattle.text.specs.Bytes.{Bytes, is_separator, leading}
use Rattle.text.specs.Tokens.{is_token_byte, rest, token_end}
use Rattle.text.specs.Scans.{scan_of, Found}
use Rattle.text.proofs.ScansLaws.{found_first, none_left, scan_found}
use Rattle.std.proofs.Common.{Some, None}

module _ (text : Bytes) (at : ℕ) {from : ℕ} (is : from ≡ at + leading is_separator (drop at text)) where
  pub scans_token : from < length text → {to : ℕ} → to ≡ from + leading is_token_byte (drop from text) → Some (record { from = from; to = to }) ≡ scan_of (rest text at)
  scans_token h {to} e =
      let f = found_first text at (subst (λ (n : ℕ). n < length text) is h) in
      let g : Found text at from (token_end text from) = subst (λ (n : ℕ). Found text at n (token_end text n)) (sym is) f in
      ap (λ n. Some (record { from = from; to = n })) e ∙ sym (scan_found g)

  pub scans_none : length text ≤ from → None ≡ scan_of (rest text at)
  scans_none h = ap scan_of (sym (none_left text at (subst (λ (n : ℕ). length text ≤ n) is h)))
