-- `divisors::with_twos` meets its contract: the lesser power of two comes back.
use Rattle.std.proofs.Common.{◌≡◌, ℕ, ◌*◌, ◌%◌, ◌^◌, ◌<◌, ap₂, ◌∙◌, arith, rules, ⊎_elim}
use Rattle.std.proofs.lemmas.Bool.{cases_lt}
use lib.Count.{count_trailing_zeros}
use Rattle.integers.specs.Binary.{Twos, twos, gcd_comm, gcd_shifted}
use Rattle.divisors.proofs.with_twos.Goals as goal

pub returns : goal.returns
returns c =
    let p = c.args.p in
    let i = count_trailing_zeros 64 p.x in
    let j = count_trailing_zeros 64 p.y in
    let fits_x : p.x < 2 ^ 64 = search rules in
    let fits_y : p.y < 2 ^ 64 = search rules in
    let twos_x : Twos 64 p.x i = twos 64 p.x c.requires.0 fits_x in
    let twos_y : Twos 64 p.y j = twos 64 p.y c.requires.1 fits_y in
    ⊎_elim
    (λ l.
    let same : c.min.result ≡ i = omega (arith, c.min.ensures) in
    ap₂ (λ (n m : ℕ). (n * 2 ^ m) % 2 ^ 64) c.requires.2 same ∙ gcd_shifted 64 p.x p.y i j fits_x fits_y twos_x twos_y (omega arith))
    (λ l.
    let same : c.min.result ≡ j = omega (arith, c.min.ensures) in
    ap₂ (λ (n m : ℕ). (n * 2 ^ m) % 2 ^ 64) (c.requires.2 ∙ gcd_comm _ _) same
    ∙ gcd_shifted 64 p.y p.x j i fits_y fits_x twos_y twos_x l
    ∙ gcd_comm p.y p.x)
    (cases_lt i j)
