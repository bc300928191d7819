-- What holds of each case holds of all: the parts of a certificate that have cases.
-- Assumes nothing.
use Rattle.std.specs.Prelude.{ℕ}
use Rattle.arithmetic.specs.declared.Fraction.{Fraction}
use Rattle.grammar.specs.Tree.{Direction, minimize, maximize, Sense, equal, at_most, at_least, TermList, Side, obj, listed, End, infinite, finite, MultiplierList, Unsplit, Reason, asm, lin, rnd, uns, sol, Last, never, index}
use Rattle.grammar.specs.Certificate.{ClaimWord, infeas_word, range_word}

pub by_direction : (P : Direction → Type 0) → P minimize → P maximize → (d : Direction) → P d
by_direction _ p q minimize = p
by_direction _ p q maximize = q

pub by_sense : (P : Sense → Type 0) → P equal → P at_most → P at_least → (s : Sense) → P s
by_sense _ p q r equal = p
by_sense _ p q r at_most = q
by_sense _ p q r at_least = r

pub by_side : (P : Side → Type 0) → P obj → ((t : TermList) → P (listed t)) → (s : Side) → P s
by_side _ p q obj = p
by_side _ p q (listed t) = q t

pub by_reason : (P : Reason → Type 0) → P asm → ((m : MultiplierList) → P (lin m)) → ((m : MultiplierList) → P (rnd m)) → ((u : Unsplit) → P (uns u)) → P sol → (r : Reason) → P r
by_reason _ a l r u s asm = a
by_reason _ a l r u s (lin m) = l m
by_reason _ a l r u s (rnd m) = r m
by_reason _ a l r u s (uns x) = u x
by_reason _ a l r u s sol = s

pub by_last : (P : Last → Type 0) → P never → ((i : ℕ) → P (index i)) → (l : Last) → P l
by_last _ p q never = p
by_last _ p q (index i) = q i

pub by_end : (P : End → Type 0) → P infinite → ((f : Fraction) → P (finite f)) → (e : End) → P e
by_end _ p q infinite = p
by_end _ p q (finite f) = q f

pub by_claim_word : (P : ClaimWord → Type 0) → P infeas_word → P range_word → (w : ClaimWord) → P w
by_claim_word _ p q infeas_word = p
by_claim_word _ p q range_word = q
