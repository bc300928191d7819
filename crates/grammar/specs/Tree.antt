-- A certificate as a tree: what is kept of a text that is read. The rules of checking are stated on it; how it is spelled is
-- said in Certificate.antt. Words in quotes are document 01's.
-- Counts are kept beside their lists, since the text has both; in a tree that is spelled each count is its list's length
-- (Ranges.antt).
-- Assumes nothing.
use Rattle.std.specs.Prelude.{List, ℕ}
use Rattle.text.specs.Tokens.{Token}
use Rattle.arithmetic.specs.declared.Fraction.{Fraction}

-- "`VAR` n, n names"
pub record Variables : Type 0 where
  pub count : ℕ
  pub names : List Token

-- "`INT`, a count, that many variable indices"
pub record Integers : Type 0 where
  pub count : ℕ
  pub indices : List ℕ

-- "A term list is a count and that many pairs of variable index and value"
pub record Term : Type 0 where
  pub variable : ℕ
  pub coefficient : Fraction

pub record TermList : Type 0 where
  pub count : ℕ
  pub terms : List Term

-- "`OBJ`, `min` or `max`, a term list"
pub data Direction : Type 0 where
  minimize : Direction
  maximize : Direction

pub record Objective : Type 0 where
  pub direction : Direction
  pub terms : TermList

-- "A row is a name, a sense, a value, then a term list or `OBJ`": `E`, `L` or `G`
pub data Sense : Type 0 where
  equal : Sense
  at_most : Sense
  at_least : Sense

pub data Side : Type 0 where
  obj : Side
  listed : TermList → Side

pub record Row : Type 0 where
  pub name : Token
  pub sense : Sense
  pub right : Fraction
  pub side : Side

-- "`CON` m b, m rows"
pub record Constraints : Type 0 where
  pub count : ℕ
  pub bounds : ℕ
  pub rows : List Row

-- "`RTP`, then `infeas`, or `range` and two ends", with the place of the word `RTP`, which 10 names by its line
pub data End : Type 0 where
  infinite : End
  finite : Fraction → End

pub data Claim : Type 0 where
  infeas : Claim
  range : End → End → Claim

pub record Relation : Type 0 where
  pub place : ℕ
  pub claim : Claim

-- "`SOL` s, then s times a name and a term list"
pub record Solution : Type 0 where
  pub name : Token
  pub values : TermList

pub record Solutions : Type 0 where
  pub count : ℕ
  pub solutions : List Solution

-- "A reason is `asm`, `sol`, `uns` with i1 l1 i2 l2, or `lin` or `rnd` with a count and that many pairs of row index and
-- value"
pub record Multiplier : Type 0 where
  pub row : ℕ
  pub factor : Fraction

pub record MultiplierList : Type 0 where
  pub count : ℕ
  pub multipliers : List Multiplier

pub record Unsplit : Type 0 where
  pub i1 : ℕ
  pub l1 : ℕ
  pub i2 : ℕ
  pub l2 : ℕ

pub data Reason : Type 0 where
  asm : Reason
  lin : MultiplierList → Reason
  rnd : MultiplierList → Reason
  uns : Unsplit → Reason
  sol : Reason

-- "`DER` d, then d times a row, `{`, a reason, `}`, a last index", `-1` for none, with the place of the word `DER`, which 17
-- names by its line where d is 0
pub data Last : Type 0 where
  never : Last
  index : ℕ → Last

pub record Derivation : Type 0 where
  pub row : Row
  pub reason : Reason
  pub last : Last

pub record Derivations : Type 0 where
  pub place : ℕ
  pub count : ℕ
  pub derivations : List Derivation

pub record Tree : Type 0 where
  pub variables : Variables
  pub integers : Integers
  pub objective : Objective
  pub constraints : Constraints
  pub relation : Relation
  pub solutions : Solutions
  pub derivations : Derivations
