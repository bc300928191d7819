-- The words of the format, byte for byte (document 01, "Spelling"): "Keywords are compared byte for byte, case included."
-- Assumes nothing.
use Rattle.text.specs.Bytes.{Bytes}
use Rattle.text.specs.Ascii.{ascii}

abbrev pub VER : Bytes
VER = ascii "VER"

abbrev pub version : Bytes
version = ascii "1.0"

abbrev pub VAR : Bytes
VAR = ascii "VAR"

abbrev pub INT : Bytes
INT = ascii "INT"

abbrev pub OBJ : Bytes
OBJ = ascii "OBJ"

abbrev pub CON : Bytes
CON = ascii "CON"

abbrev pub RTP : Bytes
RTP = ascii "RTP"

abbrev pub SOL : Bytes
SOL = ascii "SOL"

abbrev pub DER : Bytes
DER = ascii "DER"

abbrev pub open_brace : Bytes
open_brace = ascii "{"

abbrev pub close_brace : Bytes
close_brace = ascii "}"

abbrev pub min : Bytes
min = ascii "min"

abbrev pub max : Bytes
max = ascii "max"

abbrev pub E : Bytes
E = ascii "E"

abbrev pub L : Bytes
L = ascii "L"

abbrev pub G : Bytes
G = ascii "G"

abbrev pub infeas : Bytes
infeas = ascii "infeas"

abbrev pub range : Bytes
range = ascii "range"

abbrev pub minus_inf : Bytes
minus_inf = ascii "-inf"

abbrev pub inf : Bytes
inf = ascii "inf"

abbrev pub minus_one : Bytes
minus_one = ascii "-1"

abbrev pub asm : Bytes
asm = ascii "asm"

abbrev pub lin : Bytes
lin = ascii "lin"

abbrev pub rnd : Bytes
rnd = ascii "rnd"

abbrev pub uns : Bytes
uns = ascii "uns"

abbrev pub sol : Bytes
sol = ascii "sol"
