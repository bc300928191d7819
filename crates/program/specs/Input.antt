-- Reading standard input, read by read: where reading stops. What a read puts into the text, the contracts say where the bytes that the
-- reader has are known.
-- Assumes nothing.
use Rattle.std.specs.Prelude.{ℕ, zero, suc, ◌≤◌, ◌≡◌, Option, None, Some}

-- where reading stops, by how many bytes came with the last read: at the end of the input, where the room is full, or where a read
-- fails. It does not stop where fewer bytes came than have room
abbrev pub Stopped : ℕ → ℕ → Option ℕ → Type 0
Stopped room came (Some zero) = came ≤ room
Stopped room came (Some (suc more)) = came ≡ room
Stopped room came None = came ≤ room
