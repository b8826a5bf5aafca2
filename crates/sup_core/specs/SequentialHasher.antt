-- A hash of numbers under which neighbours lie close together. A hasher has to name what it answers; only speed rests on it.
use Rattle.std.specs.Prelude.{ℕ, ◌*◌, ◌/◌, ◌%◌, ◌^◌, List, length, nat_eq, if◌then◌else◌, bit_and, bit_or}
use Rattle.std.specs.Int.{from_le_bytes, w64}
use Rattle.sup_core.specs.declared.sequential.SequentialHasher.{SequentialHasher}

abbrev pub sequential_hash : ℕ → ℕ
sequential_hash number =
    let tag = (number * 0x9e37_79b9_7f4a_7c15) % 2 ^ 64 / 2 ^ 56 in
    bit_or ((tag * 2 ^ 24) % 2 ^ 64) (bit_and (number / 2 ^ 2) 0xff_ffff)

-- the hasher once it has read these bytes
abbrev pub sequential_write : SequentialHasher → List ℕ → SequentialHasher
sequential_write sequential bytes = record { number = if nat_eq (length bytes) 8 then from_le_bytes w64 bytes else sequential.number }
