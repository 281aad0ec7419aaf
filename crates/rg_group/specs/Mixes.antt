-- What a key's place is guessed by.
use Rattle.std.specs.Prelude.{ℕ, ◌*◌, ◌/◌, ◌%◌, ◌^◌, List, length, drop, bit_xor}
use Rattle.std.specs.List.{fold}
use Rattle.rg_group.specs.Heads.{packed}

-- a number whose upper half is put over the lower one
abbrev pub folded : ℕ → ℕ
folded number = bit_xor number (number / 2 ^ 32)

-- a number times 2^64 divided by the golden ratio, folded
abbrev pub spread : ℕ → ℕ
spread number = folded (number * 0x9E3779B97F4A7C15 % 2 ^ 64)

-- a number, and behind it one more byte
abbrev pub with_byte : ℕ → ℕ → ℕ
with_byte number byte = spread (bit_xor number byte)

-- the first eight bytes as a number, each byte behind them, and how many bytes there are
abbrev pub mix : List ℕ → ℕ
mix bytes = spread (spread (bit_xor (fold with_byte (packed 8 0 bytes) (drop 8 bytes)) (length bytes)))
