-- How many bytes the numbers of a column take, and how one of them is written and read.
use Rattle.std.specs.Prelude.{ℕ, nat_le, ◌==◌, Bool, List, Option, Some, None, Result, if◌then◌else◌}
use Rattle.std.specs.Global.{Vec}
use Rattle.std.specs.Int.{Width as Bits, w8, w16, w32, w64, to_be_bytes}
use Rattle.rg_bytes.specs.Reading.{Reading as ReadingWith, Agrees as AgreesWith, number_at}
use Rattle.rg_column.specs.declared.fault.ColumnFault.{ColumnFault}
use Rattle.rg_column.specs.declared.fault.ColumnFault.TheVariants.{Short, Memory}
use Rattle.rg_column.specs.declared.width.Width.{Width}
use Rattle.rg_column.specs.declared.width.Width.TheVariants.{One, Two, Four, Eight}

-- what some bytes begin with, and the bytes behind it; or why they begin with none
abbrev pub Reading : Type 0 → Type 0
Reading A = ReadingWith ColumnFault A

-- what is answered, and what is left, are those of the reading; or memory ran out
abbrev pub Agrees : {A : Type 0} → Reading A → Result A ColumnFault → List ℕ → Type 0
Agrees reading result left = AgreesWith Memory (λ value. value) reading result left

-- a list that is built, and what is left, are those of the reading; or memory ran out
abbrev pub AgreesList : {A : Type 0} → Reading (List A) → Result (Vec A) ColumnFault → List ℕ → Type 0
AgreesList {A} reading result left = AgreesWith Memory (λ (list : Vec A). list.items) reading result left

-- so many bits
abbrev pub bits : Width → Bits
bits One = w8
bits Two = w16
bits Four = w32
bits Eight = w64

-- the numbers of this width are below this one
abbrev pub limit : Width → ℕ
limit One = 256
limit Two = 65536
limit Four = 4294967296
limit Eight = 18446744073709551616

-- the least width that holds this number
abbrev pub least_width : ℕ → Width
least_width number =
    if nat_le number 255 then One
    else if nat_le number 65535 then Two
    else if nat_le number 4294967295 then Four
    else Eight

-- how many bytes a width is
abbrev pub width_byte : Width → ℕ
width_byte One = 1
width_byte Two = 2
width_byte Four = 4
width_byte Eight = 8

-- the width of so many bytes, if there is one
abbrev pub width_said : ℕ → Option Width
width_said byte =
    if byte == 1 then Some One
    else if byte == 2 then Some Two
    else if byte == 4 then Some Four
    else if byte == 8 then Some Eight
    else None

-- a number of this width, the highest byte first
abbrev pub difference_bytes : Width → ℕ → List ℕ
difference_bytes width number = to_be_bytes (bits width) number

-- a number of this width
unfoldable pub difference_at : Width → List ℕ → Reading ℕ
difference_at width bytes = number_at (bits width) Short bytes
