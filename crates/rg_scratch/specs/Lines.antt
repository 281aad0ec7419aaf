-- The lines that are made from a seed.
use Rattle.std.specs.Prelude.{ℕ, ◌+◌, ◌*◌, ◌/◌, ◌%◌, ◌^◌, List, ◌++◌, codes, decimal}

-- the number that line i of a seed is made from
abbrev pub drawn : ℕ → ℕ → ℕ
drawn seed i = ((seed + 1) * 6364136223846793005 + i * 1442695040888963407) % 2 ^ 64 / 65536

-- `T,cA,mB,C`: the line i that is made from this number
abbrev pub line_from : ℕ → ℕ → List ℕ
line_from number i =
    decimal (1000 * i + number % 1000)
    ++ (codes ",c" ++ (decimal (number / 1000 % 40)
    ++ (codes ",m" ++ (decimal (number / 40000 % 97)
    ++ (codes "," ++ decimal (number / 3880000 % 10000))))))

abbrev pub made_line : ℕ → ℕ → List ℕ
made_line seed i = line_from (drawn seed i) i
