-- The words of a line.
use Rattle.std.specs.Prelude.{ℕ, ◌==◌, List, [], ◌∷◌, if◌then◌else◌}

-- what stands behind the last space of some bytes, and this where there is none
abbrev pub last_word : List ℕ → List ℕ → List ℕ
last_word word [] = word
last_word word (byte ∷ bytes) = if byte == 32 then last_word bytes bytes else last_word word bytes
