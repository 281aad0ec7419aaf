-- Bytes that an object may tell or not.
use Rattle.std.specs.Prelude.{◌≡◌, ℕ, List, [], ◌++◌, Option, Some, None, ⊤}

-- these bytes, and then the told ones
abbrev pub before : List ℕ → Option (List ℕ) → Option (List ℕ)
before bytes (Some told) = Some (bytes ++ told)
before bytes None = None

-- the told bytes, and then these
abbrev pub after : Option (List ℕ) → List ℕ → Option (List ℕ)
after (Some told) bytes = Some (told ++ bytes)
after None bytes = None

-- where the bytes to come are told, there are none
abbrev pub IsAtEnd : Option (List ℕ) → Type 0
IsAtEnd (Some told) = told ≡ []
IsAtEnd None = ⊤
