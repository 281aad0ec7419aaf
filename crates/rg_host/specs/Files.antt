-- The files that a host in memory has: the bytes of each, by its number below 8.
use Rattle.std.specs.Prelude.{ℕ, zero, suc, ◌-◌, List, [], ◌∷◌, ◌++◌, length, map, replicate, Vec}
use Rattle.std.specs.declared.alloc.Global.{Global}
use Rattle.rg_host.specs.Image.{Image}

-- these files, and up to the eighth such as have no bytes
abbrev pub eight : List (List ℕ) → List (List ℕ)
eight files = files ++ replicate (8 - length files) []

-- the files that these buffers hold
abbrev pub files_of : List (Vec ℕ Global) → List (List ℕ)
files_of buffers = eight (map (λ buffer. buffer.items) buffers)

-- the image of these files: the bytes of each by its number; a missing one has none
abbrev pub image_of : List (List ℕ) → Image
image_of [] file = []
image_of (bytes ∷ files) zero = bytes
image_of (bytes ∷ files) (suc file) = image_of files file

-- the image that these buffers hold
abbrev pub bytes_at : List (Vec ℕ Global) → Image
bytes_at [] file = []
bytes_at (buffer ∷ buffers) zero = buffer.items
bytes_at (buffer ∷ buffers) (suc file) = bytes_at buffers file
