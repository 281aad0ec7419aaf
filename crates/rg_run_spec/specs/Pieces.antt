-- The lines of what was put.
use Rattle.std.specs.Prelude.{ℕ, ◌-◌, ◌==◌, List, [], ◌∷◌, length, take, ⊤}
use Rattle.std.specs.List.{slice_split}
use Rattle.rg_host.specs.Lines.{HasNoLf}

-- the pieces of some bytes that LF ends: a last piece without LF isn't one
abbrev pub whole_pieces : List ℕ → List (List ℕ)
whole_pieces bytes = take (length (slice_split (λ byte. byte == 10) bytes) - 1) (slice_split (λ byte. byte == 10) bytes)

-- no line holds an LF
abbrev pub AreLines : List (List ℕ) → Type 0
AreLines [] = ⊤
AreLines (line ∷ lines) = HasNoLf line × AreLines lines
