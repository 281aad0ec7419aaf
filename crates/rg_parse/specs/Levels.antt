-- What stands before open parentheses.
use Rattle.std.specs.Prelude.{ℕ, ◌+◌, List, [], ◌∷◌}
use Rattle.rg_parse.specs.declared.level.Level.{Level}
use Rattle.rg_parse.specs.Views.{maybe_tree}
use Rattle.rg_grammar.specs.Machine as m

abbrev pub level : List ℕ → Level → m.Level
level text l = m.level (maybe_tree text l.either) (maybe_tree text l.both) l.nots

-- the code has the innermost last, the machine first
abbrev pub levels_onto : List ℕ → List Level → List m.Level → List m.Level
levels_onto text [] inner = inner
levels_onto text (l ∷ outer) inner = levels_onto text outer (level text l ∷ inner)

abbrev pub levels : List ℕ → List Level → List m.Level
levels text outer = levels_onto text outer []

-- how many NOT and parentheses are open
abbrev pub open_count : List Level → ℕ
open_count [] = 0
open_count (l ∷ outer) = open_count outer + l.nots + 1
