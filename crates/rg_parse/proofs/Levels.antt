-- The levels of the code and of the machine.
use Rattle.std.proofs.Common.{◌≡◌, ℕ, ◌+◌, ◌<◌, ◌≤◌, List, [], ◌∷◌, ◌++◌, refl, ap, arith}
use Rattle.std.proofs.lemmas.Bool.{lt-ltb, le-ltb}
use Rattle.rg_grammar.specs.Machine as m
use Rattle.rg_grammar.specs.Machine.{open_levels, deeper, goes, too_deep}
use Rattle.rg_parse.specs.declared.level.Level.{Level}
use Rattle.rg_parse.specs.Levels.{level, levels, levels_onto, open_count}

pub levels_push : (text : List ℕ) (outer : List Level) (l : Level) (inner : List m.Level) → levels_onto text (outer ++ l ∷ []) inner ≡ level text l ∷ levels_onto text outer inner
levels_push text [] l inner = refl
levels_push text (first ∷ outer) l inner = levels_push text outer l (level text first ∷ inner)

pub count_push : (outer : List Level) (l : Level) → open_count (outer ++ l ∷ []) ≡ open_count outer + l.nots + 1
count_push [] l = refl
count_push (first ∷ outer) l = omega (arith, count_push outer l)

count_onto : (text : List ℕ) (outer : List Level) (inner : List m.Level) → open_levels (levels_onto text outer inner) ≡ open_count outer + open_levels inner
count_onto text [] inner = omega arith
count_onto text (l ∷ outer) inner = omega (arith, count_onto text outer (level text l ∷ inner))

pub count_levels : (text : List ℕ) (outer : List Level) → open_levels (levels text outer) ≡ open_count outer
count_levels text outer = omega (arith, count_onto text outer [])

pub no_deeper : (text : List ℕ) (outer : List Level) (n depth : ℕ) (s : m.State) → depth ≡ open_count outer + n → 32 ≤ depth → deeper 32 (open_levels (levels text outer) + n) s ≡ too_deep
no_deeper text outer n depth s e h = let k : 32 ≤ open_levels (levels text outer) + n = omega (arith, count_levels text outer) in rw (le-ltb (open_levels (levels text outer) + n) 32 k) refl

pub one_deeper : (text : List ℕ) (outer : List Level) (n depth : ℕ) (s t : m.State) → depth ≡ open_count outer + n → depth < 32 → s ≡ t → deeper 32 (open_levels (levels text outer) + n) s ≡ goes t
one_deeper text outer n depth s t e h q = let k : open_levels (levels text outer) + n < 32 = omega (arith, count_levels text outer) in rw (lt-ltb (open_levels (levels text outer) + n) 32 k) (ap goes q)
