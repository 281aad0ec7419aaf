-- One NOT more.
use Rattle.std.proofs.Common.{◌≡◌, ℕ, suc, ◌+◌, ◌-◌, ◌<◌, refl, arith}
use Rattle.rg_grammar.specs.Grammar.{Tree, not_of}
use Rattle.rg_grammar.specs.Machine.{nots}

pub nots_next : (n k : ℕ) (t : Tree) → k < n → nots (n - (k + 1)) (not_of t) ≡ nots (n - k) t
nots_next n k t h = let e : n - k ≡ suc (n - (k + 1)) = omega arith in rw e refl

pub nots_none : (n k : ℕ) (t : Tree) → k ≡ n → nots (n - k) t ≡ t
nots_none n k t h = let e : n - k ≡ 0 = omega arith in rw e refl
