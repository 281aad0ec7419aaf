-- Bytes taken from a source, read by read.
use Rattle.std.proofs.Common.{◌≡◌, ℕ, ◌+◌, ◌-◌, List, ◌++◌, length, take, drop, Option, Some, None, refl, sym, ◌∙◌, ap, append_assoc}
use Rattle.std.proofs.lemmas.List.{take-append-drop, take_rest, drop-drop}
use Rattle.rg_bytes.specs.Known.{before}

before-before : (x y : List ℕ) (now : Option (List ℕ)) → before x (before y now) ≡ before (x ++ y) now
before-before x y (Some told) = ap (λ v. Some v) (sym (append_assoc x y told))
before-before x y None = refl

-- one read after others
pub before_more : (first mid now : Option (List ℕ)) (x y : List ℕ) → first ≡ before x mid → mid ≡ before y now → first ≡ before (x ++ y) now
before_more first mid now x y took more = took ∙ ap (before x) more ∙ before-before x y now

-- what a read gives from a place on, and what it leaves
pub drop-read : (bytes buf : List ℕ) (at n : ℕ) → take n buf ≡ take n (take (length bytes - at) (drop at bytes)) → drop at bytes ≡ take n buf ++ drop (at + n) bytes
drop-read bytes buf at n same = rw (same, take_rest bytes at, ← drop-drop n at bytes) (sym (take-append-drop n (drop at bytes)))
