-- Tests of names.
use Rattle.std.proofs.Common.{◌≡◌, ℕ, Bool, List, map, IsTrue, ◌↔◌, arith}
use Rattle.std.specs.Char.{to_ascii_lowercase}
use Rattle.std.specs.Str.{str_eq_ignore_ascii_case}
use Rattle.std.proofs.lemmas.Slice.Eq.{bytes_eq-Decides}

-- a test that holds where two texts are equal is `bytes_eq`
pub same_test :
    (text word : List ℕ) (test : Bool)
    → IsTrue test ↔ (map to_ascii_lowercase text ≡ map to_ascii_lowercase word)
    → test ≡ str_eq_ignore_ascii_case text word
same_test text word test is = grind (arith, bytes_eq-Decides (map to_ascii_lowercase text) (map to_ascii_lowercase word))
