-- What a line asks for, told by its first byte.
use Rattle.std.proofs.Common.{◌≡◌, ◌≢◌, ℕ, ◌==◌, Bool, true, false, List, [], ◌∷◌, Option, Some, None, slice_get, refl, ap}
use Rattle.std.proofs.lemmas.Bool.{eqb-true}
use Rattle.rg_run_spec.specs.Verdicts.{control_of}

begun_else : (byte : ℕ) (rest : List ℕ) → (byte == 33) ≡ false → None ≡ control_of (byte ∷ rest)
begun_else byte rest h = rw h refl

-- a line that doesn't begin with ! asks for nothing
pub not_begun : (line : List ℕ) → slice_get line 0 ≢ Some 33 → None ≡ control_of line
not_begun [] h = refl
not_begun (byte ∷ rest) h = by (byte == 33) refl
  where
    by : (b : Bool) → (byte == 33) ≡ b → None ≡ control_of (byte ∷ rest)
    by false e = begun_else byte rest e
    by true e = absurd (h (ap (λ (n : ℕ). Some n) (eqb-true byte 33 e)))
