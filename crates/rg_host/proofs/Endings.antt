-- Lines that LF ends.
use Rattle.std.specs.Prelude.{◌≡◌, ℕ, List, [], ◌∷◌, ◌++◌, refl}
use Rattle.std.proofs.Common.{ap, sym, ◌∙◌, append_assoc}
use Rattle.rg_host.specs.Lines.{ended}

pub ended-append : (a b : List (List ℕ)) → ended (a ++ b) ≡ ended a ++ ended b
ended-append [] b = refl
ended-append (line ∷ a) b = ap (λ (l : List ℕ). line ++ 10 ∷ l) (ended-append a b) ∙ sym (append_assoc line (10 ∷ ended a) (ended b))
