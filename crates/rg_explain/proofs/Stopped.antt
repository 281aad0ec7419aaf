-- A call that put nothing.
use Rattle.std.proofs.Common.{inl, List, [], ℕ, refl}
use Rattle.rg_host.specs.Puts.{StopsWith}
use Rattle.rg_explain.specs.Stops.{StopsAt}

-- no line was put
pub nothing_whole : (text : List (List ℕ)) → StopsWith text [] []
nothing_whole text = record { lines = []; more = text; of_text = refl; is = refl }

-- nothing was put
pub nothing_stops : (write : Type 0) (text : List (List ℕ)) → StopsAt write text []
nothing_stops write text = inl (nothing_whole text)
