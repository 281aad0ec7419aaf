use Rattle.std.proofs.Common.{◌<◌, ◌+◌, ℕ, List, All, length, take, get_or, refl, sym, subst}
use Rattle.std.proofs.lemmas.List.{take_all, take_more}
use Rattle.std.proofs.lemmas.List.Elements.{All-push}
use Rattle.rg_past.specs.Listed.{Spells}
use Rattle.rg_past.specs.declared.past.Spot.{Spot}
use Rattle.rg_restore.proofs.vec_names.are_spelled.Goals as goal

all_more : (P : Spot → Type 0) (xs : List Spot) (i : ℕ) (d : Spot) → i < length xs → All P (take i xs) → P (get_or xs i d) → All P (take (i + 1) xs)
all_more P xs i d h all is = subst (All P) (sym (take_more xs i d h)) (All-push P (take i xs) (get_or xs i d) all is)

pub spots-preserved : goal.spots-preserved
spots-preserved c = all_more (Spells c.args.past.now) c.args.spots.now c.spots.spot-index _ c.spots-test.true c.spots.invariant (c.is_spelled.ensures.0 c.if-not-is_spelled.false)

pub returns : goal.returns
returns c = (λ _. subst (All (Spells c.args.past.now)) (take_all c.spots.spot-index c.args.spots.now c.spots-test.false) c.spots.invariant, λ _. refl)
